-- AGREEMENT: two registers are the same near a clearance, on a set of sections. Nothing is asked of
-- any other row.
use Rattle.std.specs.Prelude.{◌≡◌, ℕ, Bool, List, Some}
use Rattle.clr_rules.specs.Prelude.{Grid, Id, Register, greatest_number, holds_of}
use Rattle.clr_rules.specs.Near.{Extent, part, touches_fence}

-- what is near a clearance: the staff; the clearance's record and steps; the rows of the
-- sections inside; the rows, positions and hands of all points with an end inside; all holds at
-- these sections and points; the clearance's crews
abbrev pub extent_near : Grid → Id → (List ℕ → Bool) → Extent
extent_near g c inside =
    record {
      sections = inside;
      holds_at = inside;
      points = touches_fence g inside;
      clearance = Some c;
    }

abbrev pub part_near : Register → Id → (List ℕ → Bool) → Register
part_near R c inside = part R (extent_near R.net c inside)

pub record Agree (c : Id) (inside : List ℕ → Bool) (R S : Register) : Type 0 where
  pub near : part_near R c inside ≡ part_near S c inside
  -- all holds of the clearance, also those elsewhere
  pub own_holds : holds_of R.holds c ≡ holds_of S.holds c
  pub greatest : greatest_number R.records c.requester ≡ greatest_number S.records c.requester
