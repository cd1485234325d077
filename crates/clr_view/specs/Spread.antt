-- MARKS THAT SPREAD OVER LINKS: each link is of two places, by their numbers.
use Rattle.std.specs.Prelude.{◌≡◌, ◌<◌, ℕ, Bool, true, false, not, List, All, count_by, length}
use Rattle.std.specs.List.{slice_index_or}
use Rattle.clr_view.specs.declared.spread.Link.{Link}

-- whether a place is marked
abbrev pub is_marked : List Bool → ℕ → Bool
is_marked marks place = slice_index_or marks place false

-- how many places are not
abbrev pub unmarked : List Bool → ℕ
unmarked marks = count_by not marks

-- both places of a link are there
abbrev pub IsThere : List Bool → Link → Type 0
IsThere marks link = (link.from < length marks) × (link.to < length marks)

-- no link leads from a place that passes a test to one that does not
abbrev pub NoneLeaves : List Link → (ℕ → Bool) → Type 0
NoneLeaves links test = All (λ link. test link.from ≡ test link.to) links

-- each place that passes one test passes another
abbrev pub Within : (ℕ → Bool) → (ℕ → Bool) → Type 0
Within first second = (place : ℕ) → first place ≡ true → second place ≡ true

-- WHAT SPREADS: there are the marks that there were, and none without a cause: each test has them
-- that has the old ones and that no link leaves
pub record Spreads (links : List Link) (old new : List Bool) : Type 0 where
  pub size : length new ≡ length old
  pub kept : Within (is_marked old) (is_marked new)
  pub least : (test : ℕ → Bool) → NoneLeaves links test → Within (is_marked old) test
      → Within (is_marked new) test

-- A MARK THAT IS CARRIED to a place, where the one that it comes from has it; and whether the place
-- had none
pub record Carries (from to : ℕ) (old new : List Bool) (is_new : Bool) : Type 0 where
  pub size : length new ≡ length old
  pub kept : Within (is_marked old) (is_marked new)
  pub caused : (test : ℕ → Bool) → (test from ≡ true → test to ≡ true)
      → Within (is_marked old) test → Within (is_marked new) test
  pub led : is_marked new from ≡ true → is_marked new to ≡ true
  pub same : is_new ≡ false → new ≡ old
  pub fewer : is_new ≡ true → unmarked new < unmarked old
