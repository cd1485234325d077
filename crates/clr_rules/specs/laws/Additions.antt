-- What edits add to the network, as laws.
use Rattle.std.specs.Prelude.{◌≡◌, ℕ, Bool, true, false, ◌&&◌, List, [], ◌∷◌, map, None, Some}
use Rattle.std.specs.Ordering.{is_lt}
use Rattle.clr_rules.specs.Prelude.{list_any, Grid, IsNetwork, point_names, same_name, has_name}
use Rattle.clr_rules.specs.Prelude.{PointRow, SectionRow, Edit, AddSection, AddPoint, Command, Id}
use Rattle.clr_rules.specs.Prelude.{Register, after_edits, id_cmp, is_point_kind, state_key}
use Rattle.clr_net.specs.Additions.{with_point, with_section}
use Rattle.clr_rules.specs.laws.Agreement.{ChangesByMarks}
use Rattle.clr_rules.specs.Answer.{Answer, answer}
use Rattle.clr_rules.specs.Edits.{fit, fits_edit, net_after}
use Rattle.clr_rules.specs.Fences.{CrossesNoFence, clearance_fence, crossed_by, crosses}
use Rattle.clr_rules.specs.Good.{IsGoodAsSaid, ListsAreInOrder, PointsAreKnown}
use Rattle.clr_rules.specs.Register.{unplaced_net}

-- POSITIONS ARE NO PART of a network that grows: what is added to one whose rows have positions is
-- added to the register's, and fits in both or in neither
pub record PositionsAreNoPart : Type 0 where
  pub section : (row : SectionRow) (g : Grid)
      → unplaced_net (with_section row g) ≡ net_after (AddSection row) (unplaced_net g)
  pub point : (p : PointRow) (g : Grid)
      → unplaced_net (with_point p g) ≡ net_after (AddPoint p) (unplaced_net g)
  pub one_fits : (edit : Edit) (g : Grid) → fits_edit (unplaced_net g) edit ≡ fits_edit g edit
  pub all_fit : (edits : List Edit) (g : Grid) → fit (unplaced_net g) edits ≡ fit g edits

-- EDITS THAT FIT keep the network one within the limits
abbrev pub FittingEditsKeepNetworks : Type 0
FittingEditsKeepNetworks =
    (R : Register) (edits : List Edit) → IsNetwork R.net → fit R.net edits ≡ true
    → IsNetwork (Register.net (after_edits edits R))

-- AN ANSWER'S EDITS FIT the register's network
abbrev pub AnswersFit : Type 0
AnswersFit = (R : Register) (q : Command) → IsNetwork R.net
    → fit R.net (Answer.edits (answer R q)) ≡ true

-- a name is free where no point, no state and no hold at a point has it
pub record IsFree (R : Register) (p : List ℕ) : Type 0 where
  pub no_row : has_name (point_names (Grid.points R.net)) p ≡ false
  pub no_state : has_name (map state_key R.states) p ≡ false
  pub no_hold : list_any (λ h. is_point_kind h.kind && same_name p h.place) R.holds ≡ false

-- ADDITIONS CHANGE BY MARKS: an added section, an added point of a free name, and both, change what
-- is near a clearance exactly by their marks
pub record AdditionsChangeByMarks : Type 0 where
  pub section : (R : Register) → IsNetwork R.net
      → (row : SectionRow) → fits_edit R.net (AddSection row) ≡ true
      → (c : Id) (inside : List ℕ → Bool) → ChangesByMarks R c inside (AddSection row ∷ [])
  pub point : (R : Register) → IsNetwork R.net → ListsAreInOrder R
      → (p : PointRow) → IsFree R p.name
      → (c : Id) (inside : List ℕ → Bool) → ChangesByMarks R c inside (AddPoint p ∷ [])
  pub both : (R : Register) → IsNetwork R.net → ListsAreInOrder R
      → (row : SectionRow) → fits_edit R.net (AddSection row) ≡ true
      → (p : PointRow) → IsFree R p.name
      → (c : Id) (inside : List ℕ → Bool)
      → ChangesByMarks R c inside (AddSection row ∷ AddPoint p ∷ [])

-- in a good register a name that no point has is free
abbrev pub AddedPointsAreFree : Type 0
AddedPointsAreFree = (R : Register) → IsGoodAsSaid R → PointsAreKnown R → (p : List ℕ)
    → has_name (point_names (Grid.points R.net)) p ≡ false → IsFree R p

-- the least clearance whose fence a point between two sections would cross
pub record IsLeastCrossed (R : Register) (from to : List ℕ) (c : Id) : Type 0 where
  pub crossed : crosses (clearance_fence R c) from to ≡ true
  pub least : (d : Id) → crosses (clearance_fence R d) from to ≡ true
      → is_lt (id_cmp d c) ≡ false

-- THE LEAST IS NAMED; and where none is, the point would cross no fence
pub record LeastCrossedIsNamed : Type 0 where
  pub named : (R : Register) → ListsAreInOrder R → (from to : List ℕ) (c : Id)
      → crossed_by R from to ≡ Some c → IsLeastCrossed R from to c
  pub none : (R : Register) (from to : List ℕ) → crossed_by R from to ≡ None
      → CrossesNoFence R from to
