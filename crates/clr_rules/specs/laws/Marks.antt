-- What a mark is, in words, as laws.
use Rattle.std.specs.Prelude.{◌≡◌, ◌↔◌, ◌⊎◌, ℕ, Bool, IsTrue, List, Contains}
use Rattle.clr_rules.specs.Prelude.{Grid, PointRow, Edit, SetPosition, SetHand, PutHold, TakeHold}
use Rattle.clr_rules.specs.Prelude.{PutRecord, PutStep, AddSection, AddPoint, Hold, is_point_kind}
use Rattle.clr_rules.specs.Prelude.{is_section_kind}
use Rattle.clr_rules.specs.Shown.{is_mark}

-- a point of this name has an end among these sections
pub record HasEndIn (g : Grid) (Among : List ℕ → Type 0) (point : List ℕ) : Type 0 where
  pub row : PointRow
  pub there : Contains g.points row
  pub named : row.name ≡ point
  pub an_end : Among row.from_end ⊎ Among row.to_end

-- a hold that is at such a section, or at such a point: holds go by kind
abbrev pub StandsAmong : (List ℕ → Type 0) → (List ℕ → Type 0) → Hold → Type 0
StandsAmong AtPoint AtSection h =
    (IsTrue (is_point_kind h.kind) × AtPoint h.place)
    ⊎ (IsTrue (is_section_kind h.kind) × AtSection h.place)

-- an edit concerns a point or a section of these
abbrev pub IsEditAmong : (List ℕ → Type 0) → (List ℕ → Type 0) → Edit → Type 0
IsEditAmong AtPoint AtSection (SetPosition point position) = AtPoint point
IsEditAmong AtPoint AtSection (SetHand point hand) = AtPoint point
IsEditAmong AtPoint AtSection (PutHold h) = StandsAmong AtPoint AtSection h
IsEditAmong AtPoint AtSection (TakeHold h) = StandsAmong AtPoint AtSection h
IsEditAmong AtPoint AtSection (PutRecord r) = ⊥
IsEditAmong AtPoint AtSection (PutStep row) = ⊥
IsEditAmong AtPoint AtSection (AddSection row) = AtSection row.name
IsEditAmong AtPoint AtSection (AddPoint p) = AtSection p.from_end ⊎ AtSection p.to_end

-- a mark is an edit that concerns a section inside, or a point with an end inside. A record and a
-- step are none, and neither is a crew, which is at no section and at no point
abbrev pub MarksConcernTheSet : Type 0
MarksConcernTheSet = (g : Grid) (inside : List ℕ → Bool) (edit : Edit)
    → IsTrue (is_mark g inside edit)
    ↔ IsEditAmong (HasEndIn g (λ s. IsTrue (inside s))) (λ s. IsTrue (inside s)) edit
