-- The actions of an isolating order: what each puts, and that its steps take no others.
use Rattle.std.proofs.Common.{◌≡◌, ℕ, Bool, true, false, List, filter, Contains, refl, subst}
use Rattle.clr_rules.proofs.Common.{list_all, false≢true, Grid, same_name, has_name, PointRow, same_itself, IsSoundOrder, Task, actions_at, task, Action, list_all-contains, puts, HoldKind, HeldOpen}
use Rattle.clr_rules.proofs.Common.{Block, Control, Tag, Tested, Ground, Crew, StepRow, points_of, tasks_of, first_of_each, same_kind, there_mapped, Contains-filter, has_name-row}
use Rattle.clr_order.specs.Needed.{needed}
use Rattle.clr_rules.proofs.good.PutHolds.{needed_there}
use Rattle.clr_order.specs.declared.action.Action.TheVariants as actions

-- ---- the actions of an isolating order

abbrev pub is_isolating : Action → Bool
is_isolating actions.Open = true
is_isolating actions.Block = true
is_isolating actions.Control = true
is_isolating actions.Tag = true
is_isolating _ = false

-- the hold that an action puts
abbrev pub put_kind : Action → HoldKind
put_kind actions.Block = Block
put_kind actions.Control = Control
put_kind actions.Tag = Tag
put_kind _ = HeldOpen

pub puts_kind : (a : Action) → is_isolating a ≡ true → (kind : HoldKind) → puts a kind ≡ same_kind (put_kind a) kind
puts_kind actions.Open is HeldOpen = refl
puts_kind actions.Open is Block = refl
puts_kind actions.Open is Control = refl
puts_kind actions.Open is Tag = refl
puts_kind actions.Open is Tested = refl
puts_kind actions.Open is Ground = refl
puts_kind actions.Open is Crew = refl
puts_kind actions.Block is HeldOpen = refl
puts_kind actions.Block is Block = refl
puts_kind actions.Block is Control = refl
puts_kind actions.Block is Tag = refl
puts_kind actions.Block is Tested = refl
puts_kind actions.Block is Ground = refl
puts_kind actions.Block is Crew = refl
puts_kind actions.Control is HeldOpen = refl
puts_kind actions.Control is Block = refl
puts_kind actions.Control is Control = refl
puts_kind actions.Control is Tag = refl
puts_kind actions.Control is Tested = refl
puts_kind actions.Control is Ground = refl
puts_kind actions.Control is Crew = refl
puts_kind actions.Tag is HeldOpen = refl
puts_kind actions.Tag is Block = refl
puts_kind actions.Tag is Control = refl
puts_kind actions.Tag is Tag = refl
puts_kind actions.Tag is Tested = refl
puts_kind actions.Tag is Ground = refl
puts_kind actions.Tag is Crew = refl
puts_kind actions.Untag is kind = absurd (false≢true is)
puts_kind _ is kind = absurd (false≢true is)

needed_isolates : (row : PointRow) → list_all is_isolating (needed row) ≡ true
needed_isolates row = at row.lockable refl row.remote refl
  where
    at : (a : Bool) → row.lockable ≡ a → (b : Bool) → row.remote ≡ b → list_all is_isolating (needed row) ≡ true
    at true e true f = rw (e, f) refl
    at true e false f = rw (e, f) refl
    at false e true f = rw (e, f) refl
    at false e false f = rw (e, f) refl

-- a step of a sound order
pub isolating_step : (g : Grid) (work : List ℕ) (rows : List StepRow) (row : StepRow) → IsSoundOrder g work (first_of_each (points_of rows)) (tasks_of rows) → Contains rows row
    → is_isolating row.step.action ≡ true
isolating_step g work rows row sound there =
    let among : Contains (tasks_of rows) (task row.step) = there_mapped (λ (row : StepRow). task row.step) rows row there in
    let known : has_name (points_of rows) row.step.point ≡ true = has_name-row (λ (t : Task). t.point) (tasks_of rows) (task row.step) among in
    let (point, point_there, named, steps) = needed_there g work rows sound row.step.point known in
    let done_there : Contains (actions_at (tasks_of rows) row.step.point) row.step.action =
    there_mapped (λ (t : Task). t.action) (filter (λ (t : Task). same_name row.step.point t.point) (tasks_of rows)) (task row.step)
    (Contains-filter (λ (t : Task). same_name row.step.point t.point) (tasks_of rows) (task row.step) among (same_itself row.step.point)) in
    list_all-contains is_isolating (needed point) row.step.action (needed_isolates point) (subst (λ (as_needed : List Action). Contains as_needed row.step.action) steps done_there)
