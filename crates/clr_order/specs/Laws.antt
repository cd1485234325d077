-- What the definitions of orders and of the texts of steps mean, as laws.
use Rattle.std.specs.Prelude.{◌≡◌, ◌≢◌, ◌↔◌, ℕ, Bool, true, false, IsTrue, List, [], filter, All}
use Rattle.std.specs.Prelude.{Contains, None, Some, Ok}
use Rattle.clr_net.specs.Prelude.{list_any, FenceRows, fence_of, Grid, IsNetwork, point_names}
use Rattle.clr_net.specs.Prelude.{section_names, has_name}
use Rattle.std.specs.List.Sorted.{IsStrictlySortedBy}
use Rattle.std.specs.declared.cmp.Ordering.TheVariants.{Greater}
use Rattle.clr_net.specs.Name.{is_name, name_cmp}
use Rattle.clr_net.specs.Walk.{Walk}
use Rattle.clr_order.specs.Action.{same_action}
use Rattle.clr_order.specs.Isolating.{IsSoundOrder, isolating_fault, source_inside}
use Rattle.clr_order.specs.Needed.{Undoes, needed, undoes}
use Rattle.clr_order.specs.Restoring.{IsRestoring, restoring_fault}
use Rattle.clr_order.specs.Step.{Task, actions_at, same_actions, task}
use Rattle.clr_order.specs.Switching.{IsSwitching, switching_fault}
use Rattle.clr_order.specs.Texts.{read_step_text, step_text, waiting_step}
use Rattle.clr_order.specs.declared.action.Action.{Action}
use Rattle.clr_order.specs.declared.action.Action.TheVariants.{Open, Block, Control, Tag}
use Rattle.clr_order.specs.declared.held.Held.{Held}
use Rattle.clr_order.specs.declared.step.Step.{Step}
use Rattle.clr_net.specs.declared.point.PointRow.{PointRow}
use Rattle.clr_net.specs.declared.section.SectionRow.{SectionRow}

-- no refusal applies to an isolating order exactly where it is sound, over the fence that the
-- network has when it is cut at the points of the order
abbrev pub SoundOrdersAreAccepted : Type 0
SoundOrdersAreAccepted = (g : Grid) (work : List ℕ) (points : List (List ℕ)) (tasks : List Task)
    → (isolating_fault (fence_of g work points) points tasks ≡ None) ↔ IsSoundOrder g work points
    tasks

-- no refusal applies to a restoring order exactly where it undoes the holds at each held point
abbrev pub RestoringOrdersAreAccepted : Type 0
RestoringOrdersAreAccepted = (held : List Held) (tasks : List Task)
    → (restoring_fault held tasks ≡ None) ↔ IsRestoring held tasks

-- no refusal applies to a switching order exactly where it opens and closes known points
abbrev pub SwitchingOrdersAreAccepted : Type 0
SwitchingOrdersAreAccepted = (found : List (List ℕ)) (tasks : List Task)
    → (switching_fault found tasks ≡ None) ↔ IsSwitching found tasks

-- whether the steps at a point open it, make it inoperable where its design permits that, and tag
-- it
abbrev pub is_made_safe : List Task → PointRow → Bool
is_made_safe tasks point = same_actions (actions_at tasks point.name) (needed point)

-- the points of a network that an order makes safe
abbrev pub safe_points : Grid → List Task → List (List ℕ)
safe_points g tasks = point_names (filter (is_made_safe tasks) g.points)

-- a sound order leaves no way from a source to its work section but over points that it makes safe
abbrev pub SoundOrdersIsolate : Type 0
SoundOrdersIsolate = (g : Grid) → IsNetwork g
    → (work : List ℕ) (points : List (List ℕ)) (tasks : List Task)
    → IsTrue (has_name (section_names g.sections) work) → IsSoundOrder g work points tasks
    → (source : SectionRow) → Contains g.sections source → source.source ≡ true
    → Walk g.points (safe_points g tasks) work source.name → ⊥

-- whether an action is among those that a point needs
abbrev pub needs : PointRow → Action → Bool
needs point action = list_any (same_action action) (needed point)

-- each point is opened and tagged, made inoperable where its design permits that, and tagged at its
-- control where it is controlled from afar
abbrev pub EachPointIsMadeSafe : Type 0
EachPointIsMadeSafe = (point : PointRow) → (needs point Open ≡ true) × (needs point Tag ≡ true)
    × (needs point Block ≡ point.lockable) × (needs point Control ≡ point.remote)

-- the source that is named has the least name of the sources inside the fence
abbrev pub LeastSourceIsNamed : Type 0
LeastSourceIsNamed = (fence : FenceRows)
    → IsStrictlySortedBy name_cmp (section_names fence.sections) → (name : List ℕ)
    → source_inside fence ≡ Some name
    → All (λ section. section.source ≡ true → name_cmp name section.name ≢ Greater) fence.sections

-- actions undo the holds at a point that is held open exactly where the test that reads them one by
-- one says so
abbrev pub UndoingIsTested : Type 0
UndoingIsTested = (held : Held) (actions : List Action)
    → (undoes held.tag held.control held.block true actions ≡ true) ↔ Undoes held actions

-- where no hold is left, nothing undoes it
abbrev pub NothingIsUndone : Type 0
NothingIsUndone = (actions : List Action)
    → (undoes false false false false actions ≡ true) ↔ (actions ≡ [])

-- the text of an action at a named point reads as a step that waits to do it there
abbrev pub StepTextsAreRead : Type 0
StepTextsAreRead = (t : Task) → IsTrue (is_name t.point) → read_step_text (step_text t)
    ≡ Ok (waiting_step t)

-- and nothing else reads as a step
abbrev pub OnlyStepTextsAreRead : Type 0
OnlyStepTextsAreRead = (text : List ℕ) (s : Step) → read_step_text text ≡ Ok s
    → (text ≡ step_text (task s)) × (s ≡ waiting_step (task s)) × IsTrue (is_name s.point)
