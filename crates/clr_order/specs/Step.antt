-- Steps as the rules see them: an action at a point, whatever the step's state.
use Rattle.std.specs.Prelude.{ℕ, Bool, not, List, [], ◌∷◌, codes, map, filter, find, Option}
use Rattle.std.specs.Prelude.{bytes_eq}
use Rattle.std.specs.Cmp.Lexicographic.{pointwise}
use Rattle.clr_net.specs.Prelude.{same_name, has_name}
use Rattle.clr_order.specs.Action.{same_action}
use Rattle.clr_order.specs.declared.action.Action.{Action}
use Rattle.clr_order.specs.declared.step.Step.{Step}
use Rattle.clr_order.specs.declared.step.StepState.{StepState}
use Rattle.clr_order.specs.declared.step.StepState.TheVariants.{Waiting, Instructed, Repeated, Done}

-- a state as a text
abbrev pub state_text : StepState → List ℕ
state_text Waiting = codes "Waiting"
state_text Instructed = codes "Instructed"
state_text Repeated = codes "Repeated"
state_text Done = codes "Done"

abbrev pub all_states : List StepState
all_states = Waiting ∷ Instructed ∷ Repeated ∷ Done ∷ []

-- the state that a text names
abbrev pub state_named : List ℕ → Option StepState
state_named text = find (λ state. bytes_eq (state_text state) text) all_states

-- what a step does, and where
pub record Task : Type 0 where
  pub action : Action
  pub point : List ℕ

abbrev pub task : Step → Task
task s = record { action = s.action; point = s.point }

-- what is done at a point, in the order of the steps
abbrev pub actions_at : List Task → List ℕ → List Action
actions_at tasks p = map (λ t. t.action) (filter (λ t. same_name p t.point) tasks)

-- two lists of actions are the same
abbrev pub same_actions : List Action → List Action → Bool
same_actions = pointwise same_action

-- the points of the steps, in their order
abbrev pub task_points : List Task → List (List ℕ)
task_points tasks = map (λ t. t.point) tasks

-- the point of the first step that is at none of these points
abbrev pub stray_point : List (List ℕ) → List Task → Option (List ℕ)
stray_point points tasks = find (λ p. not (has_name points p)) (task_points tasks)
