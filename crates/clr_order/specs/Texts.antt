-- The text of a step, and what a text reads as.
use Rattle.std.specs.Prelude.{ℕ, Bool, List, ◌∷◌, ◌++◌, ◌==◌, Option, Some, None, Result, Ok, Err}
use Rattle.std.specs.List.{after_first, before_first}
use Rattle.clr_net.specs.NameText.{read_name}
use Rattle.clr_net.specs.declared.name.NameFault.{NameFault}
use Rattle.clr_net.specs.declared.name.NameFault.TheVariants as name
use Rattle.clr_order.specs.Action.{action_named, action_word}
use Rattle.clr_order.specs.Step.{Task}
use Rattle.clr_order.specs.declared.action.Action.{Action}
use Rattle.clr_order.specs.declared.step.Step.{Step}
use Rattle.clr_order.specs.declared.step.StepState.TheVariants.{Waiting}
use Rattle.clr_order.specs.declared.texts.StepFault.{StepFault}
use Rattle.clr_order.specs.declared.texts.StepFault.TheVariants.{BadAction, BadPoint, NoMemory}

-- the action in capitals, one blank, the point
abbrev pub step_text : Task → List ℕ
step_text t = action_word t.action ++ 32 ∷ t.point

abbrev pub is_blank : ℕ → Bool
is_blank b = b == 32

-- a step that nobody was told to do
abbrev pub waiting_step : Task → Step
waiting_step t = record { action = t.action; point = t.point; state = Waiting; reader = None }

-- the fault of a step whose point's name has this fault
abbrev pub step_fault : NameFault → StepFault
step_fault name.NoMemory = NoMemory
step_fault _ = BadPoint

-- a step of this action, at the point that was read
abbrev pub step_of : Action → Result (List ℕ) NameFault → Result Step StepFault
step_of action (Ok point) = Ok (waiting_step (record { action = action; point = point }))
step_of action (Err fault) = Err (step_fault fault)

-- a step of the action that was found, at the point that the rest of the text names
abbrev pub step_at : Option Action → List ℕ → Result Step StepFault
step_at None rest = Err BadAction
step_at (Some action) rest = step_of action (read_name rest)

-- the action is what comes before the first blank, the point is what follows it
abbrev pub read_step_text : List ℕ → Result Step StepFault
read_step_text text = step_at (action_named (before_first is_blank text))
    (after_first is_blank text)
