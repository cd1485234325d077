-- The words that tables have for actions, states of steps and roles. Phases and kinds of holds have
-- theirs from the rules.
use Rattle.std.specs.Prelude.{ℕ, List, [], ◌∷◌, codes, find, Option}
use Rattle.std.specs.Str.{bytes_eq}
use Rattle.clr_staff.specs.declared.employee.Role.{Role}
use Rattle.clr_staff.specs.declared.employee.Role.TheVariants.{Operator, Field, Charge}
use Rattle.clr_order.specs.declared.action.Action.{Action}
use Rattle.clr_order.specs.declared.action.Action.TheVariants.{Open, Block, Control, Tag, Untag}
use Rattle.clr_order.specs.declared.action.Action.TheVariants.{Uncontrol, Unblock, Close, Leave}
use Rattle.clr_order.specs.Action.{all_actions}
use Rattle.clr_order.specs.declared.step.StepState.{StepState}
use Rattle.clr_order.specs.declared.step.StepState.TheVariants.{Waiting, Instructed, Repeated, Done}

abbrev pub action_name : Action → List ℕ
action_name Open = codes "Open"
action_name Block = codes "Block"
action_name Control = codes "Control"
action_name Tag = codes "Tag"
action_name Untag = codes "Untag"
action_name Uncontrol = codes "Uncontrol"
action_name Unblock = codes "Unblock"
action_name Close = codes "Close"
action_name Leave = codes "Leave"

-- the action of a name
abbrev pub action_named : List ℕ → Option Action
action_named word = find (λ action. bytes_eq (action_name action) word) all_actions

abbrev pub state_name : StepState → List ℕ
state_name Waiting = codes "Waiting"
state_name Instructed = codes "Instructed"
state_name Repeated = codes "Repeated"
state_name Done = codes "Done"

abbrev pub all_states : List StepState
all_states = Waiting ∷ Instructed ∷ Repeated ∷ Done ∷ []

-- the state of a name
abbrev pub state_named : List ℕ → Option StepState
state_named word = find (λ state. bytes_eq (state_name state) word) all_states

-- the word for a role, as in the file of the staff
abbrev pub role_word : Role → List ℕ
role_word Operator = codes "operator"
role_word Field = codes "field"
role_word Charge = codes "charge"

abbrev pub all_roles : List Role
all_roles = Operator ∷ Field ∷ Charge ∷ []

-- the role that a word means
abbrev pub role_worded : List ℕ → Option Role
role_worded word = find (λ role. bytes_eq (role_word role) word) all_roles
