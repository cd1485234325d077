-- The words of the actions.
use Rattle.std.specs.Prelude.{ℕ, Bool, true, false, List, [], ◌∷◌, codes, find, Option, bytes_eq}
use Rattle.clr_order.specs.declared.action.Action.{Action}
use Rattle.clr_order.specs.declared.action.Action.TheVariants.{Open, Block, Control, Tag, Untag}
use Rattle.clr_order.specs.declared.action.Action.TheVariants.{Uncontrol, Unblock, Close, Leave}

-- the action in capitals
abbrev pub action_word : Action → List ℕ
action_word Open = codes "OPEN"
action_word Block = codes "BLOCK"
action_word Control = codes "CONTROL"
action_word Tag = codes "TAG"
action_word Untag = codes "UNTAG"
action_word Uncontrol = codes "UNCONTROL"
action_word Unblock = codes "UNBLOCK"
action_word Close = codes "CLOSE"
action_word Leave = codes "LEAVE"

abbrev pub all_actions : List Action
all_actions = Open ∷ Block ∷ Control ∷ Tag ∷ Untag ∷ Uncontrol ∷ Unblock ∷ Close ∷ Leave ∷ []

-- the action that a word names
abbrev pub action_named : List ℕ → Option Action
action_named word = find (λ a. bytes_eq (action_word a) word) all_actions

-- two actions are the same: so are their words
abbrev pub same_action : Action → Action → Bool
same_action a b = bytes_eq (action_word a) (action_word b)

-- whether an action opens or closes a point and does no more
abbrev pub is_switching : Action → Bool
is_switching Open = true
is_switching Close = true
is_switching _ = false
