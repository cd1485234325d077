-- Actions and their words.
use Rattle.std.proofs.Common.{◌≡◌, ◌∙◌, Decides, Some, List, refl, ap, sym}
use Rattle.std.proofs.lemmas.Slice.Eq.{bytes_eq-Decides, slice_eq-Decides}
use Rattle.clr_order.specs.Action.{same_action, action_word, action_named}
use Rattle.clr_order.specs.Step.{same_actions}
use Rattle.clr_order.specs.declared.action.Action.{Action}
use Rattle.clr_order.specs.declared.action.Action.TheVariants.{Open}

-- the word of an action names it
pub action_named-word : (a : Action) → action_named (action_word a) ≡ Some a
action_named-word Open = refl
action_named-word _ = refl

-- actions with one word are one
pub same_word : (a b : Action) → action_word a ≡ action_word b → a ≡ b
same_word a b e =
    let h : Some a ≡ Some b = sym (action_named-word a) ∙ (ap action_named e ∙ action_named-word b) in
    cc

pub same_action-Decides : (a b : Action) → Decides (same_action a b) (a ≡ b)
same_action-Decides a b =
    let d = bytes_eq-Decides (action_word a) (action_word b) in
    (λ h. same_word a b (d.0 h), λ e. d.1 (ap action_word e))

pub same_actions-Decides : (xs ys : List Action) → Decides (same_actions xs ys) (xs ≡ ys)
same_actions-Decides xs ys = slice_eq-Decides same_action-Decides xs ys (same_actions xs ys) refl
