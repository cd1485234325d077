-- The test of the undoing steps is the rule.
use Rattle.std.proofs.Common.{◌≡◌, ◌⊎◌, Bool, true, false, List, [], ◌∷◌, refl, ap, inl, inr}
use Rattle.std.proofs.lemmas.Bool.{false≢true}
use Rattle.clr_order.specs.Needed.{Undoes, undoes, step_if}
use Rattle.clr_order.specs.declared.action.Action.{Action}
use Rattle.clr_order.specs.declared.action.Action.TheVariants.{Open, Untag, Uncontrol, Unblock, Close, Leave}
use Rattle.clr_order.specs.declared.held.Held.{Held}

-- one of two lists of actions, by how they end
abbrev Ends : List Action → (Action → List Action) → Type 0
Ends actions front = (actions ≡ front Close) ⊎ (actions ≡ front Leave)

add : (a : Action) (front : Action → List Action) (actions : List Action) → Ends actions front → Ends (a ∷ actions) (λ last. a ∷ front last)
add a front actions (inl e) = inl (ap (λ rest. a ∷ rest) e)
add a front actions (inr e) = inr (ap (λ rest. a ∷ rest) e)

-- where no hold is left, no action is
pub nothing_left : (actions : List Action) → undoes false false false false actions ≡ true → actions ≡ []
nothing_left [] h = refl
nothing_left (Open ∷ actions) h = absurd (false≢true h)
nothing_left (_ ∷ actions) h = absurd (false≢true h)

held_left : (actions : List Action) → undoes false false false true actions ≡ true → Ends actions (λ last. last ∷ [])
held_left (Close ∷ actions) h = inl (ap (λ rest. Close ∷ rest) (nothing_left actions h))
held_left (Leave ∷ actions) h = inr (ap (λ rest. Leave ∷ rest) (nothing_left actions h))
held_left _ h = absurd (false≢true h)

block_left : (block : Bool) (actions : List Action) → undoes false false block true actions ≡ true → Ends actions (λ last. step_if block Unblock (last ∷ []))
block_left false actions h = held_left actions h
block_left true (Unblock ∷ actions) h = add Unblock (λ last. last ∷ []) actions (held_left actions h)
block_left true _ h = absurd (false≢true h)

control_left : (control block : Bool) (actions : List Action) → undoes false control block true actions ≡ true → Ends actions (λ last. step_if control Uncontrol (step_if block Unblock (last ∷ [])))
control_left false block actions h = block_left block actions h
control_left true block (Uncontrol ∷ actions) h = add Uncontrol (λ last. step_if block Unblock (last ∷ [])) actions (block_left block actions h)
control_left true block _ h = absurd (false≢true h)

tag_left : (tag control block : Bool) (actions : List Action) → undoes tag control block true actions ≡ true → Ends actions (λ last. step_if tag Untag (step_if control Uncontrol (step_if block Unblock (last ∷ []))))
tag_left false control block actions h = control_left control block actions h
tag_left true control block (Untag ∷ actions) h = add Untag (λ last. step_if control Uncontrol (step_if block Unblock (last ∷ []))) actions (control_left control block actions h)
tag_left true control block _ h = absurd (false≢true h)

closes : (tag control block : Bool) → undoes tag control block true (step_if tag Untag (step_if control Uncontrol (step_if block Unblock (Close ∷ [])))) ≡ true
closes true true true = refl
closes true true false = refl
closes true false true = refl
closes true false false = refl
closes false true true = refl
closes false true false = refl
closes false false true = refl
closes false false false = refl

leaves : (tag control block : Bool) → undoes tag control block true (step_if tag Untag (step_if control Uncontrol (step_if block Unblock (Leave ∷ [])))) ≡ true
leaves true true true = refl
leaves true true false = refl
leaves true false true = refl
leaves true false false = refl
leaves false true true = refl
leaves false true false = refl
leaves false false true = refl
leaves false false false = refl

pub undoes_rule : (held : Held) (actions : List Action) → undoes held.tag held.control held.block true actions ≡ true → Undoes held actions
undoes_rule held actions h = tag_left held.tag held.control held.block actions h

pub rule_undoes : (held : Held) (actions : List Action) → Undoes held actions → undoes held.tag held.control held.block true actions ≡ true
rule_undoes held actions (inl e) = rw e (closes held.tag held.control held.block)
rule_undoes held actions (inr e) = rw e (leaves held.tag held.control held.block)
