-- What is near a clearance has the same of it as the whole register.
use Rattle.std.proofs.Common.{◌≡◌, ◌∙◌, ℕ, Bool, false, List, Some, refl, sym, ap, subst, filter}
use Rattle.clr_rules.proofs.Common.{filter-filter_wider, Agree, named_clearance, IsGoodAsSaid, Command, StepRow, Id, same_id, Register, steps_of, holds_of, near_part, is_order, SameOwn}
use Rattle.clr_rules.proofs.near.NearNamed.{near_named}
use Rattle.clr_rules.proofs.near.OwnHoldsNear.{own_holds_near}
use Rattle.clr_rules.proofs.isolation.SameFences.{record_of-own, same_record}

-- the steps of a clearance among those of the clearance
pub steps_of-own : (steps : List StepRow) (c : Id) → steps_of (filter (λ row. same_id c row.id) steps) c ≡ steps_of steps c
unfolding steps_of
steps_of-own steps c = filter-filter_wider (λ (row : StepRow). same_id c row.id) (λ row. same_id c row.id) (λ row own. own) steps

pub agreeing_have_same : (c : Id) (inside : List ℕ → Bool) (R S : Register) → Agree c inside R S → SameOwn c R S
agreeing_have_same c inside R S agree = record {
  staff = ap (λ (P : Register). P.staff) agree.near;
  own_record = same_record R S c inside agree;
  own_steps = sym (steps_of-own R.steps c) ∙ ap (λ (P : Register). steps_of P.steps c) agree.near ∙ steps_of-own S.steps c;
  own_holds = agree.own_holds;
}

pub near_has_own : (R : Register) (q : Command) (c : Id) → IsGoodAsSaid R → named_clearance q.kind ≡ Some c → is_order q.kind ≡ false → SameOwn c R (near_part R q)
near_has_own R q c good named no_order = subst (SameOwn c R) (sym (near_named R q c named)) (record {
  staff = refl;
  own_record = sym (rw named (record_of-own R.records c));
  own_steps = sym (rw named (steps_of-own R.steps c));
  own_holds = sym (ap (λ (P : Register). holds_of P.holds c) (sym (near_named R q c named)) ∙ own_holds_near R q c good named no_order);
})
