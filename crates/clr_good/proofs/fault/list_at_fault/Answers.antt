use Rattle.std.proofs.Common.{◌≡◌, ◌↔◌, ◌∙◌, None, Option, ap, subst, sym}
use Rattle.clr_rules.proofs.Common.{IsGood, Register}
use Rattle.clr_rules.specs.Staffed.{IsStaffed}
use Rattle.clr_good.specs.Fault.{list_at_fault}
use Rattle.clr_good.specs.Whole.{IsKept}
use Rattle.clr_good.specs.declared.fault.ListAtFault.{ListAtFault}
use Rattle.clr_good.proofs.FaultSays.{none_where_good}
use Rattle.clr_good.proofs.fault.list_at_fault.Goals as goal

pub returns-clause-good : goal.returns-clause-good
returns-clause-good g c =
    let R = c.args.book.now.register in
    let kept : IsKept R = subst (λ (S : Register). IsKept S) c.of-shelves.ensures c.is_kept.ensures in
    let told : c.in_ok-fault.fault ≡ list_at_fault R = c.in_ok-fault.ensures ∙ ap list_at_fault c.of-shelves.ensures in
    subst (λ (fault : Option ListAtFault). (fault ≡ None) ↔ (IsGood R × IsStaffed R)) (sym told) (none_where_good R kept)
