use Rattle.std.proofs.Common.{◌≡◌, ◌∙◌, Ok, Err, List, None, refl, rules, subst}
use Rattle.sqlite.specs.Held.{state}
use Rattle.clr_rules.specs.declared.step_row.StepKey.{StepKey}
use Rattle.clr_store.specs.StepsTaken.{without_steps}
use Rattle.clr_store.specs.Transaction.{PlacesAs, Transacts}
use Rattle.clr_store.proofs.Ending.{transacts_as}
use Rattle.clr_desk.proofs.OneCommand.{of_command}
use Rattle.clr_desk.specs.Faults.{IsOfCommand, of_store}
use Rattle.clr_desk.proofs.archiving.archive_tables.Goals as goal

pub returns : goal.returns
returns g c =
    let old = state g.S.Store c.args.store.now in
    let new = state g.S.Store c.take_steps.new.self in
    subst (λ (keys : List StepKey). Transacts {X = Unit {0}} (PlacesAs None) (λ _ _. IsOfCommand) old new (without_steps keys) (Ok tt)) (c.as_slice.ensures.value ∙ c.in_ok-keys.ensures)
    (transacts_as old new (without_steps c.as_slice.result.now) (Ok _) (Ok tt) refl (λ _ _ placed. placed) tt c.in_ok-take_steps.ensures)

pub returns-in_err-take_steps : goal.returns-in_err-take_steps
returns-in_err-take_steps g c =
    let old = state g.S.Store c.args.store.now in
    let new = state g.S.Store c.take_steps.new.self in
    let reported : c.from_residual-in_err-take_steps.result ≡ Err (of_store c.in_err-take_steps.field-0.0) = search rules in
    rw reported
    (subst (λ (keys : List StepKey). Transacts {X = Unit {0}} (PlacesAs None) (λ _ _. IsOfCommand) old new (without_steps keys) (Err (of_store c.in_err-take_steps.field-0.0)))
    (c.as_slice.ensures.value ∙ c.in_ok-keys.ensures)
    (transacts_as old new (without_steps c.as_slice.result.now) (Err _) (Err _) refl (λ _ _ placed. placed)
    (of_command _ _ c.in_err-take_steps.ensures.fault.cause refl) c.in_err-take_steps.ensures))
