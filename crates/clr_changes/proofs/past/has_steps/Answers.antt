use Rattle.std.proofs.Common.{◌∙◌, ap, is_some, sym}
use Rattle.std.specs.Option.{option_copied}
use Rattle.clr_rules.specs.Prelude.{Register, is_some_step}
use Rattle.clr_rules.specs.Steps.{steps_of}
use Rattle.clr_changes.proofs.LastStep.{some_last}
use Rattle.clr_changes.proofs.past.has_steps.Goals as goal

pub returns-in-Some : goal.returns-in-Some
unfolding steps_of
returns-in-Some g c =
    ap is_some (sym (ap option_copied c.in-Some.is) ∙ c.last.ensures) ∙ some_last _
    ∙ ap (λ (R : Register). is_some_step (steps_of R.steps c.args.id)) (sym c.shelves.ensures)

pub returns-in-None : goal.returns-in-None
unfolding steps_of
returns-in-None g c =
    ap is_some (sym (ap option_copied c.in-None.is) ∙ c.last.ensures) ∙ some_last _
    ∙ ap (λ (R : Register). is_some_step (steps_of R.steps c.args.id)) (sym c.shelves.ensures)
