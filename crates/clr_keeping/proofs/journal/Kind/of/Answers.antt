use Rattle.std.proofs.Common.{◌∙◌, rules, to_z-of_z, w16, FitsSigned}
use Rattle.clr_keeping.proofs.StepTexts.{commands_none, log_none}
use Rattle.clr_keeping.proofs.journal.Kind.of.Goals as goal

pub returns-then-args : goal.returns-then-args
returns-then-args c = commands_none c.args.args.now c.args.wanted c.new.result c.if-args.true c.new.ensures.wanted c.new.ensures.last

pub returns-else-args : goal.returns-else-args
returns-else-args c =
    let call = c.new-else-args in
    let fits : FitsSigned w16 c.args.args.now.offset.minutes = search rules in
    log_none c.args.args.now c.args.wanted call.result c.if-args.false call.ensures.wanted (call.ensures.clock ∙ to_z-of_z fits) call.ensures.serve
