use Rattle.std.proofs.Common.{rules, ◌∙◌, to_z-of_z, w16, FitsSigned}
use Rattle.clr_args.proofs.Numbers.{offset_in-read, offset_in-unread}
use Rattle.clr_args.proofs.words.minutes_of.Goals as goal

pub returns-in-Ok-clause-named : goal.returns-in-Ok-clause-named
returns-in-Ok-clause-named c =
    let fits : FitsSigned w16 c.in-Ok.minutes = search rules in
    to_z-of_z fits ∙ offset_in-read c.args.word.now c.in-Ok.minutes c.in-Ok.ensures.value.0.0.0 c.in-Ok.ensures.value.0.1 (search rules) (search rules)

pub returns-in_default-3-clause-named : goal.returns-in_default-3-clause-named
returns-in_default-3-clause-named c = offset_in-unread c.args.word.now c.in_default.ensures.value.0
