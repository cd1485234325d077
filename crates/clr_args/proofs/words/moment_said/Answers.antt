use Rattle.std.proofs.Common.{arith}
use Rattle.clr_args.proofs.Numbers.{moment_in-read, moment_in-unread}
use Rattle.clr_args.proofs.words.moment_said.Goals as goal

pub returns-in-Ok-clause-value : goal.returns-in-Ok-clause-value
returns-in-Ok-clause-value c =
    let read = c.in-Ok.ensures.value.0 in
    moment_in-read c.in-Ok.seconds c.args.word.now read.0.0 read.1 (omega (arith, c.if-seconds-le4102444799.true))

pub returns-in_default-2-clause-value : goal.returns-in_default-2-clause-value
returns-in_default-2-clause-value c =
    let unread = c.in_default.ensures.value.0 in
    moment_in-unread c.args.word.now (λ numeral high. unread (numeral, omega (arith, high)))
