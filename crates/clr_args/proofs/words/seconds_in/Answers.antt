use Rattle.std.proofs.Common.{arith}
use Rattle.clr_args.proofs.Numbers.{number_in-read, number_in-unread}
use Rattle.clr_args.proofs.words.seconds_in.Goals as goal

pub returns-in-Ok : goal.returns-in-Ok
returns-in-Ok c =
    let read = c.in-Ok.ensures.value.0 in
    number_in-read 600 c.in-Ok.seconds c.args.word.now read.0.0 read.1 (omega (arith, read.0.1, read.1)) (omega (arith, c.if-seconds-ge1.true)) (omega (arith, c.if-seconds-le600.true))

pub returns-in_default-3 : goal.returns-in_default-3
returns-in_default-3 c =
    let unread = c.in_default.ensures.value.0 in
    number_in-unread 600 c.args.word.now (λ numeral low high. unread (numeral, omega (arith, high)))
