-- What the answers to requests that are no command depend on.
use Rattle.std.proofs.Common.{◌≡◌, ◌∙◌, ap, pos}
use Rattle.clr_rules.proofs.Common.{Register, record_of, steps_of}
use Rattle.clr_rules.proofs.isolation.SameFences.{same_record}
use Rattle.clr_print.specs.Printed.{order_text}
use Rattle.clr_http.specs.Respond.{Outcome, reading_outcome, text_response}
use Rattle.clr_worked.specs.NoCommand.{PrintedOrdersAreTheSame, RefusalsAreOfTheRequest}

pub printed_orders : PrintedOrdersAreTheSame
unfolding steps_of
printed_orders c round inside R S agree =
    let steps : steps_of R.steps c ≡ steps_of S.steps c = ap (λ (P : Register). P.steps) agree.near in
    ap (λ r. text_response (order_text r (steps_of R.steps c) round (pos 0))) (same_record R S c inside agree)
    ∙ ap (λ rows. text_response (order_text (record_of S.records c) rows round (pos 0))) steps

pub refusals : RefusalsAreOfTheRequest
refusals R head rest c is = ap (λ reading. Outcome.response (reading_outcome R reading)) is
