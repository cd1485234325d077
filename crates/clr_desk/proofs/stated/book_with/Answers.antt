use Rattle.std.proofs.Common.{◌∙◌}
use Rattle.std.proofs.lemmas.Result.{IfOk-weaker}
use Rattle.clr_desk.proofs.stated.book_with.Goals as goal

pub returns-clause-register : goal.returns-clause-register
returns-clause-register c =
    IfOk-weaker c.refilled.result _ _
    (λ made is. is ∙ (λ i. record (c.in_ok-made.ensures.register i) {
      records = c.in_ok-shelves.ensures.records i;
      steps = c.in_ok-shelves.ensures.steps i;
      holds = c.in_ok-shelves.ensures.holds i;
    }))
    c.refilled.ensures.register

pub returns-clause-network : goal.returns-clause-network
returns-clause-network c = IfOk-weaker c.refilled.result _ _ (λ made is. is ∙ c.in_ok-made.ensures.network) c.refilled.ensures.network

pub returns-clause-typed : goal.returns-clause-typed
returns-clause-typed c = c.refilled.ensures.typed c.in_ok-made.ensures.typed
