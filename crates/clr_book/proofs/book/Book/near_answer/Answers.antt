use Rattle.std.proofs.Common.{ap}
use Rattle.std.proofs.lemmas.Result.{IfOk-weaker}
use Rattle.clr_rules.specs.Answer.{answer_with}
use Rattle.clr_rules.specs.Near.{Near}
use Rattle.clr_book.proofs.book.Book.near_answer.Goals as goal

pub returns-in_default : goal.returns-in_default
returns-in_default g c =
    IfOk-weaker c.near_clearance.result _ _ (λ near is. ap (λ (n : Near). answer_with n.known n.rows c.args.command.now) is) c.near_clearance.ensures
