use Rattle.std.proofs.Common.{Ok}
use Rattle.std.specs.Prelude.{codes, pos}
use Rattle.clr_print.specs.Printed.{board_text}
use Rattle.clr_known.proofs.KnownVisits.{answer_given}
use Rattle.clr_known.proofs.answers.board_of_jones.Goals as goal

pub returns : goal.returns
returns g c = answer_given g.R.Tables.Store g.met.R.JonesMachine.clean g.R.Databases.opens g.R.Databases.shuts g.R.Databases.ends
    g.met.R.JonesMachine.knows (codes "jones.db") _ (λ Q. Ok (board_text Q (pos 0))) c.board.result c.args.machine.now c.board.new.rt c.board.ensures.visit
