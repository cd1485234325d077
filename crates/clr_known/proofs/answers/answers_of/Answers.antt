use Rattle.std.specs.Prelude.{codes}
use Rattle.clr_known.proofs.KnownAnswers.{counted}
use Rattle.clr_known.proofs.answers.answers_of.Goals as goal

pub returns : goal.returns
returns g c = record {
  board_is = c.board_of_jones-board.ensures;
  order_is = c.order_of_jones-order.ensures;
  way_back_is = c.way_back_of_jones-way_back.ensures;
  moved_is = c.move_of_jones-moved.ensures;
  made_is = counted g.R.Tables.Store g.R.Makes.makes g.R.Databases.ends (codes "new.db") c.made_of_files-made.result c.args.machine.now
      c.made_of_files-made.new.machine c.made_of_files-made.ensures;
  ran_is = c.run_of_jones-ran.ensures;
}
