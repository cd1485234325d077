use Rattle.std.proofs.Common.{Option, IfSome, subst}
use Rattle.clr_journal.specs.Laws.{IsShallow}
use Rattle.clr_journal.specs.Line.{Entry}
use Rattle.clr_chain.proofs.Shallow.{next_is_shallow, read_are_shallow}
use Rattle.clr_checking.proofs.Runs.{is_run}
use Rattle.clr_checking.proofs.laws.replies_are_exact.Goals as goal

pub returns-clause-depth : goal.returns-clause-depth
returns-clause-depth c = λ end text receipt q reply is.
    subst (λ (o : Option Entry). IfSome o IsShallow) is (next_is_shallow end text)

pub returns-clause-exact : goal.returns-clause-exact
returns-clause-exact c = λ R S end texts are. is_run (read_are_shallow texts end) are
