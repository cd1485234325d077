use Rattle.clr_chain.proofs.Shallow.{lines_ahead_are_shallow, lines_ahead_go_on}
use Rattle.clr_chain.proofs.laws.lines_ahead_go_on.Goals as goal

pub returns-clause-begins : goal.returns-clause-begins
returns-clause-begins c = lines_ahead_go_on

pub returns-clause-shallow : goal.returns-clause-shallow
returns-clause-shallow c = lines_ahead_are_shallow
