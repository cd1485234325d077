use Rattle.clr_verify.proofs.Flat.{exact, read_are_flat}
use Rattle.clr_verify.proofs.laws.replies_are_exact.Goals as goal

pub returns-clause-depth : goal.returns-clause-depth
returns-clause-depth c = read_are_flat

pub returns-clause-exact : goal.returns-clause-exact
returns-clause-exact c = exact
