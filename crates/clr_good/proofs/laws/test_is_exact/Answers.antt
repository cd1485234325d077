use Rattle.clr_good.proofs.TestIsExact.{test_is_exact}
use Rattle.clr_good.proofs.laws.test_is_exact.Goals as goal

pub returns : goal.returns
returns c = test_is_exact
