use Rattle.clr_good.proofs.StaffedSay.{staffed_test_is_exact}
use Rattle.clr_good.proofs.laws.staffed_test_is_exact.Goals as goal

pub returns : goal.returns
returns c = staffed_test_is_exact
