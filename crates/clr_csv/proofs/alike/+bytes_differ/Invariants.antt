use Rattle.std.proofs.Common.{length}
use Rattle.clr_csv.proofs.alike.+bytes_differ.Given as goal

abbrev pub decreases-bytes_differ : goal.decreases-bytes_differ
decreases-bytes_differ l = length l.name.now
