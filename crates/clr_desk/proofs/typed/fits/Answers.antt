use Rattle.std.proofs.Common.{arith}
use Rattle.std.proofs.lemmas.Bool.{le-leb}
use Rattle.clr_desk.proofs.typed.fits.Goals as goal

pub returns-clause-round : goal.returns-clause-round
returns-clause-round c = le-leb c.args.round 255 (omega arith)

pub returns-clause-ordinal : goal.returns-clause-ordinal
returns-clause-ordinal c = le-leb c.args.ordinal 65535 (omega arith)
