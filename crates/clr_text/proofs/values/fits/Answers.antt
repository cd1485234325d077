use Rattle.std.proofs.Common.{arith}
use Rattle.std.proofs.lemmas.Bool.{le-leb}
use Rattle.clr_text.proofs.values.fits.Goals as goal

pub returns : goal.returns
returns c = le-leb c.args.number 65535 (omega arith)
