use Rattle.clr_edge.proofs.Bytes.{named}
use Rattle.clr_edge.proofs.files.bytes_from.Goals as goal

-- a fault names the file
pub returns-clause-bytes : goal.returns-clause-bytes
returns-clause-bytes g c = named c.args.file _ _ _ c.told_of.ensures c.bytes_in.ensures.bytes
