use Rattle.std.proofs.Common.{arith, sym, take_all}
use Rattle.std.proofs.lemmas.List.{length-take-le}
use Rattle.clr_chain.proofs.first.front_of.Goals as goal

pub slice_bounds-result-end : goal.slice_bounds-result-end
slice_bounds-result-end c = let long = c.if-bytes-gt-FRONT.true in sym (length-take-le 4096 c.args.bytes.now (omega (arith, long)))

pub returns-else-bytes-gt-FRONT : goal.returns-else-bytes-gt-FRONT
returns-else-bytes-gt-FRONT c = let short = c.if-bytes-gt-FRONT.false in sym (take_all 4096 c.args.bytes.now (omega (arith, short)))
