use Rattle.std.proofs.Common.{ℕ, ◌++◌, take, arith, length-append, length-take}
use Rattle.clr_stream.proofs.Taken.{Consumes-append}
use Rattle.clr_stream.proofs.whole.read_whole.Goals as goal

-- the bytes of this read were taken too
pub returns-in_err-extend_from_slice-clause-bounded :
    goal.returns-in_err-extend_from_slice-clause-bounded
returns-in_err-extend_from_slice-clause-bounded g c = (
  c.loop-piece.bytes.items ++ take c.in-Ok.count c.read_counted.new.buf,
  Consumes-append _ _ _ _ _ c.loop-piece.invariant.taken c.in-Ok.ensures.bytes.0,
  omega (arith, length-append {A = ℕ}, length-take {A = ℕ}),
)
