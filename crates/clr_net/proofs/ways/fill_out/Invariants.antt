use Rattle.std.proofs.Common.{◌≡◌, ◌≤◌, ◌+◌, vec_len, vec_capacity}
use Rattle.clr_net.specs.Index.{IsAround, ways_in}
use Rattle.clr_net.proofs.ways.fill_out.Given as goal

abbrev pub invariant-loop-point : goal.invariant-loop-point
invariant-loop-point l = record {
  around : IsAround l.ends l.point (ways_in l.out.items);
  len : vec_len l.out ≡ l.point + l.point;
  room : vec_capacity l.initial.out ≤ vec_capacity l.out;
}
