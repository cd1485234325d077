use Rattle.std.proofs.Common.{◌≡◌, ◌≤◌, map, take, true, vec_len, vec_capacity}
use Rattle.clr_net.specs.Prelude.{list_all, has_ends, section_names}
use Rattle.clr_net.specs.Index.{ends_in}
use Rattle.clr_net.proofs.ways.fill_ends.Given as goal

abbrev pub invariant-loop-point : goal.invariant-loop-point
invariant-loop-point l = record {
  ends : l.ends.items ≡ map (ends_in (section_names l.sections)) (take l.point-index l.points);
  known : list_all (has_ends (section_names l.sections)) (take l.point-index l.points) ≡ true;
  len : vec_len l.ends ≡ l.point-index;
  room : vec_capacity l.initial.ends ≤ vec_capacity l.ends;
}
