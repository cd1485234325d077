use Rattle.std.proofs.Common.{take, flat_map}
use Rattle.clr_view.specs.Tokens.{Adds, data_tokens}
use Rattle.clr_view.specs.View.{point_data}
use Rattle.clr_view.proofs.view.Drawing.push_point_list.Given as goal

-- the points before the place are written
abbrev pub invariant-loop-point : goal.invariant-loop-point
invariant-loop-point g l = Adds (flat_map (λ p. data_tokens (point_data l.self p)) (take l.point-index l.points)) l.initial.out l.out
