use Rattle.std.proofs.Common.{take, flat_map, map}
use Rattle.clr_view.specs.Tokens.{Adds, data_tokens}
use Rattle.clr_view.specs.View.{holder_data}
use Rattle.clr_view.proofs.values.push_holders.Given as goal

-- the holds before the place are written
abbrev pub invariant-loop-hold : goal.invariant-loop-hold
invariant-loop-hold l = Adds (flat_map (λ h. data_tokens (holder_data h)) (take l.hold-index (map (λ hold. hold.now) l.holds))) l.initial.out l.out
