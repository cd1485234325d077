use Rattle.std.proofs.Common.{◌≡◌, ◌++◌, map, drop, slice_get, filter_map}
use Rattle.clr_net.proofs.fence.rows_at.Given as goal

-- the rows so far, and those at the places that are left, are all
abbrev pub invariant-loop-place : goal.invariant-loop-place
invariant-loop-place g l = map (λ row. row.now) l.found.items ++ filter_map (slice_get l.fn.rows) (drop l.place-index l.fn.places) ≡ filter_map (slice_get l.fn.rows) l.fn.places
