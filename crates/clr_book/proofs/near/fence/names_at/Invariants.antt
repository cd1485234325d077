use Rattle.std.proofs.Common.{◌≡◌, ◌++◌, drop}
use Rattle.std.specs.Prelude.{slice_get}
use Rattle.std.specs.List.{filter_map}
use Rattle.clr_net.specs.Grid.{section_names}
use Rattle.clr_book.proofs.near.fence.names_at.Given as goal

-- the names so far, and those at the places that are left, are all
abbrev pub invariant-loop-place : goal.invariant-loop-place
invariant-loop-place l =
    l.names.items ++ section_names (filter_map (slice_get l.fn.sections) (drop l.place-index l.fn.places)) ≡ section_names (filter_map (slice_get l.fn.sections) l.fn.places)
