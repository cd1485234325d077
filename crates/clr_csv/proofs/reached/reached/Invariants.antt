use Rattle.std.proofs.Common.{◌≡◌, ℕ, List, take}
use Rattle.clr_net.specs.Names.{has_name}
use Rattle.clr_csv.proofs.Sources.{reached_from}
use Rattle.clr_csv.proofs.reached.reached.Given as goal

-- the names are those of the sections that a source reaches, of the first ones
abbrev pub invariant-loop-section : goal.invariant-loop-section
invariant-loop-section l =
    (s : List ℕ) → has_name l.names.items s ≡ reached_from l.network (take l.section-index l.section-items) s
