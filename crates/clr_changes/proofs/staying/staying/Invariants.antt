use Rattle.std.proofs.Common.{◌≡◌, ◌++◌, ◌||◌, not, drop, filter}
use Rattle.clr_net.specs.Names.{has_name}
use Rattle.clr_update.specs.Update.{is_filed}
use Rattle.clr_changes.specs.Shown.{as_update}
use Rattle.clr_changes.proofs.staying.staying.Given as goal

-- the jumpers so far, and those that are left, are all
abbrev pub invariant-loop-point : goal.invariant-loop-point
invariant-loop-point l =
    l.found.items ++ filter (λ p. not (is_filed (as_update l.fn.update) p.name || has_name l.fn.update.without.items p.name)) (drop l.point-index l.fn.jumpers)
    ≡ filter (λ p. not (is_filed (as_update l.fn.update) p.name || has_name l.fn.update.without.items p.name)) l.fn.jumpers
