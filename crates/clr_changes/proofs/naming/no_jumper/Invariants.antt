use Rattle.std.proofs.Common.{◌≡◌, ◌||◌, drop, filter, not}
use Rattle.clr_net.specs.Grid.{point_names}
use Rattle.clr_net.specs.Names.{has_name}
use Rattle.clr_update.specs.Update.{is_filed}
use Rattle.clr_changes.specs.Touched.{first_of}
use Rattle.clr_changes.specs.Shown.{as_update}
use Rattle.clr_changes.proofs.naming.no_jumper.Given as goal

abbrev pub invariant-loop-name : goal.invariant-loop-name
invariant-loop-name l =
    first_of (filter (λ p. is_filed (as_update l.fn.update) p || not (has_name (point_names l.fn.jumpers) p)) (drop l.name-index l.fn.update.without.items))
    ≡ first_of (filter (λ p. is_filed (as_update l.fn.update) p || not (has_name (point_names l.fn.jumpers) p)) l.fn.update.without.items)
