use Rattle.std.proofs.Common.{◌≡◌, drop, filter}
use Rattle.clr_net.specs.Grid.{point_names}
use Rattle.clr_update.specs.Update.{is_misnamed}
use Rattle.clr_changes.specs.Touched.{first_of}
use Rattle.clr_changes.specs.Shown.{as_update}
use Rattle.clr_changes.proofs.naming.jumper_name.Given as goal

abbrev pub invariant-loop-jumper : goal.invariant-loop-jumper
invariant-loop-jumper l =
    first_of (point_names (filter (is_misnamed (as_update l.fn.update)) (drop l.jumper-index l.fn.jumpers))) ≡ first_of (point_names (filter (is_misnamed (as_update l.fn.update)) l.fn.jumpers))
