use Rattle.std.proofs.Common.{◌≡◌, ◌∙◌, ap, filter, sym}
use Rattle.clr_net.specs.Fence.{fence_has, touches}
use Rattle.clr_net.specs.Grid.{point_names}
use Rattle.clr_changes.specs.Touched.{first_of}
use Rattle.clr_changes.proofs.NeededRows.{first-append_none, first-append_some, touching-append}
use Rattle.clr_changes.proofs.touched.first_of_both.Goals as goal

pub returns-in-Some : goal.returns-in-Some
returns-in-Some c =
    let near = fence_has c.args.fence.now in
    let go = point_names (filter (touches near) c.args.go.now) in
    let come = point_names (filter (touches near) c.args.come.now) in
    sym (ap first_of (touching-append near c.args.go.now c.args.come.now) ∙ first-append_some go come c.in-Some.name (sym c.first_touching.ensures ∙ c.in-Some.is))

pub returns-in-None : goal.returns-in-None
returns-in-None c =
    let near = fence_has c.args.fence.now in
    let go = point_names (filter (touches near) c.args.go.now) in
    let come = point_names (filter (touches near) c.args.come.now) in
    c.first_touching-in-None.ensures
    ∙ sym (ap first_of (touching-append near c.args.go.now c.args.come.now) ∙ first-append_none go come (sym c.first_touching.ensures ∙ c.in-None.is))
