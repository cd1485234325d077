use Rattle.std.proofs.Common.{◌∙◌, sym}
use Rattle.clr_net.specs.Grid.{point_names}
use Rattle.clr_net.proofs.CutPlaces.{cut_none, cut_some}
use Rattle.clr_net.proofs.reach.cut_places.Goals as goal
use Rattle.clr_net.proofs.reach.cut_places.Goals.{in-Some+in_ok-push, in_default}

pub loop-name-preserved : goal.loop-name-preserved
loop-name-preserved c =
    let names = point_names c.args.points.now in
    let n = c.name-item.result in
    elim c.match-place_of.branch [
      | in-Some+in_ok-push w ↦
          rw (w.places-is, w.in_ok-push.ensures.items)
          (cut_some names c.args.cut.now c.loop-name.name-index n c.loop-name.places.items w.in-Some.place c.requires c.loop-name-test.true c.name-item.is (sym c.place_of.ensures ∙ w.in-Some.is) c.loop-name.invariant)
      | in_default w ↦
          rw w.places-is
          (cut_none names c.args.cut.now c.loop-name.name-index n c.loop-name.places.items c.loop-name-test.true c.name-item.is (sym c.place_of.ensures ∙ w.in_default.is) c.loop-name.invariant)
    ]
