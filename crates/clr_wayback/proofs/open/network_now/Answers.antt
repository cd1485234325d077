use Rattle.std.proofs.Common.{◌≡◌, ◌∙◌, ap, map, rules, sym}
use Rattle.clr_net.proofs.ListFacts.{map-map}
use Rattle.clr_net.specs.Grid.{unplaced}
use Rattle.clr_load.specs.RowsRead.{with_its_position}
use Rattle.clr_wayback.proofs.OpenPart.{network_is}
use Rattle.clr_wayback.proofs.open.network_now.Goals as goal

pub returns-in-Ok : goal.returns-in-Ok
returns-in-Ok g c good =
    let R = c.args.book.now.register in
    let rows = c.points.result.now in
    let shown : map unplaced rows ≡ R.net.points = search rules in
    let sections : c.in_ok-sections.sections.items ≡ R.net.sections = search rules in
    let points : c.in_ok-points.points.items ≡ map (with_its_position R.states) R.net.points =
    c.in_ok-points.ensures ∙ sym (map-map (with_its_position R.states) unplaced rows) ∙ ap (map (with_its_position R.states)) shown in
    network_is R good c.in_ok-sections.sections.items c.in_ok-points.points.items c.in-Ok.network sections points c.in-Ok.ensures.1
