use Rattle.std.proofs.Common.{◌≡◌, ◌∙◌, ap, map, sym}
use Rattle.clr_net.proofs.ListFacts.{map-map}
use Rattle.clr_net.specs.Grid.{Grid, unplaced}
use Rattle.clr_rules.specs.Register.{Register}
use Rattle.clr_load.specs.RowsRead.{with_its_position}
use Rattle.clr_desk.proofs.copy.lists_of.Goals as goal

pub returns-clause-points : goal.returns-clause-points
returns-clause-points g c =
    let R = c.args.book.now.register in
    let rows = c.points.result.now in
    let shown : map unplaced rows ≡ R.net.points = ap (map unplaced) c.points.ensures.rows ∙ ap (λ (n : Grid). n.points) c.network-network.ensures.register in
    c.in_ok-points.ensures ∙ sym (map-map (with_its_position R.states) unplaced rows) ∙ ap (map (with_its_position R.states)) shown

pub returns-clause-sections : goal.returns-clause-sections
returns-clause-sections g c = c.in_ok-sections.ensures.items ∙ c.sections.ensures.rows ∙ ap (λ (n : Grid). n.sections) c.network-network.ensures.register

pub returns-clause-states : goal.returns-clause-states
returns-clause-states g c = c.in_ok-states.ensures ∙ ap (λ (r : Register). r.states) (sym c.shelves.ensures)

pub returns-clause-staff : goal.returns-clause-staff
returns-clause-staff g c = c.in_ok-staff.ensures.items ∙ c.rows.ensures.rows ∙ c.staff.ensures
