use Rattle.std.proofs.Common.{◌≡◌, ◌∙◌, ◌||◌, ap, filter, map, refl, subst, Bor, List, ℕ, Bool, Option, sym}
use Rattle.std.proofs.lemmas.Cmp.{nat_list_cmp_total}
use Rattle.clr_net.specs.Name.{name_cmp}
use Rattle.clr_net.specs.Names.{has_name}
use Rattle.clr_net.specs.declared.point.PointRow.{PointRow}
use Rattle.clr_net.specs.declared.section.SectionRow.{SectionRow}
use Rattle.clr_rules.specs.Answer.{known_of}
use Rattle.clr_rules.specs.Register.{Register}
use Rattle.clr_rules.proofs.near.NearNamed.{near_beside, none_crossed}
use Rattle.clr_rules.specs.Good.{ListsAreInOrder}
use Rattle.clr_rules.specs.Hold.{hold_cmp, hold_cmp_total}
use Rattle.clr_rules.specs.Holds.{hold_key, is_near_hold, is_own}
use Rattle.clr_rules.specs.Id.{Id, id_cmp, id_cmp_total}
use Rattle.clr_rules.specs.Near.{is_asked, is_beside, part_beside, switched_points, touches_fence}
use Rattle.clr_rules.specs.Records.{record_key}
use Rattle.clr_net.specs.Grid.{IsNetwork, unplaced}
use Rattle.clr_rules.specs.States.{state_key}
use Rattle.clr_shelf.proofs.KeyOrder.{in_key_order-filter}
use Rattle.clr_book.specs.Book.{Shelved}
use Rattle.clr_book.proofs.NearFacts.{lent_whole}
use Rattle.clr_answer.proofs.OrderPositions.{unplaced_kept, unplaced_shown}
use Rattle.clr_answer.proofs.SortedRows.{rising-filter}
use Rattle.clr_book.proofs.book.Book.near_clearance.Goals as goal

pub returns : goal.returns
returns g c =
    let R = c.args.self.now.register in
    let q = c.args.command.now in
    let k = known_of R q in
    let own = c.clearance-own.ensures in
    let names = c.in_ok-fence.ensures.sections in
    let near_point = λ (p : List ℕ). c.in_ok-beside.ensures.same p
    ∙ ap (λ (names : List (List ℕ)). touches_fence R.net (has_name names) p || has_name (switched_points R q.kind) p) names in
    let beside : has_name c.in_ok-beside.field-0.names.items ≡ is_beside R k q.kind = λ i p. near_point p i in
    let at_holds : has_name c.deref-2.result.now ≡ is_beside R k q.kind = ap has_name c.deref-2.ensures.value ∙ beside in
    lent_whole _ k (part_beside R q)
    c.greatest_for.ensures.value
    names
    (sym (none_crossed R q.kind c.requires))
    (c.in_ok-sections.ensures ∙ ap (λ (names : List (List ℕ)). filter (λ row. has_name names row.name || is_asked q.kind row.name) R.net.sections) names)
    (unplaced_shown (λ (row : Bor PointRow). row.now) c.in_ok-beside.field-0.rows.items
    ∙ ap (map unplaced) (c.in_ok-beside.ensures.rows ∙ (λ i. filter (λ row. beside i row.name) c.args.self.now.network.points)
    ∙ ap (λ (v : Shelved). filter (λ row. is_beside R k q.kind row.name) v.network.points) (sym c.self.view_is))
    ∙ sym (unplaced_kept (λ (row : PointRow). is_beside R k q.kind row.name) (λ p. refl) c.self.inside.network.points)
    ∙ ap (λ (v : Shelved). filter (λ row. is_beside R k q.kind row.name) v.register.net.points) c.self.view_is)
    (ap (λ (v : Shelved). v.register.staff) c.self.view_is)
    (c.in_ok-beside.ensures.states ∙ ap (λ (near : List ℕ → Bool). filter (λ state. near state.point) R.states) beside)
    (c.in_ok-own_records.ensures ∙ ap (λ (o : Option Id). filter (λ r. is_own o r.id) R.records) own)
    (c.in_ok-own_steps.ensures ∙ ap (λ (o : Option Id). filter (λ row. is_own o row.id) R.steps) own)
    (c.in_ok-holds_near.ensures ∙ (λ i. filter (is_near_hold (has_name ((c.deref.ensures.value ∙ names) i)) (at_holds i) (own i)) R.holds))
    ∙ ap (λ (rows : Register). record { known = k; rows = rows }) (sym (near_beside R q c.requires))

pub invariant_of-near : goal.invariant_of-near
invariant_of-near g c =
    let R = c.args.self.now.register in
    let N = c.self.inside.network in
    let fence = c.in_ok-fence.fence.sections.items in
    let beside = c.in_ok-beside.field-0.names.items in
    let sections : R.net.sections ≡ N.sections = ap (λ (v : Shelved). v.register.net.sections) (sym c.self.view_is) in
    let points : c.args.self.now.network.points ≡ N.points = ap (λ (v : Shelved). v.network.points) (sym c.self.view_is) in
    let net : IsNetwork N = c.is_network.ensures in
    let lists : ListsAreInOrder R = subst (λ (v : Shelved). ListsAreInOrder v.register) c.self.view_is (record {
      states = g.met.P.Shelf.in_order c.self.inside.states;
      records = g.met.C.Shelf.in_order c.self.inside.records;
      steps = g.met.T.Shelf.in_order c.self.inside.steps;
      holds = g.met.H.Shelf.in_order c.self.inside.holds;
    }) in (
      c.greatest_for.ensures.range,
      rw (c.in_ok-sections.ensures, sections)
          (rising-filter name_cmp (λ (row : SectionRow). row.name) (λ row. has_name fence row.name || is_asked c.args.command.now.kind row.name) N.sections net.sections_rise),
      rw (c.in_ok-beside.ensures.rows, points)
          (rising-filter name_cmp (λ (row : PointRow). row.name) (λ row. has_name beside row.name) N.points net.points_rise),
      c.in_ok-fence.ensures.rising,
      rw c.in_ok-beside.ensures.states
          (in_key_order-filter name_cmp state_key nat_list_cmp_total (λ state. has_name beside state.point) R.states lists.states),
      rw c.in_ok-own_records.ensures
          (in_key_order-filter id_cmp record_key id_cmp_total (λ r. is_own c.clearance-own.result r.id) R.records lists.records),
      rw c.in_ok-holds_near.ensures
          (in_key_order-filter hold_cmp hold_key hold_cmp_total (is_near_hold (has_name c.deref.result.now) (has_name c.deref-2.result.now) c.clearance-own.result) R.holds lists.holds),
    )
