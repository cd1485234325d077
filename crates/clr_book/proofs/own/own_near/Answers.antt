use Rattle.std.proofs.Common.{◌≡◌, ◌∙◌, ℕ, true, List, Option, option_to_list, ap, filter, map, refl, subst, sym, Bor, arith}
use Rattle.std.specs.List.Sorted.{IsStrictlySortedBy}
use Rattle.std.proofs.lemmas.Cmp.{nat_list_cmp_total}
use Rattle.clr_book.proofs.NearFacts.{lent_whole}
use Rattle.clr_book.proofs.NearGroups.{has_name-back}
use Rattle.clr_net.specs.Grid.{unplaced}
use Rattle.clr_net.specs.Name.{name_cmp}
use Rattle.clr_net.specs.Names.{has_name}
use Rattle.clr_net.specs.declared.point.PointRow.{PointRow}
use Rattle.clr_net.specs.declared.section.SectionRow.{SectionRow}
use Rattle.clr_rules.specs.Hold.{hold_cmp, hold_cmp_total}
use Rattle.clr_rules.specs.Holds.{hold_key}
use Rattle.clr_rules.specs.Id.{same_id}
use Rattle.clr_rules.specs.Records.{record_of}
use Rattle.clr_rules.specs.Register.{Register}
use Rattle.clr_rules.specs.States.{state_key}
use Rattle.clr_rules.specs.Steps.{steps_of}
use Rattle.clr_rules.specs.declared.point_state.PointState.{PointState}
use Rattle.clr_rules.specs.declared.record.Record.{Record}
use Rattle.clr_rules.specs.declared.step_row.StepRow.{StepRow}
use Rattle.clr_shelf.proofs.KeyOrder.{in_key_order-filter}
use Rattle.clr_shelf.specs.Rows.{in_key_order}
use Rattle.clr_book.specs.Own.{looks_at, looks_by, own_rows, points_among, points_at, sections_among, sections_at}
use Rattle.clr_book.proofs.Enough.{known_by}
use Rattle.clr_book.proofs.OwnRows.{fence_rises, one_in_order, own_found, sections_rise}
use Rattle.clr_book.proofs.own.own_near.Goals as goal

pub looked_holds-requires-clause-sections : goal.looked_holds-requires-clause-sections
looked_holds-requires-clause-sections g c =
    subst (λ (names : List (List ℕ)). IsStrictlySortedBy name_cmp names) (sym (c.deref-3.ensures.value ∙ c.in_ok-sections.ensures)) (sections_rise _ c.args.kind.now)

pub invariant_of-near : goal.invariant_of-near
unfolding IsStrictlySortedBy
invariant_of-near g c = (
  (omega arith),
  rw c.new.ensures.items tt,
  rw c.new-2.ensures.items tt,
  subst (λ (names : List (List ℕ)). IsStrictlySortedBy name_cmp names) (sym c.in_ok-fence.ensures) (fence_rises c.args.kind.now),
  subst (λ (rows : List PointState). in_key_order name_cmp state_key rows ≡ true)
      (sym (c.in_ok-states.ensures ∙ (λ i. filter (λ (state : PointState). has_name-back c.deref-2.result.now state.point i) (g.P.Shelf.rows c.shelves.result.0.now))))
      (in_key_order-filter name_cmp state_key nat_list_cmp_total (λ (state : PointState). has_name c.deref-2.result.now state.point) (g.P.Shelf.rows c.shelves.result.0.now)
      (g.met.P.Shelf.in_order c.shelves.result.0.now)),
  rw c.in_ok-records.ensures (one_in_order _),
  rw c.in_ok-holds.ensures
      (in_key_order-filter hold_cmp hold_key hold_cmp_total (looks_by (has_name c.deref-3.result.now) (has_name c.deref-4.result.now) c.args.id c.args.kind.now)
      (g.H.Shelf.rows c.shelves.result.3.now) (g.met.H.Shelf.in_order c.shelves.result.3.now)),
)

pub returns : goal.returns
unfolding steps_of
returns g c =
    let R = c.args.book.now.register in
    let id = c.args.id in
    let kind = c.args.kind.now in
    let states = g.P.Shelf.rows c.shelves.result.0.now in
    let records = g.C.Shelf.rows c.shelves.result.1.now in
    let holds = g.H.Shelf.rows c.shelves.result.3.now in
    let whole : R ≡ _ = c.shelves.ensures in
    let own_steps : map (λ (row : Bor StepRow). row.now) c.in_ok-steps.steps.items ≡ filter (λ row. same_id id row.id) R.steps =
    c.in_ok-steps.ensures ∙ ap (λ (X : Register). filter (λ row. same_id id row.id) X.steps) (sym whole) in
    let near_point = λ (p : List ℕ). c.in_ok-points.ensures.same p
    ∙ ap (λ (rows : List StepRow). has_name (points_among rows kind) p) (ap (map (λ (row : Bor StepRow). row.now)) c.deref.ensures.value ∙ own_steps) in
    let points : has_name c.in_ok-points.points.items ≡ has_name (points_at R id kind) = λ i p. near_point p i in
    let found : record_of records id ≡ record_of R.records id = ap (λ (X : Register). record_of X.records id) (sym whole) in
    let sections : c.in_ok-sections.sections.items ≡ sections_at R id kind =
    c.in_ok-sections.ensures ∙ ap (λ (o : Option Record). sections_among o kind) (c.get-found.ensures ∙ found) in
    let at_points : has_name c.deref-4.result.now ≡ has_name (points_at R id kind) = ap has_name c.deref-4.ensures.value ∙ points in
    lent_whole _ (known_by kind) (own_rows R id kind)
    refl
    c.in_ok-fence.ensures
    refl
    (ap (map (λ (row : Bor SectionRow). row.now)) c.new.ensures.items)
    (ap (map (λ (row : Bor PointRow). unplaced row.now)) c.new-2.ensures.items)
    c.staff.ensures
    (c.in_ok-states.ensures
    ∙ (λ i. filter (λ (state : PointState). has_name-back c.deref-2.result.now state.point i) states)
    ∙ ap (λ (names : List (List ℕ)). filter (λ state. has_name names state.point) states) c.deref-2.ensures.value
    ∙ (λ i. filter (λ state. points i state.point) states)
    ∙ ap (λ (X : Register). filter (λ state. has_name (points_at R id kind) state.point) X.states) (sym whole))
    (c.in_ok-records.ensures ∙ ap option_to_list c.get-found.ensures ∙ sym (own_found id records (g.met.C.Shelf.in_order c.shelves.result.1.now))
    ∙ ap (λ (X : Register). filter (λ r. same_id id r.id) X.records) (sym whole))
    own_steps
    (c.in_ok-holds.ensures
    ∙ (λ i. filter (looks_by (has_name ((c.deref-3.ensures.value ∙ sections) i)) (at_points i) id kind) holds)
    ∙ ap (λ (X : Register). filter (looks_at R id kind) X.holds) (sym whole))
