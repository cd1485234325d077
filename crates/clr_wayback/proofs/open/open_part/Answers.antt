use Rattle.std.proofs.Common.{◌≡◌, ◌∙◌, Bor, [], ap, filter, map, subst, sym, true}
use Rattle.std.specs.List.Sorted.{IsStrictlySortedBy}
use Rattle.clr_book.specs.Book.{open_in}
use Rattle.clr_net.proofs.ListFacts.{map-map}
use Rattle.clr_rules.specs.Id.{id_cmp, id_cmp_total}
use Rattle.clr_rules.specs.Records.{is_open, record_key}
use Rattle.clr_rules.specs.Register.{Register}
use Rattle.clr_rules.specs.StepKey.{step_key, step_key_cmp, step_key_cmp_total}
use Rattle.clr_rules.specs.declared.hold.Hold.{Hold}
use Rattle.clr_rules.specs.declared.record.Record.{Record}
use Rattle.clr_rules.specs.declared.step_row.StepRow.{StepRow}
use Rattle.clr_shelf.proofs.KeyOrder.{in_key_order-filter}
use Rattle.clr_shelf.specs.Rows.{in_key_order}
use Rattle.clr_wayback.proofs.OpenPart.{is_of, keys_rise, lacks_closed, open_ids}
use Rattle.clr_wayback.specs.Open.{bare_register}
use Rattle.clr_wayback.proofs.open.open_part.Goals as goal

pub rows_in-requires : goal.rows_in-requires
rows_in-requires g c =
    let R = c.args.book.now.register in
    let shows = λ (row : Bor Record). row.now in
    let records : map shows c.deref.result.now ≡ open_in R.records = ap (map shows) c.deref.ensures.value ∙ c.in_ok-open.ensures in
    let ids : c.deref-2.result.now ≡ open_ids R =
    c.deref-2.ensures.value ∙ c.in_ok-ids_of.ensures ∙ sym (map-map (λ (r : Record). r.id) shows c.deref.result.now) ∙ ap (map (λ (r : Record). r.id)) records in
    let ordered : in_key_order id_cmp record_key R.records ≡ true =
    ap (λ (T : Register). in_key_order id_cmp record_key T.records) c.shelves.ensures ∙ g.met.C.Shelf.in_order c.shelves.result.1.now in
    subst (IsStrictlySortedBy id_cmp) (sym ids)
    (keys_rise id_cmp record_key (open_in R.records) (in_key_order-filter id_cmp record_key id_cmp_total (λ (r : Record). is_open r.phase) R.records ordered))

pub filled-requires : goal.filled-requires
filled-requires g c =
    let R = c.args.book.now.register in
    let shows = λ (row : Bor Record). row.now in
    let records : map shows c.deref-3.result.now ≡ open_in R.records = ap (map shows) c.deref-3.ensures.value ∙ c.in_ok-open.ensures in
    let ordered : in_key_order id_cmp record_key R.records ≡ true =
    ap (λ (T : Register). in_key_order id_cmp record_key T.records) c.shelves.ensures ∙ g.met.C.Shelf.in_order c.shelves.result.1.now in
    ap (in_key_order id_cmp record_key) records
    ∙ in_key_order-filter id_cmp record_key id_cmp_total (λ (r : Record). is_open r.phase) R.records ordered

pub filled-requires-2 : goal.filled-requires-2
filled-requires-2 g c =
    let rows = g.T.Shelf.rows c.shelves.result.2.now in
    let shows = λ (row : Bor StepRow). row.now in
    let steps : map shows c.deref-4.result.now ≡ filter (is_of c.deref-2.result.now) rows = ap (map shows) c.deref-4.ensures.value ∙ c.in_ok-steps.ensures in
    ap (in_key_order step_key_cmp step_key) steps
    ∙ in_key_order-filter step_key_cmp step_key step_key_cmp_total (is_of c.deref-2.result.now) rows (g.met.T.Shelf.in_order c.shelves.result.2.now)

pub returns : goal.returns
returns g c good =
    let R = c.args.book.now.register in
    let shows = λ (row : Bor Record). row.now in
    let shown = λ (row : Bor StepRow). row.now in
    let listed : map shows c.deref.result.now ≡ open_in R.records = ap (map shows) c.deref.ensures.value ∙ c.in_ok-open.ensures in
    let ids : c.deref-2.result.now ≡ open_ids R =
    c.deref-2.ensures.value ∙ c.in_ok-ids_of.ensures ∙ sym (map-map (λ (r : Record). r.id) shows c.deref.result.now) ∙ ap (map (λ (r : Record). r.id)) listed in
    let all_steps : g.T.Shelf.rows c.shelves.result.2.now ≡ R.steps = ap (λ (T : Register). T.steps) (sym c.shelves.ensures) in
    let all_holds : g.H.Shelf.rows c.shelves.result.3.now ≡ R.holds = ap (λ (T : Register). T.holds) (sym c.shelves.ensures) in
    let records : g.C.Shelf.rows c.in_ok-records.records ≡ open_in R.records =
    c.in_ok-records.ensures ∙ ap (map shows) c.deref-3.ensures.value ∙ c.in_ok-open.ensures in
    let steps : g.T.Shelf.rows c.in_ok-steps-2.steps ≡ filter (is_of (open_ids R)) R.steps =
    c.in_ok-steps-2.ensures ∙ ap (map shown) c.deref-4.ensures.value ∙ c.in_ok-steps.ensures ∙ (λ i. filter (is_of (ids i)) (all_steps i)) in
    let holds : g.H.Shelf.rows c.in_ok-holds-2.holds ≡ R.holds =
    c.in_ok-holds-2.ensures ∙ ap (map (λ (h : Bor Hold). h.now)) c.deref-5.ensures.value ∙ c.in_ok-holds.ensures ∙ all_holds in
    let made : c.in_ok-bare_book.field-0.register ≡ record (bare_register R) { holds = [] } = c.in_ok-bare_book.ensures good in
    lacks_closed R good c.in_ok-part.part.register
    (c.in_ok-part.ensures.register ∙ (λ i. record (made i) { records = records i; steps = steps i; holds = holds i }))
