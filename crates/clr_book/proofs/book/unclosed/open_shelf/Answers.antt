use Rattle.std.proofs.Common.{◌≡◌, ◌∙◌, Bor, ap, map}
use Rattle.std.proofs.lemmas.Result.{IfOk-weaker}
use Rattle.clr_book.proofs.NearFacts.{filter_shown}
use Rattle.clr_rules.specs.Id.{id_cmp, id_cmp_total}
use Rattle.clr_rules.specs.Records.{is_open, record_key}
use Rattle.clr_rules.specs.declared.record.Record.{Record}
use Rattle.clr_shelf.proofs.KeyOrder.{in_key_order-filter}
use Rattle.clr_shelf.specs.Rows.{in_key_order}
use Rattle.clr_book.specs.Book.{open_in}
use Rattle.clr_book.proofs.book.unclosed.open_shelf.Goals as goal

pub filled-requires : goal.filled-requires
filled-requires g c =
    let shows = λ (row : Bor Record). row.now in
    let unclosed = λ (row : Record). is_open row.phase in
    let all : map shows c.deref.result.now ≡ g.C.Shelf.rows c.args.records.now = ap (map shows) c.deref.ensures.value ∙ c.in_ok-rows.ensures in
    let kept : map shows c.deref-2.result.now ≡ open_in (g.C.Shelf.rows c.args.records.now) =
    ap (map shows) (c.deref-2.ensures.value ∙ c.in_ok-found.ensures) ∙ filter_shown shows unclosed c.deref.result.now ∙ ap open_in all in
    ap (in_key_order id_cmp record_key) kept
    ∙ in_key_order-filter id_cmp record_key id_cmp_total unclosed (g.C.Shelf.rows c.args.records.now) (g.met.C.Shelf.in_order c.args.records.now)

pub returns : goal.returns
returns g c =
    let shows = λ (row : Bor Record). row.now in
    let unclosed = λ (row : Record). is_open row.phase in
    let all : map shows c.deref.result.now ≡ g.C.Shelf.rows c.args.records.now = ap (map shows) c.deref.ensures.value ∙ c.in_ok-rows.ensures in
    let kept : map shows c.deref-2.result.now ≡ open_in (g.C.Shelf.rows c.args.records.now) =
    ap (map shows) (c.deref-2.ensures.value ∙ c.in_ok-found.ensures) ∙ filter_shown shows unclosed c.deref.result.now ∙ ap open_in all in
    IfOk-weaker c.filled.result _ _ (λ shelf is. is ∙ kept) c.filled.ensures
