use Rattle.std.proofs.Common.{◌≡◌, ◌∷◌, [], None, Some, refl, rules, subst}
use Rattle.sqlite.specs.Held.{state}
use Rattle.sqlite.specs.Schema.{Schema}
use Rattle.sqlite_schema.specs.Names.{table_named}
use Rattle.clr_load.specs.TableEdits.{tables_edited}
use Rattle.clr_load.specs.TableText.{table_text}
use Rattle.clr_load.specs.Tables.{place_row}
use Rattle.clr_load.specs.declared.table_name.TableName.TheVariants.{Journal}
use Rattle.clr_store.specs.Change.{AddsJournal}
use Rattle.clr_store.specs.Transaction.{PlacesAs}
use Rattle.clr_store.proofs.Beginning.{begun_at, is_none}
use Rattle.clr_store.proofs.Ending.{begun, on_ok, transacts}
use Rattle.clr_store.proofs.place.begin_at.Given.{Over}
use Rattle.clr_store.proofs.place.begin_at.Goals as goal

unplaced : (g : Over) (c : goal.After-conn-1 g) → table_named c.args.conn.now.schema (table_text Journal) ≡ None
unplaced g c = subst (λ (s : Schema). table_named s (table_text Journal) ≡ None) c.schema.ensures.value (is_none c.has_journal.result _ c.if-has_journal.false c.has_journal.ensures)

pub returns-clause-unplaced : goal.returns-clause-unplaced
returns-clause-unplaced g c = on_ok c.conclude.result (unplaced g c)

pub returns-clause-transacts : goal.returns-clause-transacts
returns-clause-transacts g c =
    let old = c.args.conn.now in
    let mid = state g.S.Store c.add_journal-done.new.tx.conn.now in
    let row = place_row c.args.place.now in
    let same : c.conclude.new.tx.0 ≡ c.conn-1.given.0 = search rules in
    transacts g.S.Store old c.transaction-tx.result c.add_journal-done.new.tx c.conclude.new.tx.0 c.conn-1.given.0 (PlacesAs (Some c.args.place.now)) (tables_edited [])
    (λ h. AddsJournal (state g.S.Store h) mid (row ∷ [])) c.add_journal-done.result c.conclude.result c.transaction-tx.ensures.begun (c.if-not-is_autocommit.ensures.settled refl)
    c.add_journal-done.ensures (λ d. d.inside) (λ d. d.kept) (λ adds t has. begun_at (state g.S.Store (begun old)) mid row t has (unplaced g c) adds) same c.conclude.ensures
