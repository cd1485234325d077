use Rattle.std.proofs.Common.{◌≡◌, ◌⊎◌, IsTrue, false, rules, subst}
use Rattle.std.specs.Prelude.{IfErr, IsErrAnd}
use Rattle.sqlite.specs.Held.{state}
use Rattle.sqlite.specs.State.{HasCleanDisk}
use Rattle.clr_load.proofs.TablesRead.{tables_are_read}
use Rattle.clr_load.specs.RowsRead.{rows_read}
use Rattle.clr_load.specs.Tables.{Tables, tables_of}
use Rattle.clr_load.specs.Cause.{SqlHasCause}
use Rattle.clr_load.specs.Contract.{GivesRows}
use Rattle.clr_load.specs.Fault.{IsOfDatabase}
use Rattle.clr_load.specs.Stored.{HasTables}
use Rattle.clr_load.proofs.AllGiven.{gives_back}
use Rattle.clr_store.proofs.store.Store.load.Goals as goal

pub returns-clause-rows : goal.returns-clause-rows
returns-clause-rows g c =
    let new = state g.S.Store c.load_rows.new.conn in
    let is : c.self.inside.connection ≡ c.args.self.now = search rules in
    subst (λ h. HasCleanDisk new → (t : Tables) → HasTables (state g.S.Store h).now t → GivesRows (rows_read t) c.load_rows.result)
    is c.load_rows.ensures.rows

pub returns-clause-register : goal.returns-clause-register
returns-clause-register g c clean R good typed has =
    let new = state g.S.Store c.load_rows.new.conn in
    let is : c.self.inside.connection ≡ c.args.self.now = search rules in
    let rows = subst (λ h. HasCleanDisk new → (t : Tables) → HasTables (state g.S.Store h).now t → GivesRows (rows_read t) c.load_rows.result)
    is c.load_rows.ensures.rows in
    gives_back R (rows_read (tables_of R)) c.load_rows.result
    (tables_are_read R good.besides.points_known.states good.said.in_order typed) (rows clean (tables_of R) has)

pub returns-clause-was_open : goal.returns-clause-was_open
returns-clause-was_open g c =
    let new = state g.S.Store c.load_rows.new.conn in
    let is : c.self.inside.connection ≡ c.args.self.now = search rules in
    subst (λ h. HasCleanDisk new → IsTrue (state g.S.Store h).is_open ⊎ IsErrAnd c.load_rows.result IsOfDatabase)
    is c.load_rows.ensures.was_open

pub returns-clause-cause : goal.returns-clause-cause
returns-clause-cause g c clean t has =
    let new = state g.S.Store c.load_rows.new.conn in
    let is : c.self.inside.connection ≡ c.args.self.now = search rules in
    let out : c.self.inside.connection.in_transaction ≡ false = search rules in
    subst (λ h. (t : Tables) → HasTables (state g.S.Store h).now t → IfErr c.load_rows.result (SqlHasCause (state g.S.Store h) new))
    is (c.load_rows.ensures.cause out clean) t has
