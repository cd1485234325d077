use Rattle.std.proofs.Common.{◌≡◌, ◌⊎◌, IsTrue, false, rules, subst}
use Rattle.std.specs.Prelude.{IfErr, IsErrAnd}
use Rattle.sqlite.specs.Held.{state}
use Rattle.sqlite.specs.State.{HasCleanDisk}
use Rattle.clr_load.specs.RowsRead.{rows_read}
use Rattle.clr_load.specs.Tables.{Tables}
use Rattle.clr_load.specs.Cause.{SqlHasCause}
use Rattle.clr_load.specs.Fault.{IsOfDatabase}
use Rattle.clr_load.specs.Filling.{GivesInto, IsLoaded}
use Rattle.clr_load.specs.Stored.{HasTables}
use Rattle.clr_store.proofs.store.Store.load_into.Goals as goal

pub returns-clause-rows : goal.returns-clause-rows
returns-clause-rows g c =
    let new = state g.S.Store c.load_into.new.conn in
    let is : c.self.inside.connection ≡ c.args.self.now = search rules in
    subst (λ h. HasCleanDisk new → (t : Tables) → HasTables (state g.S.Store h).now t
    → GivesInto (IsLoaded g.C.Fill.has g.T.Fill.has g.H.Fill.has) (rows_read t) c.load_into.result)
    is c.load_into.ensures.rows

pub returns-clause-cause : goal.returns-clause-cause
returns-clause-cause g c clean t has =
    let new = state g.S.Store c.load_into.new.conn in
    let is : c.self.inside.connection ≡ c.args.self.now = search rules in
    let out : c.self.inside.connection.in_transaction ≡ false = search rules in
    subst (λ h. (t : Tables) → HasTables (state g.S.Store h).now t → IfErr c.load_into.result (SqlHasCause (state g.S.Store h) new))
    is (c.load_into.ensures.cause out clean) t has

pub returns-clause-was_open : goal.returns-clause-was_open
returns-clause-was_open g c =
    let new = state g.S.Store c.load_into.new.conn in
    let is : c.self.inside.connection ≡ c.args.self.now = search rules in
    subst (λ h. HasCleanDisk new → IsTrue (state g.S.Store h).is_open ⊎ IsErrAnd c.load_into.result IsOfDatabase)
    is c.load_into.ensures.was_open
