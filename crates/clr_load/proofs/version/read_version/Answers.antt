use Rattle.std.proofs.Common.{◌≡◌, ◌∙◌, Err, ap, sym, refl, rules}
use Rattle.sqlite.specs.Held.{state}
use Rattle.sqlite.specs.State.{HasCleanDisk}
use Rattle.clr_load.specs.RowsRead.{read_version}
use Rattle.clr_load.specs.declared.fault.StoreFault.TheVariants.{BadRow}
use Rattle.clr_load.specs.Cause.{SqlHasCause}
use Rattle.clr_load.proofs.Causes.{begun_cause, cause_later}
use Rattle.clr_load.proofs.Loading.{lists_meta}
use Rattle.clr_load.proofs.Versions.{meta_is_there, of_meta, tells_fault, told_of_meta}
use Rattle.clr_load.proofs.Inside.{clean_before, told_as}
use Rattle.clr_load.proofs.version.read_version.Goals as goal

pub returns-in_err-version-clause-version : goal.returns-in_err-version-clause-version
returns-in_err-version-clause-version g c clean meta has =
    let mid = c.list_rows.new.tx.conn.now in
    let end = c.drop-tx-in_err-version.new.self.0 in
    let late : HasCleanDisk (state g.S.Store end) = search rules in
    let early : HasCleanDisk (state g.S.Store mid) = clean_before _ _ _ c.drop-tx-in_err-version.ensures.survives late in
    let rows = lists_meta _ _ meta _ has (rw c.transaction-tx.ensures.begun at (c.in_ok-rows.ensures.shown early)) in
    let got : c.version_in.result ≡ Err c.in_err-version.field-0.0 = search rules in
    let told : c.from_residual-in_err-version.result ≡ Err (BadRow c.in_err-version.field-0.0) = told_as _ _ c.from_residual-in_err-version.ensures.1 in
    let read : read_version meta ≡ Err c.in_err-version.field-0.0 = sym (c.version_in.ensures ∙ ap read_version (c.deref.ensures.value ∙ rows)) ∙ got in
    tells_fault (read_version meta) c.from_residual-in_err-version.result c.in_err-version.field-0.0 read told

pub returns-in_err-rows-clause-cause : goal.returns-in_err-rows-clause-cause
returns-in_err-rows-clause-cause g c out clean meta has =
    let mid = c.list_rows.new.tx.conn.now in
    let end = c.drop-tx.new.self.0 in
    let begun = c.transaction-tx.ensures.begun in
    let late : HasCleanDisk (state g.S.Store end) = search rules in
    let early : HasCleanDisk (state g.S.Store mid) = clean_before _ _ _ c.drop-tx.ensures.survives late in
    let failed = rw begun at (c.in_err-rows.ensures.cause early (rw begun refl) refl meta (rw begun has)) in
    let caused : SqlHasCause (state g.S.Store c.args.conn.now) (state g.S.Store end) c.in_err-rows.field-0.0 =
    cause_later _ (state g.S.Store mid) _ _ _ c.drop-tx.ensures.survives (begun_cause g.S.Store c.args.conn.now (state g.S.Store mid) _ failed) in
    search rules

pub returns-in_err-version-clause-fault : goal.returns-in_err-version-clause-fault
returns-in_err-version-clause-fault g c =
    let got : c.version_in.result ≡ Err c.in_err-version.field-0.0 = search rules in
    let told : c.from_residual-in_err-version.result ≡ Err (BadRow c.in_err-version.field-0.0) = told_as _ _ c.from_residual-in_err-version.ensures.1 in
    told_of_meta c.from_residual-in_err-version.result c.in_err-version.field-0.0 (of_meta _ c.in_err-version.field-0.0 (sym c.version_in.ensures ∙ got)) told

pub returns-clause-version : goal.returns-clause-version
returns-clause-version g c clean meta has =
    let mid = c.list_rows.new.tx.conn.now in
    let end = c.drop-tx-2.new.self.0 in
    let late : HasCleanDisk (state g.S.Store end) = search rules in
    let early : HasCleanDisk (state g.S.Store mid) = clean_before _ _ _ c.drop-tx-2.ensures.survives late in
    let rows = lists_meta _ _ meta _ has (rw c.transaction-tx.ensures.begun at (c.in_ok-rows.ensures.shown early)) in
    let read : read_version meta ≡ c.version_in.result = sym (c.version_in.ensures ∙ ap read_version (c.deref.ensures.value ∙ rows)) in
    search rules

pub returns-then-not-has_meta-clause-cause : goal.returns-then-not-has_meta-clause-cause
returns-then-not-has_meta-clause-cause g c out clean meta has = absurd (meta_is_there (state g.S.Store c.args.conn.now).now meta has (search rules))

pub returns-clause-was_open : goal.returns-clause-was_open
returns-clause-was_open g c clean =
    let mid = c.list_rows.new.tx.conn.now in
    let end = c.drop-tx-2.new.self.0 in
    let late : HasCleanDisk (state g.S.Store end) = search rules in
    let early : HasCleanDisk (state g.S.Store mid) = clean_before _ _ _ c.drop-tx-2.ensures.survives late in
    let begun = c.transaction-tx.ensures.begun in
    rw begun at (c.in_ok-rows.ensures.lists.step early (rw begun refl)).was_open
