use Rattle.std.proofs.Common.{◌≡◌, ◌≤◌, ◌∙◌, Err, Ok, ap, false, length, pos, arith, rules, subst, sym}
use Rattle.std.specs.Prelude.{IfErr, IsTrue}
use Rattle.sqlite.specs.Effect.{Database}
use Rattle.sqlite.specs.Held.{state}
use Rattle.sqlite.specs.State.{HasCleanDisk}
use Rattle.clr_load.specs.RowsRead.{read_version}
use Rattle.clr_load.specs.Cause.{SqlHasCause}
use Rattle.clr_load.specs.Contract.{TellsVersion}
use Rattle.clr_load.specs.Fault.{IsOfExpected}
use Rattle.clr_load.specs.declared.table_name.TableName.TheVariants.{Journal, Point}
use Rattle.clr_load.specs.Layout.{tree_in, version_of}
use Rattle.clr_load.specs.Schema.{schema_in}
use Rattle.clr_load.specs.Stored.{HasMeta, HasVersion, IsPlaced}
use Rattle.clr_load.proofs.Causes.{then_cause}
use Rattle.clr_load.proofs.Inside.{both_survive, clean_before, told_as}
use Rattle.clr_load.specs.declared.fault.StoreFault.TheVariants.{OtherTables}
use Rattle.clr_load.proofs.Versioned.{numbered_as, one_layout}
use Rattle.clr_load.proofs.Versions.{expected_tables, expected_version, surely, tells_tables, tells_version, version_not_other}
use Rattle.clr_load.proofs.expected.expect_version.Goals as goal

pub returns-in_err-version-clause-version : goal.returns-in_err-version-clause-version
returns-in_err-version-clause-version g c clean meta has =
    let told : c.from_residual.result ≡ Err c.in_err-version.field-0.0 = told_as _ _ c.from_residual.ensures.1 in
    subst (TellsVersion c.args.oldest (read_version meta)) (sym told) (tells_version c.args.oldest (read_version meta) (Err c.in_err-version.field-0.0) (c.in_err-version.ensures.version clean meta has))

pub returns-in_err-version-clause-fault : goal.returns-in_err-version-clause-fault
returns-in_err-version-clause-fault g c =
    let told : c.from_residual.result ≡ Err c.in_err-version.field-0.0 = told_as _ _ c.from_residual.ensures.1 in
    subst (λ r. IfErr r IsOfExpected) (sym told) (expected_version _ c.in_err-version.ensures.fault)

pub returns-in_err-version-clause-other : goal.returns-in_err-version-clause-other
returns-in_err-version-clause-other g c clean =
    let told : c.from_residual.result ≡ Err c.in_err-version.field-0.0 = told_as _ _ c.from_residual.ensures.1 in
    subst (λ r. IfErr r (λ fault. fault ≡ OtherTables → (n : _) → HasVersion n (state g.S.Store c.args.conn.now).now → ⊥)) (sym told)
    (λ is n has. version_not_other _ c.in_err-version.ensures.fault is)

pub returns-in_err-version-clause-cause : goal.returns-in_err-version-clause-cause
returns-in_err-version-clause-cause g c out clean meta has =
    let told : c.from_residual.result ≡ Err c.in_err-version.field-0.0 = told_as _ _ c.from_residual.ensures.1 in
    subst (λ r. IfErr r (SqlHasCause (state g.S.Store c.args.conn.now) (state g.S.Store c.read_version.new.conn))) (sym told) (c.in_err-version.ensures.cause out clean meta has)

-- the tables were looked at before the version was read
pub returns-in_err-expect_rows-clause-version : goal.returns-in_err-expect_rows-clause-version
returns-in_err-expect_rows-clause-version g c clean meta has =
    let early : HasCleanDisk (state g.S.Store c.read_version.new.conn) = clean_before _ _ _ c.expect_rows.ensures.survives clean in
    let told : c.from_residual-in_err-expect_rows.result ≡ Err c.in_err-expect_rows.field-0.0 = told_as _ _ c.from_residual-in_err-expect_rows.ensures.1 in
    let number = c.in-Some.ensures.some in
    let is : c.in_ok-version.version ≡ pos c.in-Some.number = search rules in
    let low : c.args.oldest ≤ c.in-Some.number = omega (arith, c.if-number-oldest.false) in
    subst (TellsVersion c.args.oldest (read_version meta)) (sym told)
    (tells_tables c.args.oldest c.in-Some.number (read_version meta) _ c.in_err-expect_rows.ensures.fault (c.in_ok-version.ensures.version early meta has ∙ ap Ok is) low number.2)

pub returns-in_err-expect_rows-clause-same : goal.returns-in_err-expect_rows-clause-same
returns-in_err-expect_rows-clause-same g c clean shown =
    let early : HasCleanDisk (state g.S.Store c.read_version.new.conn) = clean_before _ _ _ c.expect_rows.ensures.survives clean in
    c.expect_rows.ensures.same clean shown ∙ c.in_ok-version.ensures.same early ((c.expect_rows.ensures.stays clean).was_open shown)

pub returns-in_err-expect_place-clause-same : goal.returns-in_err-expect_place-clause-same
returns-in_err-expect_place-clause-same g c clean shown =
    let between : HasCleanDisk (state g.S.Store c.expect_rows.new.conn) = clean_before _ _ _ c.expect_place.ensures.survives clean in
    let early : HasCleanDisk (state g.S.Store c.read_version.new.conn) = clean_before _ _ _ c.expect_rows.ensures.survives between in
    let then_open = (c.expect_place.ensures.stays clean).was_open shown in
    c.expect_place.ensures.same clean shown ∙ c.expect_rows.ensures.same between then_open ∙ c.in_ok-version.ensures.same early ((c.expect_rows.ensures.stays between).was_open then_open)

pub returns-clause-same : goal.returns-clause-same
returns-clause-same g c clean shown =
    let between : HasCleanDisk (state g.S.Store c.expect_rows.new.conn) = clean_before _ _ _ c.expect_place.ensures.survives clean in
    let early : HasCleanDisk (state g.S.Store c.read_version.new.conn) = clean_before _ _ _ c.expect_rows.ensures.survives between in
    let then_open = (c.expect_place.ensures.stays clean).was_open shown in
    c.expect_place.ensures.same clean shown ∙ c.expect_rows.ensures.same between then_open ∙ c.in_ok-version.ensures.same early ((c.expect_rows.ensures.stays between).was_open then_open)

pub returns-then-version-number-clause-other : goal.returns-then-version-number-clause-other
returns-then-version-number-clause-other g c clean is n has =
    let old = state g.S.Store c.args.conn.now in
    let version : c.in_ok-version.version ≡ pos c.in-Some.number = search rules in
    let there = numbered_as n c.in-Some.number old.now has (λ meta first. c.in_ok-version.ensures.version clean meta first ∙ ap Ok version) in
    let schema : old.now.schema ≡ schema_in c.in-Some-found.layout = sym c.schema.ensures.value ∙ c.in-Some-found.ensures.found in
    let same : there.layout ≡ c.in-Some-found.layout = one_layout there.layout c.in-Some-found.layout (sym there.here.holds.schema ∙ schema) in
    let told : version_of c.in-Some-found.layout ≡ c.in-Some.number = sym (ap version_of same) ∙ there.version_is in
    search rules

pub returns-in_err-expect_rows-clause-committed : goal.returns-in_err-expect_rows-clause-committed
returns-in_err-expect_rows-clause-committed g c clean shown =
    let early : HasCleanDisk (state g.S.Store c.read_version.new.conn) = clean_before _ _ _ c.expect_rows.ensures.survives clean in
    c.expect_rows.ensures.committed clean shown ∙ c.in_ok-version.ensures.committed early ((c.expect_rows.ensures.stays clean).was_open shown)

pub returns-in_err-expect_place-clause-committed : goal.returns-in_err-expect_place-clause-committed
returns-in_err-expect_place-clause-committed g c clean shown =
    let between : HasCleanDisk (state g.S.Store c.expect_rows.new.conn) = clean_before _ _ _ c.expect_place.ensures.survives clean in
    let early : HasCleanDisk (state g.S.Store c.read_version.new.conn) = clean_before _ _ _ c.expect_rows.ensures.survives between in
    let then_open = (c.expect_place.ensures.stays clean).was_open shown in
    c.expect_place.ensures.committed clean shown ∙ c.expect_rows.ensures.committed between then_open ∙ c.in_ok-version.ensures.committed early ((c.expect_rows.ensures.stays between).was_open then_open)

pub returns-clause-committed : goal.returns-clause-committed
returns-clause-committed g c clean shown =
    let between : HasCleanDisk (state g.S.Store c.expect_rows.new.conn) = clean_before _ _ _ c.expect_place.ensures.survives clean in
    let early : HasCleanDisk (state g.S.Store c.read_version.new.conn) = clean_before _ _ _ c.expect_rows.ensures.survives between in
    let then_open = (c.expect_place.ensures.stays clean).was_open shown in
    c.expect_place.ensures.committed clean shown ∙ c.expect_rows.ensures.committed between then_open ∙ c.in_ok-version.ensures.committed early ((c.expect_rows.ensures.stays between).was_open then_open)

pub returns-clause-alone : goal.returns-clause-alone
returns-clause-alone g c clean n is one low two meta has =
    let between : HasCleanDisk (state g.S.Store c.expect_rows.new.conn) = clean_before _ _ _ c.expect_place.ensures.survives clean in
    let early : HasCleanDisk (state g.S.Store c.read_version.new.conn) = clean_before _ _ _ c.expect_rows.ensures.survives between in
    let still : IsTrue (state g.S.Store c.expect_rows.new.conn).is_open = c.in_ok-expect_rows.ensures.still_open between in
    let open_then = (c.expect_rows.ensures.stays between).was_open still in
    let same = c.in_ok-version.ensures.same early open_then in
    let rows = c.in_ok-expect_rows.ensures.alone between meta (subst (λ (db : Database). HasMeta db meta) (sym same) has) in
    search rules

pub returns-clause-laid_out : goal.returns-clause-laid_out
returns-clause-laid_out g c clean n is low old high =
    let before = state g.S.Store c.args.conn.now in
    let mid = state g.S.Store c.read_version.new.conn in
    let between : HasCleanDisk (state g.S.Store c.expect_rows.new.conn) = clean_before _ _ _ c.expect_place.ensures.survives clean in
    let early : HasCleanDisk mid = clean_before _ _ _ c.expect_rows.ensures.survives between in
    let still : IsTrue (state g.S.Store c.expect_rows.new.conn).is_open = c.in_ok-expect_rows.ensures.still_open between in
    let then_open = (c.expect_rows.ensures.stays between).was_open still in
    let layout = c.in-Some-found.layout in
    let schema : before.now.schema ≡ schema_in layout = sym c.schema.ensures.value ∙ c.in-Some-found.ensures.found in
    let first : mid.now ≡ before.now = c.in_ok-version.ensures.same early then_open in
    let same : (state g.S.Store c.expect_rows.new.conn).now ≡ before.now = c.expect_rows.ensures.same between still ∙ first in
    let none = c.in_ok-expect_rows.ensures.emptied between (ap (λ (db : Database). db.schema) first ∙ schema) in
    let one = c.in_ok-expect_place.ensures.one clean (ap (λ (db : Database). db.schema) same ∙ schema) in
    record {
      layout = layout;
      version_is = search rules;
      schema = schema;
      emptied = λ moved. sym (ap (λ (db : Database). db.trees (tree_in layout Point)) first) ∙ none moved;
      one_place = λ there. sym (ap (λ (db : Database). length (db.trees (tree_in layout Journal))) same) ∙ one there;
    }

pub returns-clause-was_open : goal.returns-clause-was_open
returns-clause-was_open g c clean =
    let between : HasCleanDisk (state g.S.Store c.expect_rows.new.conn) = clean_before _ _ _ c.expect_place.ensures.survives clean in
    let early : HasCleanDisk (state g.S.Store c.read_version.new.conn) = clean_before _ _ _ c.expect_rows.ensures.survives between in
    c.in_ok-version.ensures.was_open early

pub returns-clause-survives : goal.returns-clause-survives
returns-clause-survives g c =
    both_survive (state g.S.Store c.args.conn.now) (state g.S.Store c.expect_rows.new.conn) (state g.S.Store c.expect_place.new.conn)
    (both_survive (state g.S.Store c.args.conn.now) (state g.S.Store c.read_version.new.conn) (state g.S.Store c.expect_rows.new.conn) c.read_version.ensures.survives c.expect_rows.ensures.survives)
    c.expect_place.ensures.survives

pub returns-in_err-expect_place-clause-survives : goal.returns-in_err-expect_place-clause-survives
returns-in_err-expect_place-clause-survives g c =
    both_survive (state g.S.Store c.args.conn.now) (state g.S.Store c.expect_rows.new.conn) (state g.S.Store c.expect_place.new.conn)
    (both_survive (state g.S.Store c.args.conn.now) (state g.S.Store c.read_version.new.conn) (state g.S.Store c.expect_rows.new.conn) c.read_version.ensures.survives c.expect_rows.ensures.survives)
    c.expect_place.ensures.survives

pub returns-in_err-expect_rows-clause-other : goal.returns-in_err-expect_rows-clause-other
returns-in_err-expect_rows-clause-other g c clean =
    let old = state g.S.Store c.args.conn.now in
    let mid = state g.S.Store c.read_version.new.conn in
    let fault = c.in_err-expect_rows.field-0.0 in
    let layout = c.in-Some-found.layout in
    let early : HasCleanDisk mid = clean_before _ _ _ c.expect_rows.ensures.survives clean in
    let told : c.from_residual-in_err-expect_rows.result ≡ Err fault = told_as _ _ c.from_residual-in_err-expect_rows.ensures.1 in
    subst (λ r. IfErr r (λ fault. fault ≡ OtherTables → (n : _) → HasVersion n old.now → ⊥)) (sym told) (λ is n has.
    let here : IsTrue mid.is_open = surely (IsTrue mid.is_open) fault is (c.in_err-expect_rows.ensures.was_open clean) in
    let same : mid.now ≡ old.now = c.in_ok-version.ensures.same early here in
    let version : c.in_ok-version.version ≡ pos c.in-Some.number = search rules in
    let number : c.in-Some.number ≡ version_of layout = search rules in
    let there = numbered_as n c.in-Some.number old.now has (λ meta first. c.in_ok-version.ensures.version early meta first ∙ ap Ok version) in
    let schema : old.now.schema ≡ schema_in layout = sym c.schema.ensures.value ∙ c.in-Some-found.ensures.found in
    let own = subst (λ (db : Database). HasVersion (version_of layout) db) (sym same) (subst (λ k. HasVersion k old.now) number there) in
    c.in_err-expect_rows.ensures.other clean (ap (λ (db : Database). db.schema) same ∙ schema) is own)

-- ---- the table of the journal is refused
pub returns-in_err-expect_place-clause-version : goal.returns-in_err-expect_place-clause-version
returns-in_err-expect_place-clause-version g c clean meta has =
    let between : HasCleanDisk (state g.S.Store c.expect_rows.new.conn) = clean_before _ _ _ c.expect_place.ensures.survives clean in
    let early : HasCleanDisk (state g.S.Store c.read_version.new.conn) = clean_before _ _ _ c.expect_rows.ensures.survives between in
    let told : c.from_residual-in_err-expect_place.result ≡ Err c.in_err-expect_place.field-0.0 = told_as _ _ c.from_residual-in_err-expect_place.ensures.1 in
    let number = c.in-Some.ensures.some in
    let is : c.in_ok-version.version ≡ pos c.in-Some.number = search rules in
    let low : c.args.oldest ≤ c.in-Some.number = omega (arith, c.if-number-oldest.false) in
    subst (TellsVersion c.args.oldest (read_version meta)) (sym told)
    (tells_tables c.args.oldest c.in-Some.number (read_version meta) _ c.in_err-expect_place.ensures.fault (c.in_ok-version.ensures.version early meta has ∙ ap Ok is) low number.2)

pub returns-in_err-expect_place-clause-fault : goal.returns-in_err-expect_place-clause-fault
returns-in_err-expect_place-clause-fault g c =
    let told : c.from_residual-in_err-expect_place.result ≡ Err c.in_err-expect_place.field-0.0 = told_as _ _ c.from_residual-in_err-expect_place.ensures.1 in
    subst (λ r. IfErr r IsOfExpected) (sym told) (expected_tables _ c.in_err-expect_place.ensures.fault)

pub returns-in_err-expect_place-clause-other : goal.returns-in_err-expect_place-clause-other
returns-in_err-expect_place-clause-other g c clean =
    let old = state g.S.Store c.args.conn.now in
    let mid = state g.S.Store c.read_version.new.conn in
    let after = state g.S.Store c.expect_rows.new.conn in
    let fault = c.in_err-expect_place.field-0.0 in
    let layout = c.in-Some-found.layout in
    let between : HasCleanDisk after = clean_before _ _ _ c.expect_place.ensures.survives clean in
    let early : HasCleanDisk mid = clean_before _ _ _ c.expect_rows.ensures.survives between in
    let still : IsTrue after.is_open = c.in_ok-expect_rows.ensures.still_open between in
    let then_open = (c.expect_rows.ensures.stays between).was_open still in
    let same : after.now ≡ old.now = c.expect_rows.ensures.same between still ∙ c.in_ok-version.ensures.same early then_open in
    let schema : old.now.schema ≡ schema_in layout = sym c.schema.ensures.value ∙ c.in-Some-found.ensures.found in
    let told : c.from_residual-in_err-expect_place.result ≡ Err fault = told_as _ _ c.from_residual-in_err-expect_place.ensures.1 in
    subst (λ r. IfErr r (λ fault. fault ≡ OtherTables → (n : _) → HasVersion n old.now → ⊥)) (sym told) (λ is n has.
    let own = subst (λ l. IsPlaced l old.now.trees) (one_layout has.layout layout (sym has.here.holds.schema ∙ schema)) has.here.placed in
    c.in_err-expect_place.ensures.other clean (ap (λ (db : Database). db.schema) same ∙ schema) is (subst (λ (db : Database). IsPlaced layout db.trees) (sym same) own))

pub returns-in_err-expect_place-clause-cause : goal.returns-in_err-expect_place-clause-cause
returns-in_err-expect_place-clause-cause g c out clean meta has =
    let old = state g.S.Store c.args.conn.now in
    let mid = state g.S.Store c.read_version.new.conn in
    let after = state g.S.Store c.expect_rows.new.conn in
    let between : HasCleanDisk after = clean_before _ _ _ c.expect_place.ensures.survives clean in
    let early : HasCleanDisk mid = clean_before _ _ _ c.expect_rows.ensures.survives between in
    let still : IsTrue after.is_open = c.in_ok-expect_rows.ensures.still_open between in
    let then_open = (c.expect_rows.ensures.stays between).was_open still in
    let same : after.now ≡ old.now = c.expect_rows.ensures.same between still ∙ c.in_ok-version.ensures.same early then_open in
    let schema : old.now.schema ≡ schema_in c.in-Some-found.layout = sym c.schema.ensures.value ∙ c.in-Some-found.ensures.found in
    let told : c.from_residual-in_err-expect_place.result ≡ Err c.in_err-expect_place.field-0.0 = told_as _ _ c.from_residual-in_err-expect_place.ensures.1 in
    let outside : c.expect_rows.new.conn.in_transaction ≡ false = c.expect_rows.ensures.mode (c.read_version.ensures.mode ∙ out) in
    subst (λ r. IfErr r (SqlHasCause old (state g.S.Store c.expect_place.new.conn))) (sym told)
    (then_cause old after (state g.S.Store c.expect_place.new.conn) (λ _. ⊥) _
    (both_survive old mid after c.read_version.ensures.survives c.expect_rows.ensures.survives) between c.expect_place.ensures.survives.counts
    (c.in_err-expect_place.ensures.cause outside clean (ap (λ (db : Database). db.schema) same ∙ schema)))
