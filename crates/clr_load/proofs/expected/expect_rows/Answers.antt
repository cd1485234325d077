use Rattle.std.proofs.Common.{◌≡◌, ◌∙◌, ap, inl, refl, rules, subst, sym, true}
use Rattle.sqlite.specs.Effect.{Database}
use Rattle.sqlite.specs.Held.{state}
use Rattle.sqlite.specs.State.{HasCleanDisk}
use Rattle.clr_load.specs.declared.table_name.TableName.TheVariants.{Point}
use Rattle.clr_load.specs.Layout.{is_moved, tree_in, version_of}
use Rattle.clr_load.specs.Schema.{schema_in}
use Rattle.clr_load.specs.Stored.{HasVersion}
use Rattle.clr_load.proofs.Inside.{both_survive, clean_before}
use Rattle.clr_load.proofs.Loading.{lists_meta}
use Rattle.clr_load.proofs.Staying.{then_stays, unchanged_stays}
use Rattle.clr_load.proofs.Loading.{in_layout, no_length, none_listed}
use Rattle.clr_load.proofs.Versioned.{alone, emptied, moved_point}
use Rattle.clr_load.proofs.expected.expect_rows.Goals as goal

-- `meta` has another row
pub returns-then-not-is_alone-clause-stays : goal.returns-then-not-is_alone-clause-stays
returns-then-not-is_alone-clause-stays g c clean = unchanged_stays _ _ (c.in_ok-meta.ensures.unchanged clean)

pub returns-then-not-is_alone-clause-was_open : goal.returns-then-not-is_alone-clause-was_open
returns-then-not-is_alone-clause-was_open g c clean = inl (c.in_ok-meta.ensures.unchanged clean).0.was_open

pub returns-then-not-is_alone-clause-other : goal.returns-then-not-is_alone-clause-other
returns-then-not-is_alone-clause-other g c clean is other has =
    let it = alone (state g.S.Store c.args.conn.now) (state g.S.Store c.list_table.new.conn) (version_of c.args.layout) has _ (c.in_ok-meta.ensures.shown clean) in
    search rules

-- no point is looked at
pub returns-then-not-is_moved-clause-stays : goal.returns-then-not-is_moved-clause-stays
returns-then-not-is_moved-clause-stays g c clean = unchanged_stays _ _ (c.in_ok-meta.ensures.unchanged clean)

pub returns-then-not-is_moved-clause-was_open : goal.returns-then-not-is_moved-clause-was_open
returns-then-not-is_moved-clause-was_open g c clean = inl (c.in_ok-meta.ensures.unchanged clean).0.was_open

-- `point` has a row
pub returns-then-not-is_empty-clause-survives : goal.returns-then-not-is_empty-clause-survives
returns-then-not-is_empty-clause-survives g c =
    both_survive (state g.S.Store c.args.conn.now) (state g.S.Store c.list_table.new.conn) (state g.S.Store c.list_table-2.new.conn) c.list_table.ensures.survives c.list_table-2.ensures.survives

pub returns-then-not-is_empty-clause-stays : goal.returns-then-not-is_empty-clause-stays
returns-then-not-is_empty-clause-stays g c clean =
    let early : HasCleanDisk (state g.S.Store c.list_table.new.conn) = clean_before _ _ _ c.list_table-2.ensures.survives clean in
    then_stays _ _ _ (c.in_ok-meta.ensures.unchanged early) (unchanged_stays _ _ (c.in_ok-points.ensures.unchanged clean))

pub returns-then-not-is_empty-clause-was_open : goal.returns-then-not-is_empty-clause-was_open
returns-then-not-is_empty-clause-was_open g c clean =
    let early : HasCleanDisk (state g.S.Store c.list_table.new.conn) = clean_before _ _ _ c.list_table-2.ensures.survives clean in
    inl (c.in_ok-meta.ensures.unchanged early).0.was_open

pub returns-clause-survives : goal.returns-clause-survives
returns-clause-survives g c =
    both_survive (state g.S.Store c.args.conn.now) (state g.S.Store c.list_table.new.conn) (state g.S.Store c.list_table-2.new.conn) c.list_table.ensures.survives c.list_table-2.ensures.survives

pub returns-clause-stays : goal.returns-clause-stays
returns-clause-stays g c clean =
    let early : HasCleanDisk (state g.S.Store c.list_table.new.conn) = clean_before _ _ _ c.list_table-2.ensures.survives clean in
    then_stays _ _ _ (c.in_ok-meta.ensures.unchanged early) (unchanged_stays _ _ (c.in_ok-points.ensures.unchanged clean))

pub returns-clause-was_open : goal.returns-clause-was_open
returns-clause-was_open g c clean =
    let early : HasCleanDisk (state g.S.Store c.list_table.new.conn) = clean_before _ _ _ c.list_table-2.ensures.survives clean in
    inl (c.in_ok-meta.ensures.unchanged early).0.was_open

pub returns-then-not-is_empty-clause-other : goal.returns-then-not-is_empty-clause-other
returns-then-not-is_empty-clause-other g c clean is other has =
    let old = state g.S.Store c.args.conn.now in
    let mid = state g.S.Store c.list_table.new.conn in
    let early : HasCleanDisk mid = clean_before _ _ _ c.list_table-2.ensures.survives clean in
    let same : mid.now ≡ old.now = (c.in_ok-meta.ensures.unchanged early).0.now_is in
    let moved : is_moved c.args.layout ≡ true = search rules in
    let has_mid = subst (λ (db : Database). HasVersion (version_of c.args.layout) db) (sym same) has in
    let schema : mid.now.schema ≡ schema_in c.args.layout = ap (λ (db : Database). db.schema) same ∙ is in
    let none = emptied mid (state g.S.Store c.list_table-2.new.conn) (version_of c.args.layout) has_mid c.args.layout _ moved schema (c.in_ok-points.ensures.shown clean) in
    search rules

-- ---- `meta` is its one row
pub returns-then-not-is_moved-clause-alone : goal.returns-then-not-is_moved-clause-alone
returns-then-not-is_moved-clause-alone g c clean meta has =
    let rows = lists_meta (state g.S.Store c.args.conn.now) (state g.S.Store c.list_table.new.conn) meta _ has (c.in_ok-meta.ensures.shown clean) in
    search rules

pub returns-clause-alone : goal.returns-clause-alone
returns-clause-alone g c clean meta has =
    let early : HasCleanDisk (state g.S.Store c.list_table.new.conn) = clean_before _ _ _ c.list_table-2.ensures.survives clean in
    let rows = lists_meta (state g.S.Store c.args.conn.now) (state g.S.Store c.list_table.new.conn) meta _ has (c.in_ok-meta.ensures.shown early) in
    search rules

-- ---- the database stays as it is
pub returns-then-not-is_autocommit-clause-stays : goal.returns-then-not-is_autocommit-clause-stays
returns-then-not-is_autocommit-clause-stays g c clean = record { was_open = λ o. o; same = λ o saved. (refl, sym saved) }

pub returns-in_err-meta-clause-same : goal.returns-in_err-meta-clause-same
returns-in_err-meta-clause-same g c clean shown =
    let stays = c.in_err-meta.ensures.unchanged clean in
    (stays.same shown (c.is_autocommit.ensures.settled (search rules) (stays.was_open shown))).0

pub returns-then-not-is_alone-clause-same : goal.returns-then-not-is_alone-clause-same
returns-then-not-is_alone-clause-same g c clean shown = (c.in_ok-meta.ensures.unchanged clean).0.now_is

pub returns-then-not-is_moved-clause-same : goal.returns-then-not-is_moved-clause-same
returns-then-not-is_moved-clause-same g c clean shown = (c.in_ok-meta.ensures.unchanged clean).0.now_is

pub returns-in_err-points-clause-same : goal.returns-in_err-points-clause-same
returns-in_err-points-clause-same g c clean shown =
    let early : HasCleanDisk (state g.S.Store c.list_table.new.conn) = clean_before _ _ _ c.list_table-2.ensures.survives clean in
    let stays = then_stays _ _ _ (c.in_ok-meta.ensures.unchanged early) (c.in_err-points.ensures.unchanged clean) in
    (stays.same shown (c.is_autocommit.ensures.settled (search rules) (stays.was_open shown))).0

pub returns-then-not-is_empty-clause-same : goal.returns-then-not-is_empty-clause-same
returns-then-not-is_empty-clause-same g c clean shown =
    let early : HasCleanDisk (state g.S.Store c.list_table.new.conn) = clean_before _ _ _ c.list_table-2.ensures.survives clean in
    (c.in_ok-points.ensures.unchanged clean).0.now_is ∙ (c.in_ok-meta.ensures.unchanged early).0.now_is

pub returns-clause-same : goal.returns-clause-same
returns-clause-same g c clean shown =
    let early : HasCleanDisk (state g.S.Store c.list_table.new.conn) = clean_before _ _ _ c.list_table-2.ensures.survives clean in
    (c.in_ok-points.ensures.unchanged clean).0.now_is ∙ (c.in_ok-meta.ensures.unchanged early).0.now_is

-- ---- what is committed stays as it is
pub returns-in_err-meta-clause-committed : goal.returns-in_err-meta-clause-committed
returns-in_err-meta-clause-committed g c clean shown =
    let stays = c.in_err-meta.ensures.unchanged clean in
    let settled = c.is_autocommit.ensures.settled (search rules) (stays.was_open shown) in
    (stays.same shown settled).1 ∙ settled

pub returns-then-not-is_alone-clause-committed : goal.returns-then-not-is_alone-clause-committed
returns-then-not-is_alone-clause-committed g c clean shown = (c.in_ok-meta.ensures.unchanged clean).0.committed_is

pub returns-then-not-is_moved-clause-committed : goal.returns-then-not-is_moved-clause-committed
returns-then-not-is_moved-clause-committed g c clean shown = (c.in_ok-meta.ensures.unchanged clean).0.committed_is

pub returns-in_err-points-clause-committed : goal.returns-in_err-points-clause-committed
returns-in_err-points-clause-committed g c clean shown =
    let early : HasCleanDisk (state g.S.Store c.list_table.new.conn) = clean_before _ _ _ c.list_table-2.ensures.survives clean in
    let stays = then_stays _ _ _ (c.in_ok-meta.ensures.unchanged early) (c.in_err-points.ensures.unchanged clean) in
    let settled = c.is_autocommit.ensures.settled (search rules) (stays.was_open shown) in
    (stays.same shown settled).1 ∙ settled

pub returns-then-not-is_empty-clause-committed : goal.returns-then-not-is_empty-clause-committed
returns-then-not-is_empty-clause-committed g c clean shown =
    let early : HasCleanDisk (state g.S.Store c.list_table.new.conn) = clean_before _ _ _ c.list_table-2.ensures.survives clean in
    (c.in_ok-points.ensures.unchanged clean).0.committed_is ∙ (c.in_ok-meta.ensures.unchanged early).0.committed_is

pub returns-clause-committed : goal.returns-clause-committed
returns-clause-committed g c clean shown =
    let early : HasCleanDisk (state g.S.Store c.list_table.new.conn) = clean_before _ _ _ c.list_table-2.ensures.survives clean in
    (c.in_ok-points.ensures.unchanged clean).0.committed_is ∙ (c.in_ok-meta.ensures.unchanged early).0.committed_is

-- ---- the `point` that a move has emptied is empty
pub returns-clause-emptied : goal.returns-clause-emptied
returns-clause-emptied g c clean is moved =
    let mid = state g.S.Store c.list_table.new.conn in
    let early : HasCleanDisk mid = clean_before _ _ _ c.list_table-2.ensures.survives clean in
    let same : mid.now ≡ (state g.S.Store c.args.conn.now).now = (c.in_ok-meta.ensures.unchanged early).0.now_is in
    let schema : mid.now.schema ≡ schema_in c.args.layout = ap (λ (db : Database). db.schema) same ∙ is in
    let none = no_length c.in_ok-points.points.items (search rules) in
    sym (ap (λ (db : Database). db.trees (tree_in c.args.layout Point)) same)
    ∙ none_listed c.args.layout mid (state g.S.Store c.list_table-2.new.conn) Point c.in_ok-points.points.items (in_layout c.args.layout Point (moved_point c.args.layout moved)) schema (c.in_ok-points.ensures.shown clean) none

-- ---- the connection is still open
pub returns-then-not-is_moved-clause-still_open : goal.returns-then-not-is_moved-clause-still_open
returns-then-not-is_moved-clause-still_open g c clean = (c.in_ok-meta.ensures.unchanged clean).0.is_open

pub returns-clause-still_open : goal.returns-clause-still_open
returns-clause-still_open g c clean = (c.in_ok-points.ensures.unchanged clean).0.is_open
