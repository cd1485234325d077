use Rattle.std.proofs.Common.{◌≡◌, ◌∙◌, length, refl, rules, sym, true}
use Rattle.sqlite.specs.Held.{state}
use Rattle.clr_load.specs.declared.table_name.TableName.TheVariants.{Journal}
use Rattle.clr_load.specs.Layout.{has_table}
use Rattle.clr_load.proofs.Loading.{as_many_listed}
use Rattle.clr_load.proofs.Staying.{unchanged_stays}
use Rattle.clr_load.proofs.Versioned.{one_row}
use Rattle.clr_load.proofs.expected.expect_place.Goals as goal

-- nothing is looked at
pub returns-then-not-is_autocommit-clause-stays : goal.returns-then-not-is_autocommit-clause-stays
returns-then-not-is_autocommit-clause-stays g c clean = record { was_open = λ o. o; same = λ o saved. (refl, sym saved) }

pub returns-then-not-is_logged-clause-stays : goal.returns-then-not-is_logged-clause-stays
returns-then-not-is_logged-clause-stays g c clean = record { was_open = λ o. o; same = λ o saved. (refl, sym saved) }

-- the table is not listed
pub returns-in_err-places-clause-same : goal.returns-in_err-places-clause-same
returns-in_err-places-clause-same g c clean shown =
    let stays = c.in_err-places.ensures.unchanged clean in
    (stays.same shown (c.is_autocommit.ensures.settled (search rules) (stays.was_open shown))).0

pub returns-in_err-places-clause-committed : goal.returns-in_err-places-clause-committed
returns-in_err-places-clause-committed g c clean shown =
    let stays = c.in_err-places.ensures.unchanged clean in
    let settled = c.is_autocommit.ensures.settled (search rules) (stays.was_open shown) in
    (stays.same shown settled).1 ∙ settled

-- it has not one row
pub returns-then-not-is_one-clause-stays : goal.returns-then-not-is_one-clause-stays
returns-then-not-is_one-clause-stays g c clean = unchanged_stays _ _ (c.in_ok-places.ensures.unchanged clean)

pub returns-then-not-is_one-clause-same : goal.returns-then-not-is_one-clause-same
returns-then-not-is_one-clause-same g c clean shown = (c.in_ok-places.ensures.unchanged clean).0.now_is

pub returns-then-not-is_one-clause-committed : goal.returns-then-not-is_one-clause-committed
returns-then-not-is_one-clause-committed g c clean shown = (c.in_ok-places.ensures.unchanged clean).0.committed_is

pub returns-then-not-is_one-clause-other : goal.returns-then-not-is_one-clause-other
returns-then-not-is_one-clause-other g c clean schema is placed =
    let there : has_table c.args.layout Journal ≡ true = search rules in
    let one = one_row c.args.layout (state g.S.Store c.args.conn.now) (state g.S.Store c.list_table.new.conn) _ there schema placed (c.in_ok-places.ensures.shown clean) in
    search rules

-- it has
pub returns-clause-stays : goal.returns-clause-stays
returns-clause-stays g c clean = unchanged_stays _ _ (c.in_ok-places.ensures.unchanged clean)

pub returns-clause-same : goal.returns-clause-same
returns-clause-same g c clean shown = (c.in_ok-places.ensures.unchanged clean).0.now_is

pub returns-clause-committed : goal.returns-clause-committed
returns-clause-committed g c clean shown = (c.in_ok-places.ensures.unchanged clean).0.committed_is

pub returns-clause-one : goal.returns-clause-one
returns-clause-one g c clean schema there =
    let one : length c.in_ok-places.places.items ≡ 1 = search rules in
    as_many_listed c.args.layout (state g.S.Store c.args.conn.now) (state g.S.Store c.list_table.new.conn) Journal _ there schema (c.in_ok-places.ensures.shown clean) ∙ one
