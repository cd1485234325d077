use Rattle.std.proofs.Common.{◌≡◌, option_copied, refl, rules}
use Rattle.clr_store.specs.Change.{CanSet}
use Rattle.clr_store.specs.Renewed.{rows_renewed, tables_renewed}
use Rattle.clr_store.proofs.Renewing.{renewal_lands, states_ordered}
use Rattle.clr_store.proofs.Turned.{can_fit, transacts_with}
use Rattle.clr_store.proofs.renew.renew.Goals as goal

pub replace_all-done-requires-clause-ordered : goal.replace_all-done-requires-clause-ordered
replace_all-done-requires-clause-ordered g c = states_ordered c.args.network.now c.args.states.now c.sections-sections.ensures.network c.requires.states

pub replace_all-done-requires-clause-fits : goal.replace_all-done-requires-clause-fits
replace_all-done-requires-clause-fits g c =
    let can : CanSet c.args.conn.now.schema (option_copied c.args.place) = search rules in
    can_fit c.args.conn.now.schema (option_copied c.args.place) can

pub returns-clause-transacts : goal.returns-clause-transacts
returns-clause-transacts g c =
    let network = c.args.network.now in
    let staff = c.args.staff.now in
    let states = c.args.states.now in
    let old = c.args.conn.now in
    let place = option_copied c.args.place in
    let does = rw (c.sections-sections.ensures.rows, c.points-points.ensures.rows, c.rows-employees.ensures.rows) at c.replace_all-done.ensures in
    let can : CanSet old.schema place = search rules in
    let same : c.conclude-ended.new.tx.0 ≡ c.conn-1.given.0 = search rules in
    c.settle.ensures.settles old _
    (transacts_with (rows_renewed network.sections network.points states staff) (tables_renewed network staff states)
    (renewal_lands network staff states c.sections-sections.ensures.network c.rows-employees.ensures.staff) g.S.Store old c.transaction-tx.result c.replace_all-done.new.tx
    c.conclude-ended.new.tx.0 c.conn-1.given.0 place c.replace_all-done.result c.conclude-ended.result c.transaction-tx.ensures.begun
    (c.if-not-is_autocommit.ensures.settled refl) does can same c.conclude-ended.ensures)
