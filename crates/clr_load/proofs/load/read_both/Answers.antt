use Rattle.std.proofs.Common.{◌≡◌, Err, true, refl}
use Rattle.clr_load.specs.Layout.{Layout, has_rows}
use Rattle.clr_load.specs.Loads.{both_fit}
use Rattle.clr_load.proofs.Columns.{both_true}
use Rattle.clr_load.proofs.Staying.{none_loads, then_fails, then_loads, loads_in}
use Rattle.clr_load.proofs.Inside.{told_as}
use Rattle.clr_load.proofs.load.read_both.Goals as goal

pub returns-in_err-first : goal.returns-in_err-first
returns-in_err-first g c =
    let one = c.args.one in
    let other = c.args.other in
    let has_one : (l : Layout) → both_fit one other l ≡ true → has_rows l one ≡ true = λ l fit. (both_true (has_rows l one) (has_rows l other) fit).0 in
    let told : c.from_residual.result ≡ Err c.in_err-first.field-0.0 = told_as _ _ c.from_residual.ensures.1 in
    rw told (none_loads g.S.Store c.args.conn.now c.read_table.new.conn (both_fit one other) _ _ _ _ c.in_err-first.field-0.0
    (loads_in g.S.Store c.args.conn.now c.read_table.new.conn _ _ has_one _ _ _ c.in_err-first.ensures) (λ l t bad is. rw is refl))

pub returns-in_err-second : goal.returns-in_err-second
returns-in_err-second g c =
    let one = c.args.one in
    let other = c.args.other in
    let has_one : (l : Layout) → both_fit one other l ≡ true → has_rows l one ≡ true = λ l fit. (both_true (has_rows l one) (has_rows l other) fit).0 in
    let has_other : (l : Layout) → both_fit one other l ≡ true → has_rows l other ≡ true = λ l fit. (both_true (has_rows l one) (has_rows l other) fit).1 in
    let told : c.from_residual-in_err-second.result ≡ Err c.in_err-second.field-0.0 = told_as _ _ c.from_residual-in_err-second.ensures.1 in
    rw told (then_fails g.S.Store c.args.conn.now c.read_table.new.conn (both_fit one other) _ _ c.read_table-2.new.conn _ _ _ _ c.in_ok-first.first c.in_err-second.field-0.0
    (loads_in g.S.Store c.args.conn.now c.read_table.new.conn _ _ has_one _ _ _ c.in_ok-first.ensures)
    (loads_in g.S.Store c.read_table.new.conn c.read_table-2.new.conn _ _ has_other _ _ _ c.in_err-second.ensures) (λ l t v bad fit is shown fails. rw (is, fails) refl))

pub returns : goal.returns
returns g c =
    let one = c.args.one in
    let other = c.args.other in
    let has_one : (l : Layout) → both_fit one other l ≡ true → has_rows l one ≡ true = λ l fit. (both_true (has_rows l one) (has_rows l other) fit).0 in
    let has_other : (l : Layout) → both_fit one other l ≡ true → has_rows l other ≡ true = λ l fit. (both_true (has_rows l one) (has_rows l other) fit).1 in
    then_loads g.S.Store c.args.conn.now c.read_table.new.conn (both_fit one other) _ _ c.read_table-2.new.conn _ _ _ _ c.in_ok-first.first c.in_ok-second.second _
    (loads_in g.S.Store c.args.conn.now c.read_table.new.conn _ _ has_one _ _ _ c.in_ok-first.ensures)
    (loads_in g.S.Store c.read_table.new.conn c.read_table-2.new.conn _ _ has_other _ _ _ c.in_ok-second.ensures) (λ l t v w fit is shown so more. ((v, w), rw (is, so) refl, (shown, more)))
