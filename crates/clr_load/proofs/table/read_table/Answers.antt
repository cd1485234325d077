use Rattle.std.proofs.Common.{◌≡◌, ◌∙◌, Err, Ok, refl, rules, subst, sym}
use Rattle.sqlite.specs.Held.{state}
use Rattle.sqlite.specs.State.{HasCleanDisk}
use Rattle.clr_load.specs.Cause.{fault_of}
use Rattle.clr_load.specs.declared.fault.StoreFault.TheVariants.{BadRow, NoMemory}
use Rattle.clr_load.proofs.Causes.{read_cause, told_of_database}
use Rattle.clr_load.proofs.Loading.{in_layout}
use Rattle.clr_load.proofs.Selecting.{failed_rests, survives_listed}
use Rattle.clr_load.proofs.Staying.{stops, unchanged_stays}
use Rattle.clr_load.proofs.Streaming.{Reads, advances_not, begins, ends, goes_on, reads_not, runs_out}
use Rattle.clr_load.proofs.Inside.{told_as}
use Rattle.clr_load.proofs.table.read_table.Goals as goal

pub returns-in_err-rows : goal.returns-in_err-rows
returns-in_err-rows g c =
    let start = c.args.conn.now in
    let new = c.query.follows.lender-at-none in
    let held = rw c.in_err-rows.was at c.query.follows.holds-at-none in
    let name = c.args.table in
    let told : c.from_residual.result ≡ Err (fault_of c.in_err-rows.field-0.0) = told_as _ _ c.from_residual.ensures.1 in
    let fails = λ (clean : HasCleanDisk (state g.S.Store new)). rw c.select_sql.ensures at (held.err clean) in
    subst (Reads g.S.Store name g.T.TableRow.values g.F.Fill.has start new) (sym told)
    (stops g.S.Store start new _ _ g.F.Fill.has _ held.mode (survives_listed name (state g.S.Store start) (state g.S.Store new) (rw c.select_sql.ensures at held.survives))
    (λ clean. failed_rests name (state g.S.Store start) (state g.S.Store new) _ (fails clean)) (told_of_database c.in_err-rows.field-0.0 _ refl)
    (λ clean l there t has. read_cause l name (in_layout l name there) (state g.S.Store start) (state g.S.Store new) _ _ has.holds.schema refl (fails clean)))

pub rows-init : goal.rows-init
rows-init g c =
    let made = c.in_ok-rows.ensures in
    record {
      same = refl;
      read = begins g.S.Store c.args.table g.T.TableRow.values g.F.Fill.has c.args.conn.now c.in_ok-rows.rows.conn.now c.empty-into.result c.empty-into.ensures
          made.mode (rw c.select_sql.ensures at made.survives) (λ clean. rw c.select_sql.ensures at (made.begun clean));
    }

pub returns-in_err-row : goal.returns-in_err-row
returns-in_err-row g c =
    let now = c.rows.rows.conn.now in
    let new = c.next.follows.lender-at-none.conn.now in
    let moved = c.next.follows.holds-at-none in
    let same : new ≡ c.conn-in_err-row-1.given.0 = search rules in
    let told : c.from_residual-in_err-row.result ≡ Err (fault_of c.in_err-row.field-0.0) = told_as _ _ c.from_residual-in_err-row.ensures.1 in
    subst (λ h. Reads g.S.Store c.args.table g.T.TableRow.values g.F.Fill.has c.args.conn.now h c.from_residual-in_err-row.result) same
    (subst (Reads g.S.Store c.args.table g.T.TableRow.values g.F.Fill.has c.args.conn.now new) (sym told)
    (advances_not g.S.Store c.args.table g.T.TableRow.values g.F.Fill.has c.args.conn.now now new c.rows.into c.rows.invariant.read moved.mode moved.survives c.in_err-row.field-0.0
    (λ clean. rw c.in_err-row.was at (moved.err clean))))

pub returns-in_default : goal.returns-in_default
returns-in_default g c =
    let now = c.rows.rows.conn.now in
    let new = c.next.follows.lender-at-none.conn.now in
    let moved = c.next.follows.holds-at-none in
    let same : new ≡ c.conn-in_default-1.given.0 = search rules in
    subst (λ h. Reads g.S.Store c.args.table g.T.TableRow.values g.F.Fill.has c.args.conn.now h (Ok c.rows.into)) same
    (ends g.S.Store c.args.table g.T.TableRow.values g.F.Fill.has c.args.conn.now now new c.rows.into c.rows.invariant.read moved.mode moved.survives
    (λ clean. rw c.in_ok-row.was at (moved.same clean)) (λ clean. rw (c.in_ok-row.was, c.in_default.is) at (moved.ok clean)))

pub returns-in_err-item : goal.returns-in_err-item
returns-in_err-item g c =
    let now = c.rows.rows.conn.now in
    let new = c.next.follows.lender-at-none.conn.now in
    let moved = c.next.follows.holds-at-none in
    let same : new ≡ c.conn-in_err-item-1.given.0 = search rules in
    let told : c.from_residual-in_err-item.result ≡ Err (BadRow c.in_err-item.field-0.0) = told_as _ _ c.from_residual-in_err-item.ensures.1 in
    subst (λ h. Reads g.S.Store c.args.table g.T.TableRow.values g.F.Fill.has c.args.conn.now h c.from_residual-in_err-item.result) same
    (subst (Reads g.S.Store c.args.table g.T.TableRow.values g.F.Fill.has c.args.conn.now new) (sym told)
    (reads_not g.S.Store c.args.table g.T.TableRow.values g.F.Fill.has c.args.conn.now now new c.rows.into c.rows.invariant.read moved.mode moved.survives
    (λ clean. rw c.in_ok-row.was at (moved.same clean)) c.in-Some.row.now c.in_err-item.field-0.0
    (λ clean. rw (c.in_ok-row.was, c.in-Some.is) at (moved.ok clean)) (sym c.read.ensures ∙ c.in_err-item.was)))

pub returns-in_err-fill : goal.returns-in_err-fill
returns-in_err-fill g c =
    let now = c.rows.rows.conn.now in
    let new = c.next.follows.lender-at-none.conn.now in
    let moved = c.next.follows.holds-at-none in
    let same : new ≡ c.conn-in_err-fill-1.given.0 = search rules in
    let told : c.from_residual-in_err-fill.result ≡ Err NoMemory = told_as _ _ c.from_residual-in_err-fill.ensures.1 in
    subst (λ h. Reads g.S.Store c.args.table g.T.TableRow.values g.F.Fill.has c.args.conn.now h c.from_residual-in_err-fill.result) same
    (subst (Reads g.S.Store c.args.table g.T.TableRow.values g.F.Fill.has c.args.conn.now new) (sym told)
    (runs_out g.S.Store c.args.table g.T.TableRow.values g.F.Fill.has c.args.conn.now now new c.rows.into c.rows.invariant.read moved.mode moved.survives
    (λ clean. rw c.in_ok-row.was at (moved.same clean))))

pub rows-preserved : goal.rows-preserved
rows-preserved g c =
    let now = c.rows.rows.conn.now in
    let new = c.next.follows.lender-at-none.conn.now in
    let moved = c.next.follows.holds-at-none in
    record {
      same = moved.same_reference ∙ c.rows.invariant.same;
      read = goes_on g.S.Store c.args.table g.T.TableRow.values g.F.Fill.has c.args.conn.now now new c.rows.into c.rows.invariant.read moved.mode moved.survives
          (λ clean. rw c.in_ok-row.was at (moved.same clean)) c.in-Some.row.now c.in_ok-item.item c.fill.new.self
          (λ clean. rw (c.in_ok-row.was, c.in-Some.is) at (moved.ok clean)) (sym c.read.ensures ∙ c.in_ok-item.was)
          (λ items has. rw c.in_ok-fill.was at (c.fill.ensures items has));
    }

pub returns : goal.returns
returns g c =
    let now = c.rows.rows.conn.now in
    let same : now ≡ c.conn-2-1.given.0 = search rules in
    let was = c.rows.invariant.read in
    subst (λ h. Reads g.S.Store c.args.table g.T.TableRow.values g.F.Fill.has c.args.conn.now h (Err NoMemory)) same
    (stops g.S.Store c.args.conn.now now _ _ g.F.Fill.has NoMemory was.mode was.survives (λ clean. unchanged_stays (state g.S.Store c.args.conn.now) (state g.S.Store now) (was.so_far clean).2) tt (λ clean l there t tables. tt))
