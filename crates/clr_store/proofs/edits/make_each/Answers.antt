use Rattle.clr_load.specs.Fault.{IsOfDatabase}
use Rattle.sqlite.specs.Held.{state}
use Rattle.clr_load.proofs.Inside.{runs_none, runs_on}
use Rattle.clr_store.proofs.Inside.{no_edits, one_more, then_changes}
use Rattle.clr_store.proofs.edits.make_each.Goals as goal

pub loop-edit-init : goal.loop-edit-init
loop-edit-init g c = runs_none g.S.Store c.args.tx.now IsOfDatabase _ _ tt (λ inside. no_edits (state g.S.Store c.args.tx.now.conn.now) inside)

pub loop-edit-preserved : goal.loop-edit-preserved
loop-edit-preserved g c =
    let old = state g.S.Store c.args.tx.now.conn.now in
    let mid = state g.S.Store c.loop-edit.tx.conn.now in
    let new = state g.S.Store c.make.new.tx.conn.now in
    runs_on g.S.Store c.args.tx.now c.loop-edit.tx c.make.new.tx IsOfDatabase IsOfDatabase IsOfDatabase _ _ _ _ _ _ tt _ tt c.loop-edit.invariant c.in_ok-make.ensures (λ done. done.inside)
    (λ early done next.
    one_more old new c.args.edits.now c.loop-edit.edit-index c.edit-item.result c.loop-edit-test.true c.edit-item.is (then_changes old mid new _ _ done next))
