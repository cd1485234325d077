use Rattle.clr_load.specs.Fault.{IsOfDatabase}
use Rattle.sqlite.specs.Held.{state}
use Rattle.clr_load.proofs.Inside.{runs_none, runs_on}
use Rattle.clr_store.proofs.Inside.{then_changes}
use Rattle.clr_store.proofs.TakenSteps.{no_keys, one_key_more}
use Rattle.clr_store.proofs.steps.take_each.Goals as goal

pub loop-key-init : goal.loop-key-init
loop-key-init g c = runs_none g.S.Store c.args.tx.now IsOfDatabase _ _ tt (λ inside. no_keys (state g.S.Store c.args.tx.now.conn.now) inside)

pub loop-key-preserved : goal.loop-key-preserved
loop-key-preserved g c =
    let old = state g.S.Store c.args.tx.now.conn.now in
    let mid = state g.S.Store c.loop-key.tx.conn.now in
    let new = state g.S.Store c.take_step.new.tx.conn.now in
    runs_on g.S.Store c.args.tx.now c.loop-key.tx c.take_step.new.tx IsOfDatabase IsOfDatabase IsOfDatabase _ _ _ _ _ _ tt _ tt c.loop-key.invariant c.in_ok-take_step.ensures (λ done. done.inside)
    (λ early done next.
    one_key_more old new c.args.keys.now c.loop-key.key-index c.key-item.result c.loop-key-test.true c.key-item.is (then_changes old mid new _ _ done next))
