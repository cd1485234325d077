use Rattle.std.proofs.Common.{◌≡◌, ◌∙◌, ◌++◌, [], ◌∷◌, Vec, Global, not, ap, arith, rules}
use Rattle.clr_net.specs.Names.{has_name}
use Rattle.clr_net.specs.declared.name.Name.{Name}
use Rattle.clr_rules.specs.Holds.{first_of_each}
use Rattle.clr_answer.proofs.OnceFacts.{met_before, met_more, met_now, met_still, others, others_none, was_met}
use Rattle.clr_answer.proofs.checks.orders.each_once.Goals as goal
use Rattle.clr_answer.proofs.checks.orders.each_once.Goals.{then-branch+in_ok-push, else-branch}

pub loop-name-init : goal.loop-name-init
loop-name-init c = record {
  met = λ q. search rules;
  once = ap (λ kept. kept ++ others kept (first_of_each c.args.names.now)) c.new-kept.ensures.items ∙ others_none (first_of_each c.args.names.now);
}

pub loop-name-preserved : goal.loop-name-preserved
loop-name-preserved c =
    let names = c.args.names.now in
    let kept = c.loop-name.kept.items in
    let i = c.loop-name.name-index in
    let name = c.name-item.result in
    let updates = c.in_ok-insert.ensures.updates in
    let met : has_name kept name ≡ not c.in_ok-insert.field-0 = was_met c.loop-name.met kept name c.in_ok-insert.field-0 c.loop-name.invariant.met c.in_ok-insert.ensures.added in
    elim c.if-branch.branch [
      | then-branch+in_ok-push w ↦
          let items : c.if-branch.kept.items ≡ kept ++ name ∷ [] = ap (λ (v : Vec Name Global). v.items) w.kept-is ∙ w.in_ok-push.ensures.items in
          record {
            met = rw items (met_more c.loop-name.met c.insert.new.self kept name c.loop-name.invariant.met updates);
            once = rw items (met_now kept (first_of_each names) names i name (omega arith) c.name-item.is (met ∙ ap not w.if-branch.true) c.loop-name.invariant.once);
          }
      | else-branch w ↦
          let items : c.if-branch.kept.items ≡ kept = ap (λ (v : Vec Name Global). v.items) w.kept-is in
          record {
            met = rw items (met_still c.loop-name.met c.insert.new.self kept name c.loop-name.invariant.met updates (met ∙ ap not w.if-branch.false));
            once = rw items (met_before kept (first_of_each names) names i name (omega arith) c.name-item.is (met ∙ ap not w.if-branch.false) c.loop-name.invariant.once);
          }
    ]
