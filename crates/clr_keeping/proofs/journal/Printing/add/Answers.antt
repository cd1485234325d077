use Rattle.std.proofs.Common.{ap}
use Rattle.clr_chain.specs.Walking.{Step, seen_step}
use Rattle.clr_chain.specs.declared.chain_end.ChainEnd.{ChainEnd}
use Rattle.clr_keeping.specs.declared.journal.Printing.{Printing}
use Rattle.clr_keeping.proofs.KindSteps.{line_added}
use Rattle.clr_keeping.proofs.PartLines.{ok_any}
use Rattle.clr_keeping.proofs.journal.Printing.add.Goals as goal

pub returns-clause-added : goal.returns-clause-added
returns-clause-added c =
    let new : Printing = record { walk = c.step.new.self; text = c.step-2.new.out; kind = c.step-2.new.self; bad = c.bad_with-self.result } in
    line_added c.step-2.result c.args.self.now new (seen_step c.in_ok-step.step) _ (ap (λ (p : Step × ChainEnd). p.0) c.in_ok-step.ensures.step)
    c.step-2.ensures c.bad_with-self.ensures

pub returns-clause-end : goal.returns-clause-end
returns-clause-end c = ok_any c.step-2.result _ (ap (λ (p : Step × ChainEnd). p.1) c.in_ok-step.ensures.step)
