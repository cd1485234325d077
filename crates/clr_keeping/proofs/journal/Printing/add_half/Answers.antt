use Rattle.std.proofs.Common.{ap, ℕ}
use Rattle.clr_chain.specs.Walking.{bad}
use Rattle.clr_keeping.specs.declared.journal.Printing.{Printing}
use Rattle.clr_keeping.proofs.KindSteps.{line_added}
use Rattle.clr_keeping.proofs.journal.Printing.add_half.Goals as goal

pub returns-clause-added : goal.returns-clause-added
returns-clause-added c =
    let new : Printing = record { walk = c.args.self.now.walk; text = c.step.new.out; kind = c.step.new.self; bad = c.bad_with-self.result } in
    line_added c.step.result c.args.self.now new (bad c.saturating_add.result) _ (ap (λ (n : ℕ). bad n) c.saturating_add.ensures) c.step.ensures c.bad_with-self.ensures
