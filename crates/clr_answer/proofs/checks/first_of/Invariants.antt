use Rattle.std.proofs.Common.{◌≡◌, drop}
use Rattle.clr_rules.specs.Answer.{first_refusal}
use Rattle.clr_answer.proofs.checks.first_of.Given as goal

abbrev pub invariant-loop-check : goal.invariant-loop-check
invariant-loop-check l = first_refusal (drop l.check-index l.checks) ≡ first_refusal l.checks
