use Rattle.std.proofs.Common.{◌≡◌, ◌++◌, drop, filter}
use Rattle.clr_rules.specs.Holds.{same_kind}
use Rattle.clr_rules.specs.declared.hold.Hold.{Hold}
use Rattle.clr_answer.proofs.view.with_kind.Given as goal

abbrev pub invariant-loop-hold : goal.invariant-loop-hold
invariant-loop-hold l =
    let of_kind = λ (h : Hold). same_kind l.kind h.kind in
    l.all.items ++ filter of_kind (drop l.hold-index l.holds) ≡ l.fn.first.items ++ filter of_kind l.holds
