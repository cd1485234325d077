use Rattle.std.proofs.Common.{Bool, drop}
use Rattle.clr_rules.specs.Id.{Id}
use Rattle.clr_rules.specs.Register.{Register}
use Rattle.clr_wayback.proofs.Walking.{Left}
use Rattle.clr_wayback.specs.Open.{AllNameAnother, LacksOnly}
use Rattle.clr_wayback.proofs.walk.carry_out_all.Given as goal

abbrev pub invariant-loop-command : goal.invariant-loop-command
invariant-loop-command g l = (gone : Id → Bool) (R : Register) → LacksOnly gone R l.fn.book.register → AllNameAnother gone l.fn.commands
    → Left gone R l.fn.commands l.book.register (drop l.command-index l.fn.commands)
