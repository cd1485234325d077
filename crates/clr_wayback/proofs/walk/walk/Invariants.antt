use Rattle.std.proofs.Common.{◌≡◌, Bool, false}
use Rattle.clr_rules.specs.Id.{Id}
use Rattle.clr_rules.specs.Register.{Register}
use Rattle.clr_wayback.proofs.Walking.{Walked}
use Rattle.clr_wayback.specs.Open.{LacksOnly}
use Rattle.clr_wayback.proofs.walk.walk.Given as goal

abbrev pub invariant-loop-turn : goal.invariant-loop-turn
invariant-loop-turn g l = (gone : Id → Bool) (R : Register) → LacksOnly gone R l.fn.book.register → gone l.fn.id ≡ false
    → Walked gone R l.book.register l.fn.id l.turns l._turn l.commands.items
