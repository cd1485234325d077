-- THE LAW OF OWN ROWS.
use Rattle.std.specs.Prelude.{◌≡◌, true, is_some}
use Rattle.clr_rules.specs.Answer.{answer}
use Rattle.clr_rules.specs.Good.{IsGood, ListsAreInOrder}
use Rattle.clr_rules.specs.Register.{Register}
use Rattle.clr_rules.specs.declared.command.Command.{Command}
use Rattle.clr_book.specs.Own.{always_own, asked_answer}

-- WHAT A COMMAND LOOKS AT IS ENOUGH: in a good register it is answered as from the whole
abbrev pub OwnRowsAreEnough : Type 0
OwnRowsAreEnough = (R : Register) (q : Command) → IsGood R → answer R q ≡ asked_answer R q

-- A COMMAND THAT NEVER NEEDS A FENCE is answered so in each register whose lists are in order
abbrev pub OwnNeedsOrderAlone : Type 0
OwnNeedsOrderAlone =
    (R : Register) (q : Command) → ListsAreInOrder R → is_some (always_own q.kind) ≡ true
    → answer R q ≡ asked_answer R q
