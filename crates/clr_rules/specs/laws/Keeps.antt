-- Commands keep a good register good.
use Rattle.clr_rules.specs.Good.{IsGood}
use Rattle.clr_rules.specs.Prelude.{Command, Register}
use Rattle.clr_rules.specs.Run.{IsReached, after}

-- EVERY COMMAND KEEPS A GOOD REGISTER GOOD, whatever its kind, and whether it is accepted, shown or
-- refused
abbrev pub CommandsKeepGood : Type 0
CommandsKeepGood = (R : Register) (q : Command) → IsGood R → IsGood (after R q)

-- EVERY REGISTER THAT IS REACHED IS GOOD
abbrev pub ReachedRegistersAreGood : Type 0
ReachedRegistersAreGood = (R : Register) → IsReached R → IsGood R
