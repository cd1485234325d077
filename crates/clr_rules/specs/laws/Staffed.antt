-- Commands keep a register staffed.
use Rattle.clr_rules.specs.Good.{IsGood}
use Rattle.clr_rules.specs.Prelude.{Command, Register}
use Rattle.clr_rules.specs.Run.{IsReached, after}
use Rattle.clr_rules.specs.Staffed.{IsStaffed}

-- EVERY COMMAND KEEPS A REGISTER STAFFED that is good
abbrev pub CommandsKeepStaffed : Type 0
CommandsKeepStaffed =
    (R : Register) (q : Command) → IsGood R → IsStaffed R → IsStaffed (after R q)

-- EVERY REGISTER THAT IS REACHED IS STAFFED
abbrev pub ReachedRegistersAreStaffed : Type 0
ReachedRegistersAreStaffed = (R : Register) → IsReached R → IsStaffed R
