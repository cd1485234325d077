-- What commands alone keep besides: that closed records too have what good and staffed ask of open
-- ones. The network and the staff of a register are then those that its records were made with.
use Rattle.clr_rules.specs.Good.{IsGood, IsGoodThroughout}
use Rattle.clr_rules.specs.Prelude.{Command, Register}
use Rattle.clr_rules.specs.Run.{IsReached, after}
use Rattle.clr_rules.specs.Staffed.{IsStaffed, IsStaffedThroughout}

-- WHAT HOLDS THROUGHOUT holds of open records
pub record ThroughoutIsMore : Type 0 where
  pub good : (R : Register) → IsGoodThroughout R → IsGood R
  pub staffed : (R : Register) → IsStaffedThroughout R → IsStaffed R

-- EVERY COMMAND KEEPS IT, whatever its kind, and whether it is accepted, shown or refused
pub record CommandsKeepThroughout : Type 0 where
  pub good : (R : Register) (q : Command) → IsGoodThroughout R → IsGoodThroughout (after R q)
  pub staffed : (R : Register) (q : Command) → IsGood R → IsStaffedThroughout R
      → IsStaffedThroughout (after R q)

-- EVERY REGISTER THAT IS REACHED is good and staffed throughout
pub record ReachedThroughout : Type 0 where
  pub good : (R : Register) → IsReached R → IsGoodThroughout R
  pub staffed : (R : Register) → IsReached R → IsStaffedThroughout R
