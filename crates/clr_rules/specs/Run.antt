-- RUNS: commands answered one after the other, each by the register that the earlier ones left.
use Rattle.std.specs.Prelude.{◌≡◌, List, [], ◌∷◌}
use Rattle.clr_rules.specs.Prelude.{Grid, IsNetwork, StaffRow, Command, Reply, Register}
use Rattle.clr_rules.specs.Prelude.{after_edits}
use Rattle.clr_staff.specs.Staff.{IsStaff}
use Rattle.clr_rules.specs.Answer.{Answer, answer}
use Rattle.clr_rules.specs.Register.{opening}

-- the register after a command
abbrev pub after : Register → Command → Register
after R q = after_edits (Answer.edits (answer R q)) R

-- the replies of a run
unfoldable pub replies : Register → List Command → List Reply
replies R [] = []
replies R (q ∷ commands) = Answer.reply (answer R q) ∷ replies (after R q) commands

-- the register after a run
unfoldable pub after_all : Register → List Command → Register
after_all R [] = R
after_all R (q ∷ commands) = after_all (after R q) commands

-- a register is reached when a run gives it from an opening one
pub record IsReached (R : Register) : Type 0 where
  pub net : Grid
  pub staff : List StaffRow
  pub commands : List Command
  pub is_network : IsNetwork net
  pub is_staff : IsStaff staff
  pub reached : R ≡ after_all (opening net staff) commands
