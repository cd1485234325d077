-- A RUN OF ANY REGISTER, also of one that no commands make: each command is answered from what it
-- looks at. Of a good register that is the run.
use Rattle.std.specs.Prelude.{◌≡◌, List, [], ◌∷◌}
use Rattle.clr_net.specs.Grid.{Grid}
use Rattle.clr_rules.specs.Answer.{Answer}
use Rattle.clr_rules.specs.Register.{Register}
use Rattle.clr_rules.specs.declared.command.Command.{Command}
use Rattle.clr_rules.specs.declared.reply.Reply.{Reply}
use Rattle.clr_book.specs.Own.{asked_answer}
use Rattle.clr_desk.specs.Asking.{near_after, near_network}

-- the replies
unfoldable pub near_replies : Register → List Command → List Reply
near_replies R [] = []
near_replies R (q ∷ commands) =
    Answer.reply (asked_answer R q) ∷ near_replies (near_after R q) commands

-- the register that is left
unfoldable pub near_after_all : Register → List Command → Register
near_after_all R [] = R
near_after_all R (q ∷ commands) = near_after_all (near_after R q) commands

-- the network that is left, its rows with their positions: with what the commands add to it
unfoldable pub near_network_all : Register → List Command → Grid → Grid
near_network_all R [] g = g
near_network_all R (q ∷ commands) g =
    near_network_all (near_after R q) commands (near_network R q g)

-- these commands had these replies, and left this register
pub record IsNearRun (R : Register) (commands : List Command) (told : List Reply)
    (S : Register) : Type 0 where
  pub replied : told ≡ near_replies R commands
  pub register : S ≡ near_after_all R commands
