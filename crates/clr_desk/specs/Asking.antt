-- ASKING A BOOK: what it answers to a command, and the register and the network that this leaves.
use Rattle.clr_net.specs.Grid.{Grid}
use Rattle.clr_rules.specs.Answer.{Answer}
use Rattle.clr_rules.specs.Edits.{after_edits}
use Rattle.clr_rules.specs.Register.{Register}
use Rattle.clr_rules.specs.declared.command.Command.{Command}
use Rattle.clr_book.specs.Growth.{network_after_all}
use Rattle.clr_book.specs.Own.{asked_answer}

-- the register with the edits of the answer from what the command looks at; of a good register that
-- is the answer of the whole register
abbrev pub near_after : Register → Command → Register
near_after R q = after_edits (Answer.edits (asked_answer R q)) R

-- a network whose rows have positions, with what those edits add
abbrev pub near_network : Register → Command → Grid → Grid
near_network R q g = network_after_all (Answer.edits (asked_answer R q)) g
