-- DEEDS, one after the other, as the lines of a journal carry them out. A command; changes of
-- network and staff; or an archive of the records that were closed before a moment.
use Rattle.std.specs.Prelude.{ℕ, List, [], ◌∷◌}
use Rattle.clr_changes.specs.Archive.{archived}
use Rattle.clr_rules.specs.Register.{Register}
use Rattle.clr_rules.specs.Run.{after}
use Rattle.clr_rules.specs.declared.command.Command.{Command}
use Rattle.clr_update.specs.Changes.{Changes}
use Rattle.clr_update.specs.Delta.{after_changes}
use Rattle.clr_update.specs.Shown.{as_changes}
use Rattle.clr_changes.specs.declared.deed.Deed.{Deed as SeenDeed}
use Rattle.clr_changes.specs.declared.deed.Deed.TheVariants as seen

pub data Deed : Type 0 where
  command : Command → Deed
  update : Changes → Deed
  archive : ℕ → Deed

abbrev pub deed_of : SeenDeed → Deed
deed_of (seen.Command q) = command q
deed_of (seen.Update of) = update (as_changes of)
deed_of (seen.Archive before) = archive before

-- THE REGISTER AFTER A DEED: a command that is refused, and changes that cannot be made, leave it
abbrev pub after_deed : Register → Deed → Register
after_deed R (command q) = after R q
after_deed R (update of) = after_changes R of
after_deed R (archive before) = archived before R

unfoldable pub after_deeds : Register → List Deed → Register
after_deeds R [] = R
after_deeds R (deed ∷ deeds) = after_deeds (after_deed R deed) deeds

-- the commands among them
abbrev pub onto_commands : Deed → List Command → List Command
onto_commands (command q) commands = q ∷ commands
onto_commands (update of) commands = commands
onto_commands (archive before) commands = commands

unfoldable pub commands_among : List Deed → List Command
commands_among [] = []
commands_among (deed ∷ deeds) = onto_commands deed (commands_among deeds)
