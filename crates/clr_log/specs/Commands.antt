-- THE COMMANDS OF A JOURNAL ALONE: those that were carried out, or those of them that are about one
-- clearance, each on a line that `run` takes. Updates and archives are passed over.
use Rattle.std.specs.Prelude.{ℕ, List, map, filter, flat_map, Option}
use Rattle.serde_json.specs.Data.{Data}
use Rattle.clr_changes.specs.Deeds.{Deed, commands_among}
use Rattle.clr_rules.specs.Id.{Id}
use Rattle.clr_rules.specs.declared.command.Command.{Command}
use Rattle.clr_wayback.specs.Text.{command_line}
use Rattle.clr_journal.specs.Journals.{carried_out}
use Rattle.clr_journal.specs.Line.{Entry}
use Rattle.clr_log.specs.About.{clearance_of, is_wanted}

abbrev pub wanted_of : Option Id → List (Deed × Data) → List Command
wanted_of wanted pairs = commands_among
    (map (λ pair. pair.0) (filter (λ pair. is_wanted wanted (clearance_of pair.0 pair.1)) pairs))

abbrev pub commands_about : Option Id → List Entry → List Command
commands_about wanted entries = wanted_of wanted (carried_out entries)

abbrev pub commands_text : List Command → List ℕ
commands_text commands = flat_map command_line commands
