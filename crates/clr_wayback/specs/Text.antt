-- THE TEXT OF A WAY BACK: each command as a line of JSON, and what the lines of a text read as.
use Rattle.std.specs.Prelude.{◌≡◌, ℕ, Bool, true, not, ◌||◌, ◌==◌, List, [], ◌∷◌, ◌++◌, filter}
use Rattle.std.specs.Prelude.{length}
use Rattle.std.specs.List.{flat_map, list_all, slice_split}
use Rattle.clr_rules.specs.Id.{Id}
use Rattle.clr_rules.specs.Register.{Register}
use Rattle.clr_rules.specs.WayBack.{way_back}
use Rattle.clr_rules.specs.declared.command.Command.{Command}
use Rattle.clr_text.specs.CommandText.{can_be_sent, command_text, has_its_moment}
use Rattle.clr_text.specs.Lines.{commands_in}

abbrev pub command_line : Command → List ℕ
command_line q = command_text q ++ 10 ∷ []

abbrev pub way_back_text : List Command → List ℕ
way_back_text commands = flat_map command_line commands

-- the commands that the lines of a text read as, but for its empty lines
abbrev pub commands_read : List ℕ → List Command
commands_read text =
    commands_in (filter (λ line. not (length line == 0)) (slice_split (λ b. b == 10) text))

-- a command that has its moment can be sent
abbrev pub reads_back : Command → Bool
reads_back q = not (has_its_moment q) || can_be_sent q

-- THE COMMANDS OF A WAY BACK have their moments
abbrev pub WaysBackHaveMoments : Type 0
WaysBackHaveMoments = (R : Register) (c : Id) → list_all has_its_moment (way_back R c) ≡ true
