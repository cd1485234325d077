-- LINES: each is read as a command and answered with a text, in the register that the earlier
-- lines left.
use Rattle.std.specs.Prelude.{ℕ, Bool, false, if◌then◌else◌, List, [], ◌∷◌, Result, Ok, Err}
use Rattle.clr_rules.specs.Answer.{Answer, answer}
use Rattle.clr_rules.specs.Isolation.{is_others}
use Rattle.clr_rules.specs.Prelude.{Id, Register}
use Rattle.clr_rules.specs.Run.{after}
use Rattle.clr_rules.specs.Shown.{is_own_command}
use Rattle.clr_text.specs.FaultText.{fault_text}
use Rattle.clr_text.specs.Reading.{read_command}
use Rattle.clr_text.specs.Replies.{reply_text}
use Rattle.clr_text.specs.declared.fault.TextFault.{TextFault}
use Rattle.clr_rules.specs.declared.command.Command.{Command}

-- the text of the reply to a command; or of the fault, whatever the register
abbrev pub answer_text : Register → Result Command TextFault → List ℕ
answer_text R (Ok q) = reply_text (Answer.reply (answer R q))
answer_text R (Err fault) = fault_text fault

-- what answers a line
abbrev pub line_reply : Register → List ℕ → List ℕ
line_reply R line = answer_text R (read_command line)

-- what is no command changes nothing
abbrev pub register_behind : Register → Result Command TextFault → Register
register_behind R (Ok q) = after R q
register_behind R (Err fault) = R

-- the register after a line
abbrev pub after_line : Register → List ℕ → Register
after_line R line = register_behind R (read_command line)

-- WHAT ANSWERS THE LINES: a text to each
unfoldable pub line_replies : Register → List (List ℕ) → List (List ℕ)
line_replies R [] = []
line_replies R (line ∷ lines) = line_reply R line ∷ line_replies (after_line R line) lines

-- the register after the lines
unfoldable pub after_lines : Register → List (List ℕ) → Register
after_lines R [] = R
after_lines R (line ∷ lines) = after_lines (after_line R line) lines

-- ---- the commands among the lines

abbrev pub with_command : Result Command TextFault → List Command → List Command
with_command (Ok q) commands = q ∷ commands
with_command (Err fault) commands = commands

-- the commands that the lines read as
unfoldable pub commands_in : List (List ℕ) → List Command
commands_in [] = []
commands_in (line ∷ lines) = with_command (read_command line) (commands_in lines)

-- ---- the lines of a clearance

abbrev pub is_own_reading : Id → Result Command TextFault → Bool
is_own_reading c (Ok q) = is_own_command c q
is_own_reading c (Err fault) = false

-- the own lines of a clearance: those that read as its own commands
abbrev pub is_own_line : Id → List ℕ → Bool
is_own_line c line = is_own_reading c (read_command line)

-- what answers them: each text is at the place of its line
unfoldable pub own_line_replies : Id → List (List ℕ) → List (List ℕ) → List (List ℕ)
own_line_replies c [] texts = []
own_line_replies c (line ∷ lines) [] = []
own_line_replies c (line ∷ lines) (text ∷ texts) =
    if is_own_line c line then text ∷ own_line_replies c lines texts
    else own_line_replies c lines texts

abbrev pub is_others_reading : Id → Register → Result Command TextFault → Bool
is_others_reading c R (Ok q) = is_others c R q
is_others_reading c R (Err fault) = false

-- whether a line reads as a command about another clearance
abbrev pub is_others_line : Id → Register → List ℕ → Bool
is_others_line c R line = is_others_reading c R (read_command line)
