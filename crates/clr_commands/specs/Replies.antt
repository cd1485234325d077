-- THE RUN OF AN INPUT: its lines that are not empty are read, their commands run as one list, and
-- one line is printed for each, in their order.
use Rattle.std.specs.Prelude.{◌≡◌, ◌⊎◌, ◌<◌, ℕ, ◌==◌, not, if◌then◌else◌, Bool, List, [], ◌∷◌, ◌++◌}
use Rattle.std.specs.Prelude.{IfNone, IfSome, Option, Some, Result, Ok, Err, filter, length}
use Rattle.std.specs.Prelude.{map, option_map, string_bytes, take}
use Rattle.std.specs.List.{flat_map, slice_split}
use Rattle.sqlite.specs.State.{HasCleanDisk, State}
use Rattle.clr_rules.specs.CrewSafety.{CrewsWorkSafely}
use Rattle.clr_rules.specs.Good.{IsGood}
use Rattle.clr_rules.specs.Register.{Register}
use Rattle.clr_rules.specs.RunHeadline.{IsRun, OthersChangeNoReply, OthersTakeNothing}
use Rattle.clr_rules.specs.RunHeadline.{OwnStandAlone, with_reply}
use Rattle.clr_rules.specs.declared.command.Command.{Command}
use Rattle.clr_rules.specs.declared.reply.Reply.{Reply}
use Rattle.clr_desk.specs.Crash.{LeavesSome}
use Rattle.clr_desk.specs.Faults.{IsOfKeeper}
use Rattle.clr_desk.specs.Kept.{Keeps}
use Rattle.clr_desk.specs.NearRun.{IsNearRun}
use Rattle.clr_desk.specs.declared.desk_fault.DeskFault.{DeskFault}
use Rattle.clr_text.specs.FaultText.{fault_text}
use Rattle.clr_text.specs.Lines.{after_lines, commands_in, line_replies, with_command}
use Rattle.clr_text.specs.Reading.{read_command}
use Rattle.clr_text.specs.Replies.{reply_text}
use Rattle.clr_text.specs.declared.fault.TextFault.{TextFault}
use Rattle.clr_edge.specs.Fault.{of_desk}
use Rattle.clr_edge.specs.declared.fault.Fault.{Fault}
use Rattle.clr_edge.specs.declared.fault.Fault.TheVariants.{Memory}
use Rattle.clr_commands.specs.declared.replies.Printed.{Printed}
use Rattle.clr_commands.specs.declared.replies.Reading.{Reading}
use Rattle.clr_commands.specs.declared.replies.Reading.TheVariants as reading

-- ---- what is read

abbrev pub is_asked : List ℕ → Bool
is_asked line = not (length line == 0)

-- the lines of the input
abbrev pub input_lines : List ℕ → List (List ℕ)
input_lines input = slice_split (λ b. b == 10) input

-- those that are answered: they are not empty
abbrev pub asked_lines : List ℕ → List (List ℕ)
asked_lines input = filter is_asked (input_lines input)

-- the commands among them
abbrev pub asked_commands : List ℕ → List Command
asked_commands input = commands_in (asked_lines input)

-- those of them that have a reply
abbrev pub answered_commands : List ℕ → List Reply → List Command
answered_commands input told = with_reply (asked_commands input) told

abbrev pub reading_of : Result Command TextFault → Reading
reading_of (Ok q) = reading.Command
reading_of (Err fault) = reading.NoCommand fault

-- what each line reads as
abbrev pub readings_of : List (List ℕ) → List Reading
readings_of lines = map (λ line. reading_of (read_command line)) lines

-- what one line adds to these
abbrev pub reading_in : List ℕ → List Reading
reading_in line = if length line == 0 then [] else reading_of (read_command line) ∷ []

abbrev pub command_in : List ℕ → List Command
command_in line = if length line == 0 then [] else with_command (read_command line) []

-- ---- what is printed

-- THE ANSWERS: to each line the text of its fault, or of the reply to its command, up to the first
-- command that has no reply
unfoldable pub answers : List Reading → List Reply → List (List ℕ)
answers [] told = []
answers (reading.Command ∷ lines) [] = []
answers (reading.Command ∷ lines) (reply ∷ told) = reply_text reply ∷ answers lines told
answers (reading.NoCommand fault ∷ lines) told = fault_text fault ∷ answers lines told

-- each text on a line of its own
abbrev pub as_lines : List (List ℕ) → List ℕ
as_lines texts = flat_map (λ text. text ++ 10 ∷ []) texts

-- only the first of the answers are printed, since memory ran out after them
pub record PrintsSome (texts : List (List ℕ)) (text : List ℕ) (fault : Option Fault) : Type 0 where
  pub count : ℕ
  pub fewer : count < length texts
  pub front : text ≡ as_lines (take count texts)
  pub memory : fault ≡ Some Memory

-- the answers are printed, and the fault that ended the commands is reported, if one did
abbrev pub PrintsAnswers : List (List ℕ) → Option DeskFault → Printed → Type 0
PrintsAnswers texts ended printed =
    ((string_bytes printed.text ≡ as_lines texts) × (printed.fault ≡ option_map of_desk ended))
    ⊎ PrintsSome texts (string_bytes printed.text) printed.fault

-- TEXTS ANSWER LINES as a run: they are what answers the first of the lines, and the register is
-- the one after these
pub record AnswerLines (R : Register) (lines texts : List (List ℕ)) (S : Register) : Type 0 where
  pub replied : texts ≡ line_replies R (take (length texts) lines)
  pub register : S ≡ after_lines R (take (length texts) lines)

-- ---- the run

-- THE RUN of an input over the register R: `told` are the replies to its commands, up to a fault,
-- and S is what these leave. Each line has its answer printed, what others ask changes no reply and
-- takes nothing away, and crews work safely. A fault is one that what keeps the changes has, or
-- memory ran out.
pub record AnswersInput (fails : DeskFault → Type 0) (R S : Register) (input : List ℕ)
    (told : List Reply) (printed : Printed) : Type 0 where
  pub ended : Option DeskFault
  pub cause : IfSome ended (IsOfKeeper fails)
  pub ends : IfNone ended (length told ≡ length (asked_commands input))
  pub stops : IfSome ended (λ _. length told < length (asked_commands input))
  pub near : IsNearRun R (answered_commands input told) told S
  pub ran : IsGood R → IsRun R (answered_commands input told) told S
  pub headline : OthersChangeNoReply R (answered_commands input told) told S
  pub untouched : OthersTakeNothing R (answered_commands input told)
  pub alone : OwnStandAlone R (answered_commands input told) told
  pub safe : CrewsWorkSafely R (answered_commands input told) S
  pub prints : PrintsAnswers (answers (readings_of (asked_lines input)) told) ended printed
  pub lines : IsGood R
      → AnswerLines R (asked_lines input) (answers (readings_of (asked_lines input)) told) S

-- THE SAME OVER WHAT KEEPS ITS CHANGES: what is kept of the run, and what a crash leaves
pub record AnswersOver (fails : DeskFault → Type 0) (old new : State) (R S : Register)
    (input : List ℕ) (printed : Printed) : Type 0 where
  pub told : List Reply
  pub run : AnswersInput fails R S input told printed
  pub keeps : Keeps old R new S
  pub crash : HasCleanDisk new → LeavesSome old new R (asked_commands input) (length told)
