-- THE HEADLINE IN BYTES: lines that show a clearance the same give it the same replies, byte for
-- byte.
use Rattle.std.specs.Prelude.{◌≡◌, ℕ, Bool, true, List, map, filter, Err}
use Rattle.clr_rules.specs.Agreement.{Agree}
use Rattle.clr_rules.specs.Good.{IsGood}
use Rattle.clr_rules.specs.Isolation.{LeftAlone, ShowTheSame, ShowsOwnAlone}
use Rattle.clr_rules.specs.Prelude.{Id, Register}
use Rattle.clr_rules.specs.RunHeadline.{IsRun, own_replies}
use Rattle.clr_text.specs.Lines.{after_line, after_lines, commands_in, is_others_line, is_own_line}
use Rattle.clr_text.specs.Lines.{line_replies, line_reply, own_line_replies}
use Rattle.clr_text.specs.Reading.{read_command}
use Rattle.clr_text.specs.FaultText.{fault_text}
use Rattle.clr_text.specs.Replies.{reply_text}
use Rattle.clr_text.specs.declared.fault.TextFault.{TextFault}
use Rattle.clr_rules.specs.declared.reply.Reply.{Reply}

-- LINES ARE A RUN of the commands that they read as: it leaves the same register, and its replies
-- to a clearance's own commands are, as texts, what answers the clearance's own lines
pub record AreRun (R : Register) (lines : List (List ℕ)) (told : List Reply) (S : Register)
    : Type 0 where
  pub register : after_lines R lines ≡ S
  pub texts : (c : Id)
      → own_line_replies c lines (line_replies R lines)
      ≡ map reply_text (own_replies c (commands_in lines) told)

abbrev pub LinesAreRuns : Type 0
LinesAreRuns = (R : Register) (lines : List (List ℕ)) (told : List Reply) (S : Register)
    → IsRun R (commands_in lines) told S → AreRun R lines told S

-- A LINE THAT IS NO COMMAND is answered with its fault, whatever the register, and changes nothing
abbrev pub FaultsAreOfTheLine : Type 0
FaultsAreOfTheLine = (R : Register) (line : List ℕ) (fault : TextFault)
    → read_command line ≡ Err fault
    → (line_reply R line ≡ fault_text fault) × (after_line R line ≡ R)

-- FIRST HALF: two registers and two lists of lines show a clearance the same, by the commands that
-- the lines read as. Then its own lines are answered with the same bytes, and the registers agree
-- again
abbrev pub SameShownSameBytes : Type 0
SameShownSameBytes = (c : Id) (inside : List ℕ → Bool) (R T : Register)
    (lines others : List (List ℕ))
    → ShowTheSame c inside R (commands_in lines) T (commands_in others)
    → (own_line_replies c lines (line_replies R lines)
    ≡ own_line_replies c others (line_replies T others))
    × Agree c inside (after_lines R lines) (after_lines T others)

-- SECOND HALF: after any lines, a line about another clearance leaves a clearance's record, steps
-- and holds as they are, clears no hand of it, and each point that the clearance holds open is
-- open
abbrev pub OthersLinesTakeNothing : Type 0
OthersLinesTakeNothing = (R : Register) (earlier : List (List ℕ)) (c : Id) (line : List ℕ)
    → IsGood R → is_others_line c (after_lines R earlier) line ≡ true
    → LeftAlone c (after_lines R earlier) (after_line (after_lines R earlier) line)

-- THE CONSEQUENCE: where no line of others marks the set, a clearance's own lines are answered
-- with the bytes that they give alone
abbrev pub OwnLinesAlone : Type 0
OwnLinesAlone = (c : Id) (inside : List ℕ → Bool) (R : Register) (lines : List (List ℕ))
    → ShowsOwnAlone c inside R (commands_in lines)
    → own_line_replies c lines (line_replies R lines)
    ≡ line_replies R (filter (is_own_line c) lines)
