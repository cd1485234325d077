-- LAWS: a difference that is named is one, and replies that are those of lines are exactly those.
use Rattle.std.specs.Prelude.{◌≡◌, ◌≢◌, ◌≤◌, ℕ, All, List, Ok, Some, map}
use Rattle.serde_json.specs.Data.{Data, depth}
use Rattle.clr_rules.specs.Register.{Register}
use Rattle.clr_load.specs.TableLaws.{IsToldByTables}
use Rattle.clr_load.specs.Tables.{tables_of}
use Rattle.clr_journal.specs.Journals.{read_journal}
use Rattle.clr_journal.specs.Line.{Entry}
use Rattle.clr_verify.specs.Registers.{IsFirstDifference}
use Rattle.clr_verify.specs.Replay.{answered_in, due_answered}
use Rattle.clr_verify.specs.Replies.{AreReplies}
use Rattle.clr_verify.specs.declared.registers.Difference.{Difference}

-- registers that the tables tell apart, as all good ones are, have other tables where a difference
-- of them is named
abbrev pub DifferencesAreSeen : Type 0
DifferencesAreSeen = (R S : Register) → IsToldByTables R → IsToldByTables S → (found : Difference)
    → IsFirstDifference R S (Some found) → tables_of R ≢ tables_of S

-- NO REPLY OF A LINE THAT WAS READ NESTS DEEPER THAN 127
abbrev pub NestsNoDeeper : Type 0
NestsNoDeeper = (bytes : List ℕ) (entries : List Entry) → read_journal bytes ≡ Ok entries
    → All (λ line. depth line.reply ≤ 127) (answered_in entries)

-- SO THE REPLIES ARE EXACTLY THOSE OF THE LINES, where they are compared with lines that were read
abbrev pub RepliesAreExact : Type 0
RepliesAreExact = (bytes : List ℕ) (entries : List Entry) (replies : List Data)
    → read_journal bytes ≡ Ok entries
    → AreReplies (map due_answered (answered_in entries)) replies
    → map (λ line. line.reply) (answered_in entries) ≡ replies
