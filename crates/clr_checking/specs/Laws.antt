-- LAWS: replies that are found to be those of lines are exactly those; and the line of a command in
-- brief is taken.
use Rattle.std.specs.Prelude.{◌≡◌, ◌≤◌, ℕ, List, Some}
use Rattle.serde_json.specs.Data.{Data, depth}
use Rattle.clr_changes.specs.Deeds.{Deed, command}
use Rattle.clr_rules.specs.Answer.{Answer, answer}
use Rattle.clr_rules.specs.Register.{Register}
use Rattle.clr_rules.specs.declared.command.Command.{Command}
use Rattle.clr_rules.specs.declared.refusal.Refusal.{Refusal}
use Rattle.clr_rules.specs.declared.reply.Reply.TheVariants.{Refused}
use Rattle.clr_text.specs.Replies.{reply_data}
use Rattle.clr_journal.specs.Journals.{carried_out}
use Rattle.clr_journal.specs.Line.{carried}
use Rattle.clr_journal.specs.declared.line.Receipt.{Receipt}
use Rattle.clr_chain.specs.Chain.{read_on}
use Rattle.clr_chain.specs.Level.{IsRunOf}
use Rattle.clr_chain.specs.Link.{next_link}
use Rattle.clr_chain.specs.declared.chain_end.ChainEnd.{ChainEnd}
use Rattle.clr_checking.specs.Brief.{IsDeedTaken, in_brief}
use Rattle.clr_checking.specs.Checking.{AreAnswered}

-- NO REPLY OF A LINE THAT HOLDS ITS SUM NESTS DEEPER THAN 127
abbrev pub NestsNoDeeper : Type 0
NestsNoDeeper = (end : ChainEnd) (text : List ℕ) (receipt : Receipt) (deed : Deed) (reply : Data)
    → next_link end text ≡ Some (carried receipt deed reply) → depth reply ≤ 127

-- SO THE REPLIES ARE EXACTLY THOSE OF THE RUN, where they are found to be those of lines that hold
-- their sums: what the lines say was carried out is a run, with these replies
abbrev pub RepliesAreExact : Type 0
RepliesAreExact = (R S : Register) (end : ChainEnd) (texts : List (List ℕ))
    → AreAnswered R (read_on end texts).entries S
    → IsRunOf R (carried_out (read_on end texts).entries) S

-- THE LINE OF A COMMAND IN BRIEF IS TAKEN with the refusal of the whole one
abbrev pub BriefLinesAreTaken : Type 0
BriefLinesAreTaken = (R : Register) (q : Command) (refusal : Refusal)
    → Answer.reply (answer R q) ≡ Refused refusal
    → IsDeedTaken R (command (in_brief q)) (reply_data (Refused refusal))
