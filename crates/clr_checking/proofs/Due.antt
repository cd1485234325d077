-- Which lines of refused deeds are taken.
use Rattle.std.proofs.Common.{◌≡◌, Bool, true, false, inr}
use Rattle.serde_json.specs.Data.{Data}
use Rattle.clr_changes.specs.Deeds.{Deed, command}
use Rattle.clr_journal.specs.Answered.{deed_reply}
use Rattle.clr_rules.specs.Answer.{Answer, answer}
use Rattle.clr_rules.specs.Register.{Register}
use Rattle.clr_rules.specs.declared.command.Command.{Command}
use Rattle.clr_verify.specs.Replies.{DecidesReply}
use Rattle.clr_checking.specs.Brief.{DecidesDeed, DecidesTaken, is_brief_deed}

-- where no line is in brief, the reply decides
pub in_full : (R : Register) (deed : Deed) (reply : Data) → is_brief_deed R deed reply ≡ false → (found : Bool) → DecidesReply reply (deed_reply R deed) found
    → DecidesDeed R deed reply found
in_full R deed reply whole true is = inr is
in_full R deed reply whole false is = (whole, is)

pub of_command : (R : Register) (q : Command) (reply : Data) (found : Bool) → DecidesTaken q reply (Answer.reply (answer R q)) found
    → DecidesDeed R (command q) reply found
of_command R q reply true is = is
of_command R q reply false is = is
