-- REFUSED COMMANDS IN BRIEF: what is refused may be noted without its lists and its text, with the
-- reply of the whole command.
use Rattle.std.specs.Prelude.{◌≡◌, ◌≢◌, ◌⊎◌, ◌&&◌, Bool, true, false, [], codes}
use Rattle.std.specs.Prelude.{unwrap_or}
use Rattle.serde_json.specs.Data.{Data}
use Rattle.clr_changes.specs.Deeds.{Deed, archive, command, update}
use Rattle.clr_rules.specs.Answer.{Answer, answer}
use Rattle.clr_rules.specs.Register.{Register}
use Rattle.clr_rules.specs.declared.command.Command.{Command}
use Rattle.clr_rules.specs.declared.command.Kind.{Kind}
use Rattle.clr_rules.specs.declared.command.Kind.TheVariants as kinds
use Rattle.clr_rules.specs.declared.refusal.Refusal.TheVariants.{EmptyOrder}
use Rattle.clr_rules.specs.declared.reply.Reply.{Reply}
use Rattle.clr_rules.specs.declared.reply.Reply.TheVariants.{Refused}
use Rattle.clr_text.specs.Replies.{reply_data}
use Rattle.clr_journal.specs.Answered.{deed_reply}
use Rattle.clr_journal.specs.Line.{brief_kind, says}
use Rattle.clr_verify.specs.Replies.{IsReply}

-- a command of a kind that has lists, with none
abbrev pub is_empty_kind : Kind → Bool
is_empty_kind (kinds.Order c [] []) = true
is_empty_kind (kinds.Restore c []) = true
is_empty_kind (kinds.Switch []) = true
is_empty_kind kind = false

-- it is refused for that
abbrev pub is_for_empty : Reply → Bool
is_for_empty (Refused EmptyOrder) = true
is_for_empty reply = false

-- A LINE MAY BE IN BRIEF, and have the refusal that was due to the whole command: its command has no
-- list, and would be refused for that. No check before that one looks at a list, so whatever else
-- refuses a command refuses it in brief too. So does what refuses a repeat: no step has an empty
-- text
abbrev pub is_brief : Command → Data → Reply → Bool
is_brief q reply due = says (codes "refused") reply && is_empty_kind q.kind && is_for_empty due

-- THE LINE OF A REFUSED COMMAND IS TAKEN, where this reply is due: it has that one, or may be in
-- brief
abbrev pub IsTaken : Command → Data → Reply → Type 0
IsTaken q reply due = (is_brief q reply due ≡ true) ⊎ IsReply reply (reply_data due)

abbrev pub DecidesTaken : Command → Data → Reply → Bool → Type 0
DecidesTaken q reply due true = IsTaken q reply due
DecidesTaken q reply due false = (is_brief q reply due ≡ false) × (reply ≢ reply_data due)

-- the same of a deed over a register. No line of an update or of an archive is in brief
abbrev pub is_brief_deed : Register → Deed → Data → Bool
is_brief_deed R (command q) reply = is_brief q reply (Answer.reply (answer R q))
is_brief_deed R (update of) reply = false
is_brief_deed R (archive before) reply = false

abbrev pub IsDeedTaken : Register → Deed → Data → Type 0
IsDeedTaken R deed reply =
    (is_brief_deed R deed reply ≡ true) ⊎ IsReply reply (deed_reply R deed)

abbrev pub DecidesDeed : Register → Deed → Data → Bool → Type 0
DecidesDeed R deed reply true = IsDeedTaken R deed reply
DecidesDeed R deed reply false =
    (is_brief_deed R deed reply ≡ false) × (reply ≢ deed_reply R deed)

-- a command in brief
abbrev pub in_brief : Command → Command
in_brief q = record { caller = q.caller; moment = q.moment; kind = unwrap_or (brief_kind q.kind) q.kind }
