-- WHAT DEEDS ARE ANSWERED, as JSON values: a command as it is answered, and an update or an archive
-- with a constant, if it is carried out.
use Rattle.std.specs.Prelude.{List, [], ◌∷◌, codes, if◌then◌else◌}
use Rattle.serde_json.specs.Data.{Data, member, no_members, object, string}
use Rattle.clr_rules.specs.Answer.{Answer, answer}
use Rattle.clr_rules.specs.Register.{Register}
use Rattle.clr_changes.specs.Deeds.{Deed, after_deed, archive, command, update}
use Rattle.clr_text.specs.Replies.{reply_data}
use Rattle.clr_update.specs.Delta.{can_be_made}
use Rattle.clr_journal.specs.Line.{done}

-- what changes are answered that cannot be made. No line has it
abbrev pub not_done : Data
not_done = object (member (codes "reply") (string (codes "refused")) no_members)

abbrev pub deed_reply : Register → Deed → Data
deed_reply R (command q) = reply_data (Answer.reply (answer R q))
deed_reply R (update of) = if can_be_made R of then done else not_done
deed_reply R (archive before) = done

-- the replies of a run of deeds
unfoldable pub deed_replies : Register → List Deed → List Data
deed_replies R [] = []
deed_replies R (deed ∷ deeds) = deed_reply R deed ∷ deed_replies (after_deed R deed) deeds
