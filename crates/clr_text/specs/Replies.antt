-- HOW A REPLY IS WRITTEN: as JSON without blanks, each object's keys in the order of their bytes.
-- It is a function of the reply alone, so equal replies are equal texts.
use Rattle.std.specs.Prelude.{ℕ, List, codes}
use Rattle.serde_json.specs.Data.{Data, member, no_members, object, string}
use Rattle.serde_json.specs.Written.{compact_text}
use Rattle.clr_rules.specs.Phase.{phase_text}
use Rattle.clr_rules.specs.declared.reply.View.{View}
use Rattle.clr_text.specs.Json.{hold_data, id_data, list_data, name_data, optional_data, point_data}
use Rattle.clr_text.specs.Json.{step_data, whole_data}
use Rattle.clr_text.specs.RefusalText.{refusal_data}
use Rattle.clr_rules.specs.declared.reply.Card.{Card}
use Rattle.clr_rules.specs.declared.reply.Reply.{Reply}
use Rattle.clr_rules.specs.declared.reply.Reply.TheVariants.{Accepted, Added, Refused, Shown}

abbrev pub card_data : Card → Data
card_data card =
    object (member (codes "clearance") (id_data card.clearance)
    (member (codes "done") (whole_data card.done)
    (member (codes "holder") (name_data card.holder)
    (member (codes "phase") (string (phase_text card.phase))
    (member (codes "round") (whole_data card.round)
    (member (codes "steps") (whole_data card.steps) no_members))))))

abbrev pub view_data : View → Data
view_data v =
    object (member (codes "card") (card_data v.card)
    (member (codes "crews") (list_data name_data v.crews)
    (member (codes "fence") (list_data name_data v.fence)
    (member (codes "holds") (list_data hold_data v.holds)
    (member (codes "points") (list_data point_data v.points)
    (member (codes "steps") (list_data step_data v.steps)
    (member (codes "work") (optional_data name_data v.work) no_members)))))))

abbrev pub reply_data : Reply → Data
reply_data (Accepted card) =
    object (member (codes "card") (card_data card)
    (member (codes "reply") (string (codes "accepted")) no_members))
reply_data (Shown v) = object
    (member (codes "reply") (string (codes "shown"))
    (member (codes "view") (view_data v) no_members))
reply_data (Refused refusal) = refusal_data refusal
reply_data (Added point) =
    object (member (codes "point") (name_data point)
    (member (codes "reply") (string (codes "added")) no_members))

abbrev pub reply_text : Reply → List ℕ
reply_text reply = compact_text (reply_data reply)
