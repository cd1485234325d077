-- Whether a reply accepts, as it is and as a JSON value.
use Rattle.std.proofs.Common.{◌≡◌, false, None, Option, Some, codes, refl}
use Rattle.serde_json.specs.Data.{Data, member, no_members, object, string}
use Rattle.clr_rules.specs.Refusal.{number_of, refusal_name}
use Rattle.clr_rules.specs.declared.reply.Reply.{Reply}
use Rattle.clr_rules.specs.declared.reply.Reply.TheVariants.{Accepted, Added, Refused, Shown}
use Rattle.clr_answer.specs.Decision.{is_accepted}
use Rattle.clr_text.specs.Json.{member_if, whole_data}
use Rattle.clr_text.specs.RefusalText.{by_of, kind_of, point_of, section_of}
use Rattle.clr_text.specs.Replies.{reply_data}
use Rattle.clr_journal.specs.Line.{is_accepted as says_accepted}

refused_by : (by kind point : Option Data) (number name : Data) (section : Option Data)
    → says_accepted (object (member_if (codes "by") by (member_if (codes "kind") kind (member (codes "number") number
    (member_if (codes "point") point (member (codes "refusal") name (member (codes "reply") (string (codes "refused"))
    (member_if (codes "section") section no_members)))))))) ≡ false
refused_by None None None number name None = refl
refused_by None None None number name (Some section) = refl
refused_by None None (Some point) number name None = refl
refused_by None None (Some point) number name (Some section) = refl
refused_by None (Some kind) None number name None = refl
refused_by None (Some kind) None number name (Some section) = refl
refused_by None (Some kind) (Some point) number name None = refl
refused_by None (Some kind) (Some point) number name (Some section) = refl
refused_by (Some by) None None number name None = refl
refused_by (Some by) None None number name (Some section) = refl
refused_by (Some by) None (Some point) number name None = refl
refused_by (Some by) None (Some point) number name (Some section) = refl
refused_by (Some by) (Some kind) None number name None = refl
refused_by (Some by) (Some kind) None number name (Some section) = refl
refused_by (Some by) (Some kind) (Some point) number name None = refl
refused_by (Some by) (Some kind) (Some point) number name (Some section) = refl

pub accepted_data : (reply : Reply) → says_accepted (reply_data reply) ≡ is_accepted reply
accepted_data (Accepted card) = refl
accepted_data (Shown view) = refl
accepted_data (Added point) = refl
accepted_data (Refused refusal) =
    refused_by (by_of refusal) (kind_of refusal) (point_of refusal) (whole_data (number_of refusal)) (string (refusal_name refusal)) (section_of refusal)
