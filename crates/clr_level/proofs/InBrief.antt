-- The line of a refused command in brief.
use Rattle.std.proofs.Common.{◌≡◌, ◌∙◌, ◌<◌, ◌&&◌, Bool, false, not, cond, List, length, Option, None, Some, ℕ, ap, ap₂, sym, subst, lt-ltb, option_map}
use Rattle.clr_rules.specs.declared.command.Command.{Command}
use Rattle.clr_rules.specs.declared.command.Kind.{Kind}
use Rattle.clr_rules.specs.declared.reply.Reply.{Reply}
use Rattle.clr_answer.specs.Decision.{is_accepted}
use Rattle.clr_journal.specs.Line.{brief_kind}
use Rattle.clr_journal.specs.declared.line.Receipt.{Receipt}
use Rattle.clr_chain.specs.Link.{link_text}
use Rattle.clr_chain.specs.Sums.{sum_after}
use Rattle.clr_level.specs.Journaling.{brief, brief_of, line_of, line_with}

brief_is : (q : Command) (kind : Option Kind) (b : Command) → Some b ≡ option_map (brief_of q) kind → brief q kind ≡ b
brief_is q None b is = absurd (cc is)
brief_is q (Some kind) b is = let same : b ≡ brief_of q kind = cc is in sym same

-- the line of one that is refused and would be long has the command in brief
pub brief_line : (sum : List ℕ) (receipt : Receipt) (q : Command) (reply : Reply) (b : Command) (text : List ℕ) → is_accepted reply ≡ false
    → text ≡ link_text (line_with receipt q reply) (sum_after sum (line_with receipt q reply)) → 2048 < length text
    → Some b ≡ option_map (brief_of q) (brief_kind q.kind) → line_of sum receipt q reply ≡ line_with receipt b reply
brief_line sum receipt q reply b text refused is long some =
    let more = lt-ltb 2048 (length (link_text (line_with receipt q reply) (sum_after sum (line_with receipt q reply))))
    (subst (λ (t : List ℕ). 2048 < length t) is long) in
    ap (λ (p : Command). line_with receipt p reply)
    (ap₂ (λ (a c : Bool). cond (not a && c) (brief q (brief_kind q.kind)) q) refused more ∙ brief_is q (brief_kind q.kind) b some)
