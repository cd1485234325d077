-- What changes are answered, by whether they can be made.
use Rattle.std.proofs.Common.{◌≡◌, ◌≢◌, ◌∙◌, Bool, false, true, if◌then◌else◌, None, Some, ap, subst, sym}
use Rattle.std.proofs.lemmas.Bool.{false≢true}
use Rattle.serde_json.specs.Data.{Data}
use Rattle.clr_rules.specs.Register.{Register}
use Rattle.clr_changes.specs.Deeds.{update}
use Rattle.clr_update.specs.Changes.{Changes}
use Rattle.clr_update.specs.Delta.{can_be_made}
use Rattle.clr_changes.specs.Made.{IsMade}
use Rattle.clr_changes.specs.declared.outcome.After.{After}
use Rattle.clr_journal.specs.Answered.{deed_reply, not_done}
use Rattle.clr_journal.specs.Line.{done, is_accepted}
use Rattle.clr_verify.specs.Replies.{DecidesReply}

reply_by : (R : Register) (of : Changes) (b : Bool) → can_be_made R of ≡ b → deed_reply R (update of) ≡ (if b then done else not_done)
reply_by R of b is = ap (λ (c : Bool). if c then done else not_done) is

not_accepted : is_accepted not_done ≡ true → ⊥
not_accepted is = absurd (false≢true is)

-- they cannot be made, and a reply that accepts is another
pub not_made : (R : Register) (of : Changes) (d : Data) → IsMade R of None → is_accepted d ≡ true → DecidesReply d (deed_reply R (update of)) false
not_made R of d made accepted same =
    not_accepted (ap is_accepted (sym (reply_by R of false made)) ∙ ap is_accepted (sym same) ∙ accepted)

-- they can
pub made_reply : (R : Register) (of : Changes) (after : After) → IsMade R of (Some after) → done ≡ deed_reply R (update of)
made_reply R of after made = sym (reply_by R of true made.0)

pub made_so : (R : Register) (of : Changes) (after : After) (d : Data) (same : Bool) → IsMade R of (Some after) → DecidesReply d done same
    → DecidesReply d (deed_reply R (update of)) same
made_so R of after d same made decides = subst (λ (own : Data). DecidesReply d own same) (made_reply R of after made) decides
