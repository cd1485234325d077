-- The deeds that were carried out, line by line.
use Rattle.std.proofs.Common.{◌≡◌, ◌∙◌, Bool, true, false, List, ◌∷◌, ◌++◌, Option, None, Some, IfSome, refl, ap}
use Rattle.serde_json.specs.View.{view}
use Rattle.clr_changes.specs.Deeds.{deed_of}
use Rattle.clr_journal.specs.Journals.{onto_some}
use Rattle.clr_journal.specs.Line.{Entry, carried, withdrawn, is_accepted}
use Rattle.clr_journal.specs.declared.line.Carried.{Carried}
use Rattle.clr_verify.specs.Replay.{IsAccepted, if_accepted, open_entries, own_answered, answered_in, answered_of}

-- a deed that was not accepted is passed over
begins : (next : Carried) (rest : List Entry) → answered_in (carried next.receipt (deed_of next.deed) (view next.reply) ∷ rest) ≡ answered_in (open_entries (if_accepted next) ++ rest)
unfolding answered_in
begins next rest = at (is_accepted (view next.reply)) refl
  where
    at : (b : Bool) → is_accepted (view next.reply) ≡ b → answered_in (carried next.receipt (deed_of next.deed) (view next.reply) ∷ rest) ≡ answered_in (open_entries (if_accepted next) ++ rest)
    at true e = rw e (rw e refl)
    at false e = rw e refl

-- another deed follows
pub follows : (last : Option Carried) → IfSome last IsAccepted → (next : Carried) (rest : List Entry)
    → answered_in (open_entries last ++ carried next.receipt (deed_of next.deed) (view next.reply) ∷ rest) ≡ answered_of last ++ answered_in (open_entries (if_accepted next) ++ rest)
unfolding answered_in
follows None own next rest = begins next rest
follows (Some one) own next rest =
    let here : own_answered (carried one.receipt (deed_of one.deed) (view one.reply)) (carried next.receipt (deed_of next.deed) (view next.reply) ∷ rest)
    ≡ Some (record { number = one.receipt.number; deed = deed_of one.deed; reply = view one.reply }) = rw own refl in
    ap (λ first. onto_some first (answered_in (carried next.receipt (deed_of next.deed) (view next.reply) ∷ rest))) here
    ∙ ap (λ more. record { number = one.receipt.number; deed = deed_of one.deed; reply = view one.reply } ∷ more) (begins next rest)

-- it is withdrawn
pub is_withdrawn : (last : Option Carried) → IfSome last IsAccepted → (n : _) (rest : List Entry) → answered_in (open_entries last ++ withdrawn n ∷ rest) ≡ answered_in rest
unfolding answered_in
is_withdrawn None own n rest = refl
is_withdrawn (Some one) own n rest = rw own refl

pub accepted_open : (one : Carried) → IfSome (if_accepted one) IsAccepted
accepted_open one = at (is_accepted (view one.reply)) refl
  where
    at : (b : Bool) → is_accepted (view one.reply) ≡ b → IfSome (if_accepted one) IsAccepted
    at true e = rw e e
    at false e = rw e tt
