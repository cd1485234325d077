-- Which replies there are, and which of them have edits.
use Rattle.std.proofs.Common.{◌≡◌, ℕ, Bool, true, false, List, [], ◌∷◌, Option, Some, None, is_some, refl, ap, ◌↔◌}
use Rattle.clr_shelf.proofs.Reading.{row_of-with_row}
use Rattle.clr_rules.specs.Answer.{Answer, answer, reply_clearance, first_refusal, known_of, answer_by_checks, reply_of, reply_after}
use Rattle.clr_rules.proofs.Common.{Known, checks, edits_of, new_steps, put_steps, is_jumper, named_clearance, refusal_of, has_record, after}
use Rattle.clr_rules.specs.Prelude.{Edit, PutRecord, Command, Kind, Record, Refusal, Reply, Id, id_cmp, id_cmp_total, Register, record_key, record_of, after_edit, after_edits, Card, Accepted, Shown}
use Rattle.clr_rules.specs.Prelude.{Refused, Added}
use Rattle.clr_rules.specs.declared.reply.View.{View}
use Rattle.clr_rules.proofs.lists.Greatest.{has_record-put}
use Rattle.clr_rules.proofs.edits.Passing.{named_recorded}
use Rattle.clr_rules.specs.declared.command.Kind.TheVariants as kinds

-- ---- records stay

pub edited-has_record : (edit : Edit) (R : Register) (c : Id) → has_record R.records c ≡ true → has_record (Register.records (after_edit edit R)) c ≡ true
edited-has_record (PutRecord r) R c h = has_record-put c r R.records h
edited-has_record _ R c h = h

-- no edit takes a record away
pub edited_all-has_record : (edits : List Edit) (R : Register) (c : Id) → has_record R.records c ≡ true
    → has_record (Register.records (after_edits edits R)) c ≡ true
unfolding after_edits
edited_all-has_record [] R c h = h
edited_all-has_record (edit ∷ edits) R c h = edited_all-has_record edits (after_edit edit R) c (edited-has_record edit R c h)

put_first : (r : Record) (edits : List Edit) (R : Register) → has_record (Register.records (after_edits (PutRecord r ∷ edits) R)) r.id ≡ true
unfolding after_edits
put_first r edits R =
    edited_all-has_record edits (after_edit (PutRecord r) R) r.id (ap is_some (row_of-with_row id_cmp record_key id_cmp_total r R.records))

-- ---- the reply is about a clearance that has a record

new_recorded : (k : Known) (R : Register) (by : List ℕ) (at : ℕ) (kind : Kind) → named_clearance kind ≡ None → is_jumper kind ≡ false
    → has_record (Register.records (after_edits (edits_of k.greatest R by at kind) R)) (reply_clearance k.greatest by None) ≡ true
new_recorded k R by at (kinds.Request section) none no_jumper = put_first _ [] R
new_recorded k R by at (kinds.Switch tasks) none no_jumper = put_first _ (put_steps (new_steps (reply_clearance k.greatest by None) 1 1 tasks)) R
new_recorded k R by at (kinds.Jumper point from to lockable remote) none no_jumper = cc no_jumper
new_recorded k R by at _ none no_jumper = cc none

concerned_is_recorded : (k : Known) (R : Register) (by : List ℕ) (at : ℕ) (kind : Kind) (named : Option Id) → named_clearance kind ≡ named → is_jumper kind ≡ false
    → first_refusal (checks k R by at kind) ≡ None
    → has_record (Register.records (after_edits (edits_of k.greatest R by at kind) R)) (reply_clearance k.greatest by named) ≡ true
concerned_is_recorded k R by at kind None names no_jumper passed = new_recorded k R by at kind names no_jumper
concerned_is_recorded k R by at kind (Some c) names no_jumper passed =
    edited_all-has_record (edits_of k.greatest R by at kind) R c (named_recorded k R by at kind c passed names)

abbrev pub is_refused : Reply → Bool
is_refused (Refused refusal) = true
is_refused _ = false

told_of_record : (k : Known) (R : Register) (kind : Kind) (found : Option Record) → is_some found ≡ true → is_refused (reply_of k R kind found) ≡ false
told_of_record k R kind None h = cc
told_of_record k R (kinds.Show c) (Some r) h = refl
told_of_record k R _ (Some r) h = refl

-- where no check applies the reply is no refusal
pub passed_is_told : (k : Known) (R : Register) (by : List ℕ) (at : ℕ) (kind : Kind) → first_refusal (checks k R by at kind) ≡ None
    → is_refused (reply_after k (after_edits (edits_of k.greatest R by at kind) R) by kind) ≡ false
passed_is_told k R by at (kinds.Jumper point from to lockable remote) passed = refl
passed_is_told k R by at kind passed =
    let next = after_edits (edits_of k.greatest R by at kind) R in
    told_of_record k next kind (record_of (Register.records next) (reply_clearance k.greatest by (named_clearance kind)))
    (concerned_is_recorded k R by at kind (named_clearance kind) refl refl passed)

-- ---- refused commands

refused_by : (k : Known) (R : Register) (q : Command) (found : Option Refusal) → first_refusal (checks k R q.caller q.moment q.kind) ≡ found
    → (refusal : Refusal) → Answer.reply (answer_by_checks k R q found) ≡ Refused refusal → found ≡ Some refusal
refused_by k R q None passed refusal h = cc (passed_is_told k R q.caller q.moment q.kind passed)
refused_by k R q (Some first) passed refusal h = cc

pub refused_by_first_check : (R : Register) (q : Command) (refusal : Refusal)
    → (Answer.reply (answer R q) ≡ Refused refusal) ↔ (refusal_of R q ≡ Some refusal)
refused_by_first_check R q refusal =
    (refused_by (known_of R q) R q (refusal_of R q) refl refusal, λ h. ap (λ found. Answer.reply (answer_by_checks (known_of R q) R q found)) h)

unchanged : (R : Register) (edits : List Edit) → edits ≡ [] → after_edits edits R ≡ R
unfolding after_edits
unchanged R edits h = ap (λ list. after_edits list R) h

pub refused_changes_nothing : (R : Register) (q : Command) (refusal : Refusal) → Answer.reply (answer R q) ≡ Refused refusal
    → (Answer.edits (answer R q) ≡ []) × (after R q ≡ R)
refused_changes_nothing R q refusal h =
    let none : Answer.edits (answer R q) ≡ [] =
    ap (λ found. Answer.edits (answer_by_checks (known_of R q) R q found)) (refused_by (known_of R q) R q (refusal_of R q) refl refusal h) in
    (none, unchanged R (Answer.edits (answer R q)) none)

-- ---- shown and accepted commands

shown_has_none : (k : Known) (R S : Register) (by : List ℕ) (at : ℕ) (kind : Kind) (found : Option Record) (view : View)
    → reply_of k S kind found ≡ Shown view → edits_of k.greatest R by at kind ≡ []
shown_has_none k R S by at kind None view h = cc
shown_has_none k R S by at (kinds.Show c) (Some r) view h = refl
shown_has_none k R S by at _ (Some r) view h = cc

told_shown : (k : Known) (R S : Register) (by : List ℕ) (at : ℕ) (kind : Kind) (view : View) → reply_after k S by kind ≡ Shown view → edits_of k.greatest R by at kind ≡ []
told_shown k R S by at (kinds.Jumper point from to lockable remote) view h = cc h
told_shown k R S by at kind view h = shown_has_none k R S by at kind (record_of S.records (reply_clearance k.greatest by (named_clearance kind))) view h

settled_shown : (k : Known) (R : Register) (q : Command) (found : Option Refusal) (view : View) → Answer.reply (answer_by_checks k R q found) ≡ Shown view
    → (found ≡ None) × (Answer.edits (answer_by_checks k R q found) ≡ [])
settled_shown k R q None view h =
    (refl, told_shown k R (after_edits (edits_of k.greatest R q.caller q.moment q.kind) R) q.caller q.moment q.kind view h)
settled_shown k R q (Some refusal) view h = cc

pub shown_changes_nothing : (R : Register) (q : Command) (view : View) → Answer.reply (answer R q) ≡ Shown view
    → (refusal_of R q ≡ None) × (Answer.edits (answer R q) ≡ []) × (after R q ≡ R)
shown_changes_nothing R q view h =
    let (passed, none) = settled_shown (known_of R q) R q (refusal_of R q) view h in
    (passed, none, unchanged R (Answer.edits (answer R q)) none)

settled_accepted : (k : Known) (R : Register) (q : Command) (found : Option Refusal) (card : Card) → Answer.reply (answer_by_checks k R q found) ≡ Accepted card
    → found ≡ None
settled_accepted k R q None card h = refl
settled_accepted k R q (Some refusal) card h = cc

pub accepted_passes_checks : (R : Register) (q : Command) (card : Card) → Answer.reply (answer R q) ≡ Accepted card → refusal_of R q ≡ None
accepted_passes_checks R q card h = settled_accepted (known_of R q) R q (refusal_of R q) card h

settled_added : (k : Known) (R : Register) (q : Command) (found : Option Refusal) (point : List ℕ) → Answer.reply (answer_by_checks k R q found) ≡ Added point
    → found ≡ None
settled_added k R q None point h = refl
settled_added k R q (Some refusal) point h = cc

pub added_passes_checks : (R : Register) (q : Command) (point : List ℕ) → Answer.reply (answer R q) ≡ Added point → refusal_of R q ≡ None
added_passes_checks R q point h = settled_added (known_of R q) R q (refusal_of R q) point h
