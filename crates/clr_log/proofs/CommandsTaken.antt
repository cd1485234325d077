-- The commands of a chain, line by line.
use Rattle.std.proofs.Common.{◌≡◌, ◌∙◌, ℕ, Bool, true, false, ◌&&◌, if◌then◌else◌, List, [], ◌∷◌, ◌++◌, map, Option, None, Some, IfSome, Result, Ok, Err, OnOk, refl, ap, sym, append_assoc}
use Rattle.std.proofs.lemmas.List.{append-nil}
use Rattle.std.specs.Prelude.{not}
use Rattle.serde_json.specs.Data.{Data}
use Rattle.serde_json.specs.View.{view}
use Rattle.clr_changes.specs.Deeds.{Deed, commands_among, deed_of}
use Rattle.clr_rules.specs.Id.{Id}
use Rattle.clr_journal.specs.Journals.{carried_out, onto_some, withdraws}
use Rattle.clr_journal.specs.Line.{Entry, carried, withdrawn, is_accepted}
use Rattle.clr_journal.specs.declared.line.Carried.{Carried}
use Rattle.clr_verify.specs.Replay.{Answered, IsAccepted, answered_in, answered_of, open_entries}
use Rattle.clr_chain.specs.Walking.{holds, seen_step}
use Rattle.clr_chain.specs.declared.walk.Step.{Step as SeenStep}
use Rattle.clr_log.specs.About.{clearance_of, is_wanted}
use Rattle.clr_log.specs.Commands.{commands_text, wanted_of}
use Rattle.clr_log.specs.Log.{if_wanted}
use Rattle.clr_log.specs.Walked.{last_accepted, older_with, pair_of}
use Rattle.clr_log.proofs.Wanted.{one_wanted, text_of_deed}

-- what was carried out, of the lines that were answered
pub carried_out-answered : (entries : List Entry) → carried_out entries ≡ map pair_of (answered_in entries)
unfolding carried_out answered_in
carried_out-answered [] = refl
carried_out-answered (withdrawn n ∷ rest) = carried_out-answered rest
carried_out-answered (carried receipt q reply ∷ rest) = at (is_accepted reply && not (withdraws rest)) (carried_out-answered rest)
  where
    at : (b : Bool) → carried_out rest ≡ map pair_of (answered_in rest)
        → onto_some (if b then Some (q, reply) else None) (carried_out rest)
        ≡ map pair_of (onto_some (if b then Some (record { number = receipt.number; deed = q; reply = reply }) else None) (answered_in rest))
    at true more = ap (λ rest. (q, reply) ∷ rest) more
    at false more = more

abbrev pub text_over : Option Id → List Answered → List ℕ
text_over wanted answered = commands_text (wanted_of wanted (map pair_of answered))

one_alone : (wanted : Option Id) (deed : Deed) (reply : Data) → commands_text (wanted_of wanted ((deed, reply) ∷ [])) ≡ if_wanted (is_wanted wanted (clearance_of deed reply)) (text_of_deed deed)
unfolding commands_among
one_alone wanted deed reply = one_wanted wanted deed reply [] ∙ append-nil _

text_over-cons : (wanted : Option Id) (one : Answered) (rest : List Answered) → text_over wanted (one ∷ rest) ≡ text_over wanted (one ∷ []) ++ text_over wanted rest
text_over-cons wanted one rest =
    one_wanted wanted one.deed one.reply (map pair_of rest) ∙ ap (λ text. text ++ text_over wanted rest) (sym (one_alone wanted one.deed one.reply))

pub push_some : (wanted : Option Id) (one : Carried) → if_wanted (is_wanted wanted (clearance_of (deed_of one.deed) (view one.reply))) (text_of_deed (deed_of one.deed)) ≡ text_over wanted (answered_of (Some one))
push_some wanted one = sym (one_alone wanted (deed_of one.deed) (view one.reply))

-- the commands of some lines and of the lines after them
text_over-append : (wanted : Option Id) (done : Option Carried) (rest : List Answered) → text_over wanted (answered_of done ++ rest) ≡ text_over wanted (answered_of done) ++ text_over wanted rest
unfolding commands_among
text_over-append wanted None rest = refl
text_over-append wanted (Some one) rest =
    text_over-cons wanted (record { number = one.receipt.number; deed = deed_of one.deed; reply = view one.reply }) rest

-- a line was taken, and what was carried out before it was written
pub one_taken : (wanted : Option Id) (done : Option Carried) (before after : List ℕ) (entries later : List Entry)
    → answered_in entries ≡ answered_of done ++ answered_in later
    → after ≡ before ++ text_over wanted (answered_of done)
    → before ++ commands_text (wanted_of wanted (carried_out entries)) ≡ after ++ commands_text (wanted_of wanted (carried_out later))
one_taken wanted done before after entries later answered more =
    let all = ap (λ pairs. before ++ commands_text (wanted_of wanted pairs)) (carried_out-answered entries ∙ ap (map pair_of) answered) in
    let split = ap (λ text. before ++ text) (text_over-append wanted done (answered_in later)) in
    let joined = sym (append_assoc before (text_over wanted (answered_of done)) (text_over wanted (answered_in later))) in
    let written = ap (λ text. text ++ text_over wanted (answered_in later)) (sym more) in
    all ∙ split ∙ joined ∙ written ∙ ap (λ pairs. after ++ commands_text (wanted_of wanted pairs)) (sym (carried_out-answered later))

-- the last one
pub open_answered : (last : Option Carried) → IfSome last IsAccepted → map pair_of (answered_of last) ≡ carried_out (open_entries last)
unfolding carried_out
open_answered None is = refl
open_answered (Some one) is = at (is_accepted (view one.reply)) is
  where
    pair : Deed × Data
    pair = (deed_of one.deed, view one.reply)

    at : (b : Bool) → b ≡ true → pair ∷ [] ≡ onto_some (if b && true then Some pair else None) []
    at true e = refl
    at false e = absurd (cc e)

-- the last command is accepted
pub accepted_last : (last : Option Carried) → last_accepted last ≡ true → IfSome last IsAccepted
accepted_last None is = tt
accepted_last (Some one) is = is

pub last_accepted-of : (last : Option Carried) → IfSome last IsAccepted → last_accepted last ≡ true
last_accepted-of None is = refl
last_accepted-of (Some one) is = is

-- ---- what is written on the way

pub wrote_some : {T E : Type 0} (result : Result T E) (wanted : Option Id) (done : Option Carried) (one : Carried) (before after : List ℕ) → done ≡ Some one
    → OnOk result (after ≡ before ++ if_wanted (is_wanted wanted (clearance_of (deed_of one.deed) (view one.reply))) (text_of_deed (deed_of one.deed)))
    → OnOk result (after ≡ before ++ text_over wanted (answered_of done))
wrote_some (Ok value) wanted done one before after is more =
    more ∙ ap (λ text. before ++ text) (push_some wanted one) ∙ ap (λ d. before ++ text_over wanted (answered_of d)) (sym is)
wrote_some (Err e) wanted done one before after is more = tt

pub wrote_last : {T E : Type 0} (result : Result T E) (wanted : Option Id) (last taken : Option Carried) (before after : List ℕ) → taken ≡ last
    → last_accepted last ≡ true → OnOk result (after ≡ before ++ text_over wanted (answered_of taken))
    → OnOk result (after ≡ before ++ commands_text (wanted_of wanted (carried_out (open_entries last))))
wrote_last (Ok value) wanted last taken before after is accepted more =
    more ∙ ap (λ d. before ++ text_over wanted (answered_of d)) is
    ∙ ap (λ pairs. before ++ commands_text (wanted_of wanted pairs)) (open_answered last (accepted_last last accepted))
wrote_last (Err e) wanted last taken before after is accepted more = tt

pub step_taken : {T E : Type 0} (result : Result T E) (wanted : Option Id) (last taken done next : Option Carried) (entry : Entry) (step : SeenStep) (before after : List ℕ)
    → seen_step step ≡ holds entry → taken ≡ last
    → ((rest : List Entry) → answered_in (open_entries taken ++ entry ∷ rest) ≡ answered_of done ++ answered_in (open_entries next ++ rest))
    → OnOk result (after ≡ before ++ text_over wanted (answered_of done))
    → OnOk result ((rest : List Entry) → before ++ commands_text (wanted_of wanted (carried_out (open_entries last ++ older_with rest (seen_step step))))
    ≡ after ++ commands_text (wanted_of wanted (carried_out (open_entries next ++ rest))))
step_taken (Ok value) wanted last taken done next entry step before after step_is is answered more = λ rest.
    let here = one_taken wanted done before after (open_entries taken ++ entry ∷ rest) (open_entries next ++ rest) (answered rest) more in
    (λ i. before ++ commands_text (wanted_of wanted (carried_out (open_entries (sym is i) ++ older_with rest (step_is i))))) ∙ here
step_taken (Err e) wanted last taken done next entry step before after step_is is answered more = tt
