-- The record and the steps after edits that end with them.
use Rattle.std.proofs.Common.{◌≡◌, List, [], ◌∷◌, ◌++◌, Some, refl, sym, ◌∙◌, ap}
use Rattle.clr_shelf.proofs.Reading.{row_of-with_row}
use Rattle.clr_shelf.specs.Rows.{with_row}
use Rattle.clr_rules.specs.Answer.{Answer, card_of}
use Rattle.clr_rules.specs.Changes.{put_steps}
use Rattle.clr_rules.specs.Edits.{after_edit, after_edits}
use Rattle.clr_rules.specs.Id.{id_cmp, id_cmp_total}
use Rattle.clr_rules.specs.Records.{record_key, record_of}
use Rattle.clr_rules.specs.Register.{Register}
use Rattle.clr_rules.specs.declared.change.Edit.{Edit}
use Rattle.clr_rules.specs.declared.change.Edit.TheVariants.{PutRecord, PutStep}
use Rattle.clr_rules.specs.declared.record.Record.{Record}
use Rattle.clr_rules.specs.declared.reply.Card.{Card}
use Rattle.clr_rules.specs.declared.reply.Reply.{Reply}
use Rattle.clr_rules.specs.declared.reply.Reply.TheVariants.{Accepted}
use Rattle.clr_rules.specs.declared.step_row.StepRow.{StepRow}
use Rattle.clr_answer.specs.Decision.{accepted_with, all_edits}
use Rattle.clr_answer.specs.Card.{progress_of, put_all}
use Rattle.clr_answer.specs.declared.card.Progress.{Progress}

edited_all-append : (front back : List Edit) (R : Register) → after_edits (front ++ back) R ≡ after_edits back (after_edits front R)
unfolding after_edits
edited_all-append [] back R = refl
edited_all-append (edit ∷ front) back R = edited_all-append front back (after_edit edit R)

steps_put : (rows : List StepRow) (R : Register) → Register.steps (after_edits (put_steps rows) R) ≡ put_all rows R.steps
unfolding after_edits
steps_put [] R = refl
steps_put (row ∷ rows) R = steps_put rows (after_edit (PutStep row) R)

records_stay : (rows : List StepRow) (R : Register) → Register.records (after_edits (put_steps rows) R) ≡ R.records
unfolding after_edits
records_stay [] R = refl
records_stay (row ∷ rows) R = records_stay rows (after_edit (PutStep row) R)

ended_steps : (r : Record) (rows : List StepRow) (R : Register) → Register.steps (after_edits (PutRecord r ∷ put_steps rows) R) ≡ put_all rows R.steps
unfolding after_edits
ended_steps r rows R = steps_put rows (after_edit (PutRecord r) R)

ended_records : (r : Record) (rows : List StepRow) (R : Register) → Register.records (after_edits (PutRecord r ∷ put_steps rows) R) ≡ with_row id_cmp record_key r R.records
unfolding after_edits
ended_records r rows R = records_stay rows (after_edit (PutRecord r) R)

-- the steps, where the first edits leave them as they are
pub steps_after : (lead : List Edit) (r : Record) (rows : List StepRow) (R : Register) → Register.steps (after_edits lead R) ≡ R.steps
    → Register.steps (after_edits (all_edits lead r rows) R) ≡ put_all rows R.steps
steps_after lead r rows R same =
    ap (λ (S : Register). S.steps) (edited_all-append lead (PutRecord r ∷ put_steps rows) R) ∙ ended_steps r rows (after_edits lead R) ∙ ap (put_all rows) same

-- the record that was put
pub record_after : (lead : List Edit) (r : Record) (rows : List StepRow) (R : Register) → record_of (Register.records (after_edits (all_edits lead r rows) R)) r.id ≡ Some r
record_after lead r rows R =
    let records : Register.records (after_edits (all_edits lead r rows) R) ≡ with_row id_cmp record_key r (Register.records (after_edits lead R)) =
    ap (λ (S : Register). S.records) (edited_all-append lead (PutRecord r ∷ put_steps rows) R) ∙ ended_records r rows (after_edits lead R) in
    ap (λ found. record_of found r.id) records ∙ row_of-with_row id_cmp record_key id_cmp_total r (Register.records (after_edits lead R))

abbrev pub answer_of : Reply → List Edit → Answer
answer_of reply edits = record { reply = reply; edits = edits }

-- the answer by a card that was made of the progress
pub card_is : (R : Register) (lead : List Edit) (r : Record) (rows : List StepRow) (g : Progress) (all : List Edit) (card : Card)
    → Register.steps (after_edits lead R) ≡ R.steps → g ≡ progress_of (put_all rows R.steps) r.id → all ≡ all_edits lead r rows
    → card ≡ record { clearance = r.id; phase = r.phase; holder = r.holder; round = g.round; done = g.done; steps = g.steps }
    → answer_of (Accepted card) all ≡ accepted_with R lead r rows
card_is R lead r rows g all card same progress edits made =
    let S = after_edits (all_edits lead r rows) R in
    let now : g ≡ progress_of S.steps r.id = progress ∙ sym (ap (λ steps. progress_of steps r.id) (steps_after lead r rows R same)) in
    let same_card : card ≡ card_of S r =
    made ∙ (λ i. record { clearance = r.id; phase = r.phase; holder = r.holder; round = Progress.round (now i); done = Progress.done (now i); steps = Progress.steps (now i) }) in
    λ i. record { reply = Accepted (same_card i); edits = edits i }
