-- The phase after a step is done, by how far its round has come.
use Rattle.std.proofs.Common.{◌≡◌, Bool, true, false, cond, ◌&&◌, List, length, refl, sym, ◌∙◌, ap}
use Rattle.std.specs.List.{count_by}
use Rattle.clr_shelf.specs.Rows.{with_row}
use Rattle.clr_rules.specs.Changes.{phase_after}
use Rattle.clr_rules.specs.Records.{ends_with_steps}
use Rattle.clr_rules.specs.StepKey.{step_key, step_key_cmp}
use Rattle.clr_rules.specs.Steps.{all_done, is_done, present_steps}
use Rattle.clr_rules.specs.declared.phase.Phase.TheVariants.{Closed}
use Rattle.clr_rules.specs.declared.record.Record.{Record}
use Rattle.clr_rules.specs.declared.step_row.StepRow.{StepRow}
use Rattle.clr_answer.proofs.StepCounts.{counted_all, not_counted}
use Rattle.clr_answer.specs.Card.{progress_of}
use Rattle.clr_answer.specs.declared.card.Progress.{Progress}

by_tests : (steps : List StepRow) (r : Record) (row : StepRow) (ends all : Bool) → ends_with_steps r.phase ≡ ends
    → all_done (present_steps (with_row step_key_cmp step_key row steps) r.id) ≡ all → phase_after steps r row ≡ cond (ends && all) Closed r.phase
by_tests steps r row ends all is done i = cond (is i && done i) Closed r.phase

-- a phase that does not end with its steps stays
pub phase_stays : (steps : List StepRow) (r : Record) (row : StepRow) → ends_with_steps r.phase ≡ false → r.phase ≡ phase_after steps r row
phase_stays steps r row is =
    sym (by_tests steps r row false (all_done (present_steps (with_row step_key_cmp step_key row steps) r.id)) is refl)

done_of : (steps : List StepRow) (r : Record) (g : Progress) → g ≡ progress_of steps r.id → g.done ≡ count_by (λ row. is_done row.step.state) (present_steps steps r.id)
done_of steps r g is = ap (λ (g : Progress). g.done) is

steps_of_present : (steps : List StepRow) (r : Record) (g : Progress) → g ≡ progress_of steps r.id → g.steps ≡ length (present_steps steps r.id)
steps_of_present steps r g is = ap (λ (g : Progress). g.steps) is

-- one that does stays while a step of its round is left
pub phase_goes_on : (steps : List StepRow) (r : Record) (row : StepRow) (g : Progress) → g ≡ progress_of (with_row step_key_cmp step_key row steps) r.id
    → ends_with_steps r.phase ≡ true → (g.done ≡ g.steps → ⊥) → r.phase ≡ phase_after steps r row
phase_goes_on steps r row g is ends differ =
    let after = with_row step_key_cmp step_key row steps in
    let apart : count_by (λ row. is_done row.step.state) (present_steps after r.id) ≡ length (present_steps after r.id) → ⊥ =
    λ same. differ (done_of after r g is ∙ same ∙ sym (steps_of_present after r g is)) in
    sym (by_tests steps r row true false ends (not_counted (λ (row : StepRow). is_done row.step.state) (present_steps after r.id) apart))

-- and ends with the last
pub phase_ends : (steps : List StepRow) (r : Record) (row : StepRow) (g : Progress) → g ≡ progress_of (with_row step_key_cmp step_key row steps) r.id
    → ends_with_steps r.phase ≡ true → g.done ≡ g.steps → Closed ≡ phase_after steps r row
phase_ends steps r row g is ends same =
    let after = with_row step_key_cmp step_key row steps in
    let all : count_by (λ row. is_done row.step.state) (present_steps after r.id) ≡ length (present_steps after r.id) =
    sym (done_of after r g is) ∙ same ∙ steps_of_present after r g is in
    sym (by_tests steps r row true true ends (counted_all (λ (row : StepRow). is_done row.step.state) (present_steps after r.id) all))
