-- Each command of a way back states its moment.
use Rattle.std.proofs.Common.{◌≡◌, ◌∙◌, Bool, true, false, not, ℕ, zero, suc, List, [], ◌∷◌, Option, Some, None, find, refl}
use Rattle.std.specs.List.{list_all}
use Rattle.std.proofs.lemmas.List.Folds.{list_all-append}
use Rattle.clr_rules.specs.Id.{Id, same_id}
use Rattle.clr_rules.specs.Holds.{places_of}
use Rattle.clr_rules.specs.Records.{record_of}
use Rattle.clr_rules.specs.Register.{Register}
use Rattle.clr_rules.specs.States.{hand_of}
use Rattle.clr_rules.specs.declared.hold_kind.HoldKind.TheVariants.{Crew, Ground}
use Rattle.clr_rules.specs.declared.phase.Phase.{Phase}
use Rattle.clr_rules.specs.declared.phase.Phase.TheVariants.{Requested, Ordered, Granted, Released, Restoring, Switching, Closed}
use Rattle.clr_rules.specs.declared.record.Record.{Record}
use Rattle.clr_rules.specs.declared.step_row.StepRow.{StepRow}
use Rattle.clr_rules.specs.Run.{after_all}
use Rattle.clr_rules.specs.Steps.{is_active, is_close, is_done, steps_in, steps_of}
use Rattle.clr_rules.specs.WayBack.{begun, cancelled, enough_turns, given_out, given_out_at, given_up, moves_in, moves_of, next_moves, reported_undone, stepped, turns}
use Rattle.clr_text.specs.CommandText.{has_its_moment}
use Rattle.clr_wayback.specs.Text.{WaysBackHaveMoments}

undone_stated : (R : Register) (o : Option Record) (found : Option StepRow) → list_all has_its_moment (reported_undone R o found) ≡ true
undone_stated R None found = refl
undone_stated R (Some r) None = refl
undone_stated R (Some r) (Some row) = refl

cancelled_stated : (R : Register) (r : Record) (found : Option StepRow) → list_all has_its_moment (cancelled R r found) ≡ true
cancelled_stated R r None = refl
cancelled_stated R r (Some row) = refl

given_up_stated : (r : Record) (crews grounds : List (List ℕ)) → list_all has_its_moment (given_up r crews grounds) ≡ true
given_up_stated r (crew ∷ crews) grounds = refl
given_up_stated r [] (section ∷ grounds) = refl
given_up_stated r [] [] = refl

given_out_stated : (R : Register) (r : Record) (row : StepRow) (hand : Option Id) → list_all has_its_moment (given_out R r row hand) ≡ true
given_out_stated R r row None = refl
given_out_stated R r row (Some d) = at (same_id r.id d) refl
  where
    at : (b : Bool) → same_id r.id d ≡ b → list_all has_its_moment (given_out R r row (Some d)) ≡ true
    at true e = rw e refl
    at false e = rw e (undone_stated R (record_of R.records d) (given_out_at R.steps d row.step.point))

begun_stated : (R : Register) (r : Record) (row : StepRow) (closes : Bool) → list_all has_its_moment (begun R r row closes) ≡ true
begun_stated R r row true = refl
begun_stated R r row false = given_out_stated R r row (hand_of R.states row.step.point)

stepped_stated : (R : Register) (r : Record) (found : Option StepRow) → list_all has_its_moment (stepped R r found) ≡ true
stepped_stated R r None = refl
stepped_stated R r (Some row) = at (is_active row.step.state) refl
  where
    at : (b : Bool) → is_active row.step.state ≡ b → list_all has_its_moment (stepped R r (Some row)) ≡ true
    at true e = rw e refl
    at false e = rw e (begun_stated R r row (is_close row.step.action))

in_phase : (R : Register) (r : Record) (phase : Phase) → list_all has_its_moment (moves_in R r phase) ≡ true
in_phase R r Requested = cancelled_stated R r (find (λ row. is_active row.step.state) (steps_of R.steps r.id))
in_phase R r Ordered = cancelled_stated R r (find (λ row. is_active row.step.state) (steps_of R.steps r.id))
in_phase R r Switching = cancelled_stated R r (find (λ row. is_active row.step.state) (steps_of R.steps r.id))
in_phase R r Granted = given_up_stated r (places_of R.holds r.id Crew) (places_of R.holds r.id Ground)
in_phase R r Released = refl
in_phase R r Restoring = stepped_stated R r (find (λ row. not (is_done row.step.state)) (steps_in R.steps r.id 2))
in_phase R r Closed = refl

moves_stated : (R : Register) (o : Option Record) → list_all has_its_moment (moves_of R o) ≡ true
moves_stated R None = refl
moves_stated R (Some r) = in_phase R r r.phase

turns_stated : (n : ℕ) (R : Register) (c : Id) → list_all has_its_moment (turns n R c) ≡ true
unfolding turns
turns_stated zero R c = refl
turns_stated (suc n) R c =
    list_all-append has_its_moment (next_moves R c) (turns n (after_all R (next_moves R c)) c)
    ∙ rw (moves_stated R (record_of R.records c)) (turns_stated n (after_all R (next_moves R c)) c)

pub ways_back_have_moments : WaysBackHaveMoments
ways_back_have_moments R c = turns_stated (enough_turns R c) R c
