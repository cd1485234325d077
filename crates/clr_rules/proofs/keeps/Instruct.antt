-- An instruction keeps a good register good: the point comes into the hand of the clearance.
use Rattle.std.proofs.Common.{◌≡◌, ℕ, true, false, cond, ◌&&◌, List, [], ◌∷◌, filter, Option, Some, None, Contains, refl, sym, subst, arith, fold}
use Rattle.std.proofs.lemmas.Bool.{and_parts, false≢true, true_from_ne_false}
use Rattle.clr_rules.proofs.Common.{same_itself, step_moved, is_hand, is_close, is_in_turn, hold_there, Contains-filter, one_id, own_id}
use Rattle.clr_rules.specs.Prelude.{Instructed, SetHand, PutRecord, PutStep, Hold, HoldKind, HeldOpen, Block, StepRow, Id, same_id, Register, hand_of, is_running, is_waiting, present_steps, step_at}
use Rattle.clr_rules.specs.Prelude.{hold_of, same_kind, Instruct, OutOfTurn}
use Rattle.clr_rules.specs.Checks.{held_by, other_hand}
use Rattle.clr_rules.specs.Holds.{earlier_hold, first_hold, hindering_hold, hinders}
use Rattle.clr_rules.proofs.good.Keeping.{KeepsGood, commands_keep}
use Rattle.clr_rules.proofs.keeps.Repeat.{state_fits}
use Rattle.clr_rules.proofs.edits.Passing.{check_of_found, not_refused_true, role_begun}
use Rattle.clr_rules.proofs.edits.PresentSteps.{found_step_edits, step_there, waiting_midst}
use Rattle.clr_rules.proofs.keeps.HandedStep.{IsFree, handed_keeps}
use Rattle.clr_rules.proofs.lists.StepSplits.{waiting_not_done}

-- where no check finds the point in another's hand, it is in nobody's or the clearance's own
nobody_else : (c : Id) (found : Option Id) → other_hand c found ≡ None → (d : Id) → same_id d c ≡ false → is_hand d found ≡ false
nobody_else c None passed d differs = refl
nobody_else c (Some by) passed d differs = rw (← one_id c by (not_refused_true (same_id c by) _ passed)) differs

some_stays : (holds : List Hold) (h : Hold) → fold earlier_hold (Some h) holds ≡ None → ⊥
some_stays [] h none = absurd (cc)
some_stays (next ∷ holds) h none = some_stays holds _ none

none_first : (holds : List Hold) → first_hold holds ≡ None → holds ≡ []
none_first [] none = refl
none_first (h ∷ holds) none = absurd (some_stays holds h none)

not_held : (found : Option Hold) → held_by found ≡ None → found ≡ None
not_held None passed = refl
not_held (Some h) passed = absurd (cc)

kind_is_held_open : (kind : HoldKind) → same_kind HeldOpen kind ≡ true → kind ≡ HeldOpen
kind_is_held_open HeldOpen h = refl
kind_is_held_open Block h = absurd (false≢true h)
kind_is_held_open _ h = absurd (false≢true h)

-- where no check finds a hold, the point is free
free_where_passed : (R : Register) (c : Id) (p : List ℕ) → held_by (hindering_hold R.holds c p) ≡ None → IsFree R c p
unfolding hindering_hold
free_where_passed R c p passed d kind at_point has =
    let none = none_first (filter (hinders c p) R.holds) (not_held (first_hold (filter (hinders c p) R.holds)) passed) in
    let own : (same_id c d && same_kind HeldOpen kind) ≡ true = true_from_ne_false (same_id c d && same_kind HeldOpen kind) (λ other.
    let there = subst (λ (holds : List Hold). Contains holds (hold_of d kind p)) none
    (Contains-filter (hinders c p) R.holds (hold_of d kind p) (hold_there R.holds d kind p has) (rw (at_point, same_itself p, other) refl)) in
    let (k, within, is) = there in omega arith) in
    let parts = and_parts (same_id c d) (same_kind HeldOpen kind) own in
    (sym (one_id c d parts.0), kind_is_held_open kind parts.1)

pub instructs_keep : (c : Id) (n : ℕ) → KeepsGood (Instruct c n)
instructs_keep c n = commands_keep (Instruct c n) (λ R by at good passed.
    let (r, found, fits, rest) = role_begun R c is_running passed in
    let s = step_there R c n (search rest) in
    let turn : is_in_turn (present_steps R.steps c) s.row.ordinal ≡ true = rw s.ordinal (not_refused_true (is_in_turn (present_steps R.steps c) n) OutOfTurn (search rest)) in
    let waits : is_waiting s.row.step.state ≡ true = state_fits R c n s is_waiting (search rest) in
    let hand : other_hand c (hand_of R.states s.row.step.point) ≡ None =
    check_of_found (step_at (present_steps R.steps c) n) s.row (λ (row : StepRow). other_hand c (hand_of R.states row.step.point)) s.found (search rest) in
    let clear : cond (is_close s.row.step.action) (held_by (hindering_hold R.holds c s.row.step.point)) None ≡ None =
    check_of_found (step_at (present_steps R.steps c) n) s.row (λ (row : StepRow). cond (is_close row.step.action) (held_by (hindering_hold R.holds c row.step.point)) None) s.found (search rest) in
    let new = step_moved Instructed s.row.step.reader s.row in
    found_step_edits R c n r s.row
    (λ r row. SetHand row.step.point (Some c) ∷ PutRecord (record r { last = at }) ∷ PutStep (step_moved Instructed row.step.reader row) ∷ []) found s.found
    (handed_keeps R good c r found fits s.row new s.is_present refl refl
    (waiting_not_done s.row.step.state waits) refl
    (λ q. waiting_midst R good c r found s.row s.is_present q.before q.after q.was waits turn)
    at (Some c)
    (λ d differs. (differs, nobody_else c (hand_of R.states s.row.step.point) hand d differs))
    (own_id c)
    (λ active close. free_where_passed R c s.row.step.point (rw close at clear))))
