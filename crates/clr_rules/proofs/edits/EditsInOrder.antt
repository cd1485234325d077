-- An answer's edits are in the order of their kinds and keys.
use Rattle.std.proofs.Common.{◌≡◌, ℕ, ◌+◌, ◌<◌, Bool, true, false, ◌&&◌, List, [], ◌∷◌, ◌++◌, map, filter, Option, Some, None, refl, ap, ◌∙◌, arith, if◌then◌else◌, is_lt, nat_cmp, lt-ltb}
use Rattle.clr_rules.proofs.Common.{list_all, ordering_then, and_from, and_parts, Task, Action, in_key_order-filter, in_key_order-first, in_key_order-rest, in_key_order, Answer, answer, first_refusal}
use Rattle.clr_rules.proofs.Common.{known_of, answer_by_checks, Known, checks, edits_of, ListsAreInOrder, is_switch_order, one_id}
use Rattle.std.proofs.lemmas.Cmp.{nat_cmp_total, tied_itself}
use Rattle.clr_order.specs.Texts.{waiting_step}
use Rattle.clr_rules.specs.Prelude.{Step, Edit, PutHold, TakeHold, PutRecord, PutStep, Command, Kind, Hold, HoldKind, Tested, Ordered, Restoring, Switching, Record, Refusal, StepRow, Id, id_cmp}
use Rattle.clr_rules.specs.Prelude.{id_cmp_total, same_id, Register, record_of, present_steps, step_at, hold_cmp, hold_cmp_total, hold_key, hold_of, places_of, same_kind}
use Rattle.clr_rules.specs.Changes.{done_edits, edits_by, new_jumper, new_record, new_steps, point_edits, put_steps, undone_edits}
use Rattle.clr_rules.specs.EditOrder.{are_in_order, edit_cmp}
use Rattle.clr_rules.proofs.edits.PutRows.{by_added}
use Rattle.clr_order.specs.declared.action.Action.TheVariants as actions
use Rattle.clr_rules.specs.declared.command.Kind.TheVariants as kinds

-- ---- new steps are numbered one after the other

-- of two steps of a round that of the lesser number comes first
lesser_first : (c : Id) (round m n : ℕ) → m < n
    → is_lt (ordering_then (id_cmp c c) (ordering_then (nat_cmp round round) (nat_cmp m n))) ≡ true
lesser_first c round m n less =
    ap (λ o. is_lt (ordering_then o (ordering_then (nat_cmp round round) (nat_cmp m n)))) (tied_itself id_cmp_total c)
    ∙ ap (λ o. is_lt (ordering_then o (nat_cmp m n))) (tied_itself nat_cmp_total round)
    ∙ rw (lt-ltb m n less) refl

module _ (c : Id) (round : ℕ) where
  later_steps : (m n : ℕ) (step : Step) (tasks : List Task) → m < n
      → list_all (λ next. is_lt (edit_cmp (PutStep (record { id = c; round = round; ordinal = m; step = step })) next)) (put_steps (new_steps c round n tasks)) ≡ true
  unfolding new_steps
  later_steps m n step [] less = refl
  later_steps m n step (t ∷ tasks) less = and_from _ _ (lesser_first c round m n less) (later_steps m (n + 1) step tasks (omega arith))

  steps_in_order : (n : ℕ) (tasks : List Task) → are_in_order (put_steps (new_steps c round n tasks)) ≡ true
  unfolding new_steps
  steps_in_order n [] = refl
  steps_in_order n (t ∷ tasks) = and_from _ _ (later_steps n (n + 1) (waiting_step t) tasks (omega arith)) (steps_in_order (n + 1) tasks)

-- a record comes before all steps
record_first : (r : Record) (rows : List StepRow) → list_all (λ next. is_lt (edit_cmp (PutRecord r) next)) (put_steps rows) ≡ true
record_first r [] = refl
record_first r (row ∷ rows) = record_first r rows

round_in_order : (r : Record) (c : Id) (round : ℕ) (tasks : List Task) → are_in_order (PutRecord r ∷ put_steps (new_steps c round 1 tasks)) ≡ true
round_in_order r c round tasks = and_from _ _ (record_first r (new_steps c round 1 tasks)) (steps_in_order c round 1 tasks)

-- ---- a release takes tests in their order

takes_before_record : (h : Hold) (holds : List Hold) (r : Record) → list_all (λ next. is_lt (hold_cmp h next)) holds ≡ true
    → list_all (λ next. is_lt (edit_cmp (TakeHold h) next)) (map TakeHold holds ++ PutRecord r ∷ []) ≡ true
takes_before_record h [] r above = refl
takes_before_record h (first ∷ holds) r above =
    let (here, later) = and_parts (is_lt (hold_cmp h first)) (list_all (λ next. is_lt (hold_cmp h next)) holds) above in
    and_from _ _ here (takes_before_record h holds r later)

takes_in_order : (holds : List Hold) (r : Record) → in_key_order hold_cmp hold_key holds ≡ true
    → are_in_order (map TakeHold holds ++ PutRecord r ∷ []) ≡ true
takes_in_order [] r ordered = refl
takes_in_order (h ∷ holds) r ordered = and_from _ _
    (takes_before_record h holds r (in_key_order-first hold_cmp hold_key hold_cmp_total h holds ordered))
    (takes_in_order holds r (in_key_order-rest hold_cmp hold_key hold_cmp_total h holds ordered))

tested_alone : (kind : HoldKind) → same_kind Tested kind ≡ true → Tested ≡ kind
tested_alone Tested h = refl
tested_alone _ h = cc

-- a test of a clearance is the hold of that clearance, of that kind, at its place
test_of : (c : Id) (h : Hold) → (same_id c h.id && same_kind Tested h.kind) ≡ true → hold_of c Tested h.place ≡ h
test_of c h is =
    let (own, kind) = and_parts (same_id c h.id) (same_kind Tested h.kind) is in
    let one : c ≡ h.id = one_id c h.id own in
    λ i. record { kind = tested_alone h.kind kind i; place = h.place; id = one i }

tests_of : (c : Id) (holds : List Hold)
    → map (λ place. TakeHold (hold_of c Tested place)) (places_of holds c Tested)
    ≡ map TakeHold (filter (λ h. same_id c h.id && same_kind Tested h.kind) holds)
unfolding places_of
tests_of c [] = refl
tests_of c (h ∷ holds) = at (same_id c h.id && same_kind Tested h.kind) refl (tests_of c holds)
  where
    at : (b : Bool) → (same_id c h.id && same_kind Tested h.kind) ≡ b
        → map (λ place. TakeHold (hold_of c Tested place)) (map (λ (h : Hold). h.place) (filter (λ h. same_id c h.id && same_kind Tested h.kind) holds))
        ≡ map TakeHold (filter (λ h. same_id c h.id && same_kind Tested h.kind) holds)
        → map (λ place. TakeHold (hold_of c Tested place)) (map (λ (h : Hold). h.place) (filter (λ h. same_id c h.id && same_kind Tested h.kind) (h ∷ holds)))
        ≡ map TakeHold (filter (λ h. same_id c h.id && same_kind Tested h.kind) (h ∷ holds))
    at true is rest = rw is (λ i. TakeHold (test_of c h is i) ∷ rest i)
    at false is rest = rw is rest

release_in_order : (c : Id) (holds : List Hold) (r : Record) → in_key_order hold_cmp hold_key holds ≡ true
    → are_in_order (map (λ place. TakeHold (hold_of c Tested place)) (places_of holds c Tested) ++ PutRecord r ∷ []) ≡ true
release_in_order c holds r ordered =
    ap (λ takes. are_in_order (takes ++ PutRecord r ∷ [])) (tests_of c holds)
    ∙ takes_in_order (filter (λ h. same_id c h.id && same_kind Tested h.kind) holds) r
    (in_key_order-filter hold_cmp hold_key hold_cmp_total (λ h. same_id c h.id && same_kind Tested h.kind) holds ordered)

-- ---- each kind of command

done_in_order : (action : Action) (switching : Bool) (c : Id) (p : List ℕ) (r : Record) (row : StepRow)
    → are_in_order (point_edits switching c action p ++ PutRecord r ∷ PutStep row ∷ []) ≡ true
done_in_order actions.Open true c p r row = refl
done_in_order actions.Open false c p r row = refl
done_in_order _ switching c p r row = refl

test_in_order : (dead : Bool) (h : Hold) (r : Record) → are_in_order ((if dead then PutHold h else TakeHold h) ∷ PutRecord r ∷ []) ≡ true
test_in_order true h r = refl
test_in_order false h r = refl

by_found : {X : Type 0} (found : Option X) (edits : X → List Edit) → ((x : X) → are_in_order (edits x) ≡ true) → are_in_order (edits_by found edits) ≡ true
by_found None edits each = refl
by_found (Some x) edits each = each x

report_in_order : (R : Register) (at : ℕ) (done : Bool) (r : Record) (row : StepRow)
    → are_in_order (if done then done_edits R at r row else undone_edits at r row) ≡ true
report_in_order R at true r row = done_in_order row.step.action (is_switch_order r) r.id row.step.point _ _
report_in_order R at false r row = refl

edits_in_order : (k : ℕ) (R : Register) (by : List ℕ) (at : ℕ) (kind : Kind) → ListsAreInOrder R → are_in_order (edits_of k R by at kind) ≡ true
edits_in_order k R by at (kinds.Request section) ordered = refl
edits_in_order k R by at (kinds.Order c points tasks) ordered = by_found (record_of R.records c) _ (λ r. round_in_order (record r { phase = Ordered; last = at }) c 1 tasks)
edits_in_order k R by at (kinds.Instruct c n) ordered =
    by_found (record_of R.records c) _ (λ r. by_found (step_at (present_steps R.steps c) n) _ (λ row. refl))
edits_in_order k R by at (kinds.Repeat c n text) ordered =
    by_found (record_of R.records c) _ (λ r. by_found (step_at (present_steps R.steps c) n) _ (λ row. refl))
edits_in_order k R by at (kinds.Report c n done) ordered =
    by_found (record_of R.records c) _ (λ r. by_found (step_at (present_steps R.steps c) n) _ (λ row. report_in_order R at done r row))
edits_in_order k R by at (kinds.Test c section dead) ordered = by_found (record_of R.records c) _ (λ r. test_in_order dead (hold_of c Tested section) _)
edits_in_order k R by at (kinds.Release c notified clear) ordered = by_found (record_of R.records c) _ (λ r. release_in_order c R.holds _ ordered.holds)
edits_in_order k R by at (kinds.Restore c tasks) ordered = by_found (record_of R.records c) _ (λ r. round_in_order (record r { phase = Restoring; last = at }) c 2 tasks)
edits_in_order k R by at (kinds.Amend c n) ordered =
    by_found (record_of R.records c) _ (λ r. by_found (step_at (present_steps R.steps c) n) _ (λ row. refl))
edits_in_order k R by at (kinds.Switch tasks) ordered =
    round_in_order (new_record k by at None Switching) (record { requester = by; number = k + 1 }) 1 tasks
edits_in_order k R by at (kinds.Show c) ordered = refl
edits_in_order k R by at (kinds.Jumper point from to lockable remote) ordered =
    by_added (λ edits. are_in_order edits ≡ true) R (new_jumper point from to lockable remote) refl refl
-- a hold of the clearance, if one, and then its record
edits_in_order k R by at _ ordered = by_found {X = Record} (record_of R.records _) _ (λ r. refl)

settled_in_order : (k : Known) (R : Register) (q : Command) (found : Option Refusal) → ListsAreInOrder R → are_in_order (Answer.edits (answer_by_checks k R q found)) ≡ true
settled_in_order k R q None ordered = edits_in_order k.greatest R q.caller q.moment q.kind ordered
settled_in_order k R q (Some refusal) ordered = refl

pub answers_edits_in_order : (R : Register) (q : Command) → ListsAreInOrder R → are_in_order (Answer.edits (answer R q)) ≡ true
answers_edits_in_order R q ordered = settled_in_order (known_of R q) R q (first_refusal (checks (known_of R q) R q.caller q.moment q.kind)) ordered
