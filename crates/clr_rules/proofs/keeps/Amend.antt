-- An operator amends a restoring order: a Close that waits becomes a Leave.
use Rattle.std.proofs.Common.{◌≡◌, ℕ, Bool, true, false, not, ◌&&◌, ◌||◌, nat_eq, List, [], ◌∷◌, ◌++◌, Option, Some, None, refl, sym, ◌∙◌, ap, subst, eqb-true}
use Rattle.clr_rules.proofs.Common.{and_from, and_parts, false≢true, Grid, same_name, IsSoundOrder, Task, actions_at, task, Action, refuse, steps_left_of, is_close, record_id, is_open}
use Rattle.clr_order.specs.Needed.{undoes}
use Rattle.clr_rules.specs.Prelude.{Edit, PutRecord, PutStep, HoldKind, HeldOpen, Block, Control, Tag, Phase, Restoring, Record, StepRow, Id, Register, record_of, is_restoring, is_active, is_done}
use Rattle.clr_rules.specs.Prelude.{is_some_step, is_waiting, points_of, present_steps, step_at, steps_of, tasks_of, first_of_each, after_edits, Amend}
use Rattle.clr_rules.specs.GoodByPhase.{InPhase, InRestoring, IsGoodByPhase, all_waiting, go_in_turn, of_round, outlook_of, present_of}
use Rattle.clr_rules.specs.declared.refusal.Refusal.TheVariants.{StepState as WrongState}
use Rattle.clr_rules.proofs.good.Keeping.{KeepsGood, commands_keep, keeps}
use Rattle.clr_rules.proofs.keeps.OneRecord.{in_phase_of}
use Rattle.clr_rules.proofs.keeps.Repeat.{turns_split}
use Rattle.clr_rules.proofs.lists.OpenPhases.{open_where}
use Rattle.clr_rules.proofs.edits.Passing.{check_of_found, not_refused_true, role_begun}
use Rattle.clr_rules.proofs.edits.PresentSteps.{IsPresent, found_step_edits, step_there}
use Rattle.clr_rules.proofs.edits.PutRecords.{put_changes, quiet}
use Rattle.clr_rules.proofs.edits.PutSteps.{StepPut, closes_at, closing_by, known_put, others_put, phase_by, place_by, put_step, step_put}
use Rattle.clr_rules.proofs.edits.StepMoves.{some_step_between}
use Rattle.clr_rules.proofs.lists.StepSplits.{All-swap, any-swap, of_round-far, of_round-here, waits_not_active, waiting_not_done}
use Rattle.clr_order.specs.declared.action.Action.TheVariants as actions

-- ---- a Leave undoes what a Close does

close_left : (first : List Action) (t c b h : Bool) (more : List Action) → undoes t c b h (first ++ actions.Close ∷ more) ≡ true → undoes t c b h (first ++ actions.Leave ∷ more) ≡ true
close_left [] t c b h more is = is
close_left (actions.Untag ∷ first) t c b h more is =
    let parts = and_parts t (undoes false c b h (first ++ actions.Close ∷ more)) is in
    and_from t (undoes false c b h (first ++ actions.Leave ∷ more)) parts.0 (close_left first false c b h more parts.1)
close_left (actions.Uncontrol ∷ first) t c b h more is =
    let parts = and_parts (not t && c) (undoes t false b h (first ++ actions.Close ∷ more)) is in
    and_from (not t && c) (undoes t false b h (first ++ actions.Leave ∷ more)) parts.0 (close_left first t false b h more parts.1)
close_left (actions.Unblock ∷ first) t c b h more is =
    let parts = and_parts (not (t || c) && b) (undoes t c false h (first ++ actions.Close ∷ more)) is in
    and_from (not (t || c) && b) (undoes t c false h (first ++ actions.Leave ∷ more)) parts.0 (close_left first t c false h more parts.1)
close_left (actions.Close ∷ first) t c b h more is =
    let parts = and_parts (not (t || (c || b)) && h) (undoes t c b false (first ++ actions.Close ∷ more)) is in
    and_from (not (t || (c || b)) && h) (undoes t c b false (first ++ actions.Leave ∷ more)) parts.0 (close_left first t c b false more parts.1)
close_left (actions.Leave ∷ first) t c b h more is =
    let parts = and_parts (not (t || (c || b)) && h) (undoes t c b false (first ++ actions.Close ∷ more)) is in
    and_from (not (t || (c || b)) && h) (undoes t c b false (first ++ actions.Leave ∷ more)) parts.0 (close_left first t c b false more parts.1)
close_left (actions.Open ∷ first) t c b h more is = absurd (false≢true is)
close_left (_ ∷ first) t c b h more is = absurd (false≢true is)

-- the actions at a point of a split list of tasks
actions_split : (before : List Task) (x : Task) (after : List Task) (q : List ℕ) → same_name q x.point ≡ true
    → actions_at (before ++ x ∷ after) q ≡ actions_at before q ++ x.action ∷ actions_at after q
actions_split [] x after q here = rw here refl
actions_split (first ∷ before) x after q here = at (same_name q first.point) refl (actions_split before x after q here)
  where
    at : (b : Bool) → same_name q first.point ≡ b → actions_at (before ++ x ∷ after) q ≡ actions_at before q ++ x.action ∷ actions_at after q
        → actions_at (first ∷ before ++ x ∷ after) q ≡ actions_at (first ∷ before) q ++ x.action ∷ actions_at after q
    at true e more = rw e (ap (λ (list : List Action). first.action ∷ list) more)
    at false e more = rw e more

actions_without : (before : List Task) (x : Task) (after : List Task) (q : List ℕ) → same_name q x.point ≡ false → actions_at (before ++ x ∷ after) q ≡ actions_at (before ++ after) q
actions_without [] x after q far = rw far refl
actions_without (first ∷ before) x after q far = at (same_name q first.point) refl (actions_without before x after q far)
  where
    at : (b : Bool) → same_name q first.point ≡ b → actions_at (before ++ x ∷ after) q ≡ actions_at (before ++ after) q
        → actions_at (first ∷ before ++ x ∷ after) q ≡ actions_at (first ∷ before ++ after) q
    at true e more = rw e (ap (λ (list : List Action). first.action ∷ list) more)
    at false e more = rw e more

-- tasks of which one Close becomes a Leave undo the same
undoes_amended : (before after : List Task) (old new : Task) → old.action ≡ actions.Close → new.action ≡ actions.Leave → new.point ≡ old.point → (q : List ℕ) (t c b h : Bool)
    → undoes t c b h (actions_at (before ++ old ∷ after) q) ≡ true → undoes t c b h (actions_at (before ++ new ∷ after) q) ≡ true
undoes_amended before after old new closes leaves same q t c b h is = at (same_name q old.point) refl
  where
    at : (e : Bool) → same_name q old.point ≡ e → undoes t c b h (actions_at (before ++ new ∷ after) q) ≡ true
    at true here =
        ap (undoes t c b h) (actions_split before new after q (ap (same_name q) same ∙ here) ∙ ap (λ a. actions_at before q ++ a ∷ actions_at after q) leaves)
        ∙ close_left (actions_at before q) t c b h (actions_at after q)
        (sym (ap (undoes t c b h) (actions_split before old after q here ∙ ap (λ a. actions_at before q ++ a ∷ actions_at after q) closes)) ∙ is)
    at false far =
        ap (undoes t c b h) (actions_without before new after q (ap (same_name q) same ∙ far) ∙ sym (actions_without before old after q far)) ∙ is

-- ---- a step that waits becomes another that waits

all_waiting-swap : (before : List StepRow) (old new : StepRow) (after : List StepRow) → new.step.state ≡ old.step.state → all_waiting (before ++ new ∷ after) ≡ all_waiting (before ++ old ∷ after)
all_waiting-swap [] old new after same = ap (λ state. is_waiting state && all_waiting after) same
all_waiting-swap (row ∷ before) old new after same = ap (λ b. is_waiting row.step.state && b) (all_waiting-swap before old new after same)

turn-swap : (before : List StepRow) (old new : StepRow) (after : List StepRow) → new.step.state ≡ old.step.state → go_in_turn (before ++ new ∷ after) ≡ go_in_turn (before ++ old ∷ after)
turn-swap [] old new after same = ap (λ state. (is_done state || all_waiting after) && go_in_turn after) same
turn-swap (row ∷ before) old new after same =
    (λ i. (is_done row.step.state || all_waiting-swap before old new after same i) && turn-swap before old new after same i)

-- what is left of a split round, at a step that is left
left_split : (before : List StepRow) (x : StepRow) (after : List StepRow) → is_done x.step.state ≡ false → tasks_of (steps_left_of (before ++ x ∷ after)) ≡ tasks_of (steps_left_of before) ++ task x.step ∷ tasks_of (steps_left_of after)
left_split [] x after rests = rw rests refl
left_split (row ∷ before) x after rests = at (is_done row.step.state) refl (left_split before x after rests)
  where
    at : (b : Bool) → is_done row.step.state ≡ b → tasks_of (steps_left_of (before ++ x ∷ after)) ≡ tasks_of (steps_left_of before) ++ task x.step ∷ tasks_of (steps_left_of after)
        → tasks_of (steps_left_of (row ∷ before ++ x ∷ after)) ≡ tasks_of (steps_left_of (row ∷ before)) ++ task x.step ∷ tasks_of (steps_left_of after)
    at true e more = rw e more
    at false e more = rw e (ap (λ (ts : List Task). task row.step ∷ ts) more)

is_the_close : (a : Action) → is_close a ≡ true → a ≡ actions.Close
is_the_close actions.Close h = refl
is_the_close actions.Open h = absurd (false≢true h)
is_the_close _ h = absurd (false≢true h)

-- the step with a Leave in the place of its action
abbrev amended : StepRow → StepRow
amended row = record row { step = record (StepRow.step row) { action = actions.Leave } }

module _ (g : Grid) (work : List ℕ) (before after : List StepRow) (row : StepRow) (o q : Option Record) (has : HoldKind → List ℕ → Bool) (hand : List ℕ → Bool)
    (waits : is_waiting row.step.state ≡ true) (closes : row.step.action ≡ actions.Close) (round : row.round ≡ 2)
    (h : InRestoring g work (record { clearance = o; steps = before ++ row ∷ after; has = has; hand = hand })) where
  first_round : of_round (before ++ amended row ∷ after) 1 ≡ of_round (before ++ row ∷ after) 1
  first_round =
      of_round-far before (amended row) after 1 (ap (λ n. nat_eq n 1) round) ∙ sym (of_round-far before row after 1 (ap (λ n. nat_eq n 1) round))

  second_is : of_round (before ++ amended row ∷ after) 2 ≡ of_round before 2 ++ amended row ∷ of_round after 2
  second_is = of_round-here before (amended row) after 2 round

  second_was : of_round (before ++ row ∷ after) 2 ≡ of_round before 2 ++ row ∷ of_round after 2
  second_was = of_round-here before row after 2 round

  rests : is_done row.step.state ≡ false
  rests = waiting_not_done row.step.state waits

  still_undone : (p : List ℕ) → undoes (has Tag p) (has Control p) (has Block p) (has HeldOpen p) (actions_at (tasks_of (steps_left_of (of_round (before ++ amended row ∷ after) 2))) p) ≡ true
  still_undone p =
      ap (λ tasks. undoes (has Tag p) (has Control p) (has Block p) (has HeldOpen p) (actions_at tasks p))
      (ap (λ rows. tasks_of (steps_left_of rows)) second_is ∙ left_split (of_round before 2) (amended row) (of_round after 2) rests)
      ∙ undoes_amended (tasks_of (steps_left_of (of_round before 2))) (tasks_of (steps_left_of (of_round after 2))) (task row.step) (task (StepRow.step (amended row))) closes refl refl p
      (has Tag p) (has Control p) (has Block p) (has HeldOpen p)
      (sym (ap (λ tasks. undoes (has Tag p) (has Control p) (has Block p) (has HeldOpen p) (actions_at tasks p))
      (ap (λ rows. tasks_of (steps_left_of rows)) second_was ∙ left_split (of_round before 2) row (of_round after 2) rests)) ∙ h.undone p)

  pub restoring_amended : InRestoring g work (record { clearance = q; steps = before ++ amended row ∷ after; has = has; hand = hand })
  restoring_amended = record {
    isolates = subst (λ (rows : List StepRow). IsSoundOrder g work (first_of_each (points_of rows)) (tasks_of rows)) (sym first_round) h.isolates;
    second_round = ap is_some_step second_is ∙ some_step_between (of_round before 2) (amended row) (of_round after 2);
    given_out = All-swap (λ (row : StepRow). is_active row.step.state ≡ true → row.round ≡ 2) before row (amended row) after (λ _. round) h.given_out;
    at_points = λ p held. rw first_round (h.at_points p held);
    beside_held_open = h.beside_held_open;
    undone = still_undone;
    no_work = h.no_work;
  }

-- and its turn
turns_amended : (before : List StepRow) (row : StepRow) (after : List StepRow) → ((round : ℕ) → go_in_turn (of_round (before ++ row ∷ after) round) ≡ true)
    → (round : ℕ) → go_in_turn (of_round (before ++ amended row ∷ after) round) ≡ true
turns_amended before row after turns round = at (nat_eq row.round round) refl
  where
    at : (b : Bool) → nat_eq row.round round ≡ b → go_in_turn (of_round (before ++ amended row ∷ after) round) ≡ true
    at true is =
        let here : row.round ≡ round = eqb-true row.round round is in
        ap go_in_turn (of_round-here before (amended row) after round here)
        ∙ turn-swap (of_round before round) row (amended row) (of_round after round) refl
        ∙ sym (ap go_in_turn (of_round-here before row after round here)) ∙ turns round
    at false far = ap go_in_turn (of_round-far before (amended row) after round far ∙ sym (of_round-far before row after round far)) ∙ turns round

-- the phase of a restoring clearance
amended_phase : (g : Grid) (phase : Phase) (work : Option (List ℕ)) (before after : List StepRow) (row : StepRow) (o q : Option Record) (has : HoldKind → List ℕ → Bool) (hand : List ℕ → Bool)
    → is_restoring phase ≡ true → is_waiting row.step.state ≡ true → row.step.action ≡ actions.Close → row.round ≡ present_of (before ++ row ∷ after)
    → InPhase g phase work (record { clearance = o; steps = before ++ row ∷ after; has = has; hand = hand })
    → InPhase g phase work (record { clearance = q; steps = before ++ amended row ∷ after; has = has; hand = hand })
amended_phase g Restoring (Some work) before after row o q has hand is waits closes now h =
    restoring_amended g work before after row o q has hand waits closes (now ∙ rw h.second_round refl) h
amended_phase g Restoring None before after row o q has hand is waits closes now h = absurd h
amended_phase g _ work before after row o q has hand is waits closes now h = absurd (false≢true is)

amend_keeps : (R : Register) (at : ℕ) (c : Id) (r : Record) (row : StepRow) → IsGoodByPhase R → record_of R.records c ≡ Some r → is_restoring r.phase ≡ true
    → IsPresent R c row → is_waiting row.step.state ≡ true → is_close row.step.action ≡ true
    → IsGoodByPhase (after_edits (PutRecord (record r { last = at }) ∷ PutStep (amended row) ∷ []) R)
unfolding after_edits
amend_keeps R at c r row good found is p waits closes =
    keeps R edits c refl good (put_changes R good c r (record r { last = at }) found unclosed (record_id R.records c r found) refl (after_edits edits R) refl
    (quiet R (after_edits edits R) c (record r { last = at }) good (record {
      same_states = refl;
      point_holds = λ d kind p at_point has. has;
      other_holds = λ d differs kind place. refl;
      other_steps = others_put R good c row (amended row) p refl;
      own_closing = λ q closing.
          closing_by R.steps c q (s.before ++ row ∷ s.after) s.was
          ∙ sym (any-swap (closes_at q) s.before row (amended row) s.after (rw (waits_not_active row.step.state waits) refl))
          ∙ sym (closing_by (put_step (amended row) R.steps) c q (s.before ++ amended row ∷ s.after) s.is) ∙ closing;
      steps_known = known_put R good c row (amended row) p refl (good.points_known.steps c r found unclosed) refl;
    })
    (place_by R c (Some (record r { last = at })) (steps_of (put_step (amended row) R.steps) c) (s.before ++ amended row ∷ s.after) (outlook_of R c).has (outlook_of R c).hand s.is (record {
      in_turn = turns_amended s.before row s.after (turns_split R c (s.before ++ row ∷ s.after) good s.was).in_turn;
      hands = λ q. (turns_split R c (s.before ++ row ∷ s.after) good s.was).hands q
          ∙ sym (any-swap (λ (row : StepRow). is_active row.step.state && same_name q row.step.point) s.before row (amended row) s.after refl);
      phase = amended_phase R.net r.phase r.work s.before s.after row (outlook_of R c).clearance (Some (record r { last = at })) (outlook_of R c).has (outlook_of R c).hand is waits
          (is_the_close row.step.action closes) (p.now ∙ ap present_of s.was) (phase_by R c r (s.before ++ row ∷ s.after) s.was (in_phase_of R c r good found));
    }))))
  where
    unclosed : is_open r.phase ≡ true
    unclosed = open_where is_restoring refl r.phase is

    edits : List Edit
    edits = PutRecord (record r { last = at }) ∷ PutStep (amended row) ∷ []

    s : StepPut R c row (amended row)
    s = step_put R good c row (amended row) p refl

pub amends_keep : (c : Id) (n : ℕ) → KeepsGood (Amend c n)
amends_keep c n = commands_keep (Amend c n) (λ R by at good passed.
    let (r, found, fits, rest) = role_begun R c is_restoring passed in
    let s = step_there R c n (search rest) in
    let both = and_parts (is_waiting s.row.step.state) (is_close s.row.step.action)
    (not_refused_true (is_waiting s.row.step.state && is_close s.row.step.action) WrongState
    (check_of_found (step_at (present_steps R.steps c) n) s.row (λ (row : StepRow). refuse (not (is_waiting row.step.state && is_close row.step.action)) WrongState) s.found (search rest))) in
    found_step_edits R c n r s.row (λ r row. PutRecord (record r { last = at }) ∷ PutStep (amended row) ∷ []) found s.found
    (amend_keeps R at c r s.row good found fits s.is_present both.0 both.1))
