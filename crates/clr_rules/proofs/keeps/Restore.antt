-- Restoring orders: the steps of a second round, which undo what is held at the points of the first.
use Rattle.std.proofs.Common.{◌≡◌, ℕ, ◌+◌, ◌<◌, Bool, true, false, ◌&&◌, nat_lt, List, [], ◌∷◌, length, map, filter, Option, Some, None, All, Contains, refl, sym, ◌∙◌, ap, subst, arith, ◌==◌}
use Rattle.clr_rules.proofs.Common.{AreAtPoints, and_from, and_parts, both_ways, false≢true, false_from_ne_true, Grid, point_names, same_name, has_name, any_from, one_name, IsSoundOrder, new_steps, put_steps}
use Rattle.clr_rules.proofs.Common.{steps_left_of, held_among, some_active, name_says, there_mapped}
use Rattle.std.proofs.lemmas.List.Elements.{All-contains, All-map}
use Rattle.clr_order.specs.Needed.{Undoes, undoes}
use Rattle.clr_order.specs.Restoring.{IsRestoring, held_points, restoring_fault, wrong_held}
use Rattle.clr_order.specs.Step.{Task, actions_at, stray_point, task}
use Rattle.clr_order.specs.Texts.{waiting_step}
use Rattle.clr_order.specs.declared.held.Held.{Held}
use Rattle.clr_order.specs.declared.order_fault.OrderFault.TheVariants.{EmptyOrder, LongOrder, StepsWrong}
use Rattle.clr_order.proofs.OtherOrders.{restoring_from_no_fault}
use Rattle.clr_order.proofs.Undoing.{rule_undoes}
use Rattle.clr_rules.proofs.edits.PlainEdits.{steps_plain}
use Rattle.clr_rules.specs.Checks.{wrong_restoring}
use Rattle.clr_rules.specs.Prelude.{PutRecord, Hold, HoldKind, HeldOpen, Block, Control, Tag, Phase, Released, Restoring, Record, StepRow, Id, Register, record_of, is_active, is_some_step, points_of}
use Rattle.clr_rules.specs.Prelude.{steps_in, steps_of, tasks_of, is_point_kind, has_hold, held_at, first_of_each, after_edits, Restore}
use Rattle.clr_rules.specs.GoodByPhase.{InPhase, InReleased, InRestoring, IsGoodByPhase, Outlook, of_round, outlook_of}
use Rattle.clr_rules.specs.Records.{is_open, is_released}
use Rattle.clr_rules.proofs.good.Keeping.{KeepsGood, Changed, commands_keep, keeps}
use Rattle.clr_rules.proofs.live.FenceCuts.{has_name-once}
use Rattle.clr_rules.proofs.keeps.OneRecord.{found_edits, in_phase_of}
use Rattle.clr_rules.proofs.lists.OpenPhases.{open_where}
use Rattle.clr_rules.proofs.lists.NamedRows.{has_name-filter, row_named}
use Rattle.clr_rules.proofs.edits.NewRounds.{IsReady, new_tasks, new_wait, none_in_round, others_are, put_all, round_is, round_moved, round_put, with_round}
use Rattle.clr_rules.proofs.edits.PassedOrders.{by_name, by_test, no_refusal}
use Rattle.clr_rules.proofs.edits.Passing.{role_begun}
use Rattle.clr_rules.proofs.good.PutHolds.{put_at_points, put_beside_open}
use Rattle.clr_rules.proofs.edits.PutRecords.{put_changes, outlook_with}
use Rattle.clr_rules.proofs.lists.RoundSteps.{All-from_each, All-in_own_round, filter-none_passes, of_round_is, record_id, some_step_there}
use Rattle.clr_rules.proofs.lists.StepSplits.{left_waiting}

-- a restoring order that is not refused undoes what is held
pub restoring_passed : (R : Register) (c : Id) (tasks : List Task) → wrong_restoring R c tasks ≡ None
    → IsRestoring (held_among R.holds c (points_of (steps_in R.steps c 1))) tasks
restoring_passed R c tasks passed =
    let held = held_among R.holds c (points_of (steps_in R.steps c 1)) in
    restoring_from_no_fault held tasks (no_refusal (restoring_fault held tasks)
    (by_test (length tasks == 0) EmptyOrder _ refl
    (by_test (nat_lt 256 (length tasks)) LongOrder _ refl
    (by_name StepsWrong (wrong_held held tasks) _ (λ name. refl)
    (by_name StepsWrong (stray_point (held_points held) tasks) None (λ name. refl) refl)))) passed)

-- ---- the held points

module _ (holds : List Hold) (c : Id) where
  pub held_names : (points : List (List ℕ)) → held_points (map (held_at holds c) points) ≡ points
  held_names [] = refl
  held_names (p ∷ points) = ap (λ (points : List (List ℕ)). p ∷ points) (held_names points)

  -- a point is held, where it is held open and is among the points
  pub held_named : (points : List (List ℕ)) (p : List ℕ) → has_name (held_points (held_among holds c points)) p ≡ (has_hold holds c HeldOpen p && has_name points p)
  unfolding held_among
  held_named points p =
      ap (λ (names : List (List ℕ)). has_name names p) (held_names (filter (has_hold holds c HeldOpen) (first_of_each points)))
      ∙ has_name-filter (has_hold holds c HeldOpen) (first_of_each points) p
      ∙ ap (λ b. has_hold holds c HeldOpen p && b) (has_name-once points p)

  held_among_them : (points : List (List ℕ)) (p : List ℕ) → has_hold holds c HeldOpen p ≡ true → has_name points p ≡ true → Contains (held_among holds c points) (held_at holds c p)
  unfolding held_among
  held_among_them points p held there =
      there_mapped (held_at holds c) (filter (has_hold holds c HeldOpen) (first_of_each points)) p
      ((name_says (filter (has_hold holds c HeldOpen) (first_of_each points)) p).0
      (has_name-filter (has_hold holds c HeldOpen) (first_of_each points) p
      ∙ and_from (has_hold holds c HeldOpen p) (has_name (first_of_each points) p) held (has_name-once points p ∙ there)))

-- of steps none of which is given out each rests
pub each_rests : (steps : List StepRow) → some_active steps ≡ false → All (λ row. is_active row.step.state ≡ false) steps
each_rests steps none = All-from_each (λ (row : StepRow). is_active row.step.state ≡ false) steps (λ row there.
    false_from_ne_true (is_active row.step.state) (λ active. both_ways (some_active steps) none (any_from (λ (row : StepRow). is_active row.step.state) steps row there active)))

some_new : (c : Id) (round n : ℕ) (tasks : List Task) → 0 < length tasks → is_some_step (new_steps c round n tasks) ≡ true
unfolding new_steps
some_new c round n [] some = absurd (omega arith)
some_new c round n (t ∷ tasks) some = some_step_there (record { id = c; round = round; ordinal = n; step = waiting_step t }) (new_steps c round (n + 1) tasks)

-- a Released record has a work section, and is as that phase wants it
pub released : (g : Grid) (phase : Phase) (work : Option (List ℕ)) (v : Outlook) → is_released phase ≡ true → InPhase g phase work v
    → (w : List ℕ) × (work ≡ Some w) × InReleased g w v
released g Released (Some w) v is h = (w, refl, h)
released g Released None v is h = absurd h
released g _ work v is h = absurd (false≢true is)

module _ (R : Register) (r : Record) (at : ℕ) (tasks : List Task) (good : IsGoodByPhase R) (work : List ℕ) (h : InReleased R.net work (outlook_of R r.id))
    (restores : IsRestoring (held_among R.holds r.id (points_of (steps_in R.steps r.id 1))) tasks)
    (at_network : AreAtPoints R.net (steps_of R.steps r.id)) where
  abbrev new : Record
  new = record r { phase = Restoring; last = at }

  -- what is held is at points of the first round
  at_points : (p : List ℕ) → has_hold R.holds r.id HeldOpen p ≡ true → has_name (points_of (of_round (steps_of R.steps r.id) 1)) p ≡ true
  at_points p held = put_at_points HeldOpen p (of_round (steps_of R.steps r.id) 1) (sym (h.as_put HeldOpen p refl) ∙ held)

  beside : (kind : HoldKind) (p : List ℕ) → is_point_kind kind ≡ true → has_hold R.holds r.id kind p ≡ true → has_hold R.holds r.id HeldOpen p ≡ true
  beside kind p at_point held =
      h.as_put HeldOpen p refl
      ∙ put_beside_open R.net work (of_round (steps_of R.steps r.id) 1) h.isolates ((good.in_place r.id).in_turn 1) kind p (sym (h.as_put kind p at_point) ∙ held)

  none_beside : (kind : HoldKind) (p : List ℕ) → is_point_kind kind ≡ true → has_hold R.holds r.id HeldOpen p ≡ false → has_hold R.holds r.id kind p ≡ false
  none_beside kind p at_point free = false_from_ne_true (has_hold R.holds r.id kind p) (λ held. both_ways (has_hold R.holds r.id HeldOpen p) free (beside kind p at_point held))

  -- a step is at a held point, and so at one of the first round
  pub each_held : (t : Task) → Contains tasks t → (has_hold R.holds r.id HeldOpen t.point ≡ true) × (has_name (points_of (steps_in R.steps r.id 1)) t.point ≡ true)
  each_held t there = and_parts (has_hold R.holds r.id HeldOpen t.point) (has_name (points_of (steps_in R.steps r.id 1)) t.point)
      (sym (held_named R.holds r.id (points_of (steps_in R.steps r.id 1)) t.point)
      ∙ All-contains (λ (t : Task). has_name (held_points (held_among R.holds r.id (points_of (steps_in R.steps r.id 1)))) t.point ≡ true) tasks t restores.nowhere_else there)

  each_known : (t : Task) → Contains tasks t → has_name (point_names (Grid.points R.net)) t.point ≡ true
  each_known t there =
      let (s, among, named) = row_named (λ (t : Task). t.point) (tasks_of (steps_in R.steps r.id 1)) t.point (each_held t there).1 in
      ap (has_name (point_names (Grid.points R.net))) named
      ∙ All-contains (λ (t : Task). has_name (point_names (Grid.points R.net)) t.point ≡ true) (tasks_of (steps_in R.steps r.id 1)) s
      (All-map (λ (t : Task). has_name (point_names (Grid.points R.net)) t.point ≡ true) (λ (row : StepRow). task row.step) (steps_in R.steps r.id 1)
      (All-in_own_round (λ (row : StepRow). has_name (point_names (Grid.points R.net)) row.step.point ≡ true) R.steps r.id 1 at_network)) among

  -- at other points nothing is done
  nothing_there : (p : List ℕ) → has_hold R.holds r.id HeldOpen p ≡ false → actions_at tasks p ≡ []
  nothing_there p free = ap (map (λ (t : Task). t.action)) (filter-none_passes (λ (t : Task). same_name p t.point) tasks
      (All-from_each (λ (t : Task). same_name p t.point ≡ false) tasks (λ t there. false_from_ne_true (same_name p t.point) (λ same.
      both_ways (has_hold R.holds r.id HeldOpen p) free (ap (has_hold R.holds r.id HeldOpen) (one_name p t.point same) ∙ (each_held t there).0)))))

  -- the steps undo what is held, point by point
  undone_by : (p : List ℕ) → undoes (has_hold R.holds r.id Tag p) (has_hold R.holds r.id Control p) (has_hold R.holds r.id Block p) (has_hold R.holds r.id HeldOpen p) (actions_at tasks p) ≡ true
  undone_by p = by (has_hold R.holds r.id HeldOpen p) refl
    where
      by : (b : Bool) → has_hold R.holds r.id HeldOpen p ≡ b
          → undoes (has_hold R.holds r.id Tag p) (has_hold R.holds r.id Control p) (has_hold R.holds r.id Block p) (has_hold R.holds r.id HeldOpen p) (actions_at tasks p) ≡ true
      by true held = rw held (rule_undoes (held_at R.holds r.id p) (actions_at tasks p)
          (All-contains (λ (h : Held). Undoes h (actions_at tasks h.point)) (held_among R.holds r.id (points_of (steps_in R.steps r.id 1))) (held_at R.holds r.id p) restores.undone
          (held_among_them R.holds r.id (points_of (steps_in R.steps r.id 1)) p held
          (subst (λ (rows : List StepRow). has_name (points_of rows) p ≡ true) (of_round_is R.steps r.id 1) (at_points p held)))))
      by false free = rw (free, none_beside Tag p refl free, none_beside Control p refl free, none_beside Block p refl free, nothing_there p free) refl

  pub ready : IsReady R r.id 2 tasks
  ready = record {
    rests = each_rests (steps_of R.steps r.id) h.none_active;
    none_yet = sym (of_round_is R.steps r.id 2) ∙ h.one_round;
    known = All-from_each (λ (t : Task). has_name (point_names (Grid.points R.net)) t.point ≡ true) tasks each_known;
    at_points = at_network;
  }

  tasks_left : tasks_of (steps_left_of (of_round (steps_of (put_all (new_steps r.id 2 1 tasks) R.steps) r.id) 2)) ≡ tasks
  tasks_left =
      ap (λ (rows : List StepRow). tasks_of (steps_left_of rows)) (round_is R good new 2 tasks ready)
      ∙ ap tasks_of (left_waiting (new_steps r.id 2 1 tasks) (new_wait r.id 2 1 tasks))
      ∙ new_tasks r.id 2 1 tasks

  restoring : InRestoring R.net work (outlook_with (with_round R new 2 tasks) r.id new)
  restoring = record {
    isolates = subst (λ (rows : List StepRow). IsSoundOrder R.net work (first_of_each (points_of rows)) (tasks_of rows)) (sym (others_are R good new 2 tasks ready 1 refl)) h.isolates;
    second_round = ap is_some_step (round_is R good new 2 tasks ready) ∙ some_new r.id 2 1 tasks restores.some_step;
    given_out = none_in_round R good new 2 tasks ready 2;
    at_points = λ p held. subst (λ (rows : List StepRow). has_name (points_of rows) p ≡ true) (sym (others_are R good new 2 tasks ready 1 refl)) (at_points p held);
    beside_held_open = beside;
    undone = λ p.
        ap (λ (tasks : List Task). undoes (has_hold R.holds r.id Tag p) (has_hold R.holds r.id Control p) (has_hold R.holds r.id Block p) (has_hold R.holds r.id HeldOpen p) (actions_at tasks p)) tasks_left
        ∙ undone_by p;
    no_work = h.no_work;
  }

  restore_keeps : record_of R.records r.id ≡ Some r → is_open r.phase ≡ true → r.work ≡ Some work → IsGoodByPhase (after_edits (PutRecord new ∷ put_steps (new_steps r.id 2 1 tasks)) R)
  restore_keeps found unclosed work_is = keeps R (PutRecord new ∷ put_steps (new_steps r.id 2 1 tasks)) r.id (steps_plain (new_steps r.id 2 1 tasks)) good
      (subst (λ (S : Register). Changed R S r.id) (sym (round_put R new 2 tasks))
      (put_changes R good r.id r new found unclosed refl refl (with_round R new 2 tasks) refl (round_moved R good new 2 tasks ready
      (subst (λ (o : Option (List ℕ)). InPhase R.net Restoring o (outlook_with (with_round R new 2 tasks) r.id new)) (sym work_is) restoring))))

pub restores_keep : (c : Id) (tasks : List Task) → KeepsGood (Restore c tasks)
restores_keep c tasks = commands_keep (Restore c tasks) (λ R by at good passed.
    let (r, found, fits, rest) = role_begun R c is_released passed in
    let own : r.id ≡ c = record_id R.records c r found in
    let unclosed = open_where is_released refl r.phase fits in
    let (work, work_is, h) = released R.net r.phase r.work (outlook_of R c) fits (in_phase_of R c r good found) in
    found_edits R c r (λ r. PutRecord (record r { phase = Restoring; last = at }) ∷ put_steps (new_steps c 2 1 tasks)) found
    (subst (λ (d : Id). IsGoodByPhase (after_edits (PutRecord (record r { phase = Restoring; last = at }) ∷ put_steps (new_steps d 2 1 tasks)) R)) own
    (restore_keeps R r at tasks good work (subst (λ (d : Id). InReleased R.net work (outlook_of R d)) (sym own) h)
    (subst (λ (d : Id). IsRestoring (held_among R.holds d (points_of (steps_in R.steps d 1))) tasks) (sym own) (restoring_passed R c tasks (search rest)))
    (good.points_known.steps r.id r (ap (record_of R.records) own ∙ found) unclosed) (ap (record_of R.records) own ∙ found) unclosed work_is)))
