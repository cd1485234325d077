-- A Released record is restored: what it holds is undone, and each of its points left open.
use Rattle.std.proofs.Common.{◌*◌, false, ◌≡◌, ℕ, ◌<◌, ◌≤◌, true, cond, nat_eq, List, [], ◌∷◌, length, Some, is_some, Contains, refl, sym, ◌∙◌, ap, subst, arith}
use Rattle.std.proofs.lemmas.Bool.{and_from, false≢true}
use Rattle.std.proofs.lemmas.List.Elements.{All-contains}
use Rattle.clr_net.proofs.KeptRows.{mapped_from, there_mapped}
use Rattle.clr_net.specs.Names.{has_name}
use Rattle.clr_order.proofs.OtherOrders.{no_fault_from_restoring}
use Rattle.clr_order.specs.Restoring.{IsRestoring, held_points}
use Rattle.clr_order.specs.Step.{Task, task}
use Rattle.clr_order.specs.declared.held.Held.{Held}
use Rattle.clr_rules.specs.Changes.{new_steps, put_steps}
use Rattle.clr_rules.specs.Checks.{is_operator, wrong_restoring}
use Rattle.clr_rules.specs.Good.{IsGood}
use Rattle.clr_rules.specs.GoodByPhase.{InReleased, IsGoodByPhase, of_round, outlook_of}
use Rattle.clr_rules.specs.Holds.{first_of_each, held_among}
use Rattle.clr_rules.specs.Prelude.{PutRecord, Command, HeldOpen, Phase, Released, Restoring, Record, StepRow, Id, Register}
use Rattle.clr_rules.specs.Prelude.{record_of, points_of, steps_in, steps_of, tasks_of, has_hold, position_of}
use Rattle.clr_rules.specs.Records.{is_released}
use Rattle.clr_rules.specs.Refusals.{order_refusal}
use Rattle.clr_rules.specs.Run.{after}
use Rattle.clr_rules.specs.Staffed.{IsStaffed}
use Rattle.clr_rules.specs.Steps.{is_of_round}
use Rattle.clr_rules.specs.WayBack.{ask, moves_in, moves_of, next_moves, one_of_role, restored, undoing_steps}
use Rattle.clr_rules.specs.laws.WayBack.{is_point_of, sets_position}
use Rattle.clr_rules.specs.declared.command.Kind.TheVariants as kinds
use Rattle.clr_rules.proofs.lists.OpenPhases.{open_where}
use Rattle.clr_rules.specs.Good.{AreAtPoints}
use Rattle.clr_rules.proofs.edits.EditReading.{record_of-put}
use Rattle.clr_rules.proofs.edits.NewRounds.{All-own, round_put, with_round, new_tasks, new_wait, round_is}
use Rattle.clr_rules.proofs.good.GoodToPhases.{to_phases}
use Rattle.clr_rules.proofs.good.PhaseFacts.{hold_facts}
use Rattle.clr_rules.proofs.good.PutHolds.{kept_there}
use Rattle.clr_rules.proofs.keeps.OneRecord.{in_phase_of}
use Rattle.clr_rules.proofs.keeps.Restore.{each_held, held_named, ready, released}
use Rattle.clr_rules.proofs.lists.NamedRows.{has_name-row, row_named}
use Rattle.clr_rules.proofs.lists.RoundSteps.{All-from_each, of_round_is, own_id}
use Rattle.clr_rules.proofs.staffed.Puts.{some_there}
use Rattle.clr_rules.proofs.way_back.Accepting.{HasEmployee, Made, made, one_there, record_edits, role_passes, is_move}
use Rattle.clr_rules.proofs.way_back.InWork.{both_after, GoodAndStaffed}
use Rattle.std.specs.List.{list_any}
use Rattle.std.proofs.lemmas.List.{length-map}
use Rattle.clr_rules.specs.Good.{steps_left_of}
use Rattle.clr_rules.proofs.lists.StepSplits.{left_waiting}
use Rattle.clr_rules.proofs.way_back.Restoring.{left_count}
use Rattle.clr_rules.proofs.way_back.Running.{restoring_go_out}
use Rattle.clr_rules.proofs.way_back.Staying.{WayOut, moved_one, stays_after, wider}
use Rattle.clr_rules.proofs.way_back.Undoing.{held_apart, held_fit, undoing_restores}

no_position : (rows : List StepRow) → list_any sets_position (put_steps rows) ≡ false
no_position [] = refl
no_position (row ∷ rows) = no_position rows

some_held : (held : List Held) (p : List ℕ) → has_name (held_points held) p ≡ true → 0 < length held
some_held [] p there = absurd (false≢true there)
some_held (h ∷ held) p there = omega arith

in_round_one : (steps : List StepRow) (c : Id) (row : StepRow) → Contains (steps_in steps c 1) row → Contains steps row
unfolding steps_in
in_round_one steps c row among = kept_there (is_of_round c 1) steps row among

in_own_steps : (steps : List StepRow) (c : Id) (row : StepRow) → Contains (steps_in steps c 1) row → Contains (steps_of steps c) row
unfolding of_round
in_own_steps steps c row among =
    kept_there (λ (row : StepRow). nat_eq row.round 1) (steps_of steps c) row (subst (λ (rows : List StepRow). Contains rows row) (sym (of_round_is steps c 1)) among)

-- the step at a point
step_at_point : (rows : List StepRow) (p : List ℕ) → has_name (points_of rows) p ≡ true → (row : StepRow) × Contains rows row × (p ≡ row.step.point)
step_at_point rows p there =
    let (t, among, named) = row_named (λ (t : Task). t.point) (tasks_of rows) p there in
    let (row, within, is) = mapped_from (λ (row : StepRow). task row.step) rows t among in
    (row, within, named ∙ sym (ap (λ (t : Task). t.point) is))

module _ (R : Register) (both : GoodAndStaffed R) (r : Record) (found : record_of R.records r.id ≡ Some r) (fits : is_released r.phase ≡ true) where
  good : IsGood R
  good = GoodAndStaffed.good both

  by_phase : IsGoodByPhase R
  by_phase = to_phases R good

  staffed : IsStaffed R
  staffed = GoodAndStaffed.staffed both

  at_network : AreAtPoints R.net (steps_of R.steps r.id)
  at_network = good.besides.points_known.steps r.id r found (open_where is_released refl r.phase fits)

  abbrev points : List (List ℕ)
  points = points_of (steps_in R.steps r.id 1)

  abbrev held : List Held
  held = held_among R.holds r.id (points_of (steps_in R.steps r.id 1))

  abbrev tasks : List Task
  tasks = undoing_steps (held_among R.holds r.id (points_of (steps_in R.steps r.id 1)))

  in_released : (w : List ℕ) × (r.work ≡ Some w) × InReleased R.net w (outlook_of R r.id)
  in_released = released R.net r.phase r.work (outlook_of R r.id) fits (in_phase_of R r.id r by_phase found)

  -- a point that it holds
  held_point : (p : List ℕ) × (has_hold R.holds r.id HeldOpen p ≡ true)
  held_point = staffed.released r.id r found fits

  is_point : has_name (points_of (steps_in R.steps r.id 1)) held_point.0 ≡ true
  is_point = subst (λ (rows : List StepRow). has_name (points_of rows) held_point.0 ≡ true) (of_round_is R.steps r.id 1)
      ((hold_facts R.net r.phase r.work (outlook_of R r.id) ((by_phase.in_place r.id).in_turn 1) (in_phase_of R r.id r by_phase found)).at_points HeldOpen held_point.0 refl held_point.1)

  some_step : (row : StepRow) × Contains (steps_in R.steps r.id 1) row × (held_point.0 ≡ row.step.point)
  some_step = step_at_point (steps_in R.steps r.id 1) held_point.0 is_point

  fit : length (first_of_each (points_of (steps_in R.steps r.id 1))) ≤ 64
  fit = subst (λ (rows : List StepRow). length (first_of_each (points_of rows)) ≤ 64) (of_round_is R.steps r.id 1) (in_released.2).isolates.points_fit

  restores : IsRestoring (held_among R.holds r.id (points_of (steps_in R.steps r.id 1))) (undoing_steps (held_among R.holds r.id (points_of (steps_in R.steps r.id 1))))
  restores = undoing_restores held
      (some_held held held_point.0 (held_named R.holds r.id points held_point.0
      ∙ and_from (has_hold R.holds r.id HeldOpen held_point.0) (has_name points held_point.0) held_point.1 is_point))
      (let short = held_fit R.holds r.id points in let at_most = fit in omega arith)
      (held_apart R.holds r.id points)

  operator : HasEmployee R (one_of_role R is_operator) is_operator
  operator = one_there R is_operator good.said.staff (staffed.operators (some_there R.steps some_step.0 (in_round_one R.steps r.id some_step.0 some_step.1)))

  abbrev restoring : Command
  restoring = ask r (one_of_role R is_operator) (kinds.Restore r.id (undoing_steps (held_among R.holds r.id (points_of (steps_in R.steps r.id 1)))))

  abbrev next : Record
  next = record r { phase = Restoring }

  restore_made : Made R restoring (PutRecord next ∷ put_steps (new_steps r.id 2 1 tasks))
  restore_made = made R restoring r.id (PutRecord next ∷ put_steps (new_steps r.id 2 1 tasks)) (λ k S by s found. rw found refl) (ap is_some found)
      (role_passes R r.id r found (one_of_role R is_operator) is_operator is_released (wrong_restoring R r.id tasks ∷ []) operator fits
      (ap order_refusal (no_fault_from_restoring held tasks restores), tt))
      (record_edits R r.id r (λ s. PutRecord (record s { phase = Restoring; last = r.last }) ∷ put_steps (new_steps r.id 2 1 tasks)) found)

  after_it : after R restoring ≡ with_round R next 2 tasks
  after_it = restore_made.is_after ∙ round_put R next 2 tasks

  recorded : record_of (Register.records (after R restoring)) r.id ≡ Some next
  recorded = ap (λ (S : Register). record_of S.records r.id) after_it
      ∙ record_of-put next r.id R.records ∙ ap (λ b. cond b (Some next) (record_of R.records r.id)) (own_id r.id)

  -- its steps are at points that it had
  points_stay : (p : List ℕ) → is_point_of (after R restoring) r.id p ≡ true → is_point_of R r.id p ≡ true
  points_stay p of_it =
      let S = with_round R next 2 tasks in
      let now : has_name (points_of (steps_of (Register.steps S) r.id)) p ≡ true = subst (λ (T : Register). is_point_of T r.id p ≡ true) after_it of_it in
      let (row, among, named) = step_at_point (steps_of (Register.steps S) r.id) p now in
      ap (is_point_of R r.id) named
      ∙ All-contains (λ (row : StepRow). is_point_of R r.id row.step.point ≡ true) (steps_of (Register.steps S) r.id) row
      (All-own R by_phase next 2 tasks (ready R r r.last tasks by_phase in_released.0 in_released.2 restores at_network) (λ row. is_point_of R r.id row.step.point ≡ true)
      (λ m t there. of_first t.point (each_held R r r.last tasks by_phase in_released.0 in_released.2 restores at_network t there).1)
      (All-from_each (λ (row : StepRow). is_point_of R r.id row.step.point ≡ true) (steps_of R.steps r.id) (λ row there. point_of_own row there))) among
    where
      point_of_own : (row : StepRow) → Contains (steps_of R.steps r.id) row → is_point_of R r.id row.step.point ≡ true
      point_of_own row there = has_name-row (λ (t : Task). t.point) (tasks_of (steps_of R.steps r.id)) (task row.step) (there_mapped (λ (row : StepRow). task row.step) (steps_of R.steps r.id) row there)

      of_first : (q : List ℕ) → has_name (points_of (steps_in R.steps r.id 1)) q ≡ true → is_point_of R r.id q ≡ true
      of_first q first =
          let (row, among, named) = step_at_point (steps_in R.steps r.id 1) q first in
          ap (is_point_of R r.id) named ∙ point_of_own row (in_own_steps R.steps r.id row among)

  moves_are : next_moves R r.id ≡ restoring ∷ []
  moves_are = ap (moves_of R) found ∙ by_phase_of r.phase fits
    where
      by_phase_of : (phase : Phase) → is_released phase ≡ true → moves_in R r phase ≡ restored R r
      by_phase_of Released h = refl
      by_phase_of _ h = absurd (false≢true h)

  -- at most 256 steps are left then
  left_most : left_count (after R restoring) r.id ≤ 256
  left_most =
      let fits_it = restores.steps_fit in
      let second : steps_in (Register.steps (with_round R next 2 tasks)) r.id 2 ≡ new_steps r.id 2 1 tasks =
      sym (of_round_is (Register.steps (with_round R next 2 tasks)) r.id 2)
      ∙ round_is R by_phase next 2 tasks (ready R r r.last tasks by_phase in_released.0 in_released.2 restores at_network) in
      let count : left_count (after R restoring) r.id ≡ length tasks = ap (λ (S : Register). left_count S r.id) after_it
      ∙ ap (λ rows. length (steps_left_of rows)) second ∙ ap length (left_waiting (new_steps r.id 2 1 tasks) (new_wait r.id 2 1 tasks))
      ∙ sym (length-map (new_steps r.id 2 1 tasks) (λ (row : StepRow). task row.step)) ∙ ap length (new_tasks r.id 2 1 tasks) in
      omega arith

  -- A RELEASED RECORD goes out
  pub released_out : WayOut 1281 R r.id
  released_out = moved_one 1280 R r.id restoring moves_are
      (is_move R restoring (PutRecord next ∷ put_steps (new_steps r.id 2 1 tasks)) restore_made (no_position (new_steps r.id 2 1 tasks)))
      (stays_after R good r.id restoring refl (λ p. ap (λ (S : Register). position_of S.states p) after_it) points_stay)
      (wider (5 * left_count (after R restoring) r.id) 1280 (let most = left_most in omega arith) (after R restoring) r.id
      (restoring_go_out (after R restoring) (both_after R both restoring) next recorded refl))
