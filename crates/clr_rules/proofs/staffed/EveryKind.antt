-- Every command keeps a register staffed, and so every register that is reached is staffed.
use Rattle.std.proofs.Common.{◌≡◌, ℕ, ◌<◌, ◌+◌, Bool, true, false, cond, ◌&&◌, List, [], ◌∷◌, ◌++◌, length, Option, Some, None, find, is_some, All, Contains, refl, sym, ◌∙◌, ap, subst, arith, ◌⊎◌, inl, ⊎_elim}
use Rattle.std.specs.List.{AllByRecursion}
use Rattle.std.specs.Ordering.{is_eq}
use Rattle.std.proofs.lemmas.Bool.{both_ways, false≢true, false_from_ne_true}
use Rattle.std.proofs.lemmas.List.Elements.{All-head, All-nil}
use Rattle.std.proofs.lemmas.Option.{same_Some}
use Rattle.clr_net.specs.Grid.{Grid, point_names}
use Rattle.clr_net.specs.Names.{has_name}
use Rattle.clr_net.specs.declared.point.PointRow.{PointRow}
use Rattle.clr_order.specs.Step.{Task, task}
use Rattle.clr_order.specs.declared.action.Action.{Action}
use Rattle.clr_order.specs.declared.action.Action.TheVariants as actions
use Rattle.clr_order.specs.declared.step.StepState.TheVariants.{Waiting, Done}
use Rattle.clr_shelf.proofs.Keys.{equal}
use Rattle.clr_shelf.proofs.Lists.{Contains-here}
use Rattle.clr_shelf.specs.Rows.{row_of, with_row}
use Rattle.clr_rules.specs.StepKey.{same_step_key}
use Rattle.clr_staff.specs.declared.employee.StaffRow.{StaffRow}
use Rattle.clr_order.proofs.Finds.{found_passes}
use Rattle.std.specs.List.{list_any}
use Rattle.clr_rules.specs.Answer.{Answer, known_of, answer_by_checks}
use Rattle.clr_rules.specs.Changes.{edits_by, new_steps, phase_after, point_edits, put_steps, step_moved}
use Rattle.clr_rules.specs.Checks.{employee, has_role, is_field, is_operator}
use Rattle.clr_rules.specs.Commands.{Known, checks, edits_of}
use Rattle.clr_rules.specs.Good.{IsGood, IsSoundFor, ListsAreInOrder}
use Rattle.clr_rules.specs.GoodByPhase.{IsGoodByPhase, outlook_of}
use Rattle.clr_rules.specs.laws.Edits.{refusal_of}
use Rattle.clr_rules.specs.Prelude.{Edit, PutRecord, PutStep, Command, Kind, Hold, HoldKind, HeldOpen, Phase, Requested, Ordered, Granted, Released, Restoring, Switching, Closed, Record, Refusal, StepRow, Id, same_id, id_cmp, Register}
use Rattle.clr_rules.specs.Prelude.{record_of, record_key, is_granted, is_standing, is_restoring, is_running, is_some_step, step_key, step_key_cmp, step_key_cmp_total, all_done, is_active, is_done, present_steps, step_at, steps_in, is_point_kind, has_any_hold, has_hold, after_edit, after_edits, points_of, tasks_of}
use Rattle.clr_rules.specs.Records.{ends_with_steps, is_open, is_released, is_switch_order}
use Rattle.clr_rules.specs.Register.{opening}
use Rattle.clr_rules.specs.Run.{IsReached, after, after_all}
use Rattle.clr_rules.specs.Staffed.{IsStaffed, fits_holder, has_some_role}
use Rattle.clr_rules.specs.declared.command.Kind.TheVariants as kinds
use Rattle.clr_rules.specs.declared.step_row.StepKey.{StepKey}
use Rattle.clr_rules.proofs.edits.EditedLists.{edited_all-staff, edited-in_order}
use Rattle.clr_rules.proofs.edits.EditReading.{has_row_put, record_of-put}
use Rattle.clr_rules.proofs.edits.Passing.{Pass, all_pass, role_begun}
use Rattle.clr_rules.proofs.edits.PutRows.{by_step, left_by_all, record_after, steps_put}
use Rattle.clr_rules.proofs.edits.PutSteps.{put_step}
use Rattle.clr_rules.proofs.good.GoodToPhases.{to_phases}
use Rattle.clr_rules.proofs.good.Opening.{opening_is_good}
use Rattle.clr_rules.proofs.good.PhaseFacts.{hold_facts, work_facts}
use Rattle.clr_rules.proofs.good.PutHolds.{found_there, some_isolating}
use Rattle.clr_rules.proofs.good.Tags.{released_are_given_back}
use Rattle.clr_rules.proofs.keeps.EveryKind.{commands_keep_good}
use Rattle.clr_rules.proofs.keeps.OneRecord.{in_phase_of}
use Rattle.clr_rules.proofs.lists.FoundSteps.{present_step}
use Rattle.clr_rules.proofs.lists.HoldMembers.{hold_had}
use Rattle.clr_rules.proofs.lists.NamedRows.{has_name-row, row_named}
use Rattle.clr_rules.proofs.lists.RoundSteps.{All-in_own_round, one_id, own_id, record_id}
use Rattle.clr_rules.proofs.staffed.Puts.{StepLeft, each_step_says, found_any, holds_say, left_beside, left_by_edits, no_step_left, some_left, steps_say}
use Rattle.clr_rules.proofs.staffed.PutPeople.{IsOwnReport, PutWell, StepPutWell, holds_put, leaves_open, put_well, reports_done}

-- ---- a Restoring record has a step left

-- the edits of a step that is reported done, as they are put
abbrev pub done_list : Bool → Id → Action → List ℕ → Record → StepRow → List Edit
done_list switching d a p s row = point_edits switching d a p ++ PutRecord s ∷ PutStep row ∷ []

pub done_steps : (switching : Bool) (d : Id) (a : Action) (p : List ℕ) (s : Record) (row : StepRow) (R : Register)
    → Register.steps (after_edits (done_list switching d a p s row) R) ≡ put_step row R.steps
unfolding after_edits
done_steps true d actions.Open p s row R = refl
done_steps false d actions.Open p s row R = refl
done_steps switching d _ p s row R = refl

pub done_records : (switching : Bool) (d : Id) (a : Action) (p : List ℕ) (s : Record) (row : StepRow) (R : Register)
    → Register.records (after_edits (done_list switching d a p s row) R) ≡ with_row id_cmp record_key s R.records
unfolding after_edits
done_records true d actions.Open p s row R = refl
done_records false d actions.Open p s row R = refl
done_records switching d _ p s row R = refl

-- an order that goes on has a step left
goes_on : (phase : Phase) (b : Bool) → is_restoring (cond (ends_with_steps phase && b) Closed phase) ≡ true → b ≡ false
goes_on phase false is = refl
goes_on Restoring true is = absurd (false≢true is)
goes_on Switching true is = absurd (false≢true is)
goes_on Requested true is = absurd (false≢true is)
goes_on Ordered true is = absurd (false≢true is)
goes_on Granted true is = absurd (false≢true is)
goes_on Released true is = absurd (false≢true is)
goes_on Closed true is = absurd (false≢true is)

second_steps : (steps : List StepRow) (c : Id) → is_some_step (steps_in steps c 2) ≡ true → all_done (present_steps steps c) ≡ false → all_done (steps_in steps c 2) ≡ false
second_steps steps c some not_all = rw some at not_all

-- the register after edits has a step left, where it had one and its record is Restoring still
abbrev KeepsLeft : Register → Id → List Edit → Type 0
KeepsLeft R c edits = (s : Record) → StepLeft R.steps c → record_of (Register.records (after_edits edits R)) c ≡ Some s → is_restoring s.phase ≡ true
    → is_some_step (steps_in (Register.steps (after_edits edits R)) c 2) ≡ true → StepLeft (Register.steps (after_edits edits R)) c

keeps_none : (R : Register) (c : Id) → KeepsLeft R c []
unfolding after_edits
keeps_none R c s l read is some = l

module _ (R : Register) (good : IsGoodByPhase R) (c d : Id) (n at : ℕ) (r : Record) (row : StepRow) (found : record_of R.records d ≡ Some r)
    (step : step_at (present_steps R.steps d) n ≡ Some row) where
  abbrev now : StepRow
  now = step_moved Done row.step.reader row

  abbrev next : Record
  next = record r { phase = phase_after R.steps r now; last = at }

  row_id : row.id ≡ d
  row_id = sym (one_id d row.id (present_step R.steps d n row step).own)

  own : r.id ≡ d
  own = record_id R.records d r found

  done_left : (b : Bool) → same_id d c ≡ b → KeepsLeft R c (done_list (is_switch_order r) r.id row.step.action row.step.point next now)
  done_left false differs s l read is some =
      subst (λ steps. StepLeft steps c) (sym (done_steps (is_switch_order r) r.id row.step.action row.step.point next now R))
      (left_beside R.steps c now good.in_order.steps l (false_from_ne_true (is_eq (step_key_cmp (step_key now) (step_key l.row))) (λ same.
      both_ways (same_id d c) differs (ap (same_id d)
      (sym l.own ∙ sym (ap (λ (k : StepKey). StepKey.id k) (same_step_key (step_key now) (step_key l.row) (equal (step_key_cmp (step_key now) (step_key l.row)) same))) ∙ row_id)
      ∙ own_id d))))
  done_left true same s l read is some =
      let one : d ≡ c = one_id d c same in
      let steps_are = done_steps (is_switch_order r) r.id row.step.action row.step.point next now R in
      let records_are = done_records (is_switch_order r) r.id row.step.action row.step.point next now R in
      let reads : record_of (with_row id_cmp record_key next R.records) c ≡ Some next =
      record_of-put next c R.records ∙ ap (λ b. cond b (Some next) (record_of R.records c)) (ap (λ (e : Id). same_id e c) own ∙ same) in
      let is_next : next ≡ s = same_Some next s (sym reads ∙ sym (ap (λ records. record_of records c) records_are) ∙ read) in
      let not_all : all_done (present_steps (put_step now R.steps) r.id) ≡ false =
      goes_on r.phase (all_done (present_steps (put_step now R.steps) r.id)) (subst (λ (s : Record). is_restoring s.phase ≡ true) (sym is_next) is) in
      subst (λ steps. StepLeft steps c) (sym steps_are) (some_left (put_step now R.steps) c
      (second_steps (put_step now R.steps) c (subst (λ steps. is_some_step (steps_in steps c 2) ≡ true) steps_are some)
      (subst (λ (e : Id). all_done (present_steps (put_step now R.steps) e) ≡ false) (own ∙ one) not_all)))

module _ (R : Register) (good : IsGoodByPhase R) (staffed : IsStaffed R) (k : Known) (by : List ℕ) (at : ℕ) (c : Id) where
  -- a step that is put is not Done, where no step is reported done
  not_done : (kind : Kind) → reports_done kind ≡ false → (row : StepRow) → StepPutWell R kind row → is_done row.step.state ≡ false
  not_done kind none row well = ⊎_elim (λ h. h) (λ reports. absurd (both_ways (reports_done kind) none reports)) well.1

  by_others : (kind : Kind) → reports_done kind ≡ false → Pass (checks k R by at kind) → KeepsLeft R c (edits_of k.greatest R by at kind)
  by_others kind none passed s l read is some =
      left_by_edits (PutWell R kind) (StepPutWell R kind) (not_done kind none) c (edits_of k.greatest R by at kind) R good.in_order (put_well R staffed good k by at kind passed) l

  keeps_left : (kind : Kind) → Pass (checks k R by at kind) → KeepsLeft R c (edits_of k.greatest R by at kind)
  keeps_left (kinds.Report d n true) passed =
      by_step (KeepsLeft R c) (keeps_none R c) R d n _ (λ r row found step. done_left R good c d n at r row found step (same_id d c) refl)
  keeps_left (kinds.Report d n false) passed = by_others (kinds.Report d n false) refl passed
  keeps_left kind passed = by_others kind refl passed

waiting_steps : (c : Id) (round n : ℕ) (tasks : List Task) → AllByRecursion (λ row. is_done row.step.state ≡ false) (new_steps c round n tasks)
unfolding new_steps
waiting_steps c round n [] = tt
waiting_steps c round n (t ∷ tasks) = (refl, waiting_steps c round (n + 1) tasks)

abbrev AnyRecord : Record → Type 0
AnyRecord r = Unit {0}

-- an order that is restored has its first step left
first_step : (R : Register) → ListsAreInOrder R → (c : Id) (s : Record) (tasks : List Task) → 0 < length tasks
    → StepLeft (Register.steps (after_edits (PutRecord s ∷ put_steps (new_steps c 2 1 tasks)) R)) c
unfolding after_edits new_steps
first_step R ordered c s [] some = absurd (omega arith)
first_step R ordered c s (t ∷ tasks) some =
    let first : StepRow = record { id = c; round = 2; ordinal = 1; step = record { action = t.action; point = t.point; state = Waiting; reader = None } } in
    left_by_edits AnyRecord (λ row. is_done row.step.state ≡ false) (λ row h. h) c (put_steps (new_steps c 2 2 tasks)) (after_edit (PutStep first) (after_edit (PutRecord s) R))
    (edited-in_order (PutStep first) (after_edit (PutRecord s) R) (edited-in_order (PutRecord s) R ordered))
    (steps_put AnyRecord (λ row. is_done row.step.state ≡ false) (new_steps c 2 2 tasks) (waiting_steps c 2 2 tasks))
    (record { row = first; there = (has_row_put step_key_cmp step_key step_key_cmp_total first R.steps ordered.steps first).1 (inl refl); own = refl; round = refl; left = refl })

restored : (R : Register) → ListsAreInOrder R → (k : Known) (by : List ℕ) (at : ℕ) (c : Id) (kind : Kind) → Pass (checks k R by at kind)
    → (d : Id) (tasks : List Task) → kind ≡ kinds.Restore d tasks → 0 < length tasks → d ≡ c → StepLeft (Register.steps (after_edits (edits_of k.greatest R by at kind) R)) c
restored R ordered k by at c (kinds.Restore e those) passed d tasks is some same =
    let (r, found, fits, _) = role_begun R e is_released passed in
    let same_tasks : those ≡ tasks = cc in
    let same_id : c ≡ e = cc in
    subst (λ (o : Option Record). StepLeft (Register.steps (after_edits (edits_by o (λ r. PutRecord (record r { phase = Restoring; last = at }) ∷ put_steps (new_steps e 2 1 those))) R)) c) (sym found)
    (subst (λ (f : Id). StepLeft (Register.steps (after_edits (PutRecord (record r { phase = Restoring; last = at }) ∷ put_steps (new_steps e 2 1 those)) R)) f) (sym same_id)
    (first_step R ordered e (record r { phase = Restoring; last = at }) those (rw same_tasks some)))
restored R ordered k by at c kind passed d tasks is some same = cc is

-- ---- a Released record holds some point open

pub some_found : {X : Type 0} (p : X → Bool) (xs : List X) → list_any p xs ≡ true → (x : X) × Contains xs x × (p x ≡ true)
some_found {X = X} p xs h = at (find p xs) refl
  where
    at : (o : Option X) → find p xs ≡ o → (x : X) × Contains xs x × (p x ≡ true)
    at None e = absurd (false≢true (sym (ap is_some e) ∙ found_any p xs ∙ h))
    at (Some x) e = (x, found_there p xs x e, found_passes p xs x e)

sound_some : (g : Grid) (work : Option (List ℕ)) (rows : List StepRow) → IsSoundFor g work rows → is_some_step rows ≡ true
sound_some g None rows h = absurd h
sound_some g (Some work) rows h = some_isolating g work rows h

module _ (R : Register) (good : IsGood R) (by_phase : IsGoodByPhase R) (staffed : IsStaffed R) (c : Id) (r : Record) (found : record_of R.records c ≡ Some r) where
  -- a granted clearance holds the point of its first step
  granted_holds : r.phase ≡ Granted → (p : List ℕ) × (has_hold R.holds c HeldOpen p ≡ true)
  granted_holds is = from (steps_in R.steps c 1) refl
      (sound_some R.net r.work (steps_in R.steps c 1) (good.said.standing_orders_are_sound c r found (ap is_standing is)))
    where
      from : (rows : List StepRow) → steps_in R.steps c 1 ≡ rows → is_some_step (steps_in R.steps c 1) ≡ true → (p : List ℕ) × (has_hold R.holds c HeldOpen p ≡ true)
      from [] e some = absurd (false≢true (sym (ap is_some_step e) ∙ some))
      from (row ∷ rows) e some =
          let known : has_name (point_names (Grid.points R.net)) row.step.point ≡ true =
          All-head (λ (row : StepRow). has_name (point_names (Grid.points R.net)) row.step.point ≡ true) row rows
          (subst (λ (rows : List StepRow). All (λ row. has_name (point_names (Grid.points R.net)) row.step.point ≡ true) rows) e
          (All-in_own_round (λ (row : StepRow). has_name (point_names (Grid.points R.net)) row.step.point ≡ true) R.steps c 1 (good.besides.points_known.steps c r found (ap is_open is)))) in
          let (point, there, named) = row_named (λ (p : PointRow). p.name) (Grid.points R.net) row.step.point known in
          let among : has_name (points_of (row ∷ rows)) row.step.point ≡ true = has_name-row (λ (t : Task). t.point) (tasks_of (row ∷ rows)) (task row.step) (Contains-here (task row.step) (tasks_of rows)) in (
            row.step.point,
            subst (λ name. has_hold R.holds c HeldOpen name ≡ true) (sym named)
                (good.said.granted_points_are_held.held c r found (ap is_granted is) point there
                (subst (λ (rows : List StepRow). has_name (points_of rows) point.name ≡ true) (sym e) (subst (λ name. has_name (points_of (row ∷ rows)) name ≡ true) named among))).held_open,
          )

  -- an ordered clearance with any hold holds a point open
  ordered_holds : r.phase ≡ Ordered → has_any_hold R.holds c ≡ true → (p : List ℕ) × (has_hold R.holds c HeldOpen p ≡ true)
  unfolding has_any_hold
  ordered_holds is any =
      let (h, there, own) = some_found (λ (h : Hold). same_id c h.id) R.holds any in
      let has : has_hold R.holds c h.kind h.place ≡ true = ap (λ (d : Id). has_hold R.holds d h.kind h.place) (one_id c h.id own) ∙ hold_had R.holds h by_phase.in_order.holds there in
      (h.place, beside h.kind h.place has (is_point_kind h.kind) refl)
    where
      beside : (kind : HoldKind) (p : List ℕ) → has_hold R.holds c kind p ≡ true → (b : Bool) → is_point_kind kind ≡ b → has_hold R.holds c HeldOpen p ≡ true
      beside kind p has true at_point = (hold_facts R.net r.phase r.work (outlook_of R c) ((by_phase.in_place c).in_turn 1) (in_phase_of R c r by_phase found)).beside kind p at_point has
      beside kind p has false off_point =
          absurd (false≢true (sym (ap is_granted is) ∙ (work_facts R.net r.phase r.work (outlook_of R c) (in_phase_of R c r by_phase found)).granted kind p off_point has))

-- ---- every command

no_edits : (R : Register) → IsStaffed R → IsStaffed (after_edits [] R)
unfolding after_edits
no_edits R h = h

module _ (R : Register) (q : Command) (good : IsGood R) (staffed : IsStaffed R) (passed : refusal_of R q ≡ None) where
  abbrev k : Known
  k = known_of R q

  abbrev edits : List Edit
  edits = edits_of k.greatest R q.caller q.moment q.kind

  abbrev S : Register
  S = after_edits edits R

  by_phase : IsGoodByPhase R
  by_phase = to_phases R good

  passes : Pass (checks k R q.caller q.moment q.kind)
  passes = all_pass (checks k R q.caller q.moment q.kind) passed

  is_after : after R q ≡ S
  is_after = ap (λ found. after_edits (Answer.edits (answer_by_checks k R q found)) R) passed

  same_staff : Register.staff S ≡ R.staff
  same_staff = edited_all-staff R edits

  good_after : IsGood S
  good_after = subst IsGood is_after (commands_keep_good R q good)

  read_after : (c : Id) (s : Record) → record_of (Register.records S) c ≡ Some s → (record_of R.records c ≡ Some s) ⊎ PutWell R q.kind s
  read_after c s read = record_after (PutWell R q.kind) (StepPutWell R q.kind) edits R c s (put_well R staffed by_phase k q.caller q.moment q.kind passes) read

  released_holds : (c : Id) (s : Record) → record_of (Register.records S) c ≡ Some s → is_released s.phase ≡ true → (p : List ℕ) × (has_hold (Register.holds S) c HeldOpen p ≡ true)
  released_holds c s read is =
      let (r, found, how) = released_are_given_back R q c s (subst (λ (T : Register). record_of (Register.records T) c ≡ Some s) (sym is_after) read) (released_is s.phase is) in
      ⊎_elim (λ (was : r.phase ≡ Released). left c r found (not_running r c was) (staffed.released c r found (ap is_released was)))
      (λ (how : ((r.phase ≡ Granted) × (q.kind ≡ kinds.Release c true true)) ⊎ ((r.phase ≡ Ordered) × (q.kind ≡ kinds.Cancel c) × (has_any_hold R.holds c ≡ true))).
      ⊎_elim (λ (was : (r.phase ≡ Granted) × (q.kind ≡ kinds.Release c true true)). left c r found (not_running_granted r c was.0) (granted_holds R good by_phase staffed c r found was.0))
      (λ (was : (r.phase ≡ Ordered) × (q.kind ≡ kinds.Cancel c) × (has_any_hold R.holds c ≡ true)).
      left c r found (λ n reports runs. absurd (no_cancel c n was.1 reports)) (ordered_holds R good by_phase staffed c r found was.0 was.2)) how) how
    where
      left : (c : Id) (r : Record) → record_of R.records c ≡ Some r → ((n : ℕ) → q.kind ≡ kinds.Report c n true → is_running r.phase ≡ true → ⊥)
          → (p : List ℕ) × (has_hold R.holds c HeldOpen p ≡ true) → (p : List ℕ) × (has_hold (Register.holds S) c HeldOpen p ≡ true)
      left c r found none (p, has) = (
        p,
        ⊎_elim (λ leave. left_by_all c HeldOpen p edits R leave has)
            (λ (own : IsOwnReport R c q.kind). absurd (none own.n own.is (subst (λ (x : Record). is_running x.phase ≡ true) (same_Some own.clearance r (sym own.recorded ∙ found)) own.runs)))
            (leaves_open R c p k q.caller q.moment q.kind passes),
      )

      not_running : (r : Record) (c : Id) → r.phase ≡ Released → (n : ℕ) → q.kind ≡ kinds.Report c n true → is_running r.phase ≡ true → ⊥
      not_running r c was n reports runs = false≢true (sym (ap is_running was) ∙ runs)

      not_running_granted : (r : Record) (c : Id) → r.phase ≡ Granted → (n : ℕ) → q.kind ≡ kinds.Report c n true → is_running r.phase ≡ true → ⊥
      not_running_granted r c was n reports runs = false≢true (sym (ap is_running was) ∙ runs)

      no_cancel : (c : Id) (n : ℕ) → q.kind ≡ kinds.Cancel c → q.kind ≡ kinds.Report c n true → ⊥
      no_cancel c n cancels reports = cc

      released_is : (phase : Phase) → is_released phase ≡ true → phase ≡ Released
      released_is Released is = refl
      released_is _ is = absurd (false≢true is)

  restoring_left : (c : Id) (s : Record) → record_of (Register.records S) c ≡ Some s → is_restoring s.phase ≡ true → all_done (steps_in (Register.steps S) c 2) ≡ false
  restoring_left c s read is = no_step_left (Register.steps S) c
      (⊎_elim (λ before. kept s before is) (λ (put : PutWell R q.kind s). ⊎_elim
      (λ (was : (r : Record) × (record_of R.records s.id ≡ Some r) × (is_restoring r.phase ≡ true)). kept was.0 (ap (record_of R.records) (sym own) ∙ was.1) was.2)
      (λ (how : (tasks : List Task) × (q.kind ≡ kinds.Restore s.id tasks) × (0 < length tasks)).
      restored R by_phase.in_order k q.caller q.moment c q.kind passes s.id how.0 how.1 how.2 own)
      (put.1 is)) (read_after c s read))
    where
      own : s.id ≡ c
      own = record_id (Register.records S) c s read

      kept : (r : Record) → record_of R.records c ≡ Some r → is_restoring r.phase ≡ true → StepLeft (Register.steps S) c
      kept r found restoring = keeps_left R by_phase staffed k q.caller q.moment c q.kind passes s (some_left R.steps c (staffed.restoring c r found restoring)) read is
          (good_after.besides.restoring_rounds c s read is)

  staffed_after : IsStaffed S
  staffed_after = record {
    holders = λ c s read unclosed. subst (λ (staff : List StaffRow). has_role (fits_holder s.work) (employee staff s.holder) ≡ true) (sym same_staff)
        (⊎_elim (λ before. staffed.holders c s before unclosed) (λ (put : PutWell R q.kind s). put.0) (read_after c s read));
    operators = λ some. subst (λ (staff : List StaffRow). has_some_role staff is_operator ≡ true) (sym same_staff)
        (steps_say (has_some_role R.staff is_operator ≡ true) (PutWell R q.kind) (StepPutWell R q.kind) (λ row put. put.0) edits R
        (put_well R staffed by_phase k q.caller q.moment q.kind passes) staffed.operators some);
    field = λ c kind p at_point has. subst (λ (staff : List StaffRow). has_some_role staff is_field ≡ true) (sym same_staff)
        (holds_say (has_some_role R.staff is_field ≡ true) c kind p at_point edits R (holds_put R k q.caller q.moment q.kind passes) (staffed.field c kind p at_point) has);
    rounds = each_step_says (PutWell R q.kind) (StepPutWell R q.kind) (λ row. is_active row.step.state ≡ true → (row.round ≡ 1) ⊎ (row.round ≡ 2)) (λ row put. put.2) edits R
        (put_well R staffed by_phase k q.caller q.moment q.kind passes) staffed.rounds;
    released = released_holds;
    restoring = restoring_left;
  }

pub commands_keep_staffed : (R : Register) (q : Command) → IsGood R → IsStaffed R → IsStaffed (after R q)
commands_keep_staffed R q good staffed = at (refusal_of R q) refl
  where
    at : (found : Option Refusal) → refusal_of R q ≡ found → IsStaffed (after_edits (Answer.edits (answer_by_checks (known_of R q) R q found)) R)
    at None passed = staffed_after R q good staffed passed
    at (Some refusal) is = no_edits R staffed

-- nothing is asked for, ordered or held before the first command
pub opening_staffed : (g : Grid) (staff : List StaffRow) → IsStaffed (opening g staff)
unfolding row_of
opening_staffed g staff = record {
  holders = λ c r found unclosed. absurd (cc found);
  operators = λ some. absurd (false≢true some);
  field = λ c kind p at_point has. absurd (false≢true has);
  rounds = All-nil (λ (row : StepRow). is_active row.step.state ≡ true → (row.round ≡ 1) ⊎ (row.round ≡ 2));
  released = λ c r found is. absurd (cc found);
  restoring = λ c r found is. absurd (cc found);
}

runs_keep_staffed : (R : Register) (commands : List Command) → IsGood R → IsStaffed R → IsStaffed (after_all R commands)
unfolding after_all
runs_keep_staffed R [] good staffed = staffed
runs_keep_staffed R (q ∷ commands) good staffed = runs_keep_staffed (after R q) commands (commands_keep_good R q good) (commands_keep_staffed R q good staffed)

pub reached_are_staffed : (R : Register) → IsReached R → IsStaffed R
reached_are_staffed R run = subst IsStaffed (sym run.reached)
    (runs_keep_staffed (opening run.net run.staff) run.commands (opening_is_good run.net run.staff run.is_network run.is_staff) (opening_staffed run.net run.staff))
