-- A step that is given out is repeated and reported: what the register is then.
use Rattle.std.proofs.Common.{◌≡◌, ℕ, Bool, true, false, cond, List, [], ◌∷◌, ◌++◌, Option, Some, None, is_some, Contains, refl, sym, ◌∙◌, ap, subst, inl, inr}
use Rattle.std.specs.List.{AllByRecursion, list_any}
use Rattle.std.proofs.lemmas.Bool.{false≢true}
use Rattle.std.proofs.lemmas.List.Elements.{All-contains}
use Rattle.clr_net.specs.Grid.{Grid, point_names}
use Rattle.clr_net.specs.Names.{has_name}
use Rattle.clr_order.specs.Action.{is_switching}
use Rattle.clr_order.specs.Step.{task}
use Rattle.clr_order.specs.Texts.{step_text}
use Rattle.clr_order.specs.declared.action.Action.{Action}
use Rattle.clr_order.specs.declared.action.Action.TheVariants as actions
use Rattle.clr_order.specs.declared.step.StepState.TheVariants.{Waiting, Repeated, Done}
use Rattle.clr_rules.specs.Changes.{done_edits, phase_after, step_moved, undone_edits}
use Rattle.clr_rules.specs.Checks.{employee, is_field}
use Rattle.clr_rules.specs.Good.{IsGood}
use Rattle.clr_rules.specs.GoodByPhase.{Outlook, outlook_of}
use Rattle.clr_rules.specs.Prelude.{SetHand, PutRecord, PutStep, Command, PointState, Record, StepRow, Id, same_id, Register}
use Rattle.clr_rules.specs.Prelude.{hand_of, position_of, record_of, is_active, points_of, state_of, steps_of, has_hold, after_edits, is_running}
use Rattle.clr_rules.specs.Records.{is_switch_order, is_open}
use Rattle.clr_rules.specs.Run.{after}
use Rattle.clr_rules.specs.Staffed.{has_some_role}
use Rattle.clr_rules.specs.WayBack.{ask, one_of_role}
use Rattle.clr_rules.specs.laws.WayBack.{IsMove, sets_position, AllBack, StaysBut, is_point_of}
use Rattle.clr_rules.specs.declared.command.Kind.TheVariants as kinds
use Rattle.clr_rules.proofs.lists.OpenPhases.{open_where}
use Rattle.clr_rules.proofs.edits.EditReading.{record_of-put}
use Rattle.clr_rules.proofs.edits.PutSteps.{put_step}
use Rattle.clr_rules.proofs.lists.RoundSteps.{one_id, own_id}
use Rattle.clr_rules.proofs.lists.StateFacts.{hand_of-handed, state_is_known, with_hand}
use Rattle.clr_rules.proofs.staffed.EveryKind.{done_list, done_records, done_steps}
use Rattle.clr_rules.proofs.way_back.Accepting.{HasEmployee, Made, is_move, one_there}
use Rattle.clr_rules.proofs.way_back.InWork.{InWork, StepMade, active_in_work, made_alone, made_handed, own_there, both_after, repeat_made, report_made, GoodAndStaffed}
use Rattle.clr_rules.proofs.way_back.Rows.{SplitAt, in_the_midst, points_swap, split_again, split_of}
use Rattle.clr_rules.proofs.way_back.Staying.{SetsNone, Stays, all_stay, none_are_set, others_stay, stays_as}

pub states_alone : (R : Register) (r : Record) (new : StepRow) → Register.states (after_edits (PutRecord r ∷ PutStep new ∷ []) R) ≡ R.states
unfolding after_edits
states_alone R r new = refl

pub states_handed : (R : Register) (r : Record) (p : List ℕ) (hand : Option Id) (new : StepRow)
    → Register.states (after_edits (SetHand p hand ∷ PutRecord r ∷ PutStep new ∷ []) R) ≡ with_hand R.states p hand
unfolding after_edits
states_handed R r p hand new = refl

-- an employee is one of a register with the same staff
pub same_employee : (R S : Register) (by : List ℕ) → S.staff ≡ R.staff → HasEmployee R by is_field → HasEmployee S by is_field
same_employee R S by same h = record { row = h.row; found = ap (λ staff. employee staff by) same ∙ h.found; role = h.role }

-- the point of a step of an open record has a state
pub point_known : (R : Register) → IsGood R → (c : Id) (r : Record) → record_of R.records c ≡ Some r → is_open r.phase ≡ true → (row : StepRow) → Contains (steps_of R.steps c) row
    → is_some (state_of R.states row.step.point) ≡ true
point_known R good c r found unclosed row among = state_is_known R.states row.step.point ∙ ap (λ names. has_name names row.step.point) good.besides.points_known.states
    ∙ All-contains (λ (row : StepRow). has_name (point_names (Grid.points R.net)) row.step.point ≡ true) (steps_of R.steps c) row (good.besides.points_known.steps c r found unclosed) among

-- one step waits again, among the others
pub back_among : (among : List ℕ → Bool) (before : List StepRow) (row : StepRow) (after : List StepRow) → is_active row.step.state ≡ true → among row.step.point ≡ true
    → AllBack among (before ++ row ∷ after) (before ++ step_moved Waiting None row ∷ after)
unfolding AllBack
back_among among [] row after active here = (inr (active, here, refl), all_stay among after)
back_among among (first ∷ before) row after active here = (inl refl, back_among among before row after active here)

-- ---- the step is repeated

module _ (R : Register) (both : GoodAndStaffed R) (r : Record) (found : record_of R.records r.id ≡ Some r) (row : StepRow) (among : Contains (steps_of R.steps r.id) row)
    (active : is_active row.step.state ≡ true) (some_field : has_some_role R.staff is_field ≡ true) where
  abbrev f : List ℕ
  f = one_of_role R is_field

  good : IsGood R
  good = GoodAndStaffed.good both

  w : InWork R r row
  w = active_in_work R both r found row among active

  caller : HasEmployee R (one_of_role R is_field) is_field
  caller = one_there R is_field good.said.staff some_field

  pub split : SplitAt R.steps r.id row
  split = split_of R.steps r.id row good.said.in_order.steps (own_there R.steps r.id row among).1 among

  abbrev pub repeated : StepRow
  repeated = step_moved Repeated (Some (one_of_role R is_field)) row

  abbrev pub repeating : Command
  repeating = ask r (one_of_role R is_field) (kinds.Repeat r.id row.ordinal (step_text (task row.step)))

  abbrev pub R1 : Register
  R1 = after R repeating

  made_first : Made R (ask r (one_of_role R is_field) (kinds.Repeat r.id row.ordinal (step_text (task row.step)))) (PutRecord r ∷ PutStep (step_moved Repeated (Some (one_of_role R is_field)) row) ∷ [])
  made_first = repeat_made R r row w f caller active

  pub repeat_move : IsMove R (ask r (one_of_role R is_field) (kinds.Repeat r.id row.ordinal (step_text (task row.step))))
  repeat_move = is_move R repeating (PutRecord r ∷ PutStep repeated ∷ []) made_first refl

  first : StepMade R R1 r repeated
  first = made_alone R repeating r repeated made_first

  both1 : GoodAndStaffed R1
  both1 = both_after R both repeating

  steps1 : steps_of (Register.steps R1) r.id ≡ split.before ++ repeated ∷ split.after
  steps1 = ap (λ steps. steps_of steps r.id) first.steps ∙ split_again R.steps r.id row repeated good.said.in_order.steps split refl

  states1 : Register.states R1 ≡ R.states
  states1 = ap (λ (S : Register). S.states) made_first.is_after ∙ states_alone R r repeated

  among1 : Contains (steps_of (Register.steps R1) r.id) repeated
  among1 = subst (λ (rows : List StepRow). Contains rows repeated) (sym steps1) (in_the_midst split.before repeated split.after)

  w1 : InWork R1 r repeated
  w1 = active_in_work R1 both1 r first.recorded repeated among1 refl

  abbrev split1 : SplitAt (Register.steps R1) r.id repeated
  split1 = record { before = split.before; after = split.after; own = split.own; was = steps1 }

  good1 : IsGood R1
  good1 = GoodAndStaffed.good both1

  positions1 : (p : List ℕ) → position_of (Register.states R1) p ≡ position_of R.states p
  positions1 p = ap (λ (states : List PointState). position_of states p) states1

  -- ---- and reported

  abbrev pub reporting : Bool → Command
  reporting done = ask r (one_of_role R is_field) (kinds.Report r.id row.ordinal done)

  made_second : (done : Bool) → Made R1 (ask r (one_of_role R is_field) (kinds.Report r.id row.ordinal done)) (cond done (done_edits R1 r.last r repeated) (undone_edits r.last r repeated))
  made_second done = report_made R1 r repeated w1 f (same_employee R R1 f first.staff caller) refl refl done

  pub both2 : (done : Bool) → GoodAndStaffed (after R1 (reporting done))
  both2 done = both_after R1 both1 (reporting done)

  pub others2 : (done : Bool) (d : Id) → same_id d r.id ≡ false → outlook_of (after R1 (reporting done)) d ≡ outlook_of R d
  others2 done d differs = others_stay R1 good1 r.id (reporting done) refl d differs ∙ others_stay R good r.id repeating refl d differs

  -- not done: it waits again, and its point is let go

  abbrev pub back : StepRow
  back = step_moved Waiting None row

  second : StepMade R1 (after R1 (reporting false)) r back
  second = made_handed R1 (reporting false) r row.step.point None back (made_second false)

  pub undone_move : IsMove R1 (reporting false)
  undone_move = is_move R1 (reporting false) (SetHand row.step.point None ∷ PutRecord r ∷ PutStep back ∷ []) (made_second false) refl

  pub undone_recorded : record_of (Register.records (after R1 (reporting false))) r.id ≡ Some r
  undone_recorded = second.recorded

  pub undone_holds : Register.holds (after R1 (reporting false)) ≡ R.holds
  undone_holds = second.holds ∙ first.holds

  pub undone_staff : Register.staff (after R1 (reporting false)) ≡ R.staff
  undone_staff = second.staff ∙ first.staff

  pub undone_steps : steps_of (Register.steps (after R1 (reporting false))) r.id ≡ split.before ++ back ∷ split.after
  undone_steps = ap (λ steps. steps_of steps r.id) second.steps ∙ split_again (Register.steps R1) r.id repeated back good1.said.in_order.steps split1 refl

  undone_states : Register.states (after R1 (reporting false)) ≡ with_hand (Register.states R1) row.step.point None
  undone_states = ap (λ (S : Register). S.states) (Made.is_after (made_second false)) ∙ states_handed R1 r row.step.point None back

  pub undone_hand : hand_of (Register.states (after R1 (reporting false))) row.step.point ≡ None
  undone_hand = ap (λ (states : List PointState). hand_of states row.step.point) undone_states
      ∙ hand_of-handed (Register.states R1) row.step.point None (point_known R1 good1 r.id r first.recorded (open_where is_running refl r.phase w.runs) repeated among1)

  pub undone_positions : (p : List ℕ) → position_of (Register.states (after R1 (reporting false))) p ≡ position_of R.states p
  undone_positions p = ap (λ (S : Register). position_of S.states p) (Made.is_after (made_second false))
      ∙ none_are_set (SetHand row.step.point None ∷ PutRecord r ∷ PutStep back ∷ []) R1 (tt, (tt, (tt, tt))) p ∙ positions1 p

  -- the rest of a register stays, where the step is the clearance's own
  pub own_undone : Stays r.id R (after R1 (reporting false))
  own_undone = record {
    positions = undone_positions;
    others = λ d differs. stays_as (is_point_of R r.id) R (after R1 (reporting false)) d (others2 false d differs);
    points = λ p of_it. ap (λ points. has_name points p) (sym same_points) ∙ of_it;
  }
    where
      same_points : points_of (steps_of (Register.steps (after R1 (reporting false))) r.id) ≡ points_of (steps_of R.steps r.id)
      same_points = ap points_of undone_steps ∙ points_swap split.before row back split.after refl ∙ ap points_of (sym split.was)

  -- and where it is another's, at a point of the clearance
  pub other_undone : (c : Id) → same_id c r.id ≡ false → is_point_of R c row.step.point ≡ true → Stays c R (after R1 (reporting false))
  other_undone c differs here = record {
    positions = undone_positions;
    others = λ d other. at d other (same_id d r.id) refl;
    points = λ p of_it. ap (λ (v : Outlook). has_name (points_of v.steps) p) (sym (others2 false c differs)) ∙ of_it;
  }
    where
      this : StaysBut (is_point_of R c) R (after R1 (reporting false)) r.id
      this = record {
        same_record = undone_recorded ∙ sym found;
        same_holds = λ kind place. ap (λ holds. has_hold holds r.id kind place) undone_holds;
        steps = subst (λ (rows : List StepRow). AllBack (is_point_of R c) rows (steps_of (Register.steps (after R1 (reporting false))) r.id)) (sym split.was)
            (subst (λ (rows : List StepRow). AllBack (is_point_of R c) (split.before ++ row ∷ split.after) rows) (sym undone_steps)
            (back_among (is_point_of R c) split.before row split.after active here));
      }

      at : (d : Id) → same_id d c ≡ false → (b : Bool) → same_id d r.id ≡ b → StaysBut (is_point_of R c) R (after R1 (reporting false)) d
      at d other true is = subst (StaysBut (is_point_of R c) R (after R1 (reporting false))) (sym (one_id d r.id is)) this
      at d other false apart = stays_as (is_point_of R c) R (after R1 (reporting false)) d (others2 false d apart)

  -- ---- done

  abbrev pub done_row : StepRow
  done_row = step_moved Done (Some (one_of_role R is_field)) row

  abbrev pub done_record : Record
  done_record = record r { phase = phase_after (Register.steps R1) r done_row }

  done_after : after R1 (reporting true) ≡ after_edits (done_list (is_switch_order r) r.id row.step.action row.step.point done_record done_row) R1
  done_after = Made.is_after (made_second true)

  pub done_recorded : record_of (Register.records (after R1 (reporting true))) r.id ≡ Some done_record
  done_recorded = ap (λ (S : Register). record_of S.records r.id) done_after
      ∙ ap (λ records. record_of records r.id) (done_records (is_switch_order r) r.id row.step.action row.step.point done_record done_row R1)
      ∙ record_of-put done_record r.id (Register.records R1) ∙ ap (λ b. cond b (Some done_record) (record_of (Register.records R1) r.id)) (own_id r.id)

  pub done_all_steps : Register.steps (after R1 (reporting true)) ≡ put_step done_row (Register.steps R1)
  done_all_steps = ap (λ (S : Register). S.steps) done_after ∙ done_steps (is_switch_order r) r.id row.step.action row.step.point done_record done_row R1

  pub done_own_steps : steps_of (Register.steps (after R1 (reporting true))) r.id ≡ split.before ++ done_row ∷ split.after
  done_own_steps = ap (λ steps. steps_of steps r.id) done_all_steps ∙ split_again (Register.steps R1) r.id repeated done_row good1.said.in_order.steps split1 refl

  sets_none : (switching : Bool) (a : Action) → is_switching a ≡ false → AllByRecursion SetsNone (done_list switching r.id a row.step.point done_record done_row)
  sets_none switching actions.Open other = absurd (false≢true (sym other))
  sets_none switching actions.Close other = absurd (false≢true (sym other))
  sets_none switching _ other = (tt, (tt, (tt, (tt, tt))))

  none_set : (switching : Bool) (a : Action) → is_switching a ≡ false → list_any sets_position (done_list switching r.id a row.step.point done_record done_row) ≡ false
  none_set switching actions.Open other = absurd (false≢true (sym other))
  none_set switching actions.Close other = absurd (false≢true (sym other))
  none_set switching _ other = refl

  pub done_move : is_switching row.step.action ≡ false → IsMove R1 (reporting true)
  done_move other = is_move R1 (reporting true) (done_list (is_switch_order r) r.id row.step.action row.step.point done_record done_row) (made_second true)
      (none_set (is_switch_order r) row.step.action other)

  pub own_done : is_switching row.step.action ≡ false → Stays r.id R (after R1 (reporting true))
  own_done other = record {
    positions = λ p. ap (λ (S : Register). position_of S.states p) done_after
        ∙ none_are_set (done_list (is_switch_order r) r.id row.step.action row.step.point done_record done_row) R1 (sets_none (is_switch_order r) row.step.action other) p ∙ positions1 p;
    others = λ d differs. stays_as (is_point_of R r.id) R (after R1 (reporting true)) d (others2 true d differs);
    points = λ p of_it. ap (λ points. has_name points p) (sym same_points) ∙ of_it;
  }
    where
      same_points : points_of (steps_of (Register.steps (after R1 (reporting true))) r.id) ≡ points_of (steps_of R.steps r.id)
      same_points = ap points_of done_own_steps ∙ points_swap split.before row done_row split.after refl ∙ ap points_of (sym split.was)
