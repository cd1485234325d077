-- A Restoring record runs the steps that are left, one after the other, and leaves each point as it is.
use Rattle.std.proofs.Common.{◌≡◌, ℕ, suc, Bool, true, false, not, List, [], ◌∷◌, ◌++◌, length, Some, find, Contains, refl, sym, ◌∙◌, ap, subst, inl, inr}
use Rattle.std.proofs.lemmas.Bool.{false≢true, not-true}
use Rattle.std.proofs.lemmas.List.Elements.{All-contains}
use Rattle.clr_net.proofs.KeptRows.{there_mapped}
use Rattle.clr_net.proofs.Walks.{same_itself}
use Rattle.clr_order.proofs.Finds.{found_passes}
use Rattle.clr_order.specs.Action.{is_switching}
use Rattle.clr_order.specs.Needed.{Undoes, step_if}
use Rattle.clr_order.specs.Step.{Task, actions_at, task}
use Rattle.clr_order.specs.declared.action.Action.{Action}
use Rattle.clr_order.specs.declared.action.Action.TheVariants as actions
use Rattle.clr_order.specs.declared.held.Held.{Held}
use Rattle.clr_order.specs.declared.step.StepState.{StepState}
use Rattle.clr_order.specs.declared.step.StepState.TheVariants.{Waiting, Done}
use Rattle.clr_shelf.specs.Rows.{in_key_order}
use Rattle.clr_rules.specs.Checks.{is_field, is_operator}
use Rattle.clr_rules.specs.Good.{IsGood, steps_left_of}
use Rattle.clr_rules.specs.GoodByPhase.{of_round}
use Rattle.clr_rules.specs.Prelude.{HeldOpen, Phase, Restoring, Record, StepRow, Id, Register}
use Rattle.clr_rules.specs.Prelude.{record_of, is_running, is_restoring, is_some_step, step_key, step_key_cmp, all_done, is_active, is_done, is_waiting, present_steps, steps_in, steps_of, tasks_of, has_hold}
use Rattle.clr_rules.specs.Holds.{held_at}
use Rattle.clr_rules.specs.Records.{ends_with_steps}
use Rattle.clr_rules.specs.Staffed.{IsStaffed, has_some_role}
use Rattle.clr_rules.specs.Steps.{is_close, is_in_turn, is_of_round}
use Rattle.clr_rules.specs.WayBack.{moves_in, moves_of, next_moves, one_of_role, stepped}
use Rattle.clr_rules.specs.laws.WayBack.{is_point_of}
use Rattle.clr_rules.proofs.good.PhaseFacts.{second_present}
use Rattle.clr_rules.proofs.good.PutHolds.{found_there, kept_there}
use Rattle.clr_rules.proofs.good.StepsInTurn.{Rises, round_rises}
use Rattle.clr_rules.proofs.lists.NamedRows.{Contains-filter, has_name-row}
use Rattle.clr_rules.proofs.lists.RoundSteps.{among_own, of_round_is, of_the_round}
use Rattle.clr_rules.proofs.lists.StepSplits.{left_after_done}
use Rattle.clr_rules.proofs.staffed.Puts.{some_there}
use Rattle.clr_rules.proofs.way_back.Accepting.{HasEmployee, one_there}
use Rattle.clr_rules.proofs.way_back.InWork.{InWork, in_work, GoodAndStaffed}
use Rattle.clr_rules.proofs.way_back.Rows.{SplitAt, done_before_first, first_after_done, second_by, split_of, turn_after_done}

-- the steps that are left of the second round, and the first of them
abbrev pub left_count : Register → Id → ℕ
left_count R c = length (steps_left_of (steps_in R.steps c 2))

abbrev pub IsFirstLeft : Register → Id → StepRow → Type 0
IsFirstLeft R c row = find (λ row. not (is_done row.step.state)) (steps_in R.steps c 2) ≡ Some row

-- ---- another step is put over the first that is left

module _ (R : Register) (ordered : in_key_order step_key_cmp step_key R.steps ≡ true) (c : Id) (row : StepRow) (s : SplitAt R.steps c row) (round : row.round ≡ 2) (first : IsFirstLeft R c row) where
  abbrev before : List StepRow
  before = of_round s.before 2

  abbrev after_it : List StepRow
  after_it = of_round s.after 2

  steps_are : steps_in R.steps c 2 ≡ of_round s.before 2 ++ row ∷ of_round s.after 2
  steps_are = second_by R.steps c s.before row s.after s.was round

  rises : Rises (of_round s.before 2 ++ row ∷ of_round s.after 2)
  rises = subst Rises steps_are (round_rises R.steps c 2 ordered)

  pub done_before : all_done (of_round s.before 2) ≡ true
  done_before = done_before_first before row after_it rises (sym (ap (find (λ (row : StepRow). not (is_done row.step.state))) steps_are) ∙ first)

  pub has_turn : is_in_turn (steps_in R.steps c 2) row.ordinal ≡ true
  has_turn = ap (λ rows. is_in_turn rows row.ordinal) steps_are ∙ turn_after_done before row after_it rises done_before

  not_done : is_done row.step.state ≡ false
  not_done = not-true (is_done row.step.state) (found_passes (λ (row : StepRow). not (is_done row.step.state)) (steps_in R.steps c 2) row first)

  pub left_are : steps_left_of (steps_in R.steps c 2) ≡ row ∷ steps_left_of (of_round s.after 2)
  left_are = ap steps_left_of steps_are ∙ left_after_done before (row ∷ after_it) done_before ∙ rw not_done refl

  module _ (S : Register) (new : StepRow) (new_round : new.round ≡ 2) (is : steps_of S.steps c ≡ s.before ++ new ∷ s.after) where
    now_are : steps_in S.steps c 2 ≡ of_round s.before 2 ++ new ∷ of_round s.after 2
    now_are = second_by S.steps c s.before new s.after is new_round

    pub first_again : is_done new.step.state ≡ false → IsFirstLeft S c new
    first_again left = ap (find (λ (row : StepRow). not (is_done row.step.state))) now_are ∙ first_after_done before new after_it done_before left

    pub count_again : is_done new.step.state ≡ false → left_count S c ≡ left_count R c
    count_again left = ap (λ rows. length (steps_left_of rows)) now_are ∙ ap length (left_after_done before (new ∷ after_it) done_before) ∙ rw left refl ∙ sym (ap length left_are)

    pub count_less : is_done new.step.state ≡ true → left_count R c ≡ suc (left_count S c)
    count_less done = ap length left_are ∙ sym (ap (λ rows. suc (length (steps_left_of rows))) now_are
        ∙ ap (λ rows. suc (length rows)) (left_after_done before (new ∷ after_it) done_before ∙ rw done refl))

-- ---- the first step that is left

pub restoring_runs : (phase : Phase) → is_restoring phase ≡ true → is_running phase ≡ true
restoring_runs Restoring h = refl
restoring_runs _ h = absurd (false≢true h)

pub restoring_ends : (phase : Phase) → is_restoring phase ≡ true → ends_with_steps phase ≡ true
restoring_ends Restoring h = refl
restoring_ends _ h = absurd (false≢true h)

-- what undoes holds begins with no Open
abbrev is_open : Action → Bool
is_open actions.Open = true
is_open _ = false

abbrev begins_open : List Action → Bool
begins_open [] = false
begins_open (a ∷ rest) = is_open a

undoing_opens_not : (tag control block : Bool) (last : Action) → is_open last ≡ false
    → begins_open (step_if tag actions.Untag (step_if control actions.Uncontrol (step_if block actions.Unblock (last ∷ [])))) ≡ false
undoing_opens_not true control block last h = refl
undoing_opens_not false true block last h = refl
undoing_opens_not false false true last h = refl
undoing_opens_not false false false last h = h

undoes_opens_not : (held : Held) (list : List Action) → Undoes held list → begins_open list ≡ false
undoes_opens_not held list (inl is) = ap begins_open is ∙ undoing_opens_not held.tag held.control held.block actions.Close refl
undoes_opens_not held list (inr is) = ap begins_open is ∙ undoing_opens_not held.tag held.control held.block actions.Leave refl

no_switching : (a : Action) → is_open a ≡ false → is_close a ≡ false → is_switching a ≡ false
no_switching actions.Open opens closes = absurd (false≢true (sym opens))
no_switching actions.Close opens closes = absurd (false≢true (sym closes))
no_switching _ opens closes = refl

kept_in : (steps : List StepRow) (c : Id) (row : StepRow) → Contains (steps_in steps c 2) row → Contains steps row
unfolding steps_in
kept_in steps c row among = kept_there (is_of_round c 2) steps row among

pub waits_by : (state : StepState) → is_active state ≡ false → is_done state ≡ false → is_waiting state ≡ true
waits_by Waiting a d = refl
waits_by Done a d = absurd (false≢true (sym d))
waits_by _ a d = absurd (false≢true (sym a))

module _ (R : Register) (both : GoodAndStaffed R) (r : Record) (found : record_of R.records r.id ≡ Some r) (restoring : is_restoring r.phase ≡ true) (row : StepRow)
    (first : IsFirstLeft R r.id row) where
  good : IsGood R
  good = GoodAndStaffed.good both

  staffed : IsStaffed R
  staffed = GoodAndStaffed.staffed both

  in_second : Contains (steps_in R.steps r.id 2) row
  in_second = found_there (λ (row : StepRow). not (is_done row.step.state)) (steps_in R.steps r.id 2) row first

  pub left : is_done row.step.state ≡ false
  left = not-true (is_done row.step.state) (found_passes (λ (row : StepRow). not (is_done row.step.state)) (steps_in R.steps r.id 2) row first)

  own_round : (row.id ≡ r.id) × (row.round ≡ 2)
  own_round = All-contains (λ (row : StepRow). (row.id ≡ r.id) × (row.round ≡ 2)) (steps_in R.steps r.id 2) row (of_the_round R.steps r.id 2) in_second

  pub round : row.round ≡ 2
  round = own_round.1

  there : Contains R.steps row
  there = kept_in R.steps r.id row in_second

  pub among : Contains (steps_of R.steps r.id) row
  among = subst (λ (d : Id). Contains (steps_of R.steps d) row) own_round.0 (among_own R.steps row there)

  pub split_here : SplitAt R.steps r.id row
  split_here = split_of R.steps r.id row good.said.in_order.steps own_round.0 among

  second : is_some_step (steps_in R.steps r.id 2) ≡ true
  second = good.besides.restoring_rounds r.id r found restoring

  pub w : InWork R r row
  w = in_work R both r found (restoring_runs r.phase restoring) row among
      (own_round.1 ∙ sym (second_present (steps_of R.steps r.id) (ap is_some_step (of_round_is R.steps r.id 2) ∙ second))) (inr own_round.1)

  pub turn : is_in_turn (present_steps R.steps r.id) row.ordinal ≡ true
  turn = ap (λ rows. is_in_turn rows row.ordinal) (w.round ∙ ap (steps_in R.steps r.id) own_round.1)
      ∙ has_turn R good.said.in_order.steps r.id row split_here round first

  pub held : has_hold R.holds r.id HeldOpen row.step.point ≡ true
  held = All-contains (λ (row : StepRow). has_hold R.holds r.id HeldOpen row.step.point ≡ true) (steps_left_of (steps_in R.steps r.id 2)) row
      (good.said.holds_are_put.nowhere_else r.id r found restoring)
      (Contains-filter (λ (row : StepRow). not (is_done row.step.state)) (steps_in R.steps r.id 2) row in_second (ap not left))

  pub some_field : has_some_role R.staff is_field ≡ true
  some_field = staffed.field r.id HeldOpen row.step.point refl held

  pub operator : HasEmployee R (one_of_role R is_operator) is_operator
  operator = one_there R is_operator good.said.staff (staffed.operators (some_there R.steps row there))

  pub here : is_point_of R r.id row.step.point ≡ true
  here = has_name-row (λ (t : Task). t.point) (tasks_of (steps_of R.steps r.id)) (task row.step) (there_mapped (λ (row : StepRow). task row.step) (steps_of R.steps r.id) row among)

  -- its action is no Open
  opens_not : is_open row.step.action ≡ false
  opens_not =
      let list_is : actions_at (tasks_of (steps_left_of (steps_in R.steps r.id 2))) row.step.point
      ≡ row.step.action ∷ actions_at (tasks_of (steps_left_of (of_round (split_here).after 2))) row.step.point =
      ap (λ rows. actions_at (tasks_of rows) row.step.point) (left_are R good.said.in_order.steps r.id row split_here round first) ∙ rw (same_itself row.step.point) refl in
      sym (ap begins_open list_is)
      ∙ undoes_opens_not (held_at R.holds r.id row.step.point) (actions_at (tasks_of (steps_left_of (steps_in R.steps r.id 2))) row.step.point)
      (good.said.holds_are_put.undone r.id r found restoring row.step.point held)

  pub switches_not : is_close row.step.action ≡ false → is_switching row.step.action ≡ false
  switches_not closes = no_switching row.step.action opens_not closes

  -- the moves
  pub moves_are : next_moves R r.id ≡ stepped R r (Some row)
  moves_are = ap (moves_of R) found ∙ by_phase r.phase restoring ∙ ap (stepped R r) first
    where
      by_phase : (phase : Phase) → is_restoring phase ≡ true → moves_in R r phase ≡ stepped R r (find (λ (row : StepRow). not (is_done row.step.state)) (steps_in R.steps r.id 2))
      by_phase Restoring h = refl
      by_phase _ h = absurd (false≢true h)
