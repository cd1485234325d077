-- Switch orders: a new record of an operator's, with the steps of its one round.
use Rattle.std.proofs.Common.{◌≡◌, ℕ, true, false, List, ◌∷◌, length, nat_lt, None, refl, sym, ◌∙◌, ap, subst, ◌==◌, IsTrue}
use Rattle.clr_rules.proofs.Common.{All-contains, All-nil, Grid, point_names, is_switching, PutRecord, Switching, Record, StepRow, Register, greatest_number, is_active, steps_of, after_edits}
use Rattle.clr_rules.proofs.Common.{is_operators, Switch, of_round_is, has_name}
use Rattle.clr_order.specs.Step.{Task, stray_point}
use Rattle.clr_order.specs.Switching.{IsSwitching, switching_fault, unswitching_point}
use Rattle.clr_order.specs.declared.order_fault.OrderFault.TheVariants.{EmptyOrder, LongOrder, StepsWrong, UnknownPoint}
use Rattle.clr_order.proofs.OtherOrders.{switching_from_no_fault}
use Rattle.clr_rules.proofs.edits.PlainEdits.{steps_plain}
use Rattle.clr_rules.specs.Changes.{new_record, new_steps, put_steps}
use Rattle.clr_rules.specs.Checks.{has_role, is_operator, wrong_switching}
use Rattle.clr_rules.specs.GoodByPhase.{IsBare, IsGoodByPhase, of_round, outlook_of, present_of}
use Rattle.clr_rules.proofs.good.Keeping.{KeepsGood, Changed, commands_keep, keeps}
use Rattle.clr_rules.proofs.keeps.Request.{bare_before, caller_role}
use Rattle.clr_rules.proofs.edits.NewRecords.{new_numbered, next_is_free}
use Rattle.clr_rules.proofs.edits.NewRounds.{All-own, IsReady, none_in_round, others_are, put_all, round_moved, round_put, with_round}
use Rattle.clr_rules.proofs.edits.PassedOrders.{by_name, by_test, no_refusal}
use Rattle.clr_rules.proofs.good.PhaseFacts.{none_of_round}
use Rattle.clr_rules.proofs.edits.PutRecords.{changed_by}

-- a switch order that is not refused opens and closes points of the network
pub switching_passed : (R : Register) (tasks : List Task) → wrong_switching R tasks ≡ None → IsSwitching (point_names (Grid.points R.net)) tasks
switching_passed R tasks passed =
    let found = point_names (Grid.points R.net) in
    switching_from_no_fault found tasks (no_refusal (switching_fault found tasks)
    (by_test (length tasks == 0) EmptyOrder _ refl
    (by_test (nat_lt 256 (length tasks)) LongOrder _ refl
    (by_name StepsWrong (unswitching_point tasks) _ (λ name. refl)
    (by_name UnknownPoint (stray_point found tasks) None (λ name. refl) refl)))) passed)

module _ (R : Register) (by : List ℕ) (at : ℕ) (tasks : List Task) (good : IsGoodByPhase R) (operator : is_operators R by ≡ true)
    (switches : IsSwitching (point_names (Grid.points R.net)) tasks) where
  abbrev new : Record
  new = new_record (greatest_number R.records by) by at None Switching

  bare : IsBare (outlook_of R new.id)
  bare = bare_before R new.id good (next_is_free R by)

  ready : IsReady R new.id 1 tasks
  ready = record {
    rests = rw bare.no_step (All-nil (λ (row : StepRow). is_active row.step.state ≡ false));
    none_yet = sym (of_round_is R.steps new.id 1) ∙ ap (λ (steps : List StepRow). of_round steps 1) bare.no_step ∙ none_of_round 1;
    known = switches.known;
    at_points = rw bare.no_step (All-nil (λ (row : StepRow). IsTrue (has_name (point_names (Grid.points R.net)) row.step.point)));
  }

  changed : Changed R (with_round R new 1 tasks) new.id
  changed = changed_by R good new.id new refl (with_round R new 1 tasks) refl
      (round_moved R good new 1 tasks ready (record {
        only_switching = All-own R good new 1 tasks ready (λ (row : StepRow). is_switching row.step.action ≡ true)
            (λ m t there. All-contains (λ (t : Task). is_switching t.action ≡ true) tasks t switches.switching there)
            (rw bare.no_step (All-nil (λ (row : StepRow). is_switching row.step.action ≡ true)));
        one_round = others_are R good new 1 tasks ready 2 refl ∙ ap (λ (steps : List StepRow). of_round steps 2) bare.no_step ∙ none_of_round 2;
        given_out = none_in_round R good new 1 tasks ready (present_of (steps_of (put_all (new_steps new.id 1 1 tasks) R.steps) new.id));
        no_hold = bare.no_hold;
      })) refl (sym operator) (new_numbered R good by new refl)

  switch_keeps : IsGoodByPhase (after_edits (PutRecord new ∷ put_steps (new_steps new.id 1 1 tasks)) R)
  switch_keeps = keeps R (PutRecord new ∷ put_steps (new_steps new.id 1 1 tasks)) new.id (steps_plain (new_steps new.id 1 1 tasks)) good
      (subst (λ (S : Register). Changed R S new.id) (sym (round_put R new 1 tasks)) changed)

pub switches_keep : (tasks : List Task) → KeepsGood (Switch tasks)
switches_keep tasks = commands_keep (Switch tasks) (λ R by at good passed.
    let (row, found, operates) = caller_role R by is_operator (search passed) (search passed) in
    switch_keeps R by at tasks good (ap (has_role is_operator) found ∙ operates) (switching_passed R tasks (search passed)))
