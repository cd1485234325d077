-- An update keeps a good register good, and a staffed one staffed.
use Rattle.std.proofs.Common.{◌≡◌, ◌∙◌, ℕ, true, List, Contains, All, Option, None, Some, refl, sym, subst, IsTrue}
use Rattle.std.proofs.lemmas.List.Elements.{All-contains_itself}
use Rattle.clr_rules.proofs.good.GoodToPhases.{to_phases}
use Rattle.clr_rules.proofs.good.GrownPlaces.{kept_in_place, same_found_fence}
use Rattle.clr_rules.proofs.good.PhasesToGood.{from_phases}
use Rattle.clr_rules.proofs.lists.HoldMembers.{hold_there}
use Rattle.clr_rules.specs.Fences.{clearance_fence}
use Rattle.clr_rules.specs.Prelude.{hold_of}
use Rattle.clr_rules.specs.Staffed.{IsStaffed}
use Rattle.clr_rules.specs.Steps.{some_active}
use Rattle.clr_update.proofs.Common.{All-weaker, Grid, Hold, HoldKind, Id, IsGood, IsGoodByPhase, IsInPlace, IsRead, Record, Register, StepRow, Update, after_update, any_from, has_hold, has_name}
use Rattle.clr_update.proofs.Common.{filed, in_the_way, is_open, is_operators, is_point_kind, list_any, or_left, outlook_of, point_names, record_id, record_of, steps_of, updated}
use Rattle.clr_update.proofs.Fences.{keeps_fences}
use Rattle.clr_update.proofs.Filed.{IsFiled}
use Rattle.clr_update.proofs.Free.{Free, free_of}
use Rattle.clr_update.proofs.Staying.{filed_is, known_states, named_at_step, new_hand, same_hand, state_stays, states_in_order, stays_named, step_stays, still_open}
use Rattle.clr_update.specs.Laws.{PointsKeepTheirStates, UpdatesKeepGood}
use Rattle.clr_update.specs.Update.{unless_obstacle}
use Rattle.clr_update.specs.declared.obstacle.Obstacle.{Obstacle}

module _ (R : Register) (good : IsGood R) (u : Update) (read : IsRead u) (free : Free R u (updated R u)) where
  abbrev S : Register
  S = updated R u

  pub by_phase : IsGoodByPhase R
  by_phase = to_phases R good

  abbrev filed_so : IsFiled (filed R u)
  filed_so = filed_is R good u free read

  requester_stays : (c : Id) (r : Record) → record_of R.records c ≡ Some r → is_open r.phase ≡ true → is_operators R c.requester ≡ is_operators S c.requester
  requester_stays c r found unclosed =
      subst (λ (d : Id). is_operators R d.requester ≡ is_operators S d.requester) (record_id R.records c r found) (free.requester c r found unclosed)

  places : (c : Id) → IsInPlace S.net (outlook_of (updated R u) c)
  places c = subst (λ v. IsInPlace S.net v) (λ i. record (outlook_of R c) { hand = λ q. sym (same_hand R good u free read c q) i })
      (kept_in_place R by_phase S.net (keeps_fences R by_phase u free filed_so.network filed_so.placed) c)

  pub good_after : IsGood (updated R u)
  good_after = from_phases S (record {
    network = filed_so.network;
    staff = read.staff;
    in_place = places;
    operators = λ c r found unclosed. by_phase.operators c r found unclosed ∙ requester_stays c r found unclosed;
    held_open = still_open R good u free read;
    closing_free = by_phase.closing_free;
    numbered = by_phase.numbered;
    work_known = free.work;
    placed = filed_so.placed;
    points_known = record {
      states = known_states R good u free read;
      steps = λ c r found unclosed. step_points c r found unclosed;
    };
    in_order = record { states = states_in_order R good u free read; records = by_phase.in_order.records; steps = by_phase.in_order.steps; holds = by_phase.in_order.holds };
  })
    where
      step_points : (c : Id) (r : Record) → record_of R.records c ≡ Some r → is_open r.phase ≡ true
          → All (λ (row : StepRow). IsTrue (has_name (point_names (Grid.points S.net)) row.step.point)) (steps_of R.steps c)
      step_points c r found unclosed = All-weaker (Contains (steps_of R.steps c)) (λ (row : StepRow). IsTrue (has_name (point_names (Grid.points S.net)) row.step.point))
          (λ row there. stays_named R good u free row.step.point (step_stays R good u free c r found unclosed row.step.point (named_at_step (steps_of R.steps c) row there)))
          (steps_of R.steps c) (All-contains_itself (steps_of R.steps c))

  -- the fence of each clearance is what it was
  pub fences_after : (c : Id) → clearance_fence (updated R u) c ≡ clearance_fence R c
  fences_after = same_found_fence R by_phase S.net (keeps_fences R by_phase u free filed_so.network filed_so.placed)

  -- a hold at a point asks for a field employee
  held_needs : (c : Id) (kind : HoldKind) (p : List ℕ) → is_point_kind kind ≡ true → has_hold R.holds c kind p ≡ true → list_any (λ (h : Hold). is_point_kind h.kind) R.holds ≡ true
  held_needs c kind p at_point held = any_from (λ (h : Hold). is_point_kind h.kind) R.holds (hold_of c kind p) (hold_there R.holds c kind p held) at_point

  pub staffed_after : IsStaffed R → IsStaffed (updated R u)
  staffed_after staffed = record {
    holders = free.holder;
    operators = free.operator;
    field = λ c kind p at_point held. free.field (or_left (list_any (λ (h : Hold). is_point_kind h.kind) R.holds) (some_active R.steps) (held_needs c kind p at_point held));
    rounds = staffed.rounds;
    released = staffed.released;
    restoring = staffed.restoring;
  }

-- ---- accepted or refused

module _ (R : Register) (u : Update) (P : Register → Type 0) (before : P R) (after : in_the_way R u ≡ None → P (updated R u)) where
  settled : (o : Option Obstacle) → in_the_way R u ≡ o → P (unless_obstacle o R (updated R u))
  settled None free = after free
  settled (Some obstacle) is = before

  -- what holds before an update, and after an accepted one, holds after it
  pub after_either : P (after_update R u)
  after_either = settled (in_the_way R u) refl

pub updates_keep_good : UpdatesKeepGood
updates_keep_good = record {
  good = λ R u good read. after_either R u IsGood good (λ none. good_after R good u read (free_of R u none));
  staffed = λ R u good staffed read. after_either R u IsStaffed staffed (λ none. staffed_after R good u read (free_of R u none) staffed);
}

pub points_keep_their_states : PointsKeepTheirStates
points_keep_their_states = record {
  stays = λ R u it p named some. state_stays R it.good u (free_of R u it.free) it.read p named some;
  new = λ R u it p none. new_hand R it.good u (free_of R u it.free) it.read p none;
}
