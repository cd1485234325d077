-- An update takes nothing away from a clearance, and leaves every open record a way back.
use Rattle.std.proofs.Common.{◌≡◌, ◌∙◌, ◌⊎◌, inl, inr, ℕ, Bool, true, false, List, Some, refl}
use Rattle.clr_rules.proofs.good.CrewSafety.{crews_are_safe}
use Rattle.clr_rules.proofs.live.LiveSections.{live_is_closed_walks}
use Rattle.clr_rules.proofs.way_back.EachPhase.{there_is_a_way_back}
use Rattle.clr_rules.specs.Checks.{is_field}
use Rattle.clr_rules.specs.Fences.{clearance_fence}
use Rattle.clr_rules.specs.Live.{IsLive}
use Rattle.clr_rules.specs.Staffed.{has_some_role}
use Rattle.clr_rules.specs.Steps.{some_active}
use Rattle.clr_rules.specs.declared.hold_kind.HoldKind.TheVariants.{HeldOpen}
use Rattle.clr_update.proofs.Common.{Id, Hold, IsGood, IsRead, Record, Register, StepRow, Update, any_from, both_ways, has_name, is_active, is_granted, is_point_kind, kept_there}
use Rattle.clr_update.proofs.Common.{list_any, or_right, record_of, same_id, some_from, steps_of, updated}
use Rattle.clr_update.proofs.Free.{Free, free_of}
use Rattle.clr_update.proofs.Good.{after_either, fences_after, good_after, staffed_after}
use Rattle.clr_update.proofs.Staying.{same_hand, still_open}
use Rattle.clr_update.specs.Laws.{IsAllLeft, UpdatesLeaveAWayBack, UpdatesTakeNothing}

-- no source feeds the fence of a granted clearance
dead_fence : (R : Register) → IsGood R → (c : Id) (r : Record) → record_of R.records c ≡ Some r → is_granted r.phase ≡ true
    → (s : List ℕ) → has_name (clearance_fence R c) s ≡ true → IsLive R.net R.states s → ⊥
dead_fence R good c r found granted s inside live =
    both_ways _ (good.said.granted_fences_are_dead c r found granted s inside) ((live_is_closed_walks R.net R.states good.said.network s).1 live)

-- a good register leaves all to itself
pub all_left : (R : Register) → IsGood R → IsAllLeft R R
all_left R good = record {
  left = λ c. record {
    frame = record { same_record = refl; same_steps = refl; same_holds = refl; hands_stay = λ p held. held; closes_nothing = λ p held opened. opened };
    held_open = λ p held. good.said.held_points_are_open.open_there c HeldOpen p refl held;
    same_fence = refl;
  };
  hands = λ c p. refl;
  crews = crews_are_safe R good.said;
  dead = dead_fence R good;
}

module _ (R : Register) (good : IsGood R) (u : Update) (read : IsRead u) (free : Free R u (updated R u)) where
  abbrev S : Register
  S = updated R u

  pub left_after : IsAllLeft R (updated R u)
  left_after = record {
    left = λ c. record {
      frame = record {
        same_record = refl;
        same_steps = refl;
        same_holds = refl;
        hands_stay = λ p held. same_hand R good u free read c p ∙ held;
        closes_nothing = λ p held opened. still_open R good u free read c HeldOpen p refl held;
      };
      held_open = λ p held. still_open R good u free read c HeldOpen p refl held;
      same_fence = fences_after R good u read free c;
    };
    hands = same_hand R good u free read;
    crews = crews_are_safe S (IsGood.said (good_after R good u read free));
    dead = dead_fence S (good_after R good u read free);
  }

  -- where the staff has no field employee, no step of the record is given out
  who : (c : Id) → (has_some_role S.staff is_field ≡ true) ⊎ (some_active (steps_of R.steps c) ≡ false)
  unfolding steps_of
  who c = at (some_active (steps_of R.steps c)) refl
    where
      at : (b : Bool) → some_active (steps_of R.steps c) ≡ b → (has_some_role S.staff is_field ≡ true) ⊎ (some_active (steps_of R.steps c) ≡ false)
      at false none = inr none
      at true some =
          let (row, there, active) = some_from (λ (row : StepRow). is_active row.step.state) (steps_of R.steps c) some in
          inl (free.field (or_right (list_any (λ (h : Hold). is_point_kind h.kind) R.holds) (some_active R.steps)
          (any_from (λ (row : StepRow). is_active row.step.state) R.steps row (kept_there (λ (row : StepRow). same_id c row.id) R.steps row there).0 active)))

pub updates_take_nothing : UpdatesTakeNothing
updates_take_nothing R u good read = after_either R u (IsAllLeft R) (all_left R good) (λ none. left_after R good u read (free_of R u none))

pub updates_leave_a_way_back : UpdatesLeaveAWayBack
updates_leave_a_way_back R u it staffed c r found unclosed =
    let free = free_of R u it.free in
    there_is_a_way_back (updated R u) (good_after R it.good u it.read free) (staffed_after R it.good u it.read free staffed) c r found (who R it.good u it.read free c)
