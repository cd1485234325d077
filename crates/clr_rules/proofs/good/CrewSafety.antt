-- A crew works safely in a good register, and so in every run from one.
use Rattle.std.proofs.Common.{◌≡◌, ◌∙◌, ℕ, true, Option, Some, None, List, ap, refl, subst, sym}
use Rattle.clr_rules.proofs.Common.{both_ways, false≢true, Command, Reply, after_all, has_name, clearance_fence, Ground, Crew, Phase, Granted, Record, Id, Register, position_of, record_of, is_granted, points_of, steps_in, has_hold}
use Rattle.clr_rules.specs.CrewSafety.{AreSafeThroughout, CrewsAreSafe, CrewsWorkSafely, IsSafePoint, IsSafeWork}
use Rattle.clr_rules.specs.Good.{IsGood, IsGoodAsSaid, IsSoundFor, works_on}
use Rattle.clr_rules.specs.Live.{IsLive}
use Rattle.clr_rules.specs.Prelude.{is_standing}
use Rattle.clr_rules.specs.RunHeadline.{IsRun}
use Rattle.clr_rules.proofs.good.DeadWork.{granted_points_bear_all_holds, granted_work_is_dead, no_source_feeds_grounds}
use Rattle.clr_rules.proofs.good.PutHolds.{needed_there}
use Rattle.clr_rules.proofs.good.Tags.{tags_are_untagged}
use Rattle.clr_rules.proofs.keeps.EveryKind.{runs_keep_good}
use Rattle.clr_rules.proofs.live.LiveSections.{live_is_closed_walks}

granted_stands : (phase : Phase) → is_granted phase ≡ true → is_standing phase ≡ true
granted_stands Granted granted = refl
granted_stands _ granted = absurd (false≢true granted)

module _ (R : Register) (good : IsGoodAsSaid R) (c : Id) where
  -- no source feeds the fence of a granted clearance
  dead_fence : (r : Record) → record_of R.records c ≡ Some r → is_granted r.phase ≡ true
      → (s : List ℕ) → has_name (clearance_fence R c) s ≡ true → IsLive R.net R.states s → ⊥
  dead_fence r found granted s inside live =
      both_ways _ (good.granted_fences_are_dead c r found granted s inside) ((live_is_closed_walks R.net R.states good.network s).1 live)

  -- each point of its order is the network's, open and held
  safe_points : (r : Record) (work : List ℕ) → record_of R.records c ≡ Some r → is_granted r.phase ≡ true → r.work ≡ Some work
      → (p : List ℕ) → has_name (points_of (steps_in R.steps c 1)) p ≡ true → IsSafePoint R c p
  safe_points r work found granted is p ordered =
      let sound : IsSoundFor R.net (Some work) (steps_in R.steps c 1) =
      subst (λ (w : Option (List ℕ)). IsSoundFor R.net w (steps_in R.steps c 1)) is
      (good.standing_orders_are_sound c r found (granted_stands r.phase granted)) in
      let (point, there, named, needed) = needed_there R.net work (steps_in R.steps c 1) sound p ordered in
      let at_point = ap (has_name (points_of (steps_in R.steps c 1))) (sym named) ∙ ordered in
      let (opened, held) = granted_points_bear_all_holds R good c r found granted point there at_point in
      record {
        point = point;
        in_network = there;
        named = sym named;
        is_open = ap (position_of R.states) named ∙ opened;
        held = held;
      }

  safe_work : (crew : List ℕ) (r : Record) (work : Option (List ℕ)) → r.work ≡ work → record_of R.records c ≡ Some r → is_granted r.phase ≡ true
      → works_on R.holds c Ground work ≡ true → IsSafeWork R c
  safe_work crew r None is found granted grounded = absurd (false≢true grounded)
  safe_work crew r (Some work) is found granted grounded = record {
    clearance = r;
    work = work;
    recorded = found;
    granted = granted;
    worked_on = is;
    inside = (granted_work_is_dead R good c r found granted work is).0;
    grounded = grounded;
    dead = dead_fence r found granted;
    points = safe_points r work found granted is;
  }

  crew_is_safe : (crew : List ℕ) → has_hold R.holds c Crew crew ≡ true → IsSafeWork R c
  crew_is_safe crew on =
      let (r, found, granted) = good.work_holds_belong.granted c Crew crew refl on in
      safe_work crew r r.work refl found granted (good.work_holds_belong.crews_grounded c crew r on found)

pub crews_are_safe : (R : Register) → IsGoodAsSaid R → CrewsAreSafe R
crews_are_safe R good = record {
  crews = crew_is_safe R good;
  grounds = no_source_feeds_grounds R good;
}

-- the register that a run leaves is good
pub run_leaves_good : (R : Register) (commands : List Command) (told : List Reply) (S : Register) → IsRun R commands told S → IsGood R → IsGood S
run_leaves_good R commands told S run good = subst IsGood (sym run.register) (runs_keep_good R commands good)

-- at each place of a run from a good register, whatever its commands
pub crews_work_safely : (R : Register) (commands : List Command) (S : Register) → (IsGood R → IsGood S) → CrewsWorkSafely R commands S
crews_work_safely R commands S stays good = record {
  each_place = λ earlier later split. crews_are_safe (after_all R earlier) (IsGood.said (runs_keep_good R earlier good));
  left = crews_are_safe S (IsGood.said (stays good));
  tags = λ earlier q later split c p has gone. tags_are_untagged (after_all R earlier) q c p (runs_keep_good R earlier good) has gone;
}

pub runs_are_safe : (R : Register) (commands : List Command) (told : List Reply) (S : Register) → IsRun R commands told S → CrewsWorkSafely R commands S
runs_are_safe R commands told S run = crews_work_safely R commands S (run_leaves_good R commands told S run)
