-- What work on a line rests on, from the parts of a good register.
use Rattle.std.proofs.Common.{◌≡◌, ◌∙◌, ℕ, true, false, Some, List, Contains, refl, ap}
use Rattle.clr_rules.proofs.Common.{both_ways, false≢true, Grid, section_names, has_name, PointRow, Opened, clearance_fence, work_fence, HeldOpen, Ground, Phase}
use Rattle.clr_rules.proofs.Common.{Requested, Closed, Record, Id, Register, position_of, record_of, is_granted, points_of, steps_in, has_hold, is_fenced}
use Rattle.clr_net.proofs.Walks.{fence_is_closed}
use Rattle.clr_rules.specs.Good.{IsFullyHeld, IsGoodAsSaid}
use Rattle.clr_rules.specs.Live.{IsLive, is_live}
use Rattle.clr_rules.proofs.lists.OpenPhases.{open_where}
use Rattle.clr_rules.proofs.live.FenceCuts.{named_from_in_fence}
use Rattle.clr_rules.proofs.live.LiveSections.{live_is_closed_walks}

granted_is_fenced : (phase : Phase) → is_granted phase ≡ true → is_fenced phase ≡ true
granted_is_fenced Requested granted = cc
granted_is_fenced Closed granted = cc
granted_is_fenced _ granted = refl

module _ (R : Register) (good : IsGoodAsSaid R) (c : Id) where
  -- the fence of a clearance that has one
  fence_of_granted : (r : Record) (work : List ℕ) → record_of R.records c ≡ Some r → is_granted r.phase ≡ true → r.work ≡ Some work
      → clearance_fence R c ≡ work_fence R.net (Some work) (points_of (steps_in R.steps r.id 1))
  fence_of_granted r work found granted is = rw (found, granted_is_fenced r.phase granted, is) refl

  pub granted_fences_stay_dead : (r : Record) → record_of R.records c ≡ Some r → is_granted r.phase ≡ true
      → (s : List ℕ) → has_name (clearance_fence R c) s ≡ true → is_live R.net R.states s ≡ false
  granted_fences_stay_dead = good.granted_fences_are_dead c

  -- the work section lies in its own fence
  pub granted_work_is_dead : (r : Record) → record_of R.records c ≡ Some r → is_granted r.phase ≡ true
      → (work : List ℕ) → r.work ≡ Some work → (has_name (clearance_fence R c) work ≡ true) × (is_live R.net R.states work ≡ false)
  granted_work_is_dead r found granted work is =
      let own_known = good.numbers_have_no_gaps.work_known c r found (open_where is_granted refl r.phase granted) in
      let known : has_name (section_names (Grid.sections R.net)) work ≡ true = rw is at own_known in
      let cut = points_of (steps_in R.steps r.id 1) in
      let inside : has_name (clearance_fence R c) work ≡ true =
      ap (λ fence. has_name fence work) (fence_of_granted r work found granted is)
      ∙ named_from_in_fence R.net work good.network cut work ((fence_is_closed R.net good.network work cut).0 known) in
      (inside, good.granted_fences_are_dead c r found granted work inside)

  pub grounded_sections_are_dead : (s : List ℕ) → has_hold R.holds c Ground s ≡ true → is_live R.net R.states s ≡ false
  grounded_sections_are_dead s grounded =
      let (r, found, granted) = good.work_holds_belong.granted c Ground s refl grounded in
      good.granted_fences_are_dead c r found granted s (good.work_holds_belong.grounded_inside c s grounded)

  pub no_source_feeds_grounds : (s : List ℕ) → has_hold R.holds c Ground s ≡ true
      → IsLive R.net R.states s → ⊥
  no_source_feeds_grounds s grounded live =
      both_ways (is_live R.net R.states s) (grounded_sections_are_dead s grounded)
      ((live_is_closed_walks R.net R.states good.network s).1 live)

  pub granted_points_bear_all_holds : (r : Record) → record_of R.records c ≡ Some r → is_granted r.phase ≡ true
      → (point : PointRow) → Contains (Grid.points R.net) point → has_name (points_of (steps_in R.steps c 1)) point.name ≡ true
      → (position_of R.states point.name ≡ Some Opened) × IsFullyHeld R.holds c point
  granted_points_bear_all_holds r found granted point there cut =
      let held = good.granted_points_are_held.held c r found granted point there cut in
      (good.held_points_are_open.open_there c HeldOpen point.name refl held.held_open, held)
