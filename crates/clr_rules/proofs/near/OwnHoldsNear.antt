-- All holds of a clearance are near a command that names it.
use Rattle.std.proofs.Common.{◌≡◌, ◌∙◌, ◌⊎◌, inl, inr, ⊎_elim, ℕ, true, false, ◌&&◌, ◌||◌, List, Option, Some, None, refl, sym, ap, Contains}
use Rattle.clr_rules.proofs.Common.{and_from, false≢true, or_cases, or_left, or_right, All-contains, FenceRows, fence_of, in_fence, Grid, same_name, has_name, PointRow, one_name, named_clearance}
use Rattle.clr_rules.proofs.Common.{clearance_fence, touching_names, is_near_hold, is_own, is_beside, near_part, part_beside, is_order, is_fenced, one_id}
use Rattle.clr_order.specs.Isolating.{IsSoundOrder, is_border_point, touching_row}
use Rattle.clr_order.proofs.Finds.{found_passes}
use Rattle.clr_rules.specs.Answer.{fence_for, known_of}
use Rattle.clr_rules.specs.Good.{IsGoodAsSaid, IsSoundFor}
use Rattle.clr_rules.specs.Prelude.{Command, Hold, HoldKind, Tested, Ground, Crew, Phase, Requested, Switching, Closed, Record, StepRow, Id, same_id, Register, record_of, is_standing, points_of}
use Rattle.clr_rules.specs.Prelude.{steps_in, tasks_of, is_crew, is_point_kind, is_section_kind, has_hold, holds_of, first_of_each}
use Rattle.clr_rules.specs.laws.Marks.{HasEndIn}
use Rattle.clr_rules.proofs.live.FenceCuts.{has_name-once, in_fence_alike, known_in_fence}
use Rattle.clr_rules.proofs.lists.HoldMembers.{hold_had}
use Rattle.clr_rules.proofs.lists.Filters.{filter-kept, itself_says, kept_there, name_says}
use Rattle.clr_rules.proofs.near.NearParts.{fence_named}
use Rattle.clr_rules.proofs.near.NearNamed.{near_named}
use Rattle.clr_rules.proofs.near.NearTests.{fence_says}
use Rattle.clr_rules.proofs.near.NearWords.{touching_says}
use Rattle.clr_rules.proofs.good.PutHolds.{found_there}

-- ---- the points of a sound order touch its fence

-- a point of a sound order is a point of the network with an end in the fence
pub border_touches : (g : Grid) (work : List ℕ) (rows : List StepRow) → IsSoundOrder g work (first_of_each (points_of rows)) (tasks_of rows)
    → (p : List ℕ) → has_name (points_of rows) p ≡ true → HasEndIn g (λ s. in_fence g work (first_of_each (points_of rows)) s ≡ true) p
border_touches g work rows sound p known = at (touching_row (fence_of g work (first_of_each (points_of rows))) p) refl
  where
    among : Contains (first_of_each (points_of rows)) p
    among = (name_says (first_of_each (points_of rows)) p).0 (has_name-once (points_of rows) p ∙ known)

    at : (o : Option PointRow) → touching_row (fence_of g work (first_of_each (points_of rows))) p ≡ o → HasEndIn g (λ s. in_fence g work (first_of_each (points_of rows)) s ≡ true) p
    at None e =
        let border = All-contains (λ p. is_border_point (fence_of g work (first_of_each (points_of rows))) p ≡ true) (first_of_each (points_of rows)) p sound.on_border among in
        absurd (false≢true (rw e at border))
    at (Some row) e =
        let inside = in_fence g work (first_of_each (points_of rows)) in
        let here = found_there (λ (r : PointRow). same_name p r.name) (FenceRows.touching (fence_of g work (first_of_each (points_of rows)))) row e in
        let kept = kept_there (λ (r : PointRow). inside r.from_end || inside r.to_end) g.points row here in
        let named = one_name p row.name (found_passes (λ (r : PointRow). same_name p r.name) (FenceRows.touching (fence_of g work (first_of_each (points_of rows)))) row e) in
        record { row = row; there = kept.0; named = sym named; an_end = or_cases (inside row.from_end) (inside row.to_end) kept.1 }

standing_is_fenced : (phase : Phase) → is_standing phase ≡ true → is_fenced phase ≡ true
standing_is_fenced Requested is = cc
standing_is_fenced Switching is = cc
standing_is_fenced Closed is = cc
standing_is_fenced _ is = refl

module _ (R : Register) (c : Id) (good : IsGoodAsSaid R) where
  -- a section in the fence of an order in force is among those of the clearance's fence
  standing_fence : (r : Record) → record_of R.records c ≡ Some r → is_standing r.phase ≡ true → (work : List ℕ) → r.work ≡ Some work
      → (s : List ℕ) → in_fence R.net work (first_of_each (points_of (steps_in R.steps c 1))) s ≡ true → has_name (clearance_fence R c) s ≡ true
  standing_fence r read standing work works s inside =
      let cut : in_fence R.net work (points_of (steps_in R.steps c 1)) s ≡ true =
      in_fence_alike R.net work (points_of (steps_in R.steps c 1)) (first_of_each (points_of (steps_in R.steps c 1)))
      (λ p. sym (has_name-once (points_of (steps_in R.steps c 1)) p)) s ∙ inside in
      (fence_says R c s).1 (record {
        r = r;
        work = work;
        read = read;
        fenced = standing_is_fenced r.phase standing;
        works = works;
        within = record {
          known = (name_says _ s).0 (known_in_fence R.net work good.network (points_of (steps_in R.steps c 1)) s cut);
          inside = cut;
        };
      })

  sound_points_touch : (r : Record) → record_of R.records c ≡ Some r → is_standing r.phase ≡ true → (o : Option (List ℕ)) → r.work ≡ o
      → IsSoundFor R.net o (steps_in R.steps c 1) → (p : List ℕ) → has_name (points_of (steps_in R.steps c 1)) p ≡ true
      → has_name (touching_names R.net (has_name (clearance_fence R c))) p ≡ true
  sound_points_touch r read standing None works sound p known = absurd sound
  sound_points_touch r read standing (Some work) works sound p known =
      let words = border_touches R.net work (steps_in R.steps c 1) sound p known in
      (touching_says R.net (has_name (clearance_fence R c)) (λ s. has_name (clearance_fence R c) s ≡ true) (λ s. itself_says (has_name (clearance_fence R c) s)) p).1 (record {
        row = words.row;
        there = words.there;
        named = words.named;
        an_end = ⊎_elim (λ from. inl (standing_fence r read standing work works words.row.from_end from))
            (λ to. inr (standing_fence r read standing work works words.row.to_end to)) words.an_end;
      })

  -- the points of the first round of an order in force touch its fence
  pub round_one_touches : (r : Record) → record_of R.records c ≡ Some r → is_standing r.phase ≡ true → (p : List ℕ)
      → has_name (points_of (steps_in R.steps c 1)) p ≡ true → has_name (touching_names R.net (has_name (clearance_fence R c))) p ≡ true
  round_one_touches r read standing p known =
      sound_points_touch r read standing r.work refl (good.standing_orders_are_sound c r read standing) p known

  -- ---- the clearance's holds

  -- a hold of the clearance at a point is at a point that touches its fence
  held_point_touches : (h : Hold) → Contains R.holds h → c ≡ h.id → is_point_kind h.kind ≡ true
      → has_name (touching_names R.net (has_name (clearance_fence R c))) h.place ≡ true
  held_point_touches h there own kind =
      let has : has_hold R.holds c h.kind h.place ≡ true =
      ap (λ (d : Id). has_hold R.holds d h.kind h.place) own ∙ hold_had R.holds h good.in_order.holds there in
      let belongs = good.holds_are_put.standing c h.kind h.place kind has in
      round_one_touches belongs.0 belongs.1 belongs.2 h.place (good.holds_are_put.at_points c h.kind h.place kind has)

  tested_or_grounded : (kind : HoldKind) → is_section_kind kind ≡ true → (place : List ℕ) → has_hold R.holds c kind place ≡ true → has_name (clearance_fence R c) place ≡ true
  tested_or_grounded Tested is place has = good.work_holds_belong.tested_inside c place has
  tested_or_grounded Ground is place has = good.work_holds_belong.grounded_inside c place has
  tested_or_grounded _ is place has = cc is

  -- and one at a section at a section of its fence
  held_section_inside : (h : Hold) → Contains R.holds h → c ≡ h.id → is_section_kind h.kind ≡ true → has_name (clearance_fence R c) h.place ≡ true
  held_section_inside h there own kind = tested_or_grounded h.kind kind h.place
      (ap (λ (d : Id). has_hold R.holds d h.kind h.place) own ∙ hold_had R.holds h good.in_order.holds there)

-- each kind is at points, at sections, or is a crew
kind_cases : (kind : HoldKind) → (is_point_kind kind ≡ true) ⊎ ((is_section_kind kind ≡ true) ⊎ (is_crew kind ≡ true))
kind_cases Tested = inr (inl refl)
kind_cases Ground = inr (inl refl)
kind_cases Crew = inr (inr refl)
kind_cases _ = inl refl

module _ (R : Register) (q : Command) (c : Id) (good : IsGoodAsSaid R) (named : named_clearance q.kind ≡ Some c) (no_order : is_order q.kind ≡ false) where
  own_hold_near : (h : Hold) → Contains R.holds h → same_id c h.id ≡ true
      → is_near_hold (has_name (fence_for R q.kind)) (is_beside R (known_of R q) q.kind) (named_clearance q.kind) h ≡ true
  own_hold_near h there own = ⊎_elim
      (λ at_point. or_left (is_point_kind h.kind && is_beside R (known_of R q) q.kind h.place) _
      (and_from (is_point_kind h.kind) (is_beside R (known_of R q) q.kind h.place) at_point
      (or_left (has_name (touching_names R.net (has_name (fence_for R q.kind))) h.place) _
      (ap (λ (names : List (List ℕ)). has_name (touching_names R.net (has_name names)) h.place) fence
      ∙ held_point_touches R c good h there (one_id c h.id own) at_point))))
      (λ other. or_right (is_point_kind h.kind && is_beside R (known_of R q) q.kind h.place) _ (⊎_elim
      (λ at_section. or_left (is_section_kind h.kind && has_name (fence_for R q.kind) h.place) _
      (and_from (is_section_kind h.kind) (has_name (fence_for R q.kind) h.place) at_section
      (ap (λ (names : List (List ℕ)). has_name names h.place) fence ∙ held_section_inside R c good h there (one_id c h.id own) at_section)))
      (λ crew. or_right (is_section_kind h.kind && has_name (fence_for R q.kind) h.place) _
      (and_from (is_crew h.kind) (is_own (named_clearance q.kind) h.id) crew (ap (λ (meant : Option Id). is_own meant h.id) named ∙ own)))
      other))
      (kind_cases h.kind)
    where
      fence : fence_for R q.kind ≡ clearance_fence R c
      fence = fence_named R q.kind c named no_order

  -- all holds of the clearance are in the near part of a command that names it
  own_holds_beside : holds_of (Register.holds (part_beside R q)) c ≡ holds_of R.holds c
  unfolding holds_of
  own_holds_beside = filter-kept (λ (h : Hold). same_id c h.id)
      (is_near_hold (has_name (fence_for R q.kind)) (is_beside R (known_of R q) q.kind) (named_clearance q.kind)) R.holds own_hold_near

  pub own_holds_near : holds_of (Register.holds (near_part R q)) c ≡ holds_of R.holds c
  own_holds_near = ap (λ (P : Register). holds_of P.holds c) (near_named R q c named) ∙ own_holds_beside
