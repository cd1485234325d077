-- In a network that leaves the fences of all clearances as they were, and their orders sound, each clearance stays in its place.
use Rattle.std.proofs.Common.{◌≡◌, ◌∙◌, ℕ, Bool, true, false, ◌&&◌, List, Option, Some, None, IsTrue, refl, sym, ap, subst}
use Rattle.clr_rules.proofs.lists.OpenPhases.{open_where}
use Rattle.clr_rules.proofs.Common.{and_parts, FenceRows, in_fence, Grid, section_names, has_name, PointRow, SectionRow, is_known_work, Phase, Requested, Ordered, Granted}
use Rattle.clr_rules.proofs.Common.{Released, Restoring, Switching, Closed, Record, StepRow, Id, Register, record_of, is_standing, points_of, tasks_of, steps_in}
use Rattle.clr_rules.proofs.Common.{steps_of, first_of_each, is_fenced, of_round_is, record_id}
use Rattle.clr_net.specs.Additions.{fits_point, fits_section, with_point, with_section}
use Rattle.clr_net.proofs.Grown.{additions_keep_fences, point_fits}
use Rattle.clr_rules.specs.Fences.{CrossesNoFence, clearance_fence, found_fence, record_fence, work_fence}
use Rattle.clr_rules.specs.GoodByPhase.{InPhase, InPlaceAs, IsGoodByPhase, IsInPlace, Isolates, Outlook, inner_fence, of_round, outlook_of}
use Rattle.clr_rules.proofs.good.GrownOrders.{order_beside_point, order_beside_section}
use Rattle.clr_rules.proofs.live.FenceCuts.{has_name-once, in_fence_alike, named_in_fence}

-- ---- one clearance

-- what a place asks of the network
record KeepsOrder (g h : Grid) (work : List ℕ) (v : Outlook) : Type 0 where
  pub isolates : Isolates g work v → Isolates h work v
  pub fence : inner_fence h work v ≡ inner_fence g work v

module _ (g h : Grid) (v : Outlook) where
  in_phase : (phase : Phase) (work : Option (List ℕ)) → InPhase g phase work v → ((w : List ℕ) → work ≡ Some w → is_standing phase ≡ true → KeepsOrder g h w v) → InPhase h phase work v
  in_phase Requested (Some work) here keeps = here
  in_phase Ordered (Some work) here keeps = record {
    isolates = (keeps work refl refl).isolates here.isolates;
    one_round = here.one_round;
    given_out = here.given_out;
    as_put = here.as_put;
    no_work = here.no_work;
  }
  in_phase Granted (Some work) here keeps = record {
    isolates = (keeps work refl refl).isolates here.isolates;
    one_round = here.one_round;
    done = here.done;
    none_active = here.none_active;
    as_put = here.as_put;
    tested_inside = λ place tested. ap (λ (fence : List (List ℕ)). has_name fence place) (keeps work refl refl).fence ∙ here.tested_inside place tested;
    grounded_inside = λ place grounded. ap (λ (fence : List (List ℕ)). has_name fence place) (keeps work refl refl).fence ∙ here.grounded_inside place grounded;
    crews_grounded = here.crews_grounded;
  }
  in_phase Released (Some work) here keeps = record {
    isolates = (keeps work refl refl).isolates here.isolates;
    one_round = here.one_round;
    none_active = here.none_active;
    as_put = here.as_put;
    no_work = here.no_work;
  }
  in_phase Restoring (Some work) here keeps = record {
    isolates = (keeps work refl refl).isolates here.isolates;
    second_round = here.second_round;
    given_out = here.given_out;
    at_points = here.at_points;
    beside_held_open = here.beside_held_open;
    undone = here.undone;
    no_work = here.no_work;
  }
  in_phase Switching None here keeps = here
  in_phase Closed work here keeps = here
  in_phase _ _ here keeps = absurd here

-- ---- all clearances of a register

with_true : (b : Bool) → (b && true) ≡ b
with_true true = refl
with_true false = refl

standing_fenced : (phase : Phase) → is_standing phase ≡ true → is_fenced phase ≡ true
standing_fenced Requested standing = standing
standing_fenced Closed standing = standing
standing_fenced _ standing = refl

module _ (R : Register) (good : IsGoodByPhase R) where
  abbrev cut_of : Id → List (List ℕ)
  cut_of c = points_of (steps_in R.steps c 1)

  -- a network that keeps the fence and the order of each record
  pub record KeepsFences (h : Grid) : Type 0 where
    pub fence : (c : Id) (r : Record) (work : List ℕ) → record_of R.records c ≡ Some r → r.work ≡ Some work → is_fenced r.phase ≡ true
        → work_fence h (Some work) (cut_of c) ≡ work_fence R.net (Some work) (cut_of c)
    pub isolates : (c : Id) (r : Record) (work : List ℕ) → record_of R.records c ≡ Some r → r.work ≡ Some work → is_fenced r.phase ≡ true
        → Isolates R.net work (outlook_of R c) → Isolates h work (outlook_of R c)

  module _ (h : Grid) (keeps : KeepsFences h) where
    kept_as : (c : Id) (o : Option Record) → record_of R.records c ≡ o → InPlaceAs R.net o (outlook_of R c) → InPlaceAs h o (outlook_of R c)
    kept_as c None read bare = bare
    kept_as c (Some r) read here = in_phase R.net h (outlook_of R c) r.phase r.work here (λ work works standing. record {
      isolates = keeps.isolates c r work read works (standing_fenced r.phase standing);
      fence = ap (λ (rows : List StepRow). work_fence h (Some work) (points_of rows)) (of_round_is R.steps c 1)
          ∙ keeps.fence c r work read works (standing_fenced r.phase standing)
          ∙ sym (ap (λ (rows : List StepRow). work_fence R.net (Some work) (points_of rows)) (of_round_is R.steps c 1));
    })

    pub kept_in_place : (c : Id) → IsInPlace h (outlook_of R c)
    kept_in_place c = record {
      in_turn = (good.in_place c).in_turn;
      hands = (good.in_place c).hands;
      phase = kept_as c (record_of R.records c) refl (good.in_place c).phase;
    }

    by_work : (c : Id) (r : Record) → record_of R.records c ≡ Some r → is_fenced r.phase ≡ true → (o : Option (List ℕ)) → r.work ≡ o
        → work_fence h o (cut_of c) ≡ work_fence R.net o (cut_of c)
    by_work c r read fenced None works = refl
    by_work c r read fenced (Some work) works = keeps.fence c r work read works fenced

    by_phase : (c : Id) (r : Record) → record_of R.records c ≡ Some r → (b : Bool) → is_fenced r.phase ≡ b → record_fence h R.steps r ≡ record_fence R.net R.steps r
    by_phase c r read true fenced = rw (fenced, record_id R.records c r read) (by_work c r read fenced r.work refl)
    by_phase c r read false unfenced = rw unfenced refl

    by_record : (c : Id) (o : Option Record) → record_of R.records c ≡ o → found_fence h R.steps o ≡ found_fence R.net R.steps o
    by_record c None read = refl
    by_record c (Some r) read = by_phase c r read (is_fenced r.phase) refl

    -- the fence of each clearance is what it was
    pub same_found_fence : (c : Id) → found_fence h R.steps (record_of R.records c) ≡ clearance_fence R c
    same_found_fence c = by_record c (record_of R.records c) refl

  -- ---- a section or a point more

  known_work : (c : Id) (r : Record) (work : List ℕ) → record_of R.records c ≡ Some r → r.work ≡ Some work → is_fenced r.phase ≡ true
      → has_name (section_names (Grid.sections R.net)) work ≡ true
  known_work c r work read works fenced = subst (λ (o : Option (List ℕ)). is_known_work (section_names (Grid.sections R.net)) o ≡ true) works
      (good.work_known c r read (open_where is_fenced refl r.phase fenced))

  -- the order is cut at the same points, each once
  abbrev own_points : Id → List (List ℕ)
  own_points c = first_of_each (points_of (of_round (steps_of R.steps c) 1))

  same_cut : (c : Id) (q : List ℕ) → has_name (own_points c) q ≡ has_name (cut_of c) q
  same_cut c q = has_name-once (points_of (of_round (steps_of R.steps c) 1)) q ∙ ap (λ (rows : List StepRow). has_name (points_of rows) q) (of_round_is R.steps c 1)

  pub sections_keep_fences : (row : SectionRow) → IsTrue (fits_section R.net row) → KeepsFences (with_section row R.net)
  sections_keep_fences row fits = record {
    fence = λ c r work read works fenced. ap (λ (fence : FenceRows). section_names fence.sections)
        (additions_keep_fences.section R.net good.network row fits work (cut_of c) (known_work c r work read works fenced)).fence;
    isolates = λ c r work read works fenced. order_beside_section R.net good.network work (known_work c r work read works fenced) (own_points c)
        (tasks_of (of_round (steps_of R.steps c) 1)) row fits;
  }

  -- the fence of a clearance, where it is cut
  own_fence : (c : Id) (r : Record) (work : List ℕ) → record_of R.records c ≡ Some r → r.work ≡ Some work → is_fenced r.phase ≡ true
      → clearance_fence R c ≡ work_fence R.net (Some work) (cut_of c)
  own_fence c r work read works fenced = ap (found_fence R.net R.steps) read ∙ rw (fenced, record_id R.records c r read, works) refl

  module _ (p : PointRow) (fits : IsTrue (fits_point R.net p)) (crosses_none : CrossesNoFence R p.from_end p.to_end) where
    inside_alike : (g : Grid) (work : List ℕ) (cut : List (List ℕ)) (s t : List ℕ) → has_name (section_names g.sections) s ≡ true → has_name (section_names g.sections) t ≡ true
        → has_name (work_fence g (Some work) cut) s ≡ has_name (work_fence g (Some work) cut) t → in_fence g work cut s ≡ in_fence g work cut t
    inside_alike g work cut s t s_known t_known alike =
        sym (in_of s s_known) ∙ alike ∙ in_of t t_known
      where
        in_of : (s : List ℕ) → has_name (section_names g.sections) s ≡ true → has_name (work_fence g (Some work) cut) s ≡ in_fence g work cut s
        in_of s known = named_in_fence g work cut s ∙ rw known (with_true (in_fence g work cut s))

    ends_alike : (c : Id) (r : Record) (work : List ℕ) → record_of R.records c ≡ Some r → r.work ≡ Some work → is_fenced r.phase ≡ true
        → in_fence R.net work (cut_of c) p.from_end ≡ in_fence R.net work (cut_of c) p.to_end
    ends_alike c r work read works fenced =
        let (from, to) = and_parts (has_name (section_names (Grid.sections R.net)) p.from_end) (has_name (section_names (Grid.sections R.net)) p.to_end) (point_fits R.net p fits).known in
        inside_alike R.net work (cut_of c) p.from_end p.to_end from to
        (subst (λ (fence : List (List ℕ)). has_name fence p.from_end ≡ has_name fence p.to_end) (own_fence c r work read works fenced) (crosses_none c))

    pub points_keep_fences : KeepsFences (with_point p R.net)
    points_keep_fences = record {
      fence = λ c r work read works fenced. ap (λ (fence : FenceRows). section_names fence.sections)
          (additions_keep_fences.point R.net good.network p fits work (cut_of c) (known_work c r work read works fenced) (ends_alike c r work read works fenced)).fence;
      isolates = λ c r work read works fenced.
          let alike = in_fence_alike R.net work (own_points c) (cut_of c) (same_cut c) in
          order_beside_point R.net good.network work (known_work c r work read works fenced) (own_points c)
          (tasks_of (of_round (steps_of R.steps c) 1)) p fits (alike p.from_end ∙ ends_alike c r work read works fenced ∙ sym (alike p.to_end));
    }
