-- Near a standing clearance the network stays, so fence and order of each record are as they were.
use Rattle.std.proofs.Common.{◌≡◌, ◌∙◌, ℕ, Bool, true, false, ◌++◌, List, [], ◌∷◌, filter, map, Contains, Option, Some, refl, sym, ap, subst}
use Rattle.std.proofs.lemmas.List.Elements.{filter-append}
use Rattle.clr_net.proofs.Locality.{fences_are_local}
use Rattle.clr_net.specs.Laws.{SameRowsAt}
use Rattle.clr_order.specs.Isolating.{IsSoundWithin}
use Rattle.clr_rules.proofs.good.GrownPlaces.{KeepsFences}
use Rattle.clr_rules.proofs.good.Opening.{in_key_order-from_sorted}
use Rattle.clr_rules.proofs.isolation.SameFences.{touches_wider}
use Rattle.clr_rules.proofs.lists.OpenPhases.{open_where}
use Rattle.clr_rules.proofs.lists.RoundSteps.{of_round_is}
use Rattle.clr_rules.proofs.live.FenceCuts.{has_name-once, in_fence_alike, known_in_fence, named_from_in_fence}
use Rattle.clr_rules.specs.Fences.{record_fence, work_fence}
use Rattle.clr_rules.specs.GoodByPhase.{InPhase, InPlaceAs, Outlook, of_round}
use Rattle.clr_rules.specs.Prelude.{first_of_each}
use Rattle.clr_rules.specs.declared.phase.Phase.TheVariants.{Requested, Ordered, Granted, Released, Restoring, Switching, Closed}
use Rattle.clr_update.proofs.Common.{Contains-filter, FenceRows, Grid, Id, IsGoodByPhase, IsNetwork, Phase, PointRow, PointState, Record, Register, SectionRow, StepRow, Update}
use Rattle.clr_update.proofs.Common.{false≢true, fence_of, has_name, in_fence, in_key_order, in_position, is_fenced, is_known_work, is_standing}
use Rattle.clr_update.proofs.Common.{in_key_order-filter, kept_there, lacking, name_cmp, nat_list_cmp_total, outlook_of, points_of, record_id, record_of, row_named, same_point, same_section, section_names, steps_in, steps_of, tasks_of}
use Rattle.clr_update.proofs.Common.{touches, unplaced, unplaced_net, updated}
use Rattle.clr_update.proofs.Free.{Free}
use Rattle.clr_update.proofs.Rows.{map_none, one_row, point_itself, point_same, same_rows, section_itself, section_same, stays}

-- ---- lists

append_none : {X : Type 0} (xs ys : List X) → (xs ++ ys) ≡ [] → (xs ≡ []) × (ys ≡ [])
append_none [] ys none = (refl, none)
append_none (x ∷ xs) ys none = absurd cc

-- a point touches a set in any position
pub touching_placed : (states : List PointState) (near : List ℕ → Bool) (rows : List PointRow)
    → filter (touches near) (map (in_position states) rows) ≡ map (in_position states) (filter (touches near) rows)
touching_placed states near [] = refl
touching_placed states near (p ∷ rows) = at (touches near p) refl (touching_placed states near rows)
  where
    at : (b : Bool) → touches near p ≡ b → filter (touches near) (map (in_position states) rows) ≡ map (in_position states) (filter (touches near) rows)
        → filter (touches near) (map (in_position states) (p ∷ rows)) ≡ map (in_position states) (filter (touches near) (p ∷ rows))
    at true is more = rw is (ap (λ (l : List PointRow). in_position states p ∷ l) more)
    at false is more = rw is more

-- rows without positions keep so in each part of their list
pub unplaced_part : (near : PointRow → Bool) (points : List PointRow) → map unplaced points ≡ points → map unplaced (filter near points) ≡ filter near points
unplaced_part near [] placed = refl
unplaced_part near (p ∷ points) placed = at (near p) refl (unplaced_part near points rest)
  where
    first : unplaced p ≡ p
    first = cc placed

    rest : map unplaced points ≡ points
    rest = cc placed

    at : (b : Bool) → near p ≡ b → map unplaced (filter near points) ≡ filter near points → map unplaced (filter near (p ∷ points)) ≡ filter near (p ∷ points)
    at true is more = rw is (λ i. first i ∷ more i)
    at false is more = rw is more

-- ---- the names of a network

pub sections_rise : (g : Grid) → IsNetwork g → in_key_order name_cmp (λ (row : SectionRow). row.name) g.sections ≡ true
sections_rise g net = in_key_order-from_sorted name_cmp (λ (row : SectionRow). row.name) g.sections net.sections_rise

pub points_rise : (g : Grid) → IsNetwork g → in_key_order name_cmp (λ (p : PointRow). p.name) g.points ≡ true
points_rise g net = in_key_order-from_sorted name_cmp (λ (p : PointRow). p.name) g.points net.points_rise

-- ---- one standing record

fenced_standing : (g : Grid) (v : Outlook) (work : List ℕ) (phase : Phase) → is_fenced phase ≡ true → InPhase g phase (Some work) v → is_standing phase ≡ true
fenced_standing g v work Requested fenced here = fenced
fenced_standing g v work Ordered fenced here = refl
fenced_standing g v work Granted fenced here = refl
fenced_standing g v work Released fenced here = refl
fenced_standing g v work Restoring fenced here = refl
fenced_standing g v work Switching fenced here = absurd here
fenced_standing g v work Closed fenced here = fenced

pub standing_fenced : (phase : Phase) → is_standing phase ≡ true → is_fenced phase ≡ true
standing_fenced Requested standing = standing
standing_fenced Closed standing = standing
standing_fenced Switching standing = absurd (false≢true standing)
standing_fenced _ standing = refl

module _ (R : Register) (good : IsGoodByPhase R) (u : Update) (free : Free R u (updated R u)) (net : IsNetwork (Register.net (updated R u)))
    (placed : unplaced_net (Register.net (updated R u)) ≡ Register.net (updated R u)) where
  abbrev S : Register
  S = updated R u

  -- what a standing record's fence has stays
  pub section_stays : (c : Id) (r : Record) → record_of R.records c ≡ Some r → is_standing r.phase ≡ true
      → (row : SectionRow) → Contains (Grid.sections R.net) row → has_name (record_fence R.net R.steps r) row.name ≡ true → Contains (Grid.sections (Register.net (updated R u))) row
  section_stays c r found standing row there inside =
      stays same_section section_same section_itself (λ (row : SectionRow). has_name (record_fence R.net R.steps r) row.name) (Grid.sections S.net) (Grid.sections R.net)
      (map_none (λ (row : SectionRow). row.name) _ (free.sections c r found standing)) row there inside

  pub points_none : (c : Id) (r : Record) → record_of R.records c ≡ Some r → is_standing r.phase ≡ true
      → (filter (touches (has_name (record_fence R.net R.steps r))) (lacking same_point (Grid.points S.net) (Grid.points R.net)) ≡ [])
      × (filter (touches (has_name (record_fence R.net R.steps r))) (lacking same_point (Grid.points R.net) (Grid.points S.net)) ≡ [])
  points_none c r found standing =
      let near = touches (has_name (record_fence R.net R.steps r)) in
      let went = lacking same_point (Grid.points S.net) (Grid.points R.net) in
      let new = lacking same_point (Grid.points R.net) (Grid.points S.net) in
      let both = append_none (filter near went) (filter near (map (in_position S.states) new))
      (sym (filter-append near went (map (in_position S.states) new)) ∙ map_none (λ (p : PointRow). p.name) _ (free.points c r found standing)) in
      (both.0, map_none (in_position S.states) (filter near new) (sym (touching_placed S.states (has_name (record_fence R.net R.steps r)) new) ∙ both.1))

  point_stays : (c : Id) (r : Record) → record_of R.records c ≡ Some r → is_standing r.phase ≡ true
      → (p : PointRow) → Contains (Grid.points R.net) p → touches (has_name (record_fence R.net R.steps r)) p ≡ true → Contains (Grid.points (Register.net (updated R u))) p
  point_stays c r found standing p there touching =
      stays same_point point_same point_itself (touches (has_name (record_fence R.net R.steps r))) (Grid.points S.net) (Grid.points R.net)
      (points_none c r found standing).0 p there touching

  point_was : (c : Id) (r : Record) → record_of R.records c ≡ Some r → is_standing r.phase ≡ true
      → (p : PointRow) → Contains (Grid.points (Register.net (updated R u))) p → touches (has_name (record_fence R.net R.steps r)) p ≡ true → Contains (Grid.points R.net) p
  point_was c r found standing p there touching =
      stays same_point point_same point_itself (touches (has_name (record_fence R.net R.steps r))) (Grid.points R.net) (Grid.points S.net)
      (points_none c r found standing).1 p there touching

  module _ (c : Id) (r : Record) (found : record_of R.records c ≡ Some r) (standing : is_standing r.phase ≡ true) (work : List ℕ) (works : r.work ≡ Some work) where
    abbrev cut : List (List ℕ)
    cut = points_of (steps_in R.steps c 1)

    pub fence_is : record_fence R.net R.steps r ≡ work_fence R.net (Some work) (points_of (steps_in R.steps c 1))
    fence_is = rw (standing_fenced r.phase standing, record_id R.records c r found, works) refl

    known : has_name (section_names (Grid.sections R.net)) work ≡ true
    known = subst (λ (o : Option (List ℕ)). is_known_work (section_names (Grid.sections R.net)) o ≡ true) works
        (good.work_known c r found (open_where is_standing refl r.phase standing))

    module _ (at : List (List ℕ)) (alike : (q : List ℕ) → has_name at q ≡ has_name (points_of (steps_in R.steps c 1)) q) where
      abbrev near : List ℕ → Bool
      near = in_fence R.net work at

      inside : (s : List ℕ) → near s ≡ true → has_name (record_fence R.net R.steps r) s ≡ true
      inside s is = subst (λ (fence : List (List ℕ)). has_name fence s ≡ true) (sym fence_is)
          (named_from_in_fence R.net work good.network cut s (sym (in_fence_alike R.net work at cut alike s) ∙ is))

      -- a section of the new network with a name in the fence was there
      pub section_was : (row : SectionRow) → Contains (Grid.sections S.net) row → near row.name ≡ true → Contains (Grid.sections R.net) row
      section_was row there is =
          let (old, was, same) = row_named (λ (row : SectionRow). row.name) (Grid.sections R.net) row.name (known_in_fence R.net work good.network at row.name is) in
          let now = section_stays c r found standing old was (subst (λ (s : List ℕ). has_name (record_fence R.net R.steps r) s ≡ true) same (inside row.name is)) in
          subst (λ (x : SectionRow). Contains (Grid.sections R.net) x)
          (one_row (λ (row : SectionRow). row.name) (Grid.sections S.net) (sections_rise S.net net) old row now there (sym same)) was

      sections_alike : filter (λ (row : SectionRow). near row.name) (Grid.sections R.net) ≡ filter (λ (row : SectionRow). near row.name) (Grid.sections S.net)
      sections_alike = same_rows (λ (row : SectionRow). row.name) _ _
          (kept_order (Grid.sections R.net) (sections_rise R.net good.network)) (kept_order (Grid.sections S.net) (sections_rise S.net net))
          (λ row there. let both = kept_there (λ (row : SectionRow). near row.name) (Grid.sections R.net) row there in
          Contains-filter (λ (row : SectionRow). near row.name) (Grid.sections S.net) row (section_stays c r found standing row both.0 (inside row.name both.1)) both.1)
          (λ row there. let both = kept_there (λ (row : SectionRow). near row.name) (Grid.sections S.net) row there in
          Contains-filter (λ (row : SectionRow). near row.name) (Grid.sections R.net) row (section_was row both.0 both.1) both.1)
        where
          kept_order : (rows : List SectionRow) → in_key_order name_cmp (λ (row : SectionRow). row.name) rows ≡ true
              → in_key_order name_cmp (λ (row : SectionRow). row.name) (filter (λ (row : SectionRow). near row.name) rows) ≡ true
          kept_order rows = in_key_order-filter name_cmp (λ (row : SectionRow). row.name) nat_list_cmp_total (λ (row : SectionRow). near row.name) rows

      points_alike : filter (touches near) (Grid.points R.net) ≡ filter (touches near) (Grid.points S.net)
      points_alike = same_rows (λ (p : PointRow). p.name) _ _
          (in_key_order-filter name_cmp (λ (p : PointRow). p.name) nat_list_cmp_total (touches near) (Grid.points R.net) (points_rise R.net good.network))
          (in_key_order-filter name_cmp (λ (p : PointRow). p.name) nat_list_cmp_total (touches near) (Grid.points S.net) (points_rise S.net net))
          (λ p there. let both = kept_there (touches near) (Grid.points R.net) p there in
          Contains-filter (touches near) (Grid.points S.net) p
          (point_stays c r found standing p both.0 (touches_wider near (has_name (record_fence R.net R.steps r)) inside p both.1)) both.1)
          (λ p there. let both = kept_there (touches near) (Grid.points S.net) p there in
          Contains-filter (touches near) (Grid.points R.net) p
          (point_was c r found standing p both.0 (touches_wider near (has_name (record_fence R.net R.steps r)) inside p both.1)) both.1)

      -- the fence is the same in both networks
      pub same_fence : fence_of (Register.net (updated R u)) work at ≡ fence_of R.net work at
      same_fence =
          let alike : SameRowsAt (in_fence R.net work at) R.net S.net = record { sections = sections_alike; points = ap (map unplaced) points_alike } in
          let same = fences_are_local R.net S.net good.network net work at known alike in
          let was = unplaced_part (touches (in_fence R.net work at)) (Grid.points R.net) (ap Grid.points good.placed) in
          let now = unplaced_part (touches (in_fence S.net work at)) (Grid.points S.net) (ap Grid.points placed) in
          let touching = sym now ∙ sym same.touching ∙ was in
          λ i. record { sections = sym same.sections i; touching = touching i }

  -- ---- all records

  standing_of : (c : Id) (r : Record) (work : List ℕ) → record_of R.records c ≡ Some r → r.work ≡ Some work → is_fenced r.phase ≡ true → is_standing r.phase ≡ true
  standing_of c r work found works fenced = fenced_standing R.net (outlook_of R c) work r.phase fenced
      (subst (λ (o : Option (List ℕ)). InPhase R.net r.phase o (outlook_of R c)) works
      (subst (λ (o : Option Record). InPlaceAs R.net o (outlook_of R c)) found (good.in_place c).phase))

  abbrev own_points : Id → List (List ℕ)
  own_points c = first_of_each (points_of (of_round (steps_of R.steps c) 1))

  same_cut : (c : Id) (q : List ℕ) → has_name (own_points c) q ≡ has_name (points_of (steps_in R.steps c 1)) q
  same_cut c q = has_name-once (points_of (of_round (steps_of R.steps c) 1)) q ∙ ap (λ (rows : List StepRow). has_name (points_of rows) q) (of_round_is R.steps c 1)

  pub keeps_fences : KeepsFences R good (Register.net (updated R u))
  keeps_fences = record {
    fence = λ c r work found works fenced. ap (λ (fence : FenceRows). section_names fence.sections)
        (same_fence c r found (standing_of c r work found works fenced) work works (points_of (steps_in R.steps c 1)) (λ q. refl));
    isolates = λ c r work found works fenced sound. subst (λ (fence : FenceRows). IsSoundWithin fence (own_points c) (tasks_of (of_round (steps_of R.steps c) 1)))
        (sym (same_fence c r found (standing_of c r work found works fenced) work works (own_points c) (same_cut c))) sound;
  }
