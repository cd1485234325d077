-- Registers that agree near a clearance have the same record, steps and fence of it.
use Rattle.std.proofs.Common.{◌≡◌, ◌∙◌, ⊎_elim, ℕ, Bool, true, false, List, map, Option, Some, None, refl, sym, ap, subst, filter}
use Rattle.clr_rules.proofs.Common.{and_parts, or_cases, or_left, or_right, in_fence, touches, Grid, section_names, unplaced, has_name, PointRow, SectionRow, equal, filter-filter_wider}
use Rattle.clr_rules.proofs.Common.{list_all-contains, IsGoodAsSaid, is_known_work, Record, StepRow, Id, id_cmp, id_cmp_total, same_id, Register, record_key, record_of, points_of}
use Rattle.clr_rules.proofs.Common.{steps_in, is_fenced, is_open, is_of_round, own_id, record_id}
use Rattle.clr_net.specs.Laws.{SameRowsAt}
use Rattle.clr_net.proofs.Locality.{fences_are_local}
use Rattle.clr_shelf.proofs.Groups.{row_of-filter_inside}
use Rattle.clr_rules.specs.Agreement.{Agree, part_near}
use Rattle.clr_rules.specs.Fences.{clearance_fence, found_fence, found_order_fence, order_fence, record_fence, touching_names, work_fence}
use Rattle.clr_rules.specs.Id.{same_id_from_tie}
use Rattle.clr_rules.specs.Records.{is_requested}
use Rattle.clr_rules.specs.Shown.{found_phase_requested, includes}
use Rattle.clr_rules.proofs.lists.OpenPhases.{open_where}
use Rattle.clr_rules.proofs.isolation.Agreement.{touching_named}
use Rattle.clr_rules.proofs.live.FenceCuts.{named_from_in_fence}
use Rattle.clr_rules.proofs.lists.Filters.{filter-kept, name_says}

-- what is among names that a set includes is in the set
pub included : (inside : List ℕ → Bool) (names : List (List ℕ)) (s : List ℕ) → includes inside names ≡ true → has_name names s ≡ true → inside s ≡ true
included inside names s covered named = list_all-contains inside names s covered ((name_says names s).0 named)

-- a point that touches a part of a set touches the set
pub touches_wider : (near inside : List ℕ → Bool) → ((s : List ℕ) → near s ≡ true → inside s ≡ true) → (p : PointRow) → touches near p ≡ true → touches inside p ≡ true
touches_wider near inside wider p touching = ⊎_elim
    (λ from. or_left (inside p.from_end) (inside p.to_end) (wider p.from_end from))
    (λ to. or_right (inside p.from_end) (inside p.to_end) (wider p.to_end to))
    (or_cases (near p.from_end) (near p.to_end) touching)

-- ---- what is read of the part near a clearance

-- the record of a clearance among those of the clearance
pub record_of-own : (records : List Record) (c : Id) → record_of (filter (λ r. same_id c r.id) records) c ≡ record_of records c
record_of-own records c = row_of-filter_inside id_cmp record_key id_cmp_total (λ (r : Record). same_id c r.id) c records
    (λ r tied. subst (λ (d : Id). same_id c d ≡ true) (sym (same_id_from_tie r.id c (equal (id_cmp r.id c) tied))) (own_id c))

module _ (R : Register) (c : Id) (inside : List ℕ → Bool) where
  steps_in-part : (round : ℕ) → steps_in (Register.steps (part_near R c inside)) c round ≡ steps_in R.steps c round
  unfolding steps_in
  steps_in-part round = filter-filter_wider (is_of_round c round) (λ (row : StepRow). same_id c row.id)
      (λ row both. (and_parts (same_id c row.id) _ both).0) R.steps

  module _ (near : List ℕ → Bool) (wider : (s : List ℕ) → near s ≡ true → inside s ≡ true) where
    sections-part : filter (λ (row : SectionRow). near row.name) (Grid.sections (Register.net (part_near R c inside))) ≡ filter (λ row. near row.name) R.net.sections
    sections-part = filter-filter_wider (λ (row : SectionRow). near row.name) (λ row. inside row.name) (λ row is. wider row.name is) R.net.sections

    pub points-part : filter (touches near) (Grid.points (Register.net (part_near R c inside))) ≡ filter (touches near) R.net.points
    points-part = filter-kept (touches near) (λ (p : PointRow). has_name (touching_names R.net inside) p.name) R.net.points
        (λ p there touching. touching_named R.net inside p there (touches_wider near inside wider p touching))

-- ---- what registers that agree have in common

module _ (R S : Register) (c : Id) (inside : List ℕ → Bool) (agree : Agree c inside R S) where
  pub same_record : record_of R.records c ≡ record_of S.records c
  same_record = sym (record_of-own R.records c) ∙ ap (λ (P : Register). record_of P.records c) agree.near ∙ record_of-own S.records c

  same_steps : (round : ℕ) → steps_in R.steps c round ≡ steps_in S.steps c round
  same_steps round = sym (steps_in-part R c inside round) ∙ ap (λ (P : Register). steps_in P.steps c round) agree.near ∙ steps_in-part S c inside round

  rows_alike : (near : List ℕ → Bool) → ((s : List ℕ) → near s ≡ true → inside s ≡ true) → SameRowsAt near R.net S.net
  rows_alike near wider = record {
    sections = sym (sections-part R c inside near wider)
        ∙ ap (λ (P : Register). filter (λ (row : SectionRow). near row.name) (Grid.sections P.net)) agree.near ∙ sections-part S c inside near wider;
    points = ap (map unplaced) (sym (points-part R c inside near wider)
        ∙ ap (λ (P : Register). filter (touches near) (Grid.points P.net)) agree.near ∙ points-part S c inside near wider);
  }

  module _ (R_good : IsGoodAsSaid R) (S_good : IsGoodAsSaid S) where
    -- a fence inside the set is the same in both
    same_work_fence : (o : Option (List ℕ)) (cut : List (List ℕ)) → is_known_work (section_names (Grid.sections R.net)) o ≡ true
        → includes inside (work_fence R.net o cut) ≡ true → work_fence R.net o cut ≡ work_fence S.net o cut
    same_work_fence None cut known covered = refl
    same_work_fence (Some work) cut known covered =
        let same = fences_are_local R.net S.net R_good.network S_good.network work cut known (rows_alike (in_fence R.net work cut)
        (λ s there. included inside (work_fence R.net (Some work) cut) s covered (named_from_in_fence R.net work R_good.network cut s there))) in
        ap section_names same.sections

    known_work : (r : Record) → record_of R.records c ≡ Some r → is_open r.phase ≡ true → is_known_work (section_names (Grid.sections R.net)) r.work ≡ true
    known_work = R_good.numbers_have_no_gaps.work_known c

    same_record_fence : (r : Record) → record_of R.records c ≡ Some r → (b : Bool) → is_fenced r.phase ≡ b
        → includes inside (record_fence R.net R.steps r) ≡ true → record_fence R.net R.steps r ≡ record_fence S.net S.steps r
    same_record_fence r read true fenced covered =
        let own : r.id ≡ c = record_id R.records c r read in
        let steps : steps_in R.steps r.id 1 ≡ steps_in S.steps r.id 1 =
        ap (λ (d : Id). steps_in R.steps d 1) own ∙ same_steps 1 ∙ ap (λ (d : Id). steps_in S.steps d 1) (sym own) in
        rw fenced (same_work_fence r.work (points_of (steps_in R.steps r.id 1)) (known_work r read (open_where is_fenced refl r.phase fenced)) (rw fenced at covered)
        ∙ ap (λ (rows : List StepRow). work_fence S.net r.work (points_of rows)) steps)
    same_record_fence r read false unfenced covered = rw unfenced refl

    same_found_fence : (o : Option Record) → record_of R.records c ≡ o → includes inside (found_fence R.net R.steps o) ≡ true
        → found_fence R.net R.steps o ≡ found_fence S.net S.steps o
    same_found_fence None read covered = refl
    same_found_fence (Some r) read covered = same_record_fence r read (is_fenced r.phase) refl covered

    -- the clearance's fence, if the set includes it
    pub same_clearance_fence : includes inside (clearance_fence R c) ≡ true → clearance_fence R c ≡ clearance_fence S c
    same_clearance_fence covered = same_found_fence (record_of R.records c) refl covered ∙ ap (found_fence S.net S.steps) same_record

    same_found_order : (points : List (List ℕ)) (o : Option Record) → record_of R.records c ≡ o → found_phase_requested o ≡ true
        → includes inside (found_order_fence R.net points o) ≡ true → found_order_fence R.net points o ≡ found_order_fence S.net points o
    same_found_order points None read requested covered = refl
    same_found_order points (Some r) read requested covered = same_work_fence r.work points (known_work r read (open_where is_requested refl r.phase requested)) covered

    -- and the fence that an order would make while the clearance is Requested, if the set includes that
    pub same_order_fence : (points : List (List ℕ)) → found_phase_requested (record_of R.records c) ≡ true → includes inside (order_fence R c points) ≡ true
        → order_fence R c points ≡ order_fence S c points
    same_order_fence points requested covered =
        same_found_order points (record_of R.records c) refl requested covered ∙ ap (found_order_fence S.net points) same_record
