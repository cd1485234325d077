-- What an update does near a clearance: nothing but to the staff, while the clearance stands; and the same where the same changes.
use Rattle.std.proofs.Common.{◌≡◌, ◌∙◌, ℕ, Bool, true, ◌&&◌, List, [], ◌∷◌, filter, map, Contains, Option, None, Some, refl, sym, ap, subst, is_some, option_map}
use Rattle.clr_rules.proofs.isolation.Agreement.{agrees_back, agrees_with_itself}
use Rattle.clr_rules.proofs.lists.Filters.{filter-no_member}
use Rattle.clr_rules.proofs.lists.HoldMembers.{hold_had}
use Rattle.clr_rules.proofs.lists.StateFacts.{state_is_known}
use Rattle.clr_rules.proofs.live.FenceCuts.{in_fence_from_named}
use Rattle.clr_rules.specs.Fences.{clearance_fence, found_fence, record_fence}
use Rattle.clr_rules.specs.GoodByPhase.{InPhase, InPlaceAs, Outlook}
use Rattle.clr_rules.specs.Prelude.{hand_of}
use Rattle.clr_rules.specs.States.{is_hand}
use Rattle.clr_rules.specs.declared.phase.Phase.TheVariants.{Switching, Closed}
use Rattle.clr_update.proofs.Common.{Changes, Grid, Id, IsGood, IsRead, Opened, Phase, PointRow, PointState, Record, Register, SectionRow, StaffRow, Update, after_update, and_from, and_parts}
use Rattle.clr_update.proofs.Common.{are_none, changes, false≢true, false_from_ne_true, has_in_hand, has_name, has_name-row, in_position, is_none, is_standing, lacking, near_set, net_stays, none-some}
use Rattle.clr_update.proofs.Common.{outlook_of, own_id, point_names, points_of, record_of, row_named, same_employee, same_point, same_section, staff_stays, state_of, steps_in, updated}
use Rattle.clr_update.proofs.Fences.{fence_is, points_none, points_rise, section_was, touching_placed}
use Rattle.clr_update.proofs.Free.{Free, free_of}
use Rattle.clr_update.proofs.Good.{after_either, by_phase}
use Rattle.clr_update.proofs.Near.{IsStep, agree_after, lacks_none}
use Rattle.clr_update.proofs.Rows.{employee_itself, employee_same, lacking_apart, lacking_there, map_none, one_row, point_itself, point_same, section_itself, section_same}
use Rattle.clr_update.proofs.Staying.{filed_is, hand_stays, hold_stays, known_states, same_hand, state_stays, states_in_order}
use Rattle.clr_update.specs.Laws.{SameChangesAgree, SameStaffAgrees, StandingFencesStay, UnseenUpdatesAgree}

-- ---- steps

some_position : (o : Option PointState) → option_map (λ (state : PointState). state.position) o ≡ Some Opened → is_some o ≡ true
some_position None is = absurd (none-some Opened is)
some_position (Some state) is = refl

-- from a register to itself
pub same_step : (R : Register) → IsGood R → IsStep R R
same_step R good = record {
  network = good.said.network;
  placed = good.besides.placed;
  staff = good.said.staff;
  records = refl;
  steps = refl;
  holds = refl;
  keys = good.besides.points_known.states;
  in_order = good.said.in_order.states;
  held = λ h there at_point.
      let opened = good.said.held_points_are_open.open_there h.id h.kind h.place at_point (hold_had R.holds h good.said.in_order.holds there) in
      let known : has_name (point_names (Grid.points R.net)) h.place ≡ true =
      ap (λ (names : List (List ℕ)). has_name names h.place) (sym good.besides.points_known.states) ∙ sym (state_is_known R.states h.place)
      ∙ some_position (state_of R.states h.place) opened in
      let (q, was, same) = row_named (λ (q : PointRow). q.name) (Grid.points R.net) h.place known in
      (q, was, was, same);
  stays = λ p was now. refl;
  comes = λ p there. absurd (lacking_apart same_point point_same point_itself (Grid.points R.net) (Grid.points R.net) p there
      (lacking_there same_point point_same point_itself (Grid.points R.net) (Grid.points R.net) p there));
}

module _ (R : Register) (good : IsGood R) (u : Update) (read : IsRead u) (free : Free R u (updated R u)) where
  abbrev S : Register
  S = updated R u

  comes_free : (p : PointRow) → Contains (lacking same_point (Grid.points R.net) (Grid.points S.net)) p → (o : Option Id) → hand_of S.states p.name ≡ o → o ≡ None
  comes_free p there None is = refl
  comes_free p there (Some d) is =
      let held : has_in_hand R.states d p.name ≡ true = sym (same_hand R good u free read d p.name) ∙ ap (is_hand d) is ∙ own_id d in
      let it = hand_stays R good u free d p.name held in
      let now = lacking_there same_point point_same point_itself (Grid.points R.net) (Grid.points S.net) p there in
      let same = one_row (λ (q : PointRow). q.name) (Grid.points S.net) (points_rise S.net (filed_is R good u free read).network) p it.row now it.is it.named in
      absurd (lacking_apart same_point point_same point_itself (Grid.points R.net) (Grid.points S.net) p there (subst (λ (x : PointRow). Contains (Grid.points R.net) x) (sym same) it.was))

  -- and to that after an accepted update
  accepted_step : IsStep R (updated R u)
  accepted_step = record {
    network = (filed_is R good u free read).network;
    placed = (filed_is R good u free read).placed;
    staff = read.staff;
    records = refl;
    steps = refl;
    holds = refl;
    keys = known_states R good u free read;
    in_order = states_in_order R good u free read;
    held = λ h there at_point.
        let it = hold_stays R good u free h.id h.kind h.place at_point (hold_had R.holds h good.said.in_order.holds there) in
        (it.row, it.was, it.is, it.named);
    stays = λ p was now. state_stays R good u free read p.name (has_name-row (λ (q : PointRow). q.name) (Grid.points S.net) p now)
        (state_is_known R.states p.name ∙ ap (λ (names : List (List ℕ)). has_name names p.name) good.besides.points_known.states
        ∙ has_name-row (λ (q : PointRow). q.name) (Grid.points R.net) p was);
    comes = λ p there. comes_free p there (hand_of S.states p.name) refl;
  }

pub step_of : (R : Register) (u : Update) → IsGood R → IsRead u → IsStep R (after_update R u)
step_of R u good read = after_either R u (IsStep R) (same_step R good) (λ none. accepted_step R good u read (free_of R u none))

-- ---- updates that change the same, or nothing

pub same_changes_agree : SameChangesAgree
same_changes_agree c inside R S u v R_good S_good u_read v_read alike agree =
    agree_after c inside R (after_update R u) S (after_update S v) (step_of R u R_good u_read) (step_of S v S_good v_read)
    R_good.said.network S_good.said.network agree alike

none_is : {X : Type 0} (xs : List X) → is_none xs ≡ true → xs ≡ []
none_is [] is = refl
none_is (x ∷ xs) is = absurd (false≢true is)

abbrev nothing : Changes
nothing = record { sections_go = []; sections_come = []; points_go = []; points_come = []; staff_goes = []; staff_comes = [] }

are_nothing : (of : Changes) → are_none of ≡ true → of ≡ nothing
are_nothing of none =
    let (net, staff) = and_parts (net_stays of) (staff_stays of) none in
    let (sections_go, rest1) = and_parts (is_none of.sections_go) _ net in
    let (sections_come, rest2) = and_parts (is_none of.sections_come) _ rest1 in
    let (points_go, points_come) = and_parts (is_none of.points_go) (is_none of.points_come) rest2 in
    let (staff_goes, staff_comes) = and_parts (is_none of.staff_goes) (is_none of.staff_comes) staff in
    let a = none_is of.sections_go sections_go in
    let b = none_is of.sections_come sections_come in
    let d = none_is of.points_go points_go in
    let e = none_is of.points_come points_come in
    let f = none_is of.staff_goes staff_goes in
    let g = none_is of.staff_comes staff_comes in
    λ i. record { sections_go = a i; sections_come = b i; points_go = d i; points_come = e i; staff_goes = f i; staff_comes = g i }

-- nothing changes from a register to itself
no_changes : (R : Register) → changes R R ≡ nothing
no_changes R =
    let sections = lacks_none same_section section_same section_itself (Grid.sections R.net) in
    let points = lacks_none same_point point_same point_itself (Grid.points R.net) in
    let staff = lacks_none same_employee employee_same employee_itself R.staff in
    λ i. record {
      sections_go = sections i;
      sections_come = sections i;
      points_go = points i;
      points_come = map (in_position R.states) (points i);
      staff_goes = staff i;
      staff_comes = staff i;
    }

pub unseen_updates_agree : UnseenUpdatesAgree
unseen_updates_agree c inside R u good read none =
    let U = after_update R u in
    let alike : near_set inside (changes R U) ≡ near_set inside (changes R R) =
    are_nothing (near_set inside (changes R U)) none ∙ sym (ap (near_set inside) (no_changes R)) in
    agrees_back c inside U R (agree_after c inside R U R R (step_of R u good read) (same_step R good) good.said.network good.said.network (agrees_with_itself c inside R) alike)

-- ---- near a standing clearance

standing_work : (g : Grid) (v : Outlook) (phase : Phase) (work : Option (List ℕ)) → is_standing phase ≡ true → InPhase g phase work v → (w : List ℕ) × (work ≡ Some w)
standing_work g v phase (Some w) standing here = (w, refl)
standing_work g v Closed None standing here = absurd (false≢true standing)
standing_work g v Switching None standing here = absurd (false≢true standing)
standing_work g v _ None standing here = absurd here

module _ (R : Register) (good : IsGood R) (u : Update) (read : IsRead u) (free : Free R u (updated R u)) where
  module _ (c : Id) (r : Record) (found : record_of R.records c ≡ Some r) (standing : is_standing r.phase ≡ true) where
    abbrev fence : List (List ℕ)
    fence = record_fence R.net R.steps r

    its_work : (w : List ℕ) × (r.work ≡ Some w)
    its_work = standing_work R.net (outlook_of R c) r.phase r.work standing
        (subst (λ (o : Option Record). InPlaceAs R.net o (outlook_of R c)) found ((by_phase R good u read free).in_place c).phase)

    none_come : filter (λ (row : SectionRow). has_name fence row.name) (lacking same_section (Grid.sections R.net) (Grid.sections (Register.net (updated R u)))) ≡ []
    none_come = filter-no_member (λ (row : SectionRow). has_name fence row.name) (lacking same_section (Grid.sections R.net) (Grid.sections (Register.net (updated R u))))
        (λ row there. false_from_ne_true (has_name fence row.name) (λ inside.
        let (work, works) = its_work in
        let filed_so = filed_is R good u free read in
        let cut = points_of (steps_in R.steps c 1) in
        let was = section_was R (by_phase R good u read free) u free filed_so.network filed_so.placed c r found standing work works cut (λ q. refl) row
        (lacking_there same_section section_same section_itself (Grid.sections R.net) (Grid.sections (Register.net (updated R u))) row there)
        (in_fence_from_named R.net work cut row.name (subst (λ (names : List (List ℕ)). has_name names row.name ≡ true)
        (fence_is R (by_phase R good u read free) u free filed_so.network filed_so.placed c r found standing work works) inside)) in
        lacking_apart same_section section_same section_itself (Grid.sections R.net) (Grid.sections (Register.net (updated R u))) row there was))

    net_stays_there : net_stays (near_set (has_name (record_fence R.net R.steps r)) (changes R (updated R u))) ≡ true
    net_stays_there =
        let filed_so = filed_is R good u free read in
        let points = points_none R (by_phase R good u read free) u free filed_so.network filed_so.placed c r found standing in
        let come = touching_placed (Register.states (updated R u)) (has_name fence) (lacking same_point (Grid.points R.net) (Grid.points (Register.net (updated R u))))
        ∙ ap (map (in_position (Register.states (updated R u)))) points.1 in
        and_from _ _ (ap is_none (map_none (λ (row : SectionRow). row.name) _ (free.sections c r found standing)))
        (and_from _ _ (ap is_none none_come) (and_from _ _ (ap is_none points.0) (ap is_none come)))

fence_of_found : (R : Register) (c : Id) (r : Record) → record_of R.records c ≡ Some r → clearance_fence R c ≡ record_fence R.net R.steps r
fence_of_found R c r found = ap (found_fence R.net R.steps) found

nothing_stays : (R : Register) (inside : List ℕ → Bool) → net_stays (near_set inside (changes R R)) ≡ true
nothing_stays R inside = ap (λ of. net_stays (near_set inside of)) (no_changes R)

pub standing_fences_stay : StandingFencesStay
standing_fences_stay R u good read c r found standing = after_either R u (λ S. net_stays (near_set (has_name (clearance_fence R c)) (changes R S)) ≡ true)
    (nothing_stays R (has_name (clearance_fence R c)))
    (λ none. subst (λ (fence : List (List ℕ)). net_stays (near_set (has_name fence) (changes R (updated R u))) ≡ true) (sym (fence_of_found R c r found))
    (net_stays_there R good u read (free_of R u none) c r found standing))

-- the staff after an update that leaves it
staff_stays_there : (R : Register) (u : Update) → u.staff ≡ R.staff → staff_stays (changes R (after_update R u)) ≡ true
staff_stays_there R u same = after_either R u (λ S. staff_stays (changes R S) ≡ true)
    (ap staff_stays (no_changes R))
    (λ none. subst (λ (staff : List StaffRow). (is_none (lacking same_employee staff R.staff) && is_none (lacking same_employee R.staff staff)) ≡ true) (sym same)
    (and_from _ _ (ap is_none (lacks_none same_employee employee_same employee_itself R.staff)) (ap is_none (lacks_none same_employee employee_same employee_itself R.staff))))

pub same_staff_agrees : SameStaffAgrees
same_staff_agrees R u good read same c r found standing =
    unseen_updates_agree c (has_name (clearance_fence R c)) R u good read
    (and_from _ _ (standing_fences_stay R u good read c r found standing) (staff_stays_there R u same))
