-- Registers that agree near a clearance give its own commands the same near part.
use Rattle.std.proofs.Common.{◌≡◌, ◌∙◌, inl, inr, ⊎_elim, ℕ, Bool, true, false, ◌&&◌, ◌||◌, List, [], ◌∷◌, Option, Some, None, refl, sym, ap, subst, filter, find, Contains, option_to_list, Less}
use Rattle.std.proofs.Common.{Equal}
use Rattle.clr_rules.proofs.Common.{IsStrictlySortedBy, and_parts, false≢true, false_from_ne_true, nat_list_cmp_total, tied_itself, All-contains, same_Some, point_names, section_names, name_cmp}
use Rattle.clr_rules.proofs.Common.{same_name, has_name, PointRow, SectionRow, one_name, filter-filter_wider, named_clearance, is_near_hold, is_order, Request, Switch, one_id, own_id}
use Rattle.std.proofs.lemmas.Map.Keys.{sorted_tail}
use Rattle.std.proofs.lemmas.Map.Views.{All-after_first}
use Rattle.clr_rules.specs.Agreement.{Agree, extent_near, part_near}
use Rattle.clr_rules.specs.Answer.{crossed_for, fence_for, known_of, requester_for}
use Rattle.clr_rules.specs.Fences.{clearance_fence, order_fence, touching_names}
use Rattle.clr_rules.specs.Good.{IsGoodAsSaid, SwitchOrdersAreOperators, is_operators}
use Rattle.clr_rules.specs.laws.Steps.{IsNoSwitchOrder}
use Rattle.clr_rules.proofs.lists.OpenPhases.{found_open}
use Rattle.clr_rules.specs.Prelude.{Command, Kind, Hold, PointState, Record, StepRow, Id, same_id, Register, greatest_number, record_of, Order}
use Rattle.clr_rules.specs.Isolation.{AreAlike}
use Rattle.clr_rules.specs.Near.{is_asked, is_beside, near_of, near_part, part, switched_points, switched_by}
use Rattle.clr_rules.specs.Shown.{asked_row, covers, fence_to_come, found_phase_requested, includes, is_own_command, is_own_kind}
use Rattle.clr_rules.proofs.lists.Filters.{filter-no_member, itself_says, there_mapped}
use Rattle.clr_rules.proofs.near.NearNamed.{near_named, no_jumper, none_crossed}
use Rattle.clr_rules.proofs.near.NearParts.{fence_named, not_asked, or_false, request_near, switched_named}
use Rattle.clr_rules.proofs.near.NearWords.{near_hold_says, touching_says}
use Rattle.clr_rules.proofs.isolation.SameFences.{included, points-part, same_clearance_fence, same_order_fence, same_record}

-- ---- a part that is seen in the part near a clearance as in the whole register

-- the part of a register at some sections, for a clearance
abbrev at_sections : Register → List (List ℕ) → Id → Register
at_sections R fence c = part R (extent_near R.net c (has_name fence))

module _ (R : Register) (c : Id) (inside : List ℕ → Bool) (fence : List (List ℕ)) (wider : (s : List ℕ) → has_name fence s ≡ true → inside s ≡ true) where
  touching_within : touching_names (Register.net (part_near R c inside)) (has_name fence) ≡ touching_names R.net (has_name fence)
  unfolding touching_names
  touching_within = ap point_names (points-part R c inside (has_name fence) wider)

  beside_wider : (p : List ℕ) → has_name (touching_names R.net (has_name fence)) p ≡ true → has_name (touching_names R.net inside) p ≡ true
  beside_wider p touching =
      let words = (touching_says R.net (has_name fence) (λ s. has_name fence s ≡ true) (λ s. itself_says (has_name fence s)) p).0 touching in
      (touching_says R.net inside (λ s. inside s ≡ true) (λ s. itself_says (inside s)) p).1 (record {
        row = words.row;
        there = words.there;
        named = words.named;
        an_end = ⊎_elim (λ from. inl (wider words.row.from_end from)) (λ to. inr (wider words.row.to_end to)) words.an_end;
      })

  hold_wider : (h : Hold) → is_near_hold (has_name fence) (has_name (touching_names R.net (has_name fence))) (Some c) h ≡ true
      → is_near_hold inside (has_name (touching_names R.net inside)) (Some c) h ≡ true
  hold_wider h is_in =
      let near = (near_hold_says (has_name fence) (has_name (touching_names R.net (has_name fence))) (Some c) (λ s. has_name fence s ≡ true)
      (λ p. has_name (touching_names R.net (has_name fence)) p ≡ true) (λ d. same_id c d ≡ true)
      (λ s. itself_says (has_name fence s)) (λ p. itself_says (has_name (touching_names R.net (has_name fence)) p)) (λ d. itself_says (same_id c d)) h).0 is_in in
      (near_hold_says inside (has_name (touching_names R.net inside)) (Some c) (λ s. inside s ≡ true)
      (λ p. has_name (touching_names R.net inside) p ≡ true) (λ d. same_id c d ≡ true)
      (λ s. itself_says (inside s)) (λ p. itself_says (has_name (touching_names R.net inside) p)) (λ d. itself_says (same_id c d)) h).1
      (⊎_elim (λ at_point. inl (at_point.0, beside_wider h.place at_point.1))
      (λ other. inr (⊎_elim (λ at_section. inl (at_section.0, wider h.place at_section.1)) (λ crew. inr crew) other)) near)

  -- the part at sections inside is that of the part near the clearance
  at_sections-part : at_sections (part_near R c inside) fence c ≡ at_sections R fence c
  at_sections-part =
      let beside = has_name (touching_names R.net (has_name fence)) in
      let sections : filter (λ (row : SectionRow). has_name fence row.name) (filter (λ row. inside row.name) R.net.sections) ≡ filter (λ row. has_name fence row.name) R.net.sections =
      filter-filter_wider (λ (row : SectionRow). has_name fence row.name) (λ row. inside row.name) (λ row is_in. wider row.name is_in) R.net.sections in
      let points : filter (λ (p : PointRow). beside p.name) (filter (λ p. has_name (touching_names R.net inside) p.name) R.net.points) ≡ filter (λ p. beside p.name) R.net.points =
      filter-filter_wider (λ (p : PointRow). beside p.name) (λ p. has_name (touching_names R.net inside) p.name) (λ p is_in. beside_wider p.name is_in) R.net.points in
      let states : filter (λ (state : PointState). beside state.point) (filter (λ state. has_name (touching_names R.net inside) state.point) R.states) ≡ filter (λ state. beside state.point) R.states =
      filter-filter_wider (λ (state : PointState). beside state.point) (λ state. has_name (touching_names R.net inside) state.point) (λ state is_in. beside_wider state.point is_in) R.states in
      let records : filter (λ (r : Record). same_id c r.id) (filter (λ r. same_id c r.id) R.records) ≡ filter (λ r. same_id c r.id) R.records =
      filter-filter_wider (λ (r : Record). same_id c r.id) (λ r. same_id c r.id) (λ r is_in. is_in) R.records in
      let steps : filter (λ (row : StepRow). same_id c row.id) (filter (λ row. same_id c row.id) R.steps) ≡ filter (λ row. same_id c row.id) R.steps =
      filter-filter_wider (λ (row : StepRow). same_id c row.id) (λ row. same_id c row.id) (λ row is_in. is_in) R.steps in
      let holds : filter (is_near_hold (has_name fence) beside (Some c)) (filter (is_near_hold inside (has_name (touching_names R.net inside)) (Some c)) R.holds)
      ≡ filter (is_near_hold (has_name fence) beside (Some c)) R.holds =
      filter-filter_wider (is_near_hold (has_name fence) beside (Some c)) (is_near_hold inside (has_name (touching_names R.net inside)) (Some c)) hold_wider R.holds in
      ap (λ (names : List (List ℕ)). part (part_near R c inside)
      (record { sections = has_name fence; holds_at = has_name fence; points = has_name names; clearance = Some c })) touching_within
      ∙ (λ i. record {
        net = record { sections = sections i; points = points i };
        staff = R.staff;
        states = states i;
        records = records i;
        steps = steps i;
        holds = holds i;
      })

-- ---- the near part of a command that names a clearance which is no switch order

-- an open record of no operator is no switch order
pub open_is_none : (R : Register) (c : Id) → SwitchOrdersAreOperators R → is_operators R c.requester ≡ false → found_open (record_of R.records c) ≡ true → IsNoSwitchOrder R c
open_is_none R c orders no_operator unclosed r read = orders.without_work c r read (sym (ap found_open read) ∙ unclosed) ∙ no_operator

-- nor is one in the second of two registers, where it is none in the first
pub none_in_second : (c : Id) (R S : Register) → record_of R.records c ≡ record_of S.records c → IsNoSwitchOrder R c → IsNoSwitchOrder S c
none_in_second c R S same none r read = none r (same ∙ read)

module _ (R : Register) (c : Id) (none : IsNoSwitchOrder R c) where
  no_switch_found : (o : Option Record) → record_of R.records c ≡ o → switched_by R c o ≡ []
  no_switch_found None read = refl
  no_switch_found (Some r) read = rw (none r read) refl

  near_as_part : (q : Command) → named_clearance q.kind ≡ Some c → near_part R q ≡ at_sections R (fence_for R q.kind) c
  near_as_part q named =
      let none : switched_points R q.kind ≡ [] = switched_named R q.kind c named ∙ no_switch_found (record_of R.records c) refl in
      let beside = λ (p : List ℕ). has_name (touching_names R.net (has_name (fence_for R q.kind))) p in
      let by_fence : (p : List ℕ) → is_beside R (known_of R q) q.kind p ≡ beside p =
      λ p. or_false (beside p) (has_name (switched_points R q.kind) p) (ap (λ (names : List (List ℕ)). has_name names p) none) in
      let listed : (s : List ℕ) → (has_name (fence_for R q.kind) s || is_asked q.kind s) ≡ has_name (fence_for R q.kind) s =
      λ s. or_false (has_name (fence_for R q.kind) s) (is_asked q.kind s) (not_asked q.kind c named s) in
      near_named R q c named ∙ (λ i. part R (record {
        sections = λ s. listed s i;
        holds_at = has_name (fence_for R q.kind);
        points = λ p. by_fence p i;
        clearance = named i;
      }))

-- ---- an own command that names the clearance

-- the set includes the fence that an own command looks at
fence_covered : (c : Id) (inside : List ℕ → Bool) (R : Register) (kind : Kind) → named_clearance kind ≡ Some c
    → includes inside (clearance_fence R c) ≡ true → includes inside (fence_to_come c R kind) ≡ true
    → (is_order kind ≡ true → found_phase_requested (record_of R.records c) ≡ true) → includes inside (fence_for R kind) ≡ true
fence_covered c inside R (Order d points tasks) named present coming requested =
    let own : d ≡ c = same_Some d c named in
    let meant : same_id c d ≡ true = subst (λ (e : Id). same_id c e ≡ true) (sym own) (own_id c) in
    let covered = rw (meant, requested refl) at coming in
    ap (λ (e : Id). includes inside (order_fence R e points)) own ∙ covered
fence_covered c inside R kind named present coming requested =
    ap (includes inside) (fence_named R kind c named refl) ∙ present

module _ (c : Id) (inside : List ℕ → Bool) (R S : Register) (agree : Agree c inside R S) (R_good : IsGoodAsSaid R) (S_good : IsGoodAsSaid S) where
  -- and the fence is the same in both
  same_fence : (kind : Kind) → named_clearance kind ≡ Some c → (is_order kind ≡ true → found_phase_requested (record_of R.records c) ≡ true)
      → includes inside (fence_for R kind) ≡ true → fence_for R kind ≡ fence_for S kind
  same_fence (Order d points tasks) named requested covered =
      let own : d ≡ c = same_Some d c named in
      ap (λ (e : Id). order_fence R e points) own
      ∙ same_order_fence R S c inside agree R_good S_good points (requested refl) (ap (λ (e : Id). includes inside (order_fence R e points)) (sym own) ∙ covered)
      ∙ ap (λ (e : Id). order_fence S e points) (sym own)
  same_fence kind named requested covered =
      let is_fence = fence_named R kind c named refl in
      is_fence ∙ same_clearance_fence R S c inside agree R_good S_good (ap (includes inside) (sym is_fence) ∙ covered) ∙ sym (fence_named S kind c named refl)

  module _ (R_none : IsNoSwitchOrder R c) (S_none : IsNoSwitchOrder S c) where
    named_look_alike : (q : Command) → named_clearance q.kind ≡ Some c → (is_order q.kind ≡ true → found_phase_requested (record_of R.records c) ≡ true)
        → includes inside (fence_for R q.kind) ≡ true → near_of R q ≡ near_of S q
    named_look_alike q named requested covered =
        let fence = same_fence q.kind named requested covered in
        let first : (s : List ℕ) → has_name (fence_for R q.kind) s ≡ true → inside s ≡ true = λ s is_in. included inside (fence_for R q.kind) s covered is_in in
        let second : (s : List ℕ) → has_name (fence_for S q.kind) s ≡ true → inside s ≡ true =
        λ s is_in. first s (ap (λ (names : List (List ℕ)). has_name names s) fence ∙ is_in) in
        let rows : near_part R q ≡ near_part S q =
        near_as_part R c R_none q named ∙ sym (at_sections-part R c inside (fence_for R q.kind) first)
        ∙ (λ i. at_sections (agree.near i) (fence i) c)
        ∙ at_sections-part S c inside (fence_for S q.kind) second ∙ sym (near_as_part S c S_none q named) in
        let requester : requester_for q.caller (named_clearance q.kind) ≡ c.requester = ap (requester_for q.caller) named in
        let greatest : greatest_number R.records (requester_for q.caller (named_clearance q.kind)) ≡ greatest_number S.records (requester_for q.caller (named_clearance q.kind)) =
        ap (greatest_number R.records) requester ∙ agree.greatest ∙ ap (greatest_number S.records) (sym requester) in
        let crossed : crossed_for R q.kind ≡ crossed_for S q.kind =
        none_crossed R q.kind (no_jumper q.kind c named) ∙ sym (none_crossed S q.kind (no_jumper q.kind c named)) in
        λ i. record { known = record { greatest = greatest i; fence = fence i; crossed = crossed i }; rows = rows i }

-- ---- an own request

-- in a network at most one section has a name
only_row : (section : List ℕ) (rows : List SectionRow) → IsStrictlySortedBy name_cmp (section_names rows)
    → filter (λ row. same_name section row.name) rows ≡ option_to_list (find (λ row. same_name section row.name) rows)
only_row section [] rises = refl
only_row section (row ∷ rows) rises = at (same_name section row.name) refl (only_row section rows (sorted_tail name_cmp row.name (section_names rows) rises))
  where
    later : same_name section row.name ≡ true → (next : SectionRow) → Contains rows next → same_name section next.name ≡ false
    later here next there = false_from_ne_true (same_name section next.name) (λ again.
        let below : name_cmp row.name next.name ≡ Less = All-contains (λ (n : List ℕ). name_cmp row.name n ≡ Less) (section_names rows) next.name
        (All-after_first name_cmp row.name (section_names rows) rises) (there_mapped (λ (row : SectionRow). row.name) rows next there) in
        let same : row.name ≡ next.name = sym (one_name section row.name here) ∙ one_name section next.name again in
        let tied : name_cmp row.name row.name ≡ Equal = tied_itself nat_list_cmp_total row.name in
        let tied_next : name_cmp row.name next.name ≡ Equal = ap (name_cmp row.name) (sym same) ∙ tied in
        absurd (cc (below, tied_next)))

    at : (b : Bool) → same_name section row.name ≡ b
        → filter (λ row. same_name section row.name) rows ≡ option_to_list (find (λ row. same_name section row.name) rows)
        → filter (λ row. same_name section row.name) (row ∷ rows) ≡ option_to_list (find (λ row. same_name section row.name) (row ∷ rows))
    at true here more = rw here (ap (λ l. row ∷ l) (filter-no_member (λ row. same_name section row.name) rows (later here)))
    at false differs more = rw differs more

request_look_alike : (c : Id) (inside : List ℕ → Bool) (R S : Register) → Agree c inside R S → IsGoodAsSaid R → IsGoodAsSaid S
    → (by : List ℕ) (at : ℕ) (section : List ℕ) → same_name c.requester by ≡ true → asked_row R (Request section) ≡ asked_row S (Request section)
    → near_of R (record { caller = by; moment = at; kind = Request section }) ≡ near_of S (record { caller = by; moment = at; kind = Request section })
request_look_alike c inside R S agree R_good S_good by at section own asked =
    let requester : by ≡ c.requester = sym (one_name c.requester by own) in
    let greatest : greatest_number R.records by ≡ greatest_number S.records by =
    ap (greatest_number R.records) requester ∙ agree.greatest ∙ ap (greatest_number S.records) (sym requester) in
    let staff : R.staff ≡ S.staff = ap (λ (P : Register). P.staff) agree.near in
    let sections : filter (λ (row : SectionRow). same_name section row.name) R.net.sections ≡ filter (λ row. same_name section row.name) S.net.sections =
    only_row section R.net.sections R_good.network.sections_rise ∙ ap option_to_list asked ∙ sym (only_row section S.net.sections S_good.network.sections_rise) in
    let first = request_near R by at section in
    let second = request_near S by at section in
    let points = first.no_point ∙ sym second.no_point in
    let states = first.no_state ∙ sym second.no_state in
    let records = first.no_record ∙ sym second.no_record in
    let steps = first.no_step ∙ sym second.no_step in
    let holds = first.no_hold ∙ sym second.no_hold in
    λ i. record {
      known = record { greatest = greatest i; fence = []; crossed = None };
      rows = record {
        net = record { sections = sections i; points = points i };
        staff = staff i;
        states = states i;
        records = records i;
        steps = steps i;
        holds = holds i;
      };
    }

-- ---- each own command

-- an own command that names none is a request of the requester
pub own_request : (c : Id) (inside : List ℕ → Bool) (R S : Register) → Agree c inside R S → IsGoodAsSaid R → IsGoodAsSaid S
    → (by : List ℕ) (at : ℕ) (kind : Kind) → named_clearance kind ≡ None → is_own_kind c by kind None ≡ true → asked_row R kind ≡ asked_row S kind
    → near_of R (record { caller = by; moment = at; kind = kind }) ≡ near_of S (record { caller = by; moment = at; kind = kind })
own_request c inside R S agree R_good S_good by at (Request section) none own asked = request_look_alike c inside R S agree R_good S_good by at section own asked
own_request c inside R S agree R_good S_good by at (Switch tasks) none own asked = absurd (false≢true own)
own_request c inside R S agree R_good S_good by at _ none own asked = cc

module _ (c : Id) (inside : List ℕ → Bool) (R S : Register) (q : Command) (alike : AreAlike c inside R S (q ∷ []))
    (asked : asked_row R q.kind ≡ asked_row S q.kind) (none : IsNoSwitchOrder R c) (requested : is_order q.kind ≡ true → found_phase_requested (record_of R.records c) ≡ true) where
  second_none : IsNoSwitchOrder S c
  second_none = none_in_second c R S (same_record R S c inside alike.agree) none

  covered_here : (includes inside (clearance_fence R c) ≡ true) × (includes inside (fence_to_come c R q.kind) ≡ true)
  unfolding covers
  covered_here =
      let parts = and_parts (includes inside (clearance_fence R c) && includes inside (fence_to_come c R q.kind)) _ alike.covered in
      and_parts (includes inside (clearance_fence R c)) (includes inside (fence_to_come c R q.kind)) parts.0

  by_name : (named : Option Id) → named_clearance q.kind ≡ named → is_own_kind c q.caller q.kind named ≡ true → near_of R q ≡ near_of S q
  by_name None is own = own_request c inside R S alike.agree alike.first_good alike.second_good q.caller q.moment q.kind is own asked
  by_name (Some d) is own =
      let named : named_clearance q.kind ≡ Some c = is ∙ ap Some (sym (one_id c d own)) in
      named_look_alike c inside R S alike.agree alike.first_good alike.second_good none second_none q named requested
      (fence_covered c inside R q.kind named covered_here.0 covered_here.1 requested)

pub look_alike : (c : Id) (inside : List ℕ → Bool) (R S : Register) (q : Command) → AreAlike c inside R S (q ∷ [])
    → IsNoSwitchOrder R c → is_own_command c q ≡ true → asked_row R q.kind ≡ asked_row S q.kind
    → (is_order q.kind ≡ true → found_phase_requested (record_of R.records c) ≡ true)
    → near_of R q ≡ near_of S q
look_alike c inside R S q alike none own asked requested = by_name c inside R S q alike asked none requested (named_clearance q.kind) refl own
