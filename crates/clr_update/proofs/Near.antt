-- Updates that change the same near a set keep agreement there.
use Rattle.std.proofs.Common.{◌≡◌, ◌∙◌, ⊎_elim, ℕ, Bool, true, false, ◌&&◌, ◌||◌, not, cond, List, [], ◌∷◌, filter, map, Contains, Option, None, Some, refl, sym, ap, subst, is_some, option_map, unwrap_or}
use Rattle.clr_net.proofs.ListFacts.{map-map}
use Rattle.clr_net.proofs.Walks.{same_tests}
use Rattle.clr_rules.proofs.good.Opening.{in_key_order-from_sorted}
use Rattle.clr_rules.proofs.isolation.Agreement.{touching_named}
use Rattle.clr_rules.proofs.isolation.SameFences.{points-part}
use Rattle.clr_rules.proofs.lists.StateFacts.{state_is_known}
use Rattle.clr_rules.specs.Agreement.{Agree, part_near}
use Rattle.clr_rules.specs.Fences.{touching_names}
use Rattle.clr_rules.specs.Holds.{is_near_hold}
use Rattle.clr_rules.specs.Prelude.{greatest_number, hand_of, holds_of, is_crew, is_section_kind}
use Rattle.clr_rules.specs.States.{hand_in}
use Rattle.clr_shelf.proofs.Groups.{row_of-filter_inside}
use Rattle.clr_shelf.proofs.Keys.{equal, same_text}
use Rattle.clr_staff.specs.Staff.{IsStaff}
use Rattle.clr_update.proofs.Common.{Changes, Contains-cases, Contains-filter, Contains-here, Contains-later, Grid, Hold, Id, IsNetwork, PointRow, PointState, Record, Register, SectionRow, StaffRow, StepRow}
use Rattle.clr_update.proofs.Common.{both_ways, changes, has_name, has_name-row, in_key_order, in_key_order-filter, in_position, is_point_kind}
use Rattle.clr_update.proofs.Common.{kept_there, lacking, list_any, member-row_of, name_cmp, nat_list_cmp_total, near_set, point_names, row_named, row_of-member}
use Rattle.clr_update.proofs.Common.{same_employee, same_id, same_point, same_section, state_key, state_of, touches, unplaced, unplaced_net}
use Rattle.clr_update.proofs.Fences.{points_rise, sections_rise, touching_placed, unplaced_part}
use Rattle.clr_update.proofs.Rows.{determined, employee_itself, employee_same, lacking_apart, lacking_there, no_member, one_row, point_itself, point_same, same_rows, section_itself, section_same, there_or_lacking}

-- ---- filters

pub filter-members : {X : Type 0} (p q : X → Bool) (xs : List X) → ((x : X) → Contains xs x → p x ≡ q x) → filter p xs ≡ filter q xs
filter-members p q [] alike = refl
filter-members p q (x ∷ xs) alike =
    let here = alike x (Contains-here x xs) in
    let more = filter-members p q xs (λ y there. alike y (Contains-later x y xs there)) in
    λ i. cond (here i) (x ∷ more i) (more i)

filter-all : {X : Type 0} (xs : List X) → filter (λ x. true) xs ≡ xs
filter-all [] = refl
filter-all (x ∷ xs) = ap (λ l. x ∷ l) (filter-all xs)

-- functions that give one list of one list agree at its members
mapped_alike : {X Y : Type 0} (f g : X → Y) (xs : List X) → map f xs ≡ map g xs → (x : X) → Contains xs x → f x ≡ g x
mapped_alike f g [] same x there = absurd (no_member x there)
mapped_alike {X} f g (y ∷ xs) same x there = ⊎_elim (λ is. subst (λ (z : X). f z ≡ g z) is here) (λ later. mapped_alike f g xs rest x later)
    (Contains-cases y x xs there)
  where
    here : f y ≡ g y
    here = cc same

    rest : map f xs ≡ map g xs
    rest = cc same

-- no row of a list is lacking in it
pub lacks_none : {Row : Type 0} (same : Row → Row → Bool) (exact : (a b : Row) → same a b ≡ true → a ≡ b) (itself : (a : Row) → same a a ≡ true) (rows : List Row)
    → lacking same rows rows ≡ []
lacks_none {Row} same exact itself rows = nothing (lacking same rows rows)
    (λ row there. lacking_apart same exact itself rows rows row there (lacking_there same exact itself rows rows row there))
  where
    nothing : (xs : List Row) → ((x : Row) → Contains xs x → ⊥) → xs ≡ []
    nothing [] none = refl
    nothing (x ∷ xs) none = absurd (none x (Contains-here x xs))

-- ---- the points that touch a set

module _ (g : Grid) (net : IsNetwork g) (inside : List ℕ → Bool) where
  -- the point of a name touches it exactly where its row does
  pub touching_row : (p : PointRow) → Contains g.points p → has_name (touching_names g inside) p.name ≡ touches inside p
  unfolding touching_names
  touching_row p there = same_tests (has_name (touching_names g inside) p.name) (touches inside p)
      (λ named.
      let (q, kept, same) = row_named (λ (q : PointRow). q.name) (filter (touches inside) g.points) p.name named in
      let both = kept_there (touches inside) g.points q kept in
      subst (λ (x : PointRow). touches inside x ≡ true) (sym (one_row (λ (q : PointRow). q.name) g.points (points_rise g net) p q there both.0 same)) both.1)
      (touching_named g inside p there)

  pub touching_rows : filter (λ (p : PointRow). has_name (touching_names g inside) p.name) g.points ≡ filter (touches inside) g.points
  touching_rows = filter-members (λ (p : PointRow). has_name (touching_names g inside) p.name) (touches inside) g.points touching_row

  -- a name that touches it is that of a row
  pub touching_of : (p : List ℕ) → has_name (touching_names g inside) p ≡ true → (q : PointRow) × Contains (filter (touches inside) g.points) q × (p ≡ q.name)
  unfolding touching_names
  touching_of p named = row_named (λ (q : PointRow). q.name) (filter (touches inside) g.points) p named

-- ---- from one register to the next

-- what an update leaves, accepted or refused
pub record IsStep (R U : Register) : Type 0 where
  pub network : IsNetwork U.net
  pub placed : unplaced_net U.net ≡ U.net
  pub staff : IsStaff U.staff
  pub records : U.records ≡ R.records
  pub steps : U.steps ≡ R.steps
  pub holds : U.holds ≡ R.holds
  pub keys : map state_key U.states ≡ point_names (Grid.points U.net)
  pub in_order : in_key_order name_cmp state_key U.states ≡ true
  -- a point where something is held has one row in both
  pub held : (h : Hold) → Contains R.holds h → is_point_kind h.kind ≡ true
      → (q : PointRow) × Contains (Grid.points R.net) q × Contains (Grid.points U.net) q × (h.place ≡ q.name)
  -- a row that stays keeps its state
  pub stays : (p : PointRow) → Contains (Grid.points R.net) p → Contains (Grid.points U.net) p → state_of U.states p.name ≡ state_of R.states p.name
  -- and one that comes is in nobody's hand
  pub comes : (p : PointRow) → Contains (lacking same_point (Grid.points R.net) (Grid.points U.net)) p → hand_of U.states p.name ≡ None

-- the state of a known point
known_state : (U : Register) → map state_key U.states ≡ point_names (Grid.points U.net) → (p : PointRow) → Contains (Grid.points U.net) p
    → (x : PointState) × (state_of U.states p.name ≡ Some x)
known_state U keys p there = at (state_of U.states p.name) refl
  where
    some : is_some (state_of U.states p.name) ≡ true
    some = state_is_known U.states p.name ∙ ap (λ (names : List (List ℕ)). has_name names p.name) keys ∙ has_name-row (λ (q : PointRow). q.name) (Grid.points U.net) p there

    at : (o : Option PointState) → state_of U.states p.name ≡ o → (x : PointState) × (state_of U.states p.name ≡ Some x)
    at None is = absurd (both_ways (is_some (state_of U.states p.name)) (ap is_some is) some)
    at (Some x) is = (x, is)

-- states with the same point, position and hand are one
one_state : (a b : PointState) → a.point ≡ b.point → a.position ≡ b.position → a.hand ≡ b.hand → a ≡ b
one_state a b point position hand = λ i. record { point = point i; position = position i; hand = hand i }

state_at : (states : List PointState) (p : List ℕ) (x : PointState) → state_of states p ≡ Some x → x.point ≡ p
state_at states p x found = same_text x.point p (equal (name_cmp x.point p) (member-row_of name_cmp state_key nat_list_cmp_total p x states found).1)

module _ (c : Id) (inside : List ℕ → Bool) (R U S V : Register) (first : IsStep R U) (second : IsStep S V) (R_net : IsNetwork R.net) (S_net : IsNetwork S.net) (agree : Agree c inside R S)
    (alike : near_set inside (changes R U) ≡ near_set inside (changes S V)) where
  -- ---- rows

  same_staff : U.staff ≡ V.staff
  same_staff = sym (filter-all U.staff)
      ∙ determined same_employee employee_same employee_itself (λ (row : StaffRow). true) (λ (row : StaffRow). row.name) R.staff U.staff S.staff V.staff (rises U first.staff) (rises V second.staff)
      (ap (filter (λ (row : StaffRow). true)) (ap Register.staff agree.near))
      (ap (λ (of : Changes). filter (λ (row : StaffRow). true) of.staff_goes) alike)
      (ap (λ (of : Changes). filter (λ (row : StaffRow). true) of.staff_comes) alike)
      ∙ filter-all V.staff
    where
      rises : (T : Register) → IsStaff T.staff → in_key_order name_cmp (λ (row : StaffRow). row.name) T.staff ≡ true
      rises T staff = in_key_order-from_sorted name_cmp (λ (row : StaffRow). row.name) T.staff staff.names_rise

  same_sections : filter (λ (row : SectionRow). inside row.name) (Grid.sections U.net) ≡ filter (λ (row : SectionRow). inside row.name) (Grid.sections V.net)
  same_sections = determined same_section section_same section_itself (λ (row : SectionRow). inside row.name) (λ (row : SectionRow). row.name)
      (Grid.sections R.net) (Grid.sections U.net) (Grid.sections S.net) (Grid.sections V.net) (sections_rise U.net first.network) (sections_rise V.net second.network)
      (ap (λ (P : Register). Grid.sections P.net) agree.near) (ap Changes.sections_go alike) (ap Changes.sections_come alike)

  -- the points that touch the set, before
  touching_before : filter (touches inside) (Grid.points R.net) ≡ filter (touches inside) (Grid.points S.net)
  touching_before = sym (points-part R c inside inside (λ s is. is)) ∙ ap (λ (P : Register). filter (touches inside) (Grid.points P.net)) agree.near ∙ points-part S c inside inside (λ s is. is)

  -- those that come, each in its position
  placed_alike : map (in_position U.states) (filter (touches inside) (lacking same_point (Grid.points R.net) (Grid.points U.net)))
      ≡ map (in_position V.states) (filter (touches inside) (lacking same_point (Grid.points S.net) (Grid.points V.net)))
  placed_alike = sym (touching_placed U.states inside (lacking same_point (Grid.points R.net) (Grid.points U.net))) ∙ ap Changes.points_come alike
      ∙ touching_placed V.states inside (lacking same_point (Grid.points S.net) (Grid.points V.net))

  unplaced_come : (T W : Register) → unplaced_net W.net ≡ W.net
      → map unplaced (map (in_position W.states) (filter (touches inside) (lacking same_point (Grid.points T.net) (Grid.points W.net)))) ≡ filter (touches inside) (lacking same_point (Grid.points T.net) (Grid.points W.net))
  unplaced_come T W placed =
      let new = lacking same_point (Grid.points T.net) (Grid.points W.net) in
      map-map unplaced (in_position W.states) (filter (touches inside) new)
      ∙ unplaced_part (touches inside) new (unplaced_part (λ row. not (list_any (same_point row) (Grid.points T.net))) (Grid.points W.net) (ap Grid.points placed))

  same_come : filter (touches inside) (lacking same_point (Grid.points R.net) (Grid.points U.net)) ≡ filter (touches inside) (lacking same_point (Grid.points S.net) (Grid.points V.net))
  same_come = sym (unplaced_come R U first.placed) ∙ ap (map unplaced) placed_alike ∙ unplaced_come S V second.placed

  touching_after : filter (touches inside) (Grid.points U.net) ≡ filter (touches inside) (Grid.points V.net)
  touching_after = determined same_point point_same point_itself (touches inside) (λ (p : PointRow). p.name) (Grid.points R.net) (Grid.points U.net) (Grid.points S.net) (Grid.points V.net)
      (points_rise U.net first.network) (points_rise V.net second.network) touching_before (ap Changes.points_go alike) same_come

  same_names : touching_names U.net inside ≡ touching_names V.net inside
  unfolding touching_names
  same_names = ap point_names touching_after

  names_before : touching_names R.net inside ≡ touching_names S.net inside
  unfolding touching_names
  names_before = ap point_names touching_before

  same_points : filter (λ (p : PointRow). has_name (touching_names U.net inside) p.name) (Grid.points U.net) ≡ filter (λ (p : PointRow). has_name (touching_names V.net inside) p.name) (Grid.points V.net)
  same_points = touching_rows U.net first.network inside ∙ touching_after ∙ sym (touching_rows V.net second.network inside)

  -- ---- states

  near_state : (T : Register) (p : List ℕ) → has_name (touching_names T.net inside) p ≡ true → state_of (Register.states (part_near T c inside)) p ≡ state_of T.states p
  near_state T p named = row_of-filter_inside name_cmp state_key nat_list_cmp_total (λ (state : PointState). has_name (touching_names T.net inside) state.point) p T.states
      (λ state tied. subst (λ (q : List ℕ). has_name (touching_names T.net inside) q ≡ true) (sym (same_text state.point p (equal (name_cmp state.point p) tied))) named)

  -- of a point that was there
  state_before : (q : PointRow) → Contains (Grid.points R.net) q → touches inside q ≡ true → state_of R.states q.name ≡ state_of S.states q.name
  state_before q there touching =
      let named = touching_row R.net R_net inside q there ∙ touching in
      sym (near_state R q.name named) ∙ ap (λ (P : Register). state_of P.states q.name) agree.near
      ∙ near_state S q.name (ap (λ (names : List (List ℕ)). has_name names q.name) (sym names_before) ∙ named)

  -- of a point that comes
  state_new : (q : PointRow) → Contains (filter (touches inside) (lacking same_point (Grid.points R.net) (Grid.points U.net))) q → state_of U.states q.name ≡ state_of V.states q.name
  state_new q there =
      let other = subst (λ (l : List PointRow). Contains l q) same_come there in
      let (x, x_is) = known_state U first.keys q (lacking_there same_point point_same point_itself (Grid.points R.net) (Grid.points U.net) q (kept_there (touches inside) _ q there).0) in
      let (y, y_is) = known_state V second.keys q (lacking_there same_point point_same point_itself (Grid.points S.net) (Grid.points V.net) q (kept_there (touches inside) _ q other).0) in
      let placed : in_position U.states q ≡ in_position V.states q =
      mapped_alike (in_position U.states) (in_position V.states) (filter (touches inside) (lacking same_point (Grid.points R.net) (Grid.points U.net)))
      (placed_alike ∙ ap (map (in_position V.states)) (sym same_come)) q there in
      let position : x.position ≡ y.position =
      sym (ap (λ o. unwrap_or (option_map (λ (state : PointState). state.position) o) q.position) x_is) ∙ ap PointRow.position placed
      ∙ ap (λ o. unwrap_or (option_map (λ (state : PointState). state.position) o) q.position) y_is in
      let x_free : x.hand ≡ None = sym (ap hand_in x_is) ∙ first.comes q (kept_there (touches inside) _ q there).0 in
      let y_free : y.hand ≡ None = sym (ap hand_in y_is) ∙ second.comes q (kept_there (touches inside) _ q other).0 in
      x_is ∙ ap Some (one_state x y (state_at U.states q.name x x_is ∙ sym (state_at V.states q.name y y_is)) position (x_free ∙ sym y_free)) ∙ sym y_is

  state_after : (p : List ℕ) → has_name (touching_names U.net inside) p ≡ true → state_of U.states p ≡ state_of V.states p
  state_after p named =
      let (q, there, same) = touching_of U.net first.network inside p named in
      let (in_U, touching) = kept_there (touches inside) (Grid.points U.net) q there in
      let in_V = (kept_there (touches inside) (Grid.points V.net) q (subst (λ (l : List PointRow). Contains l q) touching_after there)).0 in
      ap (state_of U.states) same
      ∙ ⊎_elim (λ before.
      let other = (kept_there (touches inside) (Grid.points S.net) q (subst (λ (l : List PointRow). Contains l q) touching_before (Contains-filter (touches inside) (Grid.points R.net) q before touching))).0 in
      first.stays q before in_U ∙ state_before q before touching ∙ sym (second.stays q other in_V))
      (λ new. state_new q (Contains-filter (touches inside) _ q new touching))
      (there_or_lacking same_point point_same point_itself (Grid.points R.net) (Grid.points U.net) q in_U)
      ∙ ap (state_of V.states) (sym same)

  one_way : (T W : Register) → in_key_order name_cmp state_key T.states ≡ true → touching_names T.net inside ≡ touching_names W.net inside
      → ((p : List ℕ) → has_name (touching_names T.net inside) p ≡ true → state_of T.states p ≡ state_of W.states p)
      → (x : PointState) → Contains (filter (λ (state : PointState). has_name (touching_names T.net inside) state.point) T.states) x
      → Contains (filter (λ (state : PointState). has_name (touching_names W.net inside) state.point) W.states) x
  one_way T W ordered names same x there =
      let (here, near) = kept_there (λ (state : PointState). has_name (touching_names T.net inside) state.point) T.states x there in
      let read = sym (same x.point near) ∙ row_of-member name_cmp state_key nat_list_cmp_total x T.states ordered here in
      Contains-filter (λ (state : PointState). has_name (touching_names W.net inside) state.point) W.states x
      (member-row_of name_cmp state_key nat_list_cmp_total x.point x W.states read).0 (ap (λ (l : List (List ℕ)). has_name l x.point) (sym names) ∙ near)

  same_states : filter (λ (state : PointState). has_name (touching_names U.net inside) state.point) U.states ≡ filter (λ (state : PointState). has_name (touching_names V.net inside) state.point) V.states
  same_states = same_rows state_key _ _
      (in_key_order-filter name_cmp state_key nat_list_cmp_total (λ (state : PointState). has_name (touching_names U.net inside) state.point) U.states first.in_order)
      (in_key_order-filter name_cmp state_key nat_list_cmp_total (λ (state : PointState). has_name (touching_names V.net inside) state.point) V.states second.in_order)
      (one_way U V first.in_order same_names state_after)
      (one_way V U second.in_order (sym same_names) (λ p named. sym (state_after p (ap (λ (l : List (List ℕ)). has_name l p) same_names ∙ named))))

  -- ---- records, steps, holds

  near_holds : (T W : Register) → IsNetwork T.net → IsStep T W
      → filter (is_near_hold inside (has_name (touching_names W.net inside)) (Some c)) W.holds ≡ filter (is_near_hold inside (has_name (touching_names T.net inside)) (Some c)) T.holds
  near_holds T W net step = ap (filter (is_near_hold inside (has_name (touching_names W.net inside)) (Some c))) step.holds
      ∙ filter-members (is_near_hold inside (has_name (touching_names W.net inside)) (Some c)) (is_near_hold inside (has_name (touching_names T.net inside)) (Some c)) T.holds
      (λ h there. ap (λ b. b || ((is_section_kind h.kind && inside h.place) || (is_crew h.kind && same_id c h.id))) (at h there (is_point_kind h.kind) refl))
    where
      at : (h : Hold) → Contains T.holds h → (b : Bool) → is_point_kind h.kind ≡ b
          → (is_point_kind h.kind && has_name (touching_names W.net inside) h.place) ≡ (is_point_kind h.kind && has_name (touching_names T.net inside) h.place)
      at h there true is =
          let (q, was, now, same) = step.held h there is in
          ap (λ b. is_point_kind h.kind && b)
          (ap (has_name (touching_names W.net inside)) same ∙ touching_row W.net step.network inside q now ∙ sym (touching_row T.net net inside q was) ∙ ap (has_name (touching_names T.net inside)) (sym same))
      at h there false is = rw is refl

  same_holds : filter (is_near_hold inside (has_name (touching_names U.net inside)) (Some c)) U.holds ≡ filter (is_near_hold inside (has_name (touching_names V.net inside)) (Some c)) V.holds
  same_holds = near_holds R U R_net first ∙ ap Register.holds agree.near ∙ sym (near_holds S V S_net second)

  same_records : filter (λ (r : Record). same_id c r.id) U.records ≡ filter (λ (r : Record). same_id c r.id) V.records
  same_records = ap (filter (λ (r : Record). same_id c r.id)) first.records ∙ ap Register.records agree.near ∙ sym (ap (filter (λ (r : Record). same_id c r.id)) second.records)

  same_steps : filter (λ (row : StepRow). same_id c row.id) U.steps ≡ filter (λ (row : StepRow). same_id c row.id) V.steps
  same_steps = ap (filter (λ (row : StepRow). same_id c row.id)) first.steps ∙ ap Register.steps agree.near ∙ sym (ap (filter (λ (row : StepRow). same_id c row.id)) second.steps)

  pub agree_after : Agree c inside U V
  agree_after = record {
    near = λ i. record {
      net = record { sections = same_sections i; points = same_points i };
      staff = same_staff i;
      states = same_states i;
      records = same_records i;
      steps = same_steps i;
      holds = same_holds i;
    };
    own_holds = ap (λ (holds : List Hold). holds_of holds c) first.holds ∙ agree.own_holds ∙ sym (ap (λ (holds : List Hold). holds_of holds c) second.holds);
    greatest = ap (λ (records : List Record). greatest_number records c.requester) first.records ∙ agree.greatest
        ∙ sym (ap (λ (records : List Record). greatest_number records c.requester) second.records);
  }
