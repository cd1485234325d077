-- The near part has exactly the rows that the words say.
use Rattle.std.proofs.Common.{◌≡◌, inl, inr, ⊎_elim, ℕ, Bool, true, false, ◌||◌, List, [], None, Some, refl, sym, ◌∙◌, ap, subst, Contains}
use Rattle.clr_rules.proofs.Common.{false≢true, none-some, same_Some, Grid, same_name, has_name, PointRow, SectionRow, one_name, same_itself, Task, named_clearance, clearance_fence, touching_names}
use Rattle.clr_rules.proofs.Common.{is_near_hold, is_own, Request, Switch}
use Rattle.clr_rules.specs.Prelude.{task_points, Command, Kind, Hold, PointState, Record, StepRow, Id, Register, record_of, is_point_kind, Order}
use Rattle.clr_rules.specs.Answer.{fence_for, known_of, named_fence}
use Rattle.clr_rules.specs.laws.Marks.{HasEndIn}
use Rattle.clr_rules.specs.Near.{is_asked, is_beside, near_of, part_beside, switched_points, switched_in}
use Rattle.clr_rules.specs.laws.Near.{HasAskedRow, HasNearRows, HasSwitchRows, InFence, InOrderFence, IsNearHold, IsNearPoint, IsStepPoint, IsSwitchPoint, is_order}
use Rattle.clr_rules.proofs.lists.Filters.{Says, fails, filter-nothing, is_kept, name_says, or_says, says_as, says_like}
use Rattle.clr_rules.proofs.near.NearNamed.{near_named, no_jumper, none_crossed}
use Rattle.clr_rules.proofs.near.NearTests.{crew_says, fence_says, order_says, own_says, switched_says}
use Rattle.clr_rules.proofs.near.NearWords.{near_hold_says, standing_says, touching_says}

-- ---- a command that names a clearance

pub switched_named : (R : Register) (kind : Kind) (c : Id) → named_clearance kind ≡ Some c → switched_points R kind ≡ switched_in R (Some c)
switched_named R (Switch tasks) c named = absurd (none-some c named)
switched_named R kind c named = ap (switched_in R) named

pub not_asked : (kind : Kind) (c : Id) → named_clearance kind ≡ Some c → (s : List ℕ) → is_asked kind s ≡ false
not_asked (Request section) c named s = absurd (none-some c named)
not_asked kind c named s = refl

pub fence_named : (R : Register) (kind : Kind) (c : Id) → named_clearance kind ≡ Some c → is_order kind ≡ false → fence_for R kind ≡ clearance_fence R c
fence_named R (Order d points tasks) c named no_order = cc no_order
fence_named R kind c named no_order = ap (named_fence R) named

pub or_false : (a b : Bool) → b ≡ false → (a || b) ≡ a
or_false true b is = refl
or_false false b is = is

module _ (R : Register) (q : Command) (c : Id) (named : named_clearance q.kind ≡ Some c) (Inside AtPoint : List ℕ → Type 0)
    (inside_says : (s : List ℕ) → Says (has_name (fence_for R q.kind) s) (Inside s))
    (beside_says : (p : List ℕ) → Says (is_beside R (known_of R q) q.kind p) (AtPoint p)) where
  own_named : (d : Id) → Says (is_own (named_clearance q.kind) d) (c ≡ d)
  own_named d = rw named (own_says c d)

  listed_says : (s : List ℕ) → Says (has_name (fence_for R q.kind) s || is_asked q.kind s) (Inside s)
  listed_says s = says_as (or_false (has_name (fence_for R q.kind) s) (is_asked q.kind s) (not_asked q.kind c named s)) (inside_says s)

  hold_says : (h : Hold) → Says (is_near_hold (has_name (fence_for R q.kind)) (is_beside R (known_of R q) q.kind) (named_clearance q.kind) h) (IsNearHold AtPoint Inside c h)
  hold_says h = says_like
      (near_hold_says (has_name (fence_for R q.kind)) (is_beside R (known_of R q) q.kind) (named_clearance q.kind) Inside AtPoint (λ d. c ≡ d)
      inside_says beside_says own_named h)
      (λ near. ⊎_elim (λ at_point. inl (inl at_point)) (λ other. ⊎_elim (λ at_section. inl (inr at_section))
      (λ crew. inr ((crew_says h.kind).0 crew.0, crew.1)) other) near)
      (λ words. ⊎_elim (λ standing. ⊎_elim (λ at_point. inl at_point) (λ at_section. inr (inl at_section)) standing)
      (λ crew. inr (inr ((crew_says h.kind).1 crew.0, crew.1))) words)

  -- the rows near a command, by what its fence and its points are
  rows_beside : HasNearRows R c Inside AtPoint (record { known = known_of R q; rows = part_beside R q })
  rows_beside = record {
    staff = refl;
    sections = is_kept (λ (row : SectionRow). has_name (fence_for R q.kind) row.name || is_asked q.kind row.name) (Grid.sections R.net)
        (λ row. Inside row.name) (λ row. listed_says row.name);
    points = is_kept (λ (p : PointRow). is_beside R (known_of R q) q.kind p.name) (Grid.points R.net) (λ p. AtPoint p.name) (λ p. beside_says p.name);
    states = is_kept (λ (state : PointState). is_beside R (known_of R q) q.kind state.point) R.states (λ state. AtPoint state.point) (λ state. beside_says state.point);
    records = is_kept (λ (r : Record). is_own (named_clearance q.kind) r.id) R.records (λ r. c ≡ r.id) (λ r. own_named r.id);
    steps = is_kept (λ (row : StepRow). is_own (named_clearance q.kind) row.id) R.steps (λ row. c ≡ row.id) (λ row. own_named row.id);
    holds = is_kept (is_near_hold (has_name (fence_for R q.kind)) (is_beside R (known_of R q) q.kind) (named_clearance q.kind)) R.holds (IsNearHold AtPoint Inside c) hold_says;
    fence = λ s. (λ there. (inside_says s).0 ((name_says (fence_for R q.kind) s).1 there), λ words. (name_says (fence_for R q.kind) s).0 ((inside_says s).1 words));
    greatest = rw named refl;
    none_crossed = none_crossed R q.kind (no_jumper q.kind c named);
  }

  rows_near : HasNearRows R c Inside AtPoint (near_of R q)
  rows_near = subst (λ (rows : Register). HasNearRows R c Inside AtPoint (record { known = known_of R q; rows = rows })) (sym (near_named R q c named)) rows_beside

-- the points near a command that names a clearance: those that touch the fence, and those of a switch order
beside_named : (R : Register) (q : Command) (c : Id) → named_clearance q.kind ≡ Some c → (Inside : List ℕ → Type 0)
    → ((s : List ℕ) → Says (has_name (fence_for R q.kind) s) (Inside s))
    → (p : List ℕ) → Says (is_beside R (known_of R q) q.kind p) (IsNearPoint R c Inside p)
beside_named R q c named Inside inside_says p =
    or_says (has_name (touching_names R.net (has_name (fence_for R q.kind))) p) (has_name (switched_points R q.kind) p) (HasEndIn R.net Inside p) (IsSwitchPoint R c p)
    (touching_says R.net (has_name (fence_for R q.kind)) Inside inside_says p)
    (says_as (ap (λ (names : List (List ℕ)). has_name names p) (switched_named R q.kind c named)) (switched_says R c p))

pub named_near : (R : Register) (q : Command) (c : Id) → named_clearance q.kind ≡ Some c → is_order q.kind ≡ false
    → HasNearRows R c (InFence R c) (IsNearPoint R c (InFence R c)) (near_of R q)
named_near R q c named no_order =
    let says : (s : List ℕ) → Says (has_name (fence_for R q.kind) s) (InFence R c s) =
    λ s. says_as (ap (λ (names : List (List ℕ)). has_name names s) (fence_named R q.kind c named no_order)) (fence_says R c s) in
    rows_near R q c named (InFence R c) (IsNearPoint R c (InFence R c)) says (beside_named R q c named (InFence R c) says)

pub order_near : (R : Register) (by : List ℕ) (at : ℕ) (c : Id) (points : List (List ℕ)) (tasks : List Task)
    → HasNearRows R c (InOrderFence R c points) (IsNearPoint R c (InOrderFence R c points))
    (near_of R (record { caller = by; moment = at; kind = Order c points tasks }))
order_near R by at c points tasks =
    let q : Command = record { caller = by; moment = at; kind = Order c points tasks } in
    let says = λ (s : List ℕ). order_says R c s points in
    rows_near R q c refl (InOrderFence R c points) (IsNearPoint R c (InOrderFence R c points)) says (beside_named R q c refl (InOrderFence R c points) says)

-- ---- a command that names a switch order

-- a switch order has no fence
no_fence_says : (R : Register) (kind : Kind) (c : Id) (r : Record) → named_clearance kind ≡ Some c → record_of R.records c ≡ Some r → r.work ≡ None
    → (s : List ℕ) → Says (has_name (fence_for R kind) s) ⊥
no_fence_says R (Order d points tasks) c r named read no_work s =
    says_like (order_says R d s points)
    (λ words. none-some words.work (sym no_work ∙ ap (λ (x : Record). x.work) (same_Some r words.r (sym read ∙ ap (record_of R.records) (sym (same_Some d c named)) ∙ words.read)) ∙ words.works))
    (λ never. absurd never)
no_fence_says R kind c r named read no_work s =
    says_as (ap (λ (names : List (List ℕ)). has_name names s) (fence_named R kind c named refl)) (says_like (fence_says R c s)
    (λ words. none-some words.work (sym no_work ∙ ap (λ (x : Record). x.work) (same_Some r words.r (sym read ∙ words.read)) ∙ words.works))
    (λ never. absurd never))

pub switch_order_near : (R : Register) (q : Command) (c : Id) (r : Record) → named_clearance q.kind ≡ Some c → record_of R.records c ≡ Some r → r.work ≡ None
    → HasNearRows R c (λ s. ⊥) (IsStepPoint R c) (near_of R q)
switch_order_near R q c r named read no_work =
    let says = no_fence_says R q.kind c r named read no_work in
    rows_near R q c named (λ s. ⊥) (IsStepPoint R c) says (λ p. says_like (beside_named R q c named (λ s. ⊥) says p)
    (λ near. ⊎_elim (λ touching. ⊎_elim (λ never. absurd never) (λ never. absurd never) (HasEndIn.an_end touching)) (λ switched. IsSwitchPoint.at_step switched) near)
    (λ at_step. inr (record { r = r; read = read; no_work = no_work; at_step = at_step })))

-- ---- a command that names none

-- no point touches a fence of no section
none_touch : (g : Grid) (p : List ℕ) → Says (has_name (touching_names g (has_name [])) p) ⊥
none_touch g p = says_like (touching_says g (has_name []) (λ s. ⊥) (λ s. (λ passes. absurd (false≢true passes), λ never. absurd never)) p)
    (λ touching. ⊎_elim (λ never. never) (λ never. never) (HasEndIn.an_end touching))
    (λ never. absurd never)

-- beside a fence of no section are the points of a list
beside_list : (g : Grid) (points : List (List ℕ)) (p : List ℕ) → Says (has_name (touching_names g (has_name [])) p || has_name points p) (Contains points p)
beside_list g points p = says_like
    (or_says (has_name (touching_names g (has_name [])) p) (has_name points p) ⊥ (Contains points p) (none_touch g p) (name_says points p))
    (λ either. ⊎_elim (λ never. absurd never) (λ there. there) either)
    (λ there. inr there)

-- where no section is inside and no clearance is meant, the holds at the points
standing_list : (g : Grid) (points : List (List ℕ)) (h : Hold)
    → Says (is_near_hold (has_name []) (λ p. has_name (touching_names g (has_name [])) p || has_name points p) None h) ((is_point_kind h.kind ≡ true) × Contains points h.place)
standing_list g points h = says_like
    (standing_says (has_name []) (λ p. has_name (touching_names g (has_name [])) p || has_name points p) (λ s. ⊥) (Contains points)
    (λ s. (λ passes. absurd (false≢true passes), λ never. absurd never)) (beside_list g points) h)
    (λ standing. ⊎_elim (λ at_point. at_point) (λ at_section. absurd at_section.1) standing)
    (λ at_point. inl at_point)

none_in : (p : List ℕ) → Contains [] p → ⊥
none_in p there = false≢true ((name_says [] p).1 there)

section_says : (section s : List ℕ) → Says (same_name section s) (section ≡ s)
section_says section s = (one_name section s, λ is. subst (λ (n : List ℕ). same_name section n ≡ true) is (same_itself section))

pub request_near : (R : Register) (by : List ℕ) (at : ℕ) (section : List ℕ)
    → HasAskedRow R by section (near_of R (record { caller = by; moment = at; kind = Request section }))
request_near R by at section =
    let beside = λ (p : List ℕ). has_name (touching_names R.net (has_name [])) p || has_name [] p in
    let nowhere : (p : List ℕ) → beside p ≡ false = λ p. fails (beside p) (says_like (beside_list R.net [] p) (none_in p) (λ never. absurd never)) in
    record {
      staff = refl;
      sections = is_kept (λ (row : SectionRow). same_name section row.name) (Grid.sections R.net) (λ row. section ≡ row.name) (λ row. section_says section row.name);
      no_point = filter-nothing (λ (p : PointRow). beside p.name) (Grid.points R.net) (λ p. nowhere p.name);
      no_state = filter-nothing (λ (state : PointState). beside state.point) R.states (λ state. nowhere state.point);
      no_record = filter-nothing (λ (r : Record). false) R.records (λ r. refl);
      no_step = filter-nothing (λ (row : StepRow). false) R.steps (λ row. refl);
      no_hold = filter-nothing (is_near_hold (has_name []) beside None) R.holds
          (λ h. fails (is_near_hold (has_name []) beside None h) (says_like (standing_list R.net [] h) (λ at_point. none_in h.place at_point.1) (λ never. absurd never)));
      no_fence = refl;
      greatest = refl;
      none_crossed = refl;
    }

pub switch_near : (R : Register) (by : List ℕ) (at : ℕ) (tasks : List Task)
    → HasSwitchRows R by (task_points tasks) (near_of R (record { caller = by; moment = at; kind = Switch tasks }))
switch_near R by at tasks =
    let points = task_points tasks in
    let beside = λ (p : List ℕ). has_name (touching_names R.net (has_name [])) p || has_name points p in
    record {
      staff = refl;
      no_section = filter-nothing (λ (row : SectionRow). false) (Grid.sections R.net) (λ row. refl);
      points_there = is_kept (λ (p : PointRow). beside p.name) (Grid.points R.net) (λ p. Contains points p.name) (λ p. beside_list R.net points p.name);
      states = is_kept (λ (state : PointState). beside state.point) R.states (λ state. Contains points state.point) (λ state. beside_list R.net points state.point);
      no_record = filter-nothing (λ (r : Record). false) R.records (λ r. refl);
      no_step = filter-nothing (λ (row : StepRow). false) R.steps (λ row. refl);
      holds = is_kept (is_near_hold (has_name []) beside None) R.holds (λ h. (is_point_kind h.kind ≡ true) × Contains points h.place) (standing_list R.net points);
      no_fence = refl;
      greatest = refl;
      none_crossed = refl;
    }
