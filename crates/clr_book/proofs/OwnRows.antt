-- What the own rows have of a clearance is what the register has: its record, its steps, and of holds and hands those at which a command looks.
use Rattle.std.proofs.Common.{◌≡◌, ◌∙◌, ℕ, Bool, true, false, ◌&&◌, ◌==◌, List, [], ◌∷◌, Option, None, Some, is_some, not, filter, Contains, refl, sym, ap, subst, if◌then◌else◌}
use Rattle.std.proofs.Common.{eq-eqb, map, option_to_list, true≢false}
use Rattle.clr_rules.proofs.live.FenceCuts.{has_name-once}
use Rattle.clr_rules.proofs.lists.Filters.{name_says}
use Rattle.std.proofs.Common.{◌||◌}
use Rattle.clr_rules.specs.declared.command.Kind.TheVariants as kinds
use Rattle.std.specs.List.{list_any}
use Rattle.clr_rules.specs.HoldKind.{is_crew, is_section_kind}
use Rattle.clr_rules.specs.Holds.{first_of_each, has_some_hold, held_among, held_at, places_of}
use Rattle.std.proofs.lemmas.Option.{same_Some}
use Rattle.clr_net.proofs.Walks.{same_itself}
use Rattle.clr_rules.proofs.Common.{Contains-here, Contains-later, or_left, and_from, and_parts, nat_list_cmp_total, name_cmp, same_name, has_name, has_name-row, there_mapped, one_name, equal, same_text, filter-filter_wider, hand_in, is_close, own_id, Contains-filter, Task, task}
use Rattle.clr_shelf.proofs.Groups.{row_of-filter_inside}
use Rattle.clr_rules.specs.Checks.{at_step, at_work, held_by, hold_hinders, in_hand, other_hand, refuse, where_some}
use Rattle.clr_rules.specs.Good.{ListsAreInOrder}
use Rattle.clr_rules.specs.Prelude.{Id, same_id, Register, hand_of, state_key, record_of, is_point_kind}
use Rattle.clr_rules.specs.Prelude.{hold_cmp, hold_cmp_total, hold_key, hold_of, has_hold, present_steps, same_kind, step_at, steps_of, tasks_of, id_cmp, id_cmp_total, record_key, step_key, step_key_cmp, step_key_cmp_total}
use Rattle.clr_rules.specs.Hold.{same_hold}
use Rattle.clr_rules.specs.Holds.{first_hold, hindering_hold, hinders}
use Rattle.clr_rules.specs.laws.Own.{SameOwn}
use Rattle.clr_rules.proofs.edits.PresentSteps.{FoundStep, step_there}
use Rattle.clr_rules.proofs.isolation.SameFences.{record_of-own}
use Rattle.clr_rules.proofs.near.OwnParts.{steps_of-own}
use Rattle.clr_rules.proofs.near.OwnQuestions.{same_present}
use Rattle.clr_shelf.proofs.KeyOrder.{in_key_order-filter}
use Rattle.std.specs.List.Sorted.{IsStrictlySortedBy}
use Rattle.clr_book.proofs.LookedUp.{listed, own_record}
use Rattle.clr_shelf.specs.Rows.{in_key_order}
use Rattle.clr_book.specs.Own.{fence_at, looks_at, own_rows, points_at, sections_among, sections_at, work_in, work_of}
use Rattle.clr_rules.specs.declared.hold.Hold.{Hold}
use Rattle.clr_rules.specs.declared.hold_kind.HoldKind.{HoldKind}
use Rattle.clr_rules.specs.declared.command.Kind.{Kind}
use Rattle.clr_rules.specs.declared.point_state.PointState.{PointState}
use Rattle.clr_rules.specs.declared.record.Record.{Record}
use Rattle.clr_rules.specs.declared.refusal.Refusal.{Refusal}
use Rattle.clr_rules.specs.declared.step_row.StepRow.{StepRow}
use Rattle.clr_rules.specs.declared.hold_kind.HoldKind.TheVariants.{HeldOpen, Block, Control, Tag, Crew}
use Rattle.clr_rules.specs.declared.command.Kind.TheVariants.{Instruct, Restore, SignOn}
use Rattle.clr_rules.specs.declared.refusal.Refusal.TheVariants.{NoStep}

-- the own rows with all holds: these have the same of the clearance
abbrev pub with_holds : Register → Id → Kind → Register
with_holds R c kind = record (own_rows R c kind) { holds = R.holds }

pub has_own : (R : Register) (c : Id) (kind : Kind) → SameOwn c R (with_holds R c kind)
has_own R c kind = record {
  staff = refl;
  own_record = sym (record_of-own R.records c);
  own_steps = sym (steps_of-own R.steps c);
  own_holds = refl;
}

pub own_in_order : (R : Register) (c : Id) (kind : Kind) → ListsAreInOrder R → ListsAreInOrder (with_holds R c kind)
own_in_order R c kind ordered = record {
  states = in_key_order-filter name_cmp state_key nat_list_cmp_total (λ (state : PointState). has_name (points_at R c kind) state.point) R.states ordered.states;
  records = in_key_order-filter id_cmp record_key id_cmp_total (λ (r : Record). same_id c r.id) R.records ordered.records;
  steps = in_key_order-filter step_key_cmp step_key step_key_cmp_total (λ (row : StepRow). same_id c row.id) R.steps ordered.steps;
  holds = ordered.holds;
}

-- ---- a hold at which a command looks

pub same_hold_there : (R : Register) (c d : Id) (kind : Kind) (of : HoldKind) (place : List ℕ)
    → looks_at R c kind (hold_of d of place) ≡ true
    → has_hold R.holds d of place ≡ has_hold (Register.holds (own_rows R c kind)) d of place
same_hold_there R c d kind of place near =
    let test = looks_at R c kind in
    sym (ap is_some (row_of-filter_inside hold_cmp hold_key hold_cmp_total test (hold_of d of place) R.holds
    (λ h tied. subst (λ (x : Hold). test x ≡ true) (sym (same_hold h (hold_of d of place) (equal (hold_cmp h (hold_of d of place)) tied))) near)))

-- the crews at which it looks
list_any-wider : {X : Type 0} (p q : X → Bool) → ((x : X) → p x ≡ true → q x ≡ true) → (xs : List X) → list_any p xs ≡ list_any p (filter q xs)
list_any-wider p q wider [] = refl
list_any-wider p q wider (x ∷ xs) = at (q x) refl (p x) refl (list_any-wider p q wider xs)
  where
    at : (a : Bool) → q x ≡ a → (b : Bool) → p x ≡ b → list_any p xs ≡ list_any p (filter q xs) → list_any p (x ∷ xs) ≡ list_any p (filter q (x ∷ xs))
    at true e b f more = rw e (ap (λ (t : Bool). p x || t) more)
    at false e true f more = absurd (true≢false (sym (wider x f) ∙ e))
    at false e false f more = rw (e, f) more

-- of a clearance that takes a ground
pub same_crews : (R : Register) (c : Id) (section : List ℕ) → has_some_hold R.holds c Crew ≡ has_some_hold (Register.holds (own_rows R c (kinds.Unground c section))) c Crew
unfolding has_some_hold
same_crews R c section =
    list_any-wider (λ (h : Hold). same_id c h.id && same_kind Crew h.kind) (looks_at R c (kinds.Unground c section))
    (λ h both. crew_near h (and_parts (same_id c h.id) (same_kind Crew h.kind) both).0 (and_parts (same_id c h.id) (same_kind Crew h.kind) both).1) R.holds
  where
    crew_near : (h : Hold) → same_id c h.id ≡ true → same_kind Crew h.kind ≡ true → looks_at R c (kinds.Unground c section) h ≡ true
    crew_near h own is = of_kind h.kind is
      where
        of_kind : (k : HoldKind) → same_kind Crew k ≡ true
            → ((is_point_kind k && false) || ((is_section_kind k && has_name (section ∷ []) h.place) || (is_crew k && same_id c h.id))) ≡ true
        of_kind Crew is = own
        of_kind _ is = cc is

-- what a release looks at has all holds of the clearance
module _ (R : Register) (c : Id) (notified clear : Bool) where
  abbrev released : Register
  released = own_rows R c (kinds.Release c notified clear)

  pub same_some : (of : HoldKind) → has_some_hold R.holds c of ≡ has_some_hold released.holds c of
  unfolding has_some_hold
  same_some of =
      list_any-wider (λ (h : Hold). same_id c h.id && same_kind of h.kind) (λ (h : Hold). same_id c h.id)
      (λ h both. (and_parts (same_id c h.id) (same_kind of h.kind) both).0) R.holds

  pub same_places : (of : HoldKind) → places_of R.holds c of ≡ places_of released.holds c of
  unfolding places_of
  same_places of = ap (map (λ (h : Hold). h.place)) (sym (filter-filter_wider (λ (h : Hold). same_id c h.id && same_kind of h.kind) (λ (h : Hold). same_id c h.id)
      (λ h both. (and_parts (same_id c h.id) (same_kind of h.kind) both).0) R.holds))

-- a check of the work section of a clearance to which a crew signs on
pub same_at_work : (R : Register) (c : Id) (crew : List ℕ) (check other : List ℕ → Option Refusal)
    → ((work : List ℕ) → has_name (sections_at R c (SignOn c crew)) work ≡ true → check work ≡ other work)
    → at_work R c check ≡ at_work (own_rows R c (SignOn c crew)) c other
same_at_work R c crew check other alike =
    at (record_of R.records c) refl ∙ ap (λ (o : Option Record). where_some o (λ r. where_some r.work other)) (sym (record_of-own R.records c))
  where
    of_work : (r : Record) → record_of R.records c ≡ Some r → (w : Option (List ℕ)) → r.work ≡ w → where_some w check ≡ where_some w other
    of_work r read None is = refl
    of_work r read (Some work) is =
        let listed : sections_at R c (SignOn c crew) ≡ work ∷ [] = ap work_of read ∙ ap work_in is in
        alike work (ap (λ (names : List (List ℕ)). has_name names work) listed ∙ or_left (same_name work work) false (same_itself work))

    at : (o : Option Record) → record_of R.records c ≡ o → where_some o (λ r. where_some r.work check) ≡ where_some o (λ r. where_some r.work other)
    at None none = refl
    at (Some r) read = of_work r read r.work refl

-- ---- the step that is given out

-- its point is one at which the command looks
point_there : (R : Register) (c : Id) (n : ℕ) (s : FoundStep R c n) → has_name (points_at R c (Instruct c n)) s.row.step.point ≡ true
unfolding steps_of
point_there R c n s =
    let own = Contains-filter (λ (row : StepRow). same_id c row.id) R.steps s.row s.is_present.there
    (subst (λ (d : Id). same_id c d ≡ true) (sym s.is_present.own) (own_id c)) in
    let rows = filter (λ (row : StepRow). row.ordinal == n) (filter (λ row. same_id c row.id) R.steps) in
    let there = Contains-filter (λ (row : StepRow). row.ordinal == n) (filter (λ row. same_id c row.id) R.steps) s.row own (eq-eqb s.row.ordinal n s.ordinal) in
    has_name-row (λ (t : Task). t.point) (tasks_of rows) (task s.row.step) (there_mapped (λ (row : StepRow). task row.step) rows s.row there)

-- what is at a point at which it looks is the same
module _ (R : Register) (c : Id) (n : ℕ) (p : List ℕ) (looked : has_name (points_at R c (Instruct c n)) p ≡ true) where
  same_hand : hand_of R.states p ≡ hand_of (Register.states (own_rows R c (Instruct c n))) p
  same_hand = ap hand_in (sym (row_of-filter_inside name_cmp state_key nat_list_cmp_total (λ (state : PointState). has_name (points_at R c (Instruct c n)) state.point) p R.states
      (λ state tied. rw (same_text state.point p (equal (name_cmp state.point p) tied)) looked)))

  hindering_looked : (h : Hold) → hinders c p h ≡ true → looks_at R c (Instruct c n) h ≡ true
  hindering_looked h is =
      let (at_point, here) = and_parts (is_point_kind h.kind) (same_name p h.place) (and_parts (is_point_kind h.kind && same_name p h.place) (not (same_id c h.id && same_kind HeldOpen h.kind)) is).0 in
      or_left (is_point_kind h.kind && has_name (points_at R c (Instruct c n)) h.place) _
      (and_from (is_point_kind h.kind) (has_name (points_at R c (Instruct c n)) h.place) at_point
      (subst (λ (place : List ℕ). has_name (points_at R c (Instruct c n)) place ≡ true) (one_name p h.place here) looked))

  same_hindering : hindering_hold R.holds c p ≡ hindering_hold (Register.holds (own_rows R c (Instruct c n))) c p
  unfolding hindering_hold
  same_hindering = ap first_hold (sym (filter-filter_wider (hinders c p) (looks_at R c (Instruct c n)) hindering_looked R.holds))

-- a check of the step that was found
module _ (R : Register) (c : Id) (n : ℕ) where
  abbrev pub own : Register
  own = own_rows R c (Instruct c n)

  present : present_steps R.steps c ≡ present_steps own.steps c
  present = same_present c R (with_holds R c (Instruct c n)) (has_own R c (Instruct c n))

  same_at_step : (check other : StepRow → Option Refusal) → ((s : FoundStep R c n) → check s.row ≡ other s.row) → at_step R c n check ≡ at_step own c n other
  same_at_step check other alike = at (step_at (present_steps R.steps c) n) refl ∙ ap (λ (rows : List StepRow). where_some (step_at rows n) other) present
    where
      at : (o : Option StepRow) → step_at (present_steps R.steps c) n ≡ o → where_some o check ≡ where_some o other
      at None none = refl
      at (Some row) found =
          let s = step_there R c n (ap (λ (o : Option StepRow). refuse (not (is_some o)) NoStep) found) in
          let is : row ≡ s.row = same_Some row s.row (sym found ∙ s.found) in
          ap check is ∙ alike s ∙ ap other (sym is)

  pub same_in_hand : in_hand R c n ≡ in_hand own c n
  same_in_hand = same_at_step (λ row. other_hand c (hand_of R.states row.step.point)) (λ row. other_hand c (hand_of own.states row.step.point))
      (λ s. ap (other_hand c) (same_hand R c n s.row.step.point (point_there R c n s)))

  pub same_hinders : hold_hinders R c n ≡ hold_hinders own c n
  same_hinders = same_at_step
      (λ row. if is_close row.step.action then held_by (hindering_hold R.holds c row.step.point) else None)
      (λ row. if is_close row.step.action then held_by (hindering_hold own.holds c row.step.point) else None)
      (λ s. ap (λ (o : Option Hold). if is_close s.row.step.action then held_by o else None) (same_hindering R c n s.row.step.point (point_there R c n s)))

-- ---- the points of a restoring order

mapped_alike : {X Y : Type 0} (f g : X → Y) (p q : X → Bool) (xs : List X) → ((x : X) → Contains xs x → (p x ≡ q x) × (f x ≡ g x)) → map f (filter p xs) ≡ map g (filter q xs)
mapped_alike f g p q [] alike = refl
mapped_alike f g p q (x ∷ xs) alike =
    let (tests, same) = alike x (Contains-here x xs) in
    at (p x) refl (q x) refl tests same (mapped_alike f g p q xs (λ y there. alike y (Contains-later x y xs there)))
  where
    at : (a : Bool) → p x ≡ a → (b : Bool) → q x ≡ b → p x ≡ q x → f x ≡ g x → map f (filter p xs) ≡ map g (filter q xs) → map f (filter p (x ∷ xs)) ≡ map g (filter q (x ∷ xs))
    at true e true d tests same more = rw (e, d) (λ i. same i ∷ more i)
    at false e false d tests same more = rw (e, d) more
    at true e false d tests same more = absurd (true≢false (sym e ∙ tests ∙ d))
    at false e true d tests same more = absurd (true≢false (sym d ∙ sym tests ∙ e))

module _ (R : Register) (c : Id) (tasks : List Task) where
  -- at such a point each own hold is looked at
  held_there : (of : HoldKind) → is_point_kind of ≡ true → (p : List ℕ) → has_name (points_at R c (Restore c tasks)) p ≡ true
      → has_hold R.holds c of p ≡ has_hold (Register.holds (own_rows R c (Restore c tasks))) c of p
  held_there of is p listed = same_hold_there R c c (Restore c tasks) of p
      (or_left (is_point_kind of && has_name (points_at R c (Restore c tasks)) p) _ (and_from (is_point_kind of) (has_name (points_at R c (Restore c tasks)) p) is listed))

  pub same_held_among : held_among R.holds c (points_at R c (Restore c tasks)) ≡ held_among (Register.holds (own_rows R c (Restore c tasks))) c (points_at R c (Restore c tasks))
  unfolding held_among
  same_held_among =
      let points = points_at R c (Restore c tasks) in
      let S = own_rows R c (Restore c tasks) in
      mapped_alike (held_at R.holds c) (held_at S.holds c) (has_hold R.holds c HeldOpen) (has_hold S.holds c HeldOpen) (first_of_each points)
      (λ p there.
      let listed : has_name points p ≡ true = sym (has_name-once points p) ∙ (name_says (first_of_each points) p).1 there in (
        held_there HeldOpen refl p listed,
        (λ i. record { point = p; block = held_there Block refl p listed i; control = held_there Control refl p listed i; tag = held_there Tag refl p listed i }),
      ))

-- ---- lists of at most one row

work_rises : (w : Option (List ℕ)) → IsStrictlySortedBy name_cmp (work_in w)
unfolding IsStrictlySortedBy
work_rises None = tt
work_rises (Some work) = (tt, tt)

found_rises : (o : Option Record) → IsStrictlySortedBy name_cmp (work_of o)
unfolding IsStrictlySortedBy
found_rises None = tt
found_rises (Some r) = work_rises r.work

pub sections_rise : (o : Option Record) (kind : Kind) → IsStrictlySortedBy name_cmp (sections_among o kind)
unfolding IsStrictlySortedBy
sections_rise o (SignOn c crew) = found_rises o
sections_rise o (kinds.Ground c section) = (tt, tt)
sections_rise o (kinds.Unground c section) = (tt, tt)
sections_rise o _ = tt

pub fence_rises : (kind : Kind) → IsStrictlySortedBy name_cmp (fence_at kind)
unfolding IsStrictlySortedBy
fence_rises (kinds.Test c section dead) = (tt, tt)
fence_rises (kinds.Ground c section) = (tt, tt)
fence_rises (kinds.Unground c section) = (tt, tt)
fence_rises _ = tt

-- the records of a clearance are the one that is found
as_list : (o : Option Record) → listed o ≡ option_to_list o
as_list None = refl
as_list (Some r) = refl

pub own_found : (c : Id) (records : List Record) → in_key_order id_cmp record_key records ≡ true
    → filter (λ r. same_id c r.id) records ≡ option_to_list (record_of records c)
own_found c records ordered = own_record c records ordered ∙ as_list (record_of records c)

pub one_in_order : (o : Option Record) → in_key_order id_cmp record_key (option_to_list o) ≡ true
one_in_order None = refl
one_in_order (Some r) = refl
