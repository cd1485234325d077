-- What it says that the list of steps fits.
use Rattle.std.proofs.Common.{◌≡◌, ℕ, Bool, true, false, not, ◌&&◌, ◌||◌, nat_eq, List, [], ◌∷◌, Option, Some, None, is_some, IsTrue, All, Contains, refl, sym, ◌∙◌, ap, subst, eqb-true, eq-eqb}
use Rattle.clr_rules.proofs.Common.{AreAtPoints, list_all, list_any, and_from, and_parts, both_ways, false≢true, false_from_ne_true, not-true, not_from_false, All-contains, fence_of, Grid, point_names, same_name}
use Rattle.clr_rules.proofs.Common.{list_all-from_each, has_name, any_from, one_name, same_itself, some_from, IsSoundOrder, isolating_fault, list_all-contains, member-row_of, row_of-member}
use Rattle.clr_rules.proofs.Common.{in_key_order, has_record, is_closing_at, ActiveInRound, active_at, all_waiting, go_in_turn, of_round, hinders, Id, Register, has_in_hand, id_cmp, id_cmp_total}
use Rattle.clr_rules.proofs.Common.{record_key, record_of, same_id, hold_cmp, hold_key, is_active, is_done, points_of, steps_of, tasks_of, is_point_kind, has_hold, hold_of, first_of_each, same_kind}
use Rattle.clr_rules.proofs.Common.{is_close, kept_there}
use Rattle.clr_order.proofs.SoundOrders.{no_fault_from_sound, sound_from_no_fault}
use Rattle.clr_order.specs.declared.order_fault.OrderFault.{OrderFault}
use Rattle.clr_rules.proofs.lists.HoldMembers.{hold_had, hold_there}
use Rattle.clr_rules.proofs.lists.RoundSteps.{All-from_each, among_own, one_id, own_id, record_id}
use Rattle.clr_rules.specs.Records.{is_closed, is_open}
use Rattle.clr_good.specs.Steps.{active_within, closing_fits, found_closed, isolates, point_fits, record_steps_fit, round_waits, rounds_go_in_turn, step_fits, steps_fit, steps_suit}
use Rattle.clr_good.proofs.Tests.{asked, asked_from, unless_closed, unless_closed_from}
use Rattle.clr_rules.specs.declared.hold_kind.HoldKind.{HoldKind}
use Rattle.clr_rules.specs.declared.record.Record.{Record}
use Rattle.clr_rules.specs.declared.step_row.StepRow.{StepRow}
use Rattle.clr_rules.specs.declared.hold_kind.HoldKind.TheVariants.{HeldOpen, Block}

pub record StepsSay (R : Register) : Type 0 where
  pub recorded : All (λ row. IsTrue (has_record R.records row.id)) R.steps
  pub known : (c : Id) (r : Record) → record_of R.records c ≡ Some r → is_open r.phase ≡ true → AreAtPoints R.net (steps_of R.steps c)
  pub in_hand : (c : Id) (p : List ℕ) → active_at (steps_of R.steps c) p ≡ true → has_in_hand R.states c p ≡ true
  pub closing : (c : Id) (p : List ℕ) → is_closing_at R.steps c p ≡ true
      → (d : Id) (kind : HoldKind) → is_point_kind kind ≡ true → has_hold R.holds d kind p ≡ true
      → (d ≡ c) × (kind ≡ HeldOpen)
  pub in_turn : (c : Id) (r : Record) → record_of R.records c ≡ Some r → (round : ℕ) → go_in_turn (of_round (steps_of R.steps c) round) ≡ true
  pub suit : (c : Id) (r : Record) → record_of R.records c ≡ Some r → steps_suit R.net r.phase r.work (steps_of R.steps c) ≡ true

-- ---- one step

step_parts : (R : Register) (row : StepRow) → step_fits R row ≡ true
    → (has_record R.records row.id ≡ true) × (point_fits R row ≡ true)
    × (is_active row.step.state ≡ true → has_in_hand R.states row.id row.step.point ≡ true) × (closing_fits R row ≡ true)
step_parts R row fits =
    let recorded = has_record R.records row.id in
    let known = point_fits R row in
    let handed = not (is_active row.step.state) || has_in_hand R.states row.id row.step.point in
    let closing = closing_fits R row in
    let one = and_parts recorded (known && (handed && closing)) fits in
    let two = and_parts known (handed && closing) one.1 in
    let three = and_parts handed closing two.1 in
    (one.0, two.0, asked (is_active row.step.state) (has_in_hand R.states row.id row.step.point) three.0, three.1)

step_back : (R : Register) (row : StepRow) → has_record R.records row.id ≡ true → point_fits R row ≡ true
    → (is_active row.step.state ≡ true → has_in_hand R.states row.id row.step.point ≡ true) → closing_fits R row ≡ true → step_fits R row ≡ true
step_back R row is_recorded is_known hand closes =
    let recorded = has_record R.records row.id in
    let known = point_fits R row in
    let handed = not (is_active row.step.state) || has_in_hand R.states row.id row.step.point in
    let closing = closing_fits R row in
    and_from recorded (known && (handed && closing)) is_recorded (and_from known (handed && closing) is_known
    (and_from handed closing (asked_from (is_active row.step.state) (has_in_hand R.states row.id row.step.point) hand) closes))

-- a step of a clearance is one of the list, and bears its id
own_row : (steps : List StepRow) (c : Id) (row : StepRow) → Contains (steps_of steps c) row → Contains steps row × (c ≡ row.id)
unfolding steps_of
own_row steps c row there =
    let kept = kept_there (λ (row : StepRow). same_id c row.id) steps row there in
    (kept.0, one_id c row.id kept.1)

-- its point, by its record
point_of : (R : Register) (c : Id) (r : Record) → record_of R.records c ≡ Some r → is_open r.phase ≡ true → (row : StepRow) → c ≡ row.id → point_fits R row ≡ true
    → has_name (point_names (Grid.points R.net)) row.step.point ≡ true
point_of R c r found unclosed row own fits =
    let closed : found_closed (record_of R.records row.id) ≡ is_closed r.phase = ap (λ (d : Id). found_closed (record_of R.records d)) (sym own) ∙ ap found_closed found in
    unless_closed r.phase (has_name (point_names (Grid.points R.net)) row.step.point)
    (subst (λ (b : Bool). (b || has_name (point_names (Grid.points R.net)) row.step.point) ≡ true) closed fits) unclosed

point_from : (R : Register) (row : StepRow) → ((r : Record) → record_of R.records row.id ≡ Some r → is_open r.phase ≡ true → has_name (point_names (Grid.points R.net)) row.step.point ≡ true)
    → has_record R.records row.id ≡ true → point_fits R row ≡ true
point_from R row known = at (record_of R.records row.id) refl
  where
    at : (o : Option Record) → record_of R.records row.id ≡ o → is_some o ≡ true → (found_closed o || has_name (point_names (Grid.points R.net)) row.step.point) ≡ true
    at None none there = absurd (false≢true there)
    at (Some r) found there = unless_closed_from r.phase (has_name (point_names (Grid.points R.net)) row.step.point) (known r found)

hand_there : (R : Register) → list_all (step_fits R) R.steps ≡ true → (c : Id) (p : List ℕ) → active_at (steps_of R.steps c) p ≡ true → has_in_hand R.states c p ≡ true
hand_there R all c p active =
    let found = some_from (λ (row : StepRow). is_active row.step.state && same_name p row.step.point) (steps_of R.steps c) active in
    let row = found.0 in
    let both = and_parts (is_active row.step.state) (same_name p row.step.point) found.2 in
    let own = own_row R.steps c row found.1 in
    let hand = (step_parts R row (list_all-contains (step_fits R) R.steps row all own.0)).2 both.0 in
    let point : p ≡ row.step.point = one_name p row.step.point both.1 in
    subst (λ (d : Id). has_in_hand R.states d p ≡ true) (sym own.1) (subst (λ (q : List ℕ). has_in_hand R.states row.id q ≡ true) (sym point) hand)

-- ---- a Close that is given out

held_open_is : (kind : HoldKind) → same_kind HeldOpen kind ≡ true → kind ≡ HeldOpen
held_open_is HeldOpen h = refl
held_open_is Block h = absurd (false≢true h)
held_open_is _ h = absurd (false≢true h)

-- a hold there that does not hinder is the clearance's own HeldOpen
own_held_open : (c d : Id) (kind : HoldKind) (p : List ℕ) → is_point_kind kind ≡ true → hinders c p (hold_of d kind p) ≡ false → (d ≡ c) × (kind ≡ HeldOpen)
own_held_open c d kind p at_point free =
    let own = same_id c d && same_kind HeldOpen kind in
    let stands = and_from (is_point_kind kind) (same_name p p) at_point (same_itself p) in
    let parts = and_parts (same_id c d) (same_kind HeldOpen kind) (is_own own (is_point_kind kind && same_name p p) stands free) in
    (sym (one_id c d parts.0), held_open_is kind parts.1)
  where
    is_own : (own stands : Bool) → stands ≡ true → (stands && not own) ≡ false → own ≡ true
    is_own true stands is free = refl
    is_own false true is free = absurd (false≢true (sym free))
    is_own false false is free = absurd (false≢true is)

none_passes : {X : Type 0} (p : X → Bool) (xs : List X) (x : X) → not (list_any p xs) ≡ true → Contains xs x → p x ≡ false
none_passes p xs x none there = false_from_ne_true (p x) (λ passes. both_ways (list_any p xs) (not-true (list_any p xs) none) (any_from p xs x there passes))

none_from : {X : Type 0} (p : X → Bool) (xs : List X) → ((x : X) → Contains xs x → p x ≡ false) → not (list_any p xs) ≡ true
none_from p xs each = not_from_false (list_any p xs) (false_from_ne_true (list_any p xs) (λ some.
    let found = some_from p xs some in both_ways (p found.0) (each found.0 found.1) found.2))

closing_there : (R : Register) → list_all (step_fits R) R.steps ≡ true → (c : Id) (p : List ℕ) → is_closing_at R.steps c p ≡ true
    → (d : Id) (kind : HoldKind) → is_point_kind kind ≡ true → has_hold R.holds d kind p ≡ true → (d ≡ c) × (kind ≡ HeldOpen)
unfolding is_closing_at
closing_there R all c p closing d kind at_point held =
    let found = some_from (λ (row : StepRow). (is_active row.step.state && is_close row.step.action) && same_name p row.step.point) (steps_of R.steps c) closing in
    let row = found.0 in
    let both = and_parts (is_active row.step.state && is_close row.step.action) (same_name p row.step.point) found.2 in
    let own = own_row R.steps c row found.1 in
    let point : p ≡ row.step.point = one_name p row.step.point both.1 in
    let closes = (step_parts R row (list_all-contains (step_fits R) R.steps row all own.0)).3 in
    let none = asked (is_active row.step.state && is_close row.step.action) (not (list_any (hinders row.id row.step.point) R.holds)) closes both.0 in
    let free : hinders row.id row.step.point (hold_of d kind p) ≡ false =
    none_passes (hinders row.id row.step.point) R.holds (hold_of d kind p) none (hold_there R.holds d kind p held) in
    own_held_open c d kind p at_point
    (subst (λ (b : Id). hinders b p (hold_of d kind p) ≡ false) (sym own.1) (subst (λ (q : List ℕ). hinders row.id q (hold_of d kind p) ≡ false) (sym point) free))

closing_back : (R : Register) → in_key_order hold_cmp hold_key R.holds ≡ true
    → ((c : Id) (p : List ℕ) → is_closing_at R.steps c p ≡ true → (d : Id) (kind : HoldKind) → is_point_kind kind ≡ true → has_hold R.holds d kind p ≡ true → (d ≡ c) × (kind ≡ HeldOpen))
    → (row : StepRow) → Contains R.steps row → closing_fits R row ≡ true
unfolding is_closing_at
closing_back R ordered closing row there =
    asked_from (is_active row.step.state && is_close row.step.action) (not (list_any (hinders row.id row.step.point) R.holds)) (λ closes.
    let here = any_from (λ (other : StepRow). (is_active other.step.state && is_close other.step.action) && same_name row.step.point other.step.point) (steps_of R.steps row.id) row (among_own R.steps row there)
    (and_from (is_active row.step.state && is_close row.step.action) (same_name row.step.point row.step.point) closes (same_itself row.step.point)) in
    none_from (hinders row.id row.step.point) R.holds (λ h among. false_from_ne_true (hinders row.id row.step.point h) (λ hinders_it.
    let own = same_id row.id h.id && same_kind HeldOpen h.kind in
    let parts = and_parts (is_point_kind h.kind && same_name row.step.point h.place) (not own) hinders_it in
    let stands = and_parts (is_point_kind h.kind) (same_name row.step.point h.place) parts.0 in
    let place : h.place ≡ row.step.point = sym (one_name row.step.point h.place stands.1) in
    let held : has_hold R.holds h.id h.kind row.step.point ≡ true = subst (λ (q : List ℕ). has_hold R.holds h.id h.kind q ≡ true) place (hold_had R.holds h ordered among) in
    let is = closing row.id row.step.point here h.id h.kind stands.0 held in
    let is_own : own ≡ true = and_from (same_id row.id h.id) (same_kind HeldOpen h.kind)
    (subst (λ (d : Id). same_id d h.id ≡ true) is.0 (own_id h.id)) (ap (same_kind HeldOpen) is.1) in
    both_ways own (not-true own parts.1) is_own)))

-- ---- turns

waits_is : (k : ℕ) (rows : List StepRow) → round_waits k rows ≡ all_waiting (of_round rows k)
unfolding of_round
waits_is k [] = refl
waits_is k (row ∷ rows) = at (nat_eq row.round k) refl (waits_is k rows)
  where
    at : (b : Bool) → nat_eq row.round k ≡ b → round_waits k rows ≡ all_waiting (of_round rows k) → round_waits k (row ∷ rows) ≡ all_waiting (of_round (row ∷ rows) k)
    at true e more = rw (e, more) refl
    at false e more = rw (e, more) refl

round_here : (row : StepRow) (rows : List StepRow) (k : ℕ) → nat_eq row.round k ≡ true → of_round (row ∷ rows) k ≡ row ∷ of_round rows k
unfolding of_round
round_here row rows k is = rw is refl

round_elsewhere : (row : StepRow) (rows : List StepRow) (k : ℕ) → nat_eq row.round k ≡ false → of_round (row ∷ rows) k ≡ of_round rows k
unfolding of_round
round_elsewhere row rows k is = rw is refl

no_round : (k : ℕ) → of_round [] k ≡ []
unfolding of_round
no_round k = refl

pub turns_say : (rows : List StepRow) → rounds_go_in_turn rows ≡ true → (k : ℕ) → go_in_turn (of_round rows k) ≡ true
turns_say [] turns k = ap go_in_turn (no_round k)
turns_say (row ∷ rows) turns k = at (nat_eq row.round k) refl (turns_say rows parts.1 k)
  where
    parts : ((is_done row.step.state || round_waits row.round rows) ≡ true) × (rounds_go_in_turn rows ≡ true)
    parts = and_parts (is_done row.step.state || round_waits row.round rows) (rounds_go_in_turn rows) turns

    at : (b : Bool) → nat_eq row.round k ≡ b → go_in_turn (of_round rows k) ≡ true → go_in_turn (of_round (row ∷ rows) k) ≡ true
    at true e more =
        let round : row.round ≡ k = eqb-true row.round k e in
        let first : (is_done row.step.state || all_waiting (of_round rows k)) ≡ true =
        subst (λ (b : Bool). (is_done row.step.state || b) ≡ true) (waits_is k rows) (subst (λ (n : ℕ). (is_done row.step.state || round_waits n rows) ≡ true) round parts.0) in
        rw (round_here row rows k e) (and_from (is_done row.step.state || all_waiting (of_round rows k)) (go_in_turn (of_round rows k)) first more)
    at false e more = rw (round_elsewhere row rows k e) more

pub turns_said : (rows : List StepRow) → ((k : ℕ) → go_in_turn (of_round rows k) ≡ true) → rounds_go_in_turn rows ≡ true
turns_said [] each = refl
turns_said (row ∷ rows) each =
    and_from (is_done row.step.state || round_waits row.round rows) (rounds_go_in_turn rows)
    (subst (λ (b : Bool). (is_done row.step.state || b) ≡ true) (sym (waits_is row.round rows)) (split row.round (eq-eqb row.round row.round refl)).0)
    (turns_said rows (λ k. at k (nat_eq row.round k) refl))
  where
    split : (k : ℕ) → nat_eq row.round k ≡ true → ((is_done row.step.state || all_waiting (of_round rows k)) ≡ true) × (go_in_turn (of_round rows k) ≡ true)
    split k e = and_parts (is_done row.step.state || all_waiting (of_round rows k)) (go_in_turn (of_round rows k))
        (subst (λ (rows : List StepRow). go_in_turn rows ≡ true) (round_here row rows k e) (each k))

    at : (k : ℕ) (b : Bool) → nat_eq row.round k ≡ b → go_in_turn (of_round rows k) ≡ true
    at k true e = (split k e).1
    at k false e = subst (λ (rows : List StepRow). go_in_turn rows ≡ true) (round_elsewhere row rows k e) (each k)

-- ---- orders and rounds

no_fault : (o : Option OrderFault) → not (is_some o) ≡ true → o ≡ None
no_fault None h = refl
no_fault (Some fault) h = absurd (false≢true h)

pub isolates_say : (g : Grid) (work : List ℕ) (rows : List StepRow) → isolates g (Some work) rows ≡ true → IsSoundOrder g work (first_of_each (points_of rows)) (tasks_of rows)
isolates_say g work rows h =
    let points = first_of_each (points_of rows) in
    sound_from_no_fault (fence_of g work points) points (tasks_of rows) (no_fault (isolating_fault (fence_of g work points) points (tasks_of rows)) h)

pub isolates_said : (g : Grid) (work : List ℕ) (rows : List StepRow) → IsSoundOrder g work (first_of_each (points_of rows)) (tasks_of rows) → isolates g (Some work) rows ≡ true
isolates_said g work rows sound =
    let points = first_of_each (points_of rows) in
    ap (λ (o : Option OrderFault). not (is_some o)) (no_fault_from_sound (fence_of g work points) points (tasks_of rows) sound)

pub active_say : (round : ℕ) (rows : List StepRow) → active_within round rows ≡ true → ActiveInRound rows round
active_say round rows all = All-from_each (λ (row : StepRow). is_active row.step.state ≡ true → row.round ≡ round) rows (λ row there active.
    eqb-true row.round round (asked (is_active row.step.state) (nat_eq row.round round)
    (list_all-contains (λ (row : StepRow). not (is_active row.step.state) || nat_eq row.round round) rows row all there) active))

pub active_said : (round : ℕ) (rows : List StepRow) → ActiveInRound rows round → active_within round rows ≡ true
active_said round rows all = list_all-from_each (λ (row : StepRow). not (is_active row.step.state) || nat_eq row.round round) rows (λ row there.
    asked_from (is_active row.step.state) (nat_eq row.round round) (λ active.
    eq-eqb row.round round (All-contains (λ (row : StepRow). is_active row.step.state ≡ true → row.round ≡ round) rows row all there active)))

-- ---- all

record_steps : (R : Register) (c : Id) (r : Record) → record_of R.records c ≡ Some r → list_all (record_steps_fit R) R.records ≡ true
    → (rounds_go_in_turn (steps_of R.steps c) ≡ true) × (steps_suit R.net r.phase r.work (steps_of R.steps c) ≡ true)
record_steps R c r found all =
    let there = (member-row_of id_cmp record_key id_cmp_total c r R.records found).0 in
    let fits = list_all-contains (record_steps_fit R) R.records r all there in
    let own : record_steps_fit R r ≡ (rounds_go_in_turn (steps_of R.steps c) && steps_suit R.net r.phase r.work (steps_of R.steps c)) =
    ap (λ (d : Id). rounds_go_in_turn (steps_of R.steps d) && steps_suit R.net r.phase r.work (steps_of R.steps d)) (record_id R.records c r found) in
    and_parts (rounds_go_in_turn (steps_of R.steps c)) (steps_suit R.net r.phase r.work (steps_of R.steps c)) (sym own ∙ fits)

pub steps_say : (R : Register) → steps_fit R ≡ true → StepsSay R
steps_say R fits = record {
  recorded = All-from_each (λ (row : StepRow). has_record R.records row.id ≡ true) R.steps (λ row there. (of_row row there).0);
  known = λ c r found unclosed. All-from_each (λ (row : StepRow). has_name (point_names (Grid.points R.net)) row.step.point ≡ true) (steps_of R.steps c) (λ row among.
      let own = own_row R.steps c row among in
      point_of R c r found unclosed row own.1 (of_row row own.0).1);
  in_hand = hand_there R parts.0;
  closing = closing_there R parts.0;
  in_turn = λ c r found. turns_say (steps_of R.steps c) (record_steps R c r found parts.1).0;
  suit = λ c r found. (record_steps R c r found parts.1).1;
}
  where
    parts : (list_all (step_fits R) R.steps ≡ true) × (list_all (record_steps_fit R) R.records ≡ true)
    parts = and_parts (list_all (step_fits R) R.steps) (list_all (record_steps_fit R) R.records) fits

    of_row : (row : StepRow) → Contains R.steps row
        → (has_record R.records row.id ≡ true) × (point_fits R row ≡ true)
        × (is_active row.step.state ≡ true → has_in_hand R.states row.id row.step.point ≡ true) × (closing_fits R row ≡ true)
    of_row row there = step_parts R row (list_all-contains (step_fits R) R.steps row parts.0 there)

active_here : (steps : List StepRow) (row : StepRow) → Contains steps row → is_active row.step.state ≡ true → active_at (steps_of steps row.id) row.step.point ≡ true
active_here steps row there active =
    any_from (λ (other : StepRow). is_active other.step.state && same_name row.step.point other.step.point) (steps_of steps row.id) row (among_own steps row there)
    (and_from (is_active row.step.state) (same_name row.step.point row.step.point) active (same_itself row.step.point))

pub steps_said : (R : Register) → in_key_order id_cmp record_key R.records ≡ true → in_key_order hold_cmp hold_key R.holds ≡ true → StepsSay R → steps_fit R ≡ true
steps_said R ordered holds_ordered say =
    and_from (list_all (step_fits R) R.steps) (list_all (record_steps_fit R) R.records)
    (list_all-from_each (step_fits R) R.steps (λ row there.
    step_back R row
    (All-contains (λ (row : StepRow). has_record R.records row.id ≡ true) R.steps row say.recorded there)
    (point_from R row (λ r found unclosed. All-contains (λ (row : StepRow). has_name (point_names (Grid.points R.net)) row.step.point ≡ true) (steps_of R.steps row.id) row
    (say.known row.id r found unclosed) (among_own R.steps row there))
    (All-contains (λ (row : StepRow). has_record R.records row.id ≡ true) R.steps row say.recorded there))
    (λ active. say.in_hand row.id row.step.point (active_here R.steps row there active))
    (closing_back R holds_ordered say.closing row there)))
    (list_all-from_each (record_steps_fit R) R.records (λ r there.
    let found = row_of-member id_cmp record_key id_cmp_total r R.records ordered there in
    and_from (rounds_go_in_turn (steps_of R.steps r.id)) (steps_suit R.net r.phase r.work (steps_of R.steps r.id))
    (turns_said (steps_of R.steps r.id) (say.in_turn r.id r found)) (say.suit r.id r found)))
