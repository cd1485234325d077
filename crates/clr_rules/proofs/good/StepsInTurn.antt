-- Steps that go in turn: read from the head of a round, and step by step as the register says it.
use Rattle.std.proofs.Common.{◌≡◌, ℕ, ◌<◌, ◌≤◌, Bool, true, false, not, ◌||◌, nat_lt, ◌⊎◌, inl, inr, List, [], ◌∷◌, All, Contains, refl, sym, ◌∙◌, subst, arith, is_lt, nat_cmp, Less, Equal, le-ltb}
use Rattle.std.proofs.Common.{lt-ltb}
use Rattle.clr_rules.proofs.Common.{and_from, and_parts, both_ways, not_from_false, or_cases, or_left, or_right, All-contains, All-head, All-tail, in_key_order-filter, in_key_order-first}
use Rattle.clr_rules.proofs.Common.{in_key_order-rest, Contains-cases, Contains-later, list_all-contains, in_key_order, all_waiting, go_in_turn, StepRow, Id, id_cmp, id_cmp_total}
use Rattle.clr_rules.proofs.Common.{list_all-from_each, step_key, step_key_cmp, step_key_cmp_total, is_done, is_waiting, steps_in, is_in_turn, is_of_round}
use Rattle.std.proofs.lemmas.Cmp.{nat_cmp_total, ranked, tied_itself}
use Rattle.clr_shelf.proofs.Keys.{less}
use Rattle.clr_rules.proofs.lists.RoundSteps.{All-from_each, of_the_round}

-- ---- the steps of a round go by their ordinals

-- each ordinal is below those after it
abbrev pub Rises : List StepRow → Type 0
Rises [] = Unit {0}
Rises (row ∷ rest) = All (λ next. row.ordinal < next.ordinal) rest × Rises rest

-- a step before another of its round has the lower ordinal
lower_ordinal : (a b : StepRow) → a.id ≡ b.id → a.round ≡ b.round → is_lt (step_key_cmp (step_key a) (step_key b)) ≡ true → a.ordinal < b.ordinal
lower_ordinal a b same_id same_round before =
    let ids : id_cmp a.id b.id ≡ Equal = rw same_id (tied_itself id_cmp_total b.id) in
    let rounds : nat_cmp a.round b.round ≡ Equal = rw same_round (tied_itself nat_cmp_total b.round) in
    let left : is_lt (nat_cmp a.ordinal b.ordinal) ≡ true = rw (ids, rounds) at before in
    ranked a.ordinal b.ordinal Less (sym (less (nat_cmp a.ordinal b.ordinal) left))

rises_from : (c : Id) (round : ℕ) (rows : List StepRow) → All (λ row. (row.id ≡ c) × (row.round ≡ round)) rows → in_key_order step_key_cmp step_key rows ≡ true → Rises rows
rises_from c round [] own ordered = tt
rises_from c round (row ∷ rest) own ordered =
    let here = All-head (λ (row : StepRow). (row.id ≡ c) × (row.round ≡ round)) row rest own in
    let later = All-tail (λ (row : StepRow). (row.id ≡ c) × (row.round ≡ round)) row rest own in
    let first = in_key_order-first step_key_cmp step_key step_key_cmp_total row rest ordered in (
      All-from_each (λ next. row.ordinal < next.ordinal) rest (λ next there.
          let there_own = All-contains (λ (row : StepRow). (row.id ≡ c) × (row.round ≡ round)) rest next later there in
          lower_ordinal row next (here.0 ∙ sym there_own.0) (here.1 ∙ sym there_own.1)
          (list_all-contains (λ next. is_lt (step_key_cmp (step_key row) (step_key next))) rest next first there)),
      rises_from c round rest later (in_key_order-rest step_key_cmp step_key step_key_cmp_total row rest ordered),
    )

pub round_rises : (steps : List StepRow) (c : Id) (round : ℕ) → in_key_order step_key_cmp step_key steps ≡ true → Rises (steps_in steps c round)
unfolding steps_in
round_rises steps c round ordered = rises_from c round (steps_in steps c round) (of_the_round steps c round)
    (in_key_order-filter step_key_cmp step_key step_key_cmp_total (is_of_round c round) steps ordered)

-- ---- in turn

-- from each step that does not wait to the head of the round
pub turn_by_turn : (rows : List StepRow) → Rises rows
    → ((row : StepRow) → Contains rows row → is_waiting row.step.state ≡ false → is_in_turn rows row.ordinal ≡ true) → go_in_turn rows ≡ true
turn_by_turn [] rising each = refl
turn_by_turn (first ∷ rest) rising each =
    and_from (is_done first.step.state || all_waiting rest) (go_in_turn rest) (head (is_done first.step.state) refl)
    (turn_by_turn rest rising.1 (λ row there active. (after row there active).1))
  where
    after : (row : StepRow) → Contains rest row → is_waiting row.step.state ≡ false
        → ((not (nat_lt first.ordinal row.ordinal) || is_done first.step.state) ≡ true) × (is_in_turn rest row.ordinal ≡ true)
    after row there active = and_parts (not (nat_lt first.ordinal row.ordinal) || is_done first.step.state) (is_in_turn rest row.ordinal)
        (each row (Contains-later first row rest there) active)

    head : (b : Bool) → is_done first.step.state ≡ b → (is_done first.step.state || all_waiting rest) ≡ true
    head true e = or_left (is_done first.step.state) (all_waiting rest) e
    head false e = or_right (is_done first.step.state) (all_waiting rest) (list_all-from_each (λ row. is_waiting row.step.state) rest (λ row there. waits row there (is_waiting row.step.state) refl))
      where
        waits : (row : StepRow) → Contains rest row → (w : Bool) → is_waiting row.step.state ≡ w → is_waiting row.step.state ≡ true
        waits row there true is = is
        waits row there false is =
            let below = lt-ltb first.ordinal row.ordinal (All-contains (λ next. first.ordinal < next.ordinal) rest row rising.0 there) in
            let turned : false ≡ true = rw (below, e) at (after row there is).0 in
            absurd (cc)

-- and back
pub turn_of_each : (rows : List StepRow) → Rises rows → go_in_turn rows ≡ true
    → (row : StepRow) → Contains rows row → is_waiting row.step.state ≡ false → is_in_turn rows row.ordinal ≡ true
turn_of_each [] rising turns row there active = absurd (let (k, within, is) = there in omega arith)
turn_of_each (first ∷ rest) rising turns row there active = by_place (turn_of_each rest rising.1) (Contains-cases first row rest there)
  where
    parts : ((is_done first.step.state || all_waiting rest) ≡ true) × (go_in_turn rest ≡ true)
    parts = and_parts (is_done first.step.state || all_waiting rest) (go_in_turn rest) turns

    -- all others of the round come after the first
    none_before_first : is_in_turn (first ∷ rest) first.ordinal ≡ true
    none_before_first = list_all-from_each (λ other. not (nat_lt other.ordinal first.ordinal) || is_done other.step.state) (first ∷ rest)
        (λ other among. or_left (not (nat_lt other.ordinal first.ordinal)) (is_done other.step.state)
        (not_from_false (nat_lt other.ordinal first.ordinal) (le-ltb other.ordinal first.ordinal (not_below other (Contains-cases first other rest among)))))
      where
        not_below : (other : StepRow) → (first ≡ other) ⊎ Contains rest other → first.ordinal ≤ other.ordinal
        not_below other (inl same) = rw same (omega arith)
        not_below other (inr later) = let below = All-contains (λ next. first.ordinal < next.ordinal) rest other rising.0 later in omega arith

    first_done : Contains rest row → (is_done first.step.state ≡ true) ⊎ (all_waiting rest ≡ true) → is_done first.step.state ≡ true
    first_done later (inl done) = done
    first_done later (inr waiting) = absurd (both_ways (is_waiting row.step.state) active (list_all-contains (λ row. is_waiting row.step.state) rest row waiting later))

    by_place : (go_in_turn rest ≡ true → (row : StepRow) → Contains rest row → is_waiting row.step.state ≡ false → is_in_turn rest row.ordinal ≡ true)
        → (first ≡ row) ⊎ Contains rest row → is_in_turn (first ∷ rest) row.ordinal ≡ true
    by_place more (inl same) = subst (λ (x : StepRow). is_in_turn (first ∷ rest) x.ordinal ≡ true) same none_before_first
    by_place more (inr later) = and_from (not (nat_lt first.ordinal row.ordinal) || is_done first.step.state) (is_in_turn rest row.ordinal)
        (or_right (not (nat_lt first.ordinal row.ordinal)) (is_done first.step.state) (first_done later (or_cases (is_done first.step.state) (all_waiting rest) parts.0)))
        (more parts.1 row later active)
