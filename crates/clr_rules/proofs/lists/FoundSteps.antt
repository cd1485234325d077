-- What the step of a number in the present round is: a step of the clearance, with that number.
use Rattle.std.proofs.Common.{◌≡◌, ℕ, Bool, true, false, ◌&&◌, List, [], ◌∷◌, filter, find, Contains, Some, refl, subst, if◌then◌else◌, ◌==◌, eqb-true, ◌⊎◌, inl, inr}
use Rattle.clr_rules.proofs.Common.{and_from, and_parts, same_Some, any_from, same_itself, same_name, Contains-here, Contains-later, StepRow, Id, same_id, is_active, is_some_step, present_steps}
use Rattle.clr_rules.proofs.Common.{step_at, steps_in, steps_of, is_close, is_of_round, Contains-filter}
use Rattle.clr_rules.specs.Good.{is_active_at, is_closing_at}

-- what is found among those that a filter keeps
pub found_among : {X : Type 0} (p q : X → Bool) (xs : List X) (x : X) → find p (filter q xs) ≡ Some x → Contains xs x × (q x ≡ true) × (p x ≡ true)
found_among {X = X} p q [] x h = absurd (cc)
found_among {X = X} p q (y ∷ xs) x h = at (q y) refl (p y) refl (found_among p q xs x)
  where
    at : (b : Bool) → q y ≡ b → (d : Bool) → p y ≡ d → (find p (filter q xs) ≡ Some x → Contains xs x × (q x ≡ true) × (p x ≡ true))
        → Contains (y ∷ xs) x × (q x ≡ true) × (p x ≡ true)
    at true keeps true passes more =
        let same : y ≡ x = same_Some y x (rw (keeps, passes) at h) in
        (subst (λ (z : X). Contains (y ∷ xs) z) same (Contains-here y xs), rw (← same) keeps, rw (← same) passes)
    at true keeps false fails more = let (there, kept, passed) = more (rw (keeps, fails) at h) in (Contains-later y x xs there, kept, passed)
    at false drops d is more = let (there, kept, passed) = more (rw drops at h) in (Contains-later y x xs there, kept, passed)

-- a step of the clearance, with this number
pub record IsStepOf (steps : List StepRow) (c : Id) (n : ℕ) (row : StepRow) : Type 0 where
  pub there : Contains steps row
  pub own : same_id c row.id ≡ true
  pub number : row.ordinal ≡ n

step_of_round : (steps : List StepRow) (c : Id) (round n : ℕ) (row : StepRow) → step_at (steps_in steps c round) n ≡ Some row → IsStepOf steps c n row
unfolding steps_in
step_of_round steps c round n row found =
    let (there, inside, number) = found_among (λ (row : StepRow). row.ordinal == n) (is_of_round c round) steps row found in
    let (own, _) = and_parts (same_id c row.id) (row.round == round) inside in
    record { there = there; own = own; number = eqb-true row.ordinal n number }

pub present_step : (steps : List StepRow) (c : Id) (n : ℕ) (row : StepRow) → step_at (present_steps steps c) n ≡ Some row → IsStepOf steps c n row
present_step steps c n row found = at (is_some_step (steps_in steps c 2)) found
  where
    at : (b : Bool) → step_at (if b then steps_in steps c 2 else steps_in steps c 1) n ≡ Some row → IsStepOf steps c n row
    at true h = step_of_round steps c 2 n row h
    at false h = step_of_round steps c 1 n row h

round_found : (steps : List StepRow) (c : Id) (round n : ℕ) (row : StepRow) → step_at (steps_in steps c round) n ≡ Some row → row.round ≡ round
unfolding steps_in
round_found steps c round n row found =
    let (there, inside, number) = found_among (λ (row : StepRow). row.ordinal == n) (is_of_round c round) steps row found in
    eqb-true row.round round (and_parts (same_id c row.id) (row.round == round) inside).1

-- it is of the first round or the second
pub present_rounds : (steps : List StepRow) (c : Id) (n : ℕ) (row : StepRow) → step_at (present_steps steps c) n ≡ Some row → (row.round ≡ 1) ⊎ (row.round ≡ 2)
present_rounds steps c n row found = at (is_some_step (steps_in steps c 2)) found
  where
    at : (b : Bool) → step_at (if b then steps_in steps c 2 else steps_in steps c 1) n ≡ Some row → (row.round ≡ 1) ⊎ (row.round ≡ 2)
    at true h = inr (round_found steps c 2 n row h)
    at false h = inl (round_found steps c 1 n row h)

-- where it is given out and not reported, its point has such a step
pub step_is_active : (steps : List StepRow) (c : Id) (row : StepRow) → Contains steps row → same_id c row.id ≡ true → is_active row.step.state ≡ true
    → is_active_at steps c row.step.point ≡ true
unfolding is_active_at steps_of
step_is_active steps c row there own active =
    any_from (λ other. is_active other.step.state && same_name row.step.point other.step.point) (filter (λ other. same_id c other.id) steps) row
    (Contains-filter (λ other. same_id c other.id) steps row there own) (and_from _ _ active (same_itself row.step.point))

-- and if it is a Close, one that closes
pub step_is_closing : (steps : List StepRow) (c : Id) (row : StepRow) → Contains steps row → same_id c row.id ≡ true → is_active row.step.state ≡ true
    → is_close row.step.action ≡ true → is_closing_at steps c row.step.point ≡ true
unfolding is_closing_at steps_of
step_is_closing steps c row there own active closes =
    any_from (λ other. (is_active other.step.state && is_close other.step.action) && same_name row.step.point other.step.point)
    (filter (λ other. same_id c other.id) steps) row (Contains-filter (λ other. same_id c other.id) steps row there own)
    (and_from _ _ (and_from _ _ active closes) (same_itself row.step.point))
