-- The steps of a clearance, round by round; what a filter of a list keeps.
use Rattle.std.proofs.Common.{◌≡◌, ℕ, Bool, true, false, ◌&&◌, nat_eq, List, [], ◌∷◌, length, filter, Some, All, Contains, refl, sym, ◌∙◌, subst, arith}
use Rattle.std.proofs.lemmas.Bool.{and_from, and_parts, eqb-true, eq-eqb, lt-ltb, ltb-false}
use Rattle.std.proofs.lemmas.List.Elements.{All-contains_itself, All-filter, All-head, All-tail, All-weaker, filter_passes}
use Rattle.clr_shelf.proofs.Keys.{equal}
use Rattle.clr_shelf.proofs.Members.{member-row_of}
use Rattle.clr_rules.specs.GoodByPhase.{of_round, present_of}
use Rattle.clr_rules.specs.Prelude.{Record, StepRow, Id, id_cmp, id_cmp_total, same_id, record_key, record_of, is_some_step, present_round, steps_in, steps_of}
use Rattle.clr_rules.specs.Id.{same_id_equiv, same_id_from_tie, same_id_ties}
use Rattle.clr_rules.specs.Steps.{is_of_round}
use Rattle.clr_rules.proofs.lists.NamedRows.{Contains-filter}

-- ---- lists

-- what holds of each element that is there holds of all
pub All-from_each : {X : Type 0} (P : X → Type 0) (xs : List X) → ((x : X) → Contains xs x → P x) → All P xs
All-from_each P xs each = All-weaker (Contains xs) P each xs (All-contains_itself xs)

-- a filter keeps nothing where nothing passes
pub filter-none_passes : {X : Type 0} (q : X → Bool) (xs : List X) → All (λ x. q x ≡ false) xs → filter q xs ≡ []
filter-none_passes q [] h = refl
filter-none_passes q (x ∷ xs) h = rw (All-head (λ x. q x ≡ false) x xs h) (filter-none_passes q xs (All-tail (λ x. q x ≡ false) x xs h))

-- one filter after another keeps what passes both
pub filter-twice : {X : Type 0} (p q : X → Bool) (xs : List X) → filter p (filter q xs) ≡ filter (λ x. q x && p x) xs
filter-twice p q [] = refl
filter-twice p q (x ∷ xs) = at (q x) refl (filter-twice p q xs)
  where
    at : (b : Bool) → q x ≡ b → filter p (filter q xs) ≡ filter (λ x. q x && p x) xs → filter p (filter q (x ∷ xs)) ≡ filter (λ x. q x && p x) (x ∷ xs)
    at true e more = rw (e, more) refl
    at false e more = rw e more

-- ---- clearances

-- two ids that are the same are one
pub one_id : (c d : Id) → same_id c d ≡ true → c ≡ d
one_id c d same = same_id_from_tie c d (equal (id_cmp c d) (sym (same_id_ties c d) ∙ same))

pub own_id : (c : Id) → same_id c c ≡ true
own_id = same_id_equiv.refl

-- the record of a clearance bears its id
pub record_id : (records : List Record) (c : Id) (r : Record) → record_of records c ≡ Some r → r.id ≡ c
record_id records c r found = same_id_from_tie r.id c (equal (id_cmp r.id c) (member-row_of id_cmp record_key id_cmp_total c r records found).1)

-- ---- steps

-- the steps of a round among those of a clearance
pub of_round_is : (steps : List StepRow) (c : Id) (round : ℕ) → of_round (steps_of steps c) round ≡ steps_in steps c round
unfolding of_round steps_of steps_in
of_round_is steps c round = filter-twice (λ (row : StepRow). nat_eq row.round round) (λ (row : StepRow). same_id c row.id) steps

-- whose they are, and of which round
pub of_clearance : (steps : List StepRow) (c : Id) → All (λ row. row.id ≡ c) (steps_of steps c)
unfolding steps_of
of_clearance steps c = All-weaker (λ (row : StepRow). same_id c row.id ≡ true) (λ (row : StepRow). row.id ≡ c) (λ row same. sym (one_id c row.id same)) (steps_of steps c)
    (filter_passes (λ (row : StepRow). same_id c row.id) steps)

pub of_the_round : (steps : List StepRow) (c : Id) (round : ℕ) → All (λ row. (row.id ≡ c) × (row.round ≡ round)) (steps_in steps c round)
unfolding steps_in
of_the_round steps c round = All-weaker (λ (row : StepRow). is_of_round c round row ≡ true) (λ (row : StepRow). (row.id ≡ c) × (row.round ≡ round))
    (λ row both. let parts = and_parts (same_id c row.id) (nat_eq row.round round) both in (sym (one_id c row.id parts.0), eqb-true row.round round parts.1))
    (steps_in steps c round) (filter_passes (is_of_round c round) steps)

-- a step is among those of its clearance, and of its round
pub among_own : (steps : List StepRow) (row : StepRow) → Contains steps row → Contains (steps_of steps row.id) row
unfolding steps_of
among_own steps row there = Contains-filter (λ (other : StepRow). same_id row.id other.id) steps row there (own_id row.id)

pub in_own_round : (steps : List StepRow) (row : StepRow) → Contains steps row → Contains (steps_in steps row.id row.round) row
unfolding steps_in
in_own_round steps row there = Contains-filter (is_of_round row.id row.round) steps row there
    (and_from (same_id row.id row.id) (nat_eq row.round row.round) (own_id row.id) (eq-eqb row.round row.round refl))

-- no step, where there is not some
pub no_step_there : (rows : List StepRow) → is_some_step rows ≡ false → rows ≡ []
no_step_there [] h = refl
no_step_there (row ∷ rows) h = absurd (let none = ltb-false 0 (length (row ∷ rows)) h in omega arith)

pub some_step_there : (row : StepRow) (rows : List StepRow) → is_some_step (row ∷ rows) ≡ true
some_step_there row rows = lt-ltb 0 (length (row ∷ rows)) (omega arith)

pub All-in_round : (P : StepRow → Type 0) (steps : List StepRow) (c : Id) (round : ℕ) → All P steps → All P (steps_in steps c round)
unfolding steps_in
All-in_round P steps c round all = All-filter (is_of_round c round) P steps all

-- what holds of all steps of a clearance holds of those of a round
pub All-in_own_round : (P : StepRow → Type 0) (steps : List StepRow) (c : Id) (round : ℕ) → All P (steps_of steps c) → All P (steps_in steps c round)
unfolding of_round
All-in_own_round P steps c round all =
    subst (All P) (of_round_is steps c round) (All-filter (λ (row : StepRow). nat_eq row.round round) P (steps_of steps c) all)

-- no step of a clearance, where none bears its id
pub no_step_of : (steps : List StepRow) (c : Id) → All (λ row. same_id c row.id ≡ false) steps → steps_of steps c ≡ []
unfolding steps_of
no_step_of steps c none = filter-none_passes (λ (row : StepRow). same_id c row.id) steps none

-- the present round of a clearance, by its own steps
pub present_of_is : (steps : List StepRow) (c : Id) → present_of (steps_of steps c) ≡ present_round steps c
present_of_is steps c = rw (of_round_is steps c 2, of_round_is steps c 1) refl
