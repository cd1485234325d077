-- A step among those of its clearance: how it is found, and what is so of the steps when another is put over it.
use Rattle.std.proofs.Common.{◌≡◌, ◌<◌, Bool, true, false, not, ◌||◌, nat_eq, nat_lt, List, [], ◌∷◌, ◌++◌, Some, find, All, Contains, refl, sym, ◌∙◌, ap, arith, ◌⊎◌, inl, inr}
use Rattle.std.specs.Ordering.{is_lt}
use Rattle.std.specs.declared.cmp.Ordering.TheVariants.{Less}
use Rattle.std.proofs.lemmas.Bool.{and_from, and_parts, eq-eqb, eqb-true, false_from_ne_true, le-ltb}
use Rattle.std.proofs.lemmas.Cmp.{tied_itself}
use Rattle.std.proofs.lemmas.List.Elements.{All-contains, All-head, All-tail}
use Rattle.std.proofs.lemmas.Option.{same_Some}
use Rattle.clr_shelf.proofs.FirstRow.{with_row-after, with_row-over}
use Rattle.clr_shelf.proofs.KeyOrder.{in_key_order-filter, in_key_order-first, in_key_order-rest}
use Rattle.clr_shelf.proofs.Keys.{less}
use Rattle.clr_shelf.proofs.Lists.{Contains-cases, Contains-here, Contains-later, list_all-contains}
use Rattle.clr_shelf.specs.Rows.{in_key_order}
use Rattle.clr_rules.specs.GoodByPhase.{of_round}
use Rattle.clr_rules.specs.Prelude.{StepRow, Id, same_id, step_key, step_key_cmp, step_key_cmp_total, all_done, is_done, points_of, step_at, steps_in, steps_of}
use Rattle.clr_rules.specs.Steps.{is_in_turn}
use Rattle.clr_rules.specs.declared.step_row.StepKey.{StepKey}
use Rattle.clr_rules.proofs.edits.PutSteps.{own_steps, put_step}
use Rattle.clr_rules.proofs.good.StepsInTurn.{Rises}
use Rattle.clr_rules.proofs.lists.RoundSteps.{of_round_is, own_id}
use Rattle.clr_rules.proofs.lists.StepSplits.{All-before, of_round-here, split_at}

-- ---- it is found by its number

pub found_at : (rows : List StepRow) (row : StepRow) → Rises rows → Contains rows row → step_at rows row.ordinal ≡ Some row
found_at [] row rising there = let (k, within, is) = there in absurd (omega arith)
found_at (first ∷ rest) row rising there = at (Contains-cases first row rest there) (found_at rest row rising.1)
  where
    at : (first ≡ row) ⊎ Contains rest row → (Contains rest row → step_at rest row.ordinal ≡ Some row) → step_at (first ∷ rest) row.ordinal ≡ Some row
    at (inl here) more = rw (eq-eqb first.ordinal row.ordinal (ap (λ (row : StepRow). row.ordinal) here)) (ap Some here)
    at (inr later) more =
        let lower : first.ordinal < row.ordinal = All-contains (λ (next : StepRow). first.ordinal < next.ordinal) rest row rising.0 later in
        let differs : nat_eq first.ordinal row.ordinal ≡ false = false_from_ne_true (nat_eq first.ordinal row.ordinal) (λ e. let same = eqb-true first.ordinal row.ordinal e in omega arith) in
        rw differs (more later)

-- the first that is left has all Done before it
pub done_before_first : (before : List StepRow) (row : StepRow) (after : List StepRow) → Rises (before ++ row ∷ after)
    → find (λ row. not (is_done row.step.state)) (before ++ row ∷ after) ≡ Some row → all_done before ≡ true
done_before_first [] row after rising found = refl
done_before_first (first ∷ before) row after rising found = at (is_done first.step.state) refl (done_before_first before row after rising.1)
  where
    at : (b : Bool) → is_done first.step.state ≡ b → (find (λ row. not (is_done row.step.state)) (before ++ row ∷ after) ≡ Some row → all_done before ≡ true)
        → all_done (first ∷ before) ≡ true
    at true e more = rw e (more (rw e at found))
    at false e more =
        let same : first ≡ row = same_Some first row (rw e at found) in
        let lower : first.ordinal < row.ordinal = All-head (λ (next : StepRow). first.ordinal < next.ordinal) row after
        (All-before (λ (next : StepRow). first.ordinal < next.ordinal) before (row ∷ after) rising.0).1 in
        let equal : first.ordinal ≡ row.ordinal = ap (λ (row : StepRow). row.ordinal) same in
        absurd (omega arith)

-- and is the first that is left, where all before it are Done
pub first_after_done : (before : List StepRow) (row : StepRow) (after : List StepRow) → all_done before ≡ true → is_done row.step.state ≡ false
    → find (λ row. not (is_done row.step.state)) (before ++ row ∷ after) ≡ Some row
first_after_done [] row after done left = rw left refl
first_after_done (first ∷ before) row after done left =
    let parts = and_parts (is_done first.step.state) (all_done before) done in rw parts.0 (first_after_done before row after parts.1 left)

-- it has its turn
pub turn_after_done : (before : List StepRow) (row : StepRow) (after : List StepRow) → Rises (before ++ row ∷ after) → all_done before ≡ true
    → is_in_turn (before ++ row ∷ after) row.ordinal ≡ true
turn_after_done [] row after rising done =
    and_from (not (nat_lt row.ordinal row.ordinal) || is_done row.step.state) (is_in_turn after row.ordinal) (rw (le-ltb row.ordinal row.ordinal (omega arith)) refl) (later after rising.0)
  where
    later : (rows : List StepRow) → All (λ next. row.ordinal < next.ordinal) rows → is_in_turn rows row.ordinal ≡ true
    later [] all = refl
    later (next ∷ rows) all =
        let lower : row.ordinal < next.ordinal = All-head (λ (next : StepRow). row.ordinal < next.ordinal) next rows all in
        and_from (not (nat_lt next.ordinal row.ordinal) || is_done next.step.state) (is_in_turn rows row.ordinal) (rw (le-ltb next.ordinal row.ordinal (omega arith)) refl)
        (later rows (All-tail (λ (next : StepRow). row.ordinal < next.ordinal) next rows all))
turn_after_done (first ∷ before) row after rising done =
    let parts = and_parts (is_done first.step.state) (all_done before) done in
    and_from (not (nat_lt first.ordinal row.ordinal) || is_done first.step.state) (is_in_turn (before ++ row ∷ after) row.ordinal)
    (rw parts.0 (any_or (not (nat_lt first.ordinal row.ordinal)))) (turn_after_done before row after rising.1 parts.1)
  where
    any_or : (b : Bool) → (b || true) ≡ true
    any_or true = refl
    any_or false = refl

-- ---- another is put over it

pub put_over : (before : List StepRow) (row new : StepRow) (after : List StepRow) → in_key_order step_key_cmp step_key (before ++ row ∷ after) ≡ true → step_key new ≡ step_key row
    → put_step new (before ++ row ∷ after) ≡ before ++ new ∷ after
put_over [] row new after ordered same = with_row-over step_key_cmp step_key step_key_cmp_total new row after ordered (ap (step_key_cmp (step_key row)) same ∙ tied_itself step_key_cmp_total (step_key row))
put_over (first ∷ before) row new after ordered same =
    let lower : step_key_cmp (step_key first) (step_key new) ≡ Less = ap (step_key_cmp (step_key first)) same ∙ less (step_key_cmp (step_key first) (step_key row))
    (list_all-contains (λ next. is_lt (step_key_cmp (step_key first) (step_key next))) (before ++ row ∷ after) row
    (in_key_order-first step_key_cmp step_key step_key_cmp_total first (before ++ row ∷ after) ordered) (among before)) in
    with_row-after step_key_cmp step_key step_key_cmp_total new first (before ++ row ∷ after) lower
    ∙ ap (λ (rows : List StepRow). first ∷ rows)
    (put_over before row new after (in_key_order-rest step_key_cmp step_key step_key_cmp_total first (before ++ row ∷ after) ordered) same)
  where
    among : (before : List StepRow) → Contains (before ++ row ∷ after) row
    among [] = Contains-here row after
    among (first ∷ before) = Contains-later first row (before ++ row ∷ after) (among before)

-- the steps of a clearance, split at one of them
pub record SplitAt (steps : List StepRow) (c : Id) (row : StepRow) : Type 0 where
  pub before : List StepRow
  pub after : List StepRow
  pub own : row.id ≡ c
  pub was : steps_of steps c ≡ before ++ row ∷ after

ordered_own : (c : Id) (steps : List StepRow) → in_key_order step_key_cmp step_key steps ≡ true → in_key_order step_key_cmp step_key (steps_of steps c) ≡ true
unfolding steps_of
ordered_own c steps ordered = in_key_order-filter step_key_cmp step_key step_key_cmp_total (λ (row : StepRow). same_id c row.id) steps ordered

pub split_of : (steps : List StepRow) (c : Id) (row : StepRow) → in_key_order step_key_cmp step_key steps ≡ true → row.id ≡ c → Contains (steps_of steps c) row → SplitAt steps c row
split_of steps c row ordered own there =
    let s = split_at step_key_cmp step_key step_key_cmp_total row row (steps_of steps c) (ordered_own c steps ordered) refl there in
    record { before = s.before; after = s.after; own = own; was = s.was }

-- another put over it
pub split_again : (steps : List StepRow) (c : Id) (row new : StepRow) → in_key_order step_key_cmp step_key steps ≡ true → (s : SplitAt steps c row) → step_key new ≡ step_key row
    → steps_of (put_step new steps) c ≡ s.before ++ new ∷ s.after
split_again steps c row new ordered s same =
    own_steps c new steps (ap (same_id c) (ap (λ (k : StepKey). StepKey.id k) same ∙ s.own) ∙ own_id c)
    ∙ ap (put_step new) s.was
    ∙ put_over s.before row new s.after (sym (ap (λ rows. in_key_order step_key_cmp step_key rows) s.was) ∙ ordered_own c steps ordered) same

-- the second round by the split
pub second_by : (steps : List StepRow) (c : Id) (before : List StepRow) (row : StepRow) (after : List StepRow) → steps_of steps c ≡ before ++ row ∷ after → row.round ≡ 2
    → steps_in steps c 2 ≡ of_round before 2 ++ row ∷ of_round after 2
second_by steps c before row after was round = sym (of_round_is steps c 2) ∙ ap (λ rows. of_round rows 2) was ∙ of_round-here before row after 2 round

-- the points of the steps stay
pub points_swap : (before : List StepRow) (row new : StepRow) (after : List StepRow) → new.step.point ≡ row.step.point → points_of (before ++ new ∷ after) ≡ points_of (before ++ row ∷ after)
points_swap [] row new after same = ap (λ p. p ∷ points_of after) same
points_swap (first ∷ before) row new after same = ap (λ points. first.step.point ∷ points) (points_swap before row new after same)

pub in_the_midst : (before : List StepRow) (row : StepRow) (after : List StepRow) → Contains (before ++ row ∷ after) row
in_the_midst [] row after = Contains-here row after
in_the_midst (first ∷ before) row after = Contains-later first row (before ++ row ∷ after) (in_the_midst before row after)
