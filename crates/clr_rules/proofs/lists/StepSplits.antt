-- A list of steps split at one of them: what is so of the whole before and after it is put again.
use Rattle.std.proofs.Common.{◌≡◌, ℕ, Bool, true, false, ◌||◌, nat_eq, List, [], ◌∷◌, ◌++◌, map, All, Contains, refl, ◌∙◌, ap, arith, ◌⊎◌, inl, inr, is_lt, Ordering, Less, eq-eqb}
use Rattle.clr_rules.proofs.Common.{IsTotalOrder, list_any, and_from, and_parts, both_ways, false≢true, or_cases, or_left, or_right, tied_itself, StepState, Waiting, in_key_order-first}
use Rattle.clr_rules.proofs.Common.{in_key_order-rest, Contains-cases, list_all-contains, in_key_order, with_row, steps_left_of, all_waiting, go_in_turn, of_round}
use Rattle.std.proofs.lemmas.List.Elements.{All-append, All-cons, All-head, All-nil, All-tail, filter-append}
use Rattle.clr_rules.specs.Prelude.{Repeated, StepRow, all_done, is_active, is_done, is_waiting}
use Rattle.clr_shelf.proofs.FirstRow.{with_row-after, with_row-over}
use Rattle.clr_shelf.proofs.Keys.{less}
use Rattle.clr_rules.specs.Steps.{is_repeated}

-- ---- a row that is put over another splits the list where that was

module _ {Key Row : Type 0} (compare : Key → Key → Ordering) (key_of : Row → Key) (order : IsTotalOrder compare) where
  pub record Split (rows put : List Row) (row new : Row) : Type 0 where
    pub before : List Row
    pub after : List Row
    pub was : rows ≡ before ++ row ∷ after
    pub is : put ≡ before ++ new ∷ after

  pub split_at : (row new : Row) (rows : List Row) → in_key_order compare key_of rows ≡ true → key_of new ≡ key_of row → Contains rows row
      → Split rows (with_row compare key_of new rows) row new
  split_at row new [] ordered same there = let (k, within, is) = there in absurd (omega arith)
  split_at row new (first ∷ rest) ordered same there =
      at (Contains-cases first row rest there) (split_at row new rest (in_key_order-rest compare key_of order first rest ordered) same)
    where
      at : (first ≡ row) ⊎ Contains rest row → (Contains rest row → Split rest (with_row compare key_of new rest) row new)
          → Split (first ∷ rest) (with_row compare key_of new (first ∷ rest)) row new
      at (inl here) more = record {
        before = [];
        after = rest;
        was = ap (λ (x : Row). x ∷ rest) here;
        is = with_row-over compare key_of order new first rest ordered (rw (here, same) (tied_itself order (key_of row)));
      }
      at (inr later) more =
          let s = more later in
          let lower : compare (key_of first) (key_of new) ≡ Less =
          ap (compare (key_of first)) same ∙ less (compare (key_of first) (key_of row))
          (list_all-contains (λ next. is_lt (compare (key_of first) (key_of next))) rest row (in_key_order-first compare key_of order first rest ordered) later) in
          record {
            before = first ∷ s.before;
            after = s.after;
            was = ap (λ (rows : List Row). first ∷ rows) s.was;
            is = with_row-after compare key_of order new first rest lower ∙ ap (λ (rows : List Row). first ∷ rows) s.is;
          }

-- ---- tests of a split list

module _ {X : Type 0} where
  pub All-before : (P : X → Type 0) (before rest : List X) → All P (before ++ rest) → All P before × All P rest
  All-before P [] rest all = (All-nil P, all)
  All-before P (x ∷ before) rest all =
      let more = All-before P before rest (All-tail P x (before ++ rest) all) in
      (All-cons P x before (All-head P x (before ++ rest) all) more.0, more.1)

  -- all alike, with another element in the place of one
  pub All-swap : (P : X → Type 0) (before : List X) (old new : X) (after : List X) → P new → All P (before ++ old ∷ after) → All P (before ++ new ∷ after)
  All-swap P before old new after here all =
      let parts = All-before P before (old ∷ after) all in
      All-append P before (new ∷ after) parts.0 (All-cons P new after here (All-tail P old after parts.1))

  pub map-swap : {Y : Type 0} (f : X → Y) (before : List X) (old new : X) (after : List X) → f new ≡ f old → map f (before ++ new ∷ after) ≡ map f (before ++ old ∷ after)
  map-swap f [] old new after same = ap (λ y. y ∷ map f after) same
  map-swap f (x ∷ before) old new after same = ap (λ ys. f x ∷ ys) (map-swap f before old new after same)

  pub any-swap : (f : X → Bool) (before : List X) (old new : X) (after : List X) → f new ≡ f old → list_any f (before ++ new ∷ after) ≡ list_any f (before ++ old ∷ after)
  any-swap f [] old new after same = ap (λ b. b || list_any f after) same
  any-swap f (x ∷ before) old new after same = ap (λ b. f x || b) (any-swap f before old new after same)

  -- where the old element did not pass, the new one counts alone beside the others
  pub any-more : (f : X → Bool) (before : List X) (old new : X) (after : List X) → f old ≡ false
      → list_any f (before ++ new ∷ after) ≡ (f new || list_any f (before ++ old ∷ after))
  any-more f [] old new after none = rw none refl
  any-more f (x ∷ before) old new after none = at (f x) (f new) (list_any f (before ++ new ∷ after)) (list_any f (before ++ old ∷ after)) (any-more f before old new after none)
    where
      at : (a b more less : Bool) → more ≡ (b || less) → (a || more) ≡ (b || (a || less))
      at true true more less h = refl
      at true false more less h = refl
      at false true more less h = h
      at false false more less h = h

  -- where none of the others passes, it is the test of the one
  pub any-only : (f : X → Bool) (before : List X) (x : X) (after : List X) → All (λ y. f y ≡ false) before → All (λ y. f y ≡ false) after
      → list_any f (before ++ x ∷ after) ≡ f x
  any-only f [] x [] none_before none_after = at (f x)
    where
      at : (b : Bool) → (b || false) ≡ b
      at true = refl
      at false = refl
  any-only f [] x (y ∷ after) none_before none_after =
      rw (All-head (λ y. f y ≡ false) y after none_after) (any-only f [] x after none_before (All-tail (λ y. f y ≡ false) y after none_after))
  any-only f (y ∷ before) x after none_before none_after =
      rw (All-head (λ y. f y ≡ false) y before none_before) (any-only f before x after (All-tail (λ y. f y ≡ false) y before none_before) none_after)

-- ---- rounds of a split list

module _ (before : List StepRow) (x : StepRow) (after : List StepRow) (k : ℕ) where
  pub of_round-here : x.round ≡ k → of_round (before ++ x ∷ after) k ≡ of_round before k ++ x ∷ of_round after k
  unfolding of_round
  of_round-here is = filter-append (λ (row : StepRow). nat_eq row.round k) before (x ∷ after) ∙ rw (eq-eqb x.round k is) refl

  pub of_round-far : nat_eq x.round k ≡ false → of_round (before ++ x ∷ after) k ≡ of_round before k ++ of_round after k
  unfolding of_round
  of_round-far far = filter-append (λ (row : StepRow). nat_eq row.round k) before (x ∷ after) ∙ rw far refl

-- ---- turns

pub waiting_in_turn : (rows : List StepRow) → all_waiting rows ≡ true → go_in_turn rows ≡ true
waiting_in_turn [] waits = refl
waiting_in_turn (row ∷ rows) waits =
    let parts = and_parts (is_waiting row.step.state) (all_waiting rows) waits in
    and_from (is_done row.step.state || all_waiting rows) (go_in_turn rows) (or_right (is_done row.step.state) (all_waiting rows) parts.1) (waiting_in_turn rows parts.1)

pub turn_after_done : (before rest : List StepRow) → all_done before ≡ true → go_in_turn rest ≡ true → go_in_turn (before ++ rest) ≡ true
turn_after_done [] rest done turns = turns
turn_after_done (row ∷ before) rest done turns =
    let parts = and_parts (is_done row.step.state) (all_done before) done in
    and_from (is_done row.step.state || all_waiting (before ++ rest)) (go_in_turn (before ++ rest)) (or_left (is_done row.step.state) (all_waiting (before ++ rest)) parts.0)
    (turn_after_done before rest parts.1 turns)

-- with all Done before and all waiting after, steps go in turn whatever the one between
pub turn_between : (before : List StepRow) (x : StepRow) (after : List StepRow) → all_done before ≡ true → all_waiting after ≡ true → go_in_turn (before ++ x ∷ after) ≡ true
turn_between before x after done waits = turn_after_done before (x ∷ after) done
    (and_from (is_done x.step.state || all_waiting after) (go_in_turn after) (or_right (is_done x.step.state) (all_waiting after) waits) (waiting_in_turn after waits))

one_waits : (before : List StepRow) (x : StepRow) (after : List StepRow) → all_waiting (before ++ x ∷ after) ≡ true → is_waiting x.step.state ≡ true
one_waits [] x after waits = (and_parts (is_waiting x.step.state) (all_waiting after) waits).0
one_waits (row ∷ before) x after waits = one_waits before x after (and_parts (is_waiting row.step.state) (all_waiting (before ++ x ∷ after)) waits).1

-- before a step that does not wait all are Done
pub done_before : (before : List StepRow) (x : StepRow) (after : List StepRow) → go_in_turn (before ++ x ∷ after) ≡ true → is_waiting x.step.state ≡ false → all_done before ≡ true
done_before [] x after turns moves = refl
done_before (row ∷ before) x after turns moves =
    let parts = and_parts (is_done row.step.state || all_waiting (before ++ x ∷ after)) (go_in_turn (before ++ x ∷ after)) turns in
    and_from (is_done row.step.state) (all_done before) (at (or_cases (is_done row.step.state) (all_waiting (before ++ x ∷ after)) parts.0)) (done_before before x after parts.1 moves)
  where
    at : (is_done row.step.state ≡ true) ⊎ (all_waiting (before ++ x ∷ after) ≡ true) → is_done row.step.state ≡ true
    at (inl done) = done
    at (inr waits) = absurd (both_ways (is_waiting x.step.state) moves (one_waits before x after waits))

-- after a step that is not Done all wait
pub waiting_after : (before : List StepRow) (x : StepRow) (after : List StepRow) → go_in_turn (before ++ x ∷ after) ≡ true → is_done x.step.state ≡ false → all_waiting after ≡ true
waiting_after [] x after turns not_done = rw not_done at (and_parts (is_done x.step.state || all_waiting after) (go_in_turn after) turns).0
waiting_after (row ∷ before) x after turns not_done =
    waiting_after before x after (and_parts (is_done row.step.state || all_waiting (before ++ x ∷ after)) (go_in_turn (before ++ x ∷ after)) turns).1 not_done

-- ---- what is left

pub left_after_done : (before rest : List StepRow) → all_done before ≡ true → steps_left_of (before ++ rest) ≡ steps_left_of rest
left_after_done [] rest done = refl
left_after_done (row ∷ before) rest done =
    let parts = and_parts (is_done row.step.state) (all_done before) done in
    rw parts.0 (left_after_done before rest parts.1)

pub waiting_not_done : (state : StepState) → is_waiting state ≡ true → is_done state ≡ false
waiting_not_done Waiting h = refl
waiting_not_done _ h = absurd (false≢true h)

pub left_waiting : (rows : List StepRow) → all_waiting rows ≡ true → steps_left_of rows ≡ rows
left_waiting [] waits = refl
left_waiting (row ∷ rows) waits =
    let parts = and_parts (is_waiting row.step.state) (all_waiting rows) waits in
    rw (waiting_not_done row.step.state parts.0) (ap (λ (rows : List StepRow). row ∷ rows) (left_waiting rows parts.1))

-- a step that was repeated is given out
pub repeated_is_active : (state : StepState) → is_repeated state ≡ true → is_active state ≡ true
repeated_is_active Repeated h = refl
repeated_is_active _ h = absurd (false≢true h)

-- what waits, and what is Done, is not given out
pub waits_not_active : (state : StepState) → is_waiting state ≡ true → is_active state ≡ false
waits_not_active Waiting h = refl
waits_not_active _ h = absurd (false≢true h)
