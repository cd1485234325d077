-- How many rows pass a test once others are put.
use Rattle.std.proofs.Common.{◌≡◌, ◌≤◌, ℕ, ◌+◌, Bool, true, false, cond, not, ◌&&◌, ◌||◌, List, [], ◌∷◌, ◌++◌, length, filter, arith, refl, sym, ◌∙◌, ap}
use Rattle.std.specs.List.{count_by, list_all}
use Rattle.std.specs.Ordering.{is_eq, is_lt, is_gt}
use Rattle.std.specs.declared.cmp.Ordering.{Ordering}
use Rattle.std.specs.declared.cmp.Ordering.TheVariants.{Less, Equal, Greater}
use Rattle.std.proofs.lemmas.Bool.{and_parts}
use Rattle.std.proofs.lemmas.List.Sums.{count_by-le-length, length-filter, sum_by-append, sum_by-cons}
use Rattle.clr_shelf.specs.Rows.{with_row}
use Rattle.clr_rules.specs.Id.{Id}
use Rattle.clr_rules.specs.StepKey.{step_key, step_key_cmp}
use Rattle.clr_rules.specs.Steps.{is_done, is_of_round, steps_in}
use Rattle.clr_rules.specs.declared.step_row.StepRow.{StepRow}
use Rattle.clr_answer.specs.Card.{each_once, has_key_of, is_put, put_all}

three_ways : (o : Ordering) (b : Bool) → cond (is_lt o && b) 1 0 + cond (is_gt o && b) 1 0 ≡ cond (b && not (is_eq o)) 1 0
three_ways Less true = refl
three_ways Less false = refl
three_ways Equal true = refl
three_ways Equal false = refl
three_ways Greater true = refl
three_ways Greater false = refl

joined : (low high one_low one_high one lower higher all rest : ℕ) → low ≡ one_low + lower → high ≡ one_high + higher → all ≡ one + rest
    → one_low + one_high ≡ one → lower + higher ≡ rest → low + high ≡ all
joined low high one_low one_high one lower higher all rest a b d e f = omega arith

module _ {X : Type 0} where
  pub count_by-same : (p q : X → Bool) → ((x : X) → p x ≡ q x) → (xs : List X) → count_by p xs ≡ count_by q xs
  count_by-same p q same xs = λ i. count_by (λ x. same x i) xs

  pub count_by-append : (p : X → Bool) (xs ys : List X) → count_by p (xs ++ ys) ≡ count_by p xs + count_by p ys
  count_by-append p xs ys = sum_by-append (λ x. cond (p x) 1 0) xs ys

  pub count_by-cons : (p : X → Bool) (x : X) (xs : List X) → count_by p (x ∷ xs) ≡ cond (p x) 1 0 + count_by p xs
  count_by-cons p x xs = sum_by-cons (λ x. cond (p x) 1 0) x xs

  count_by-cond : (p : X → Bool) (x : X) (xs : List X) (stays : Bool) → count_by p (cond stays (x ∷ xs) xs) ≡ cond (stays && p x) 1 0 + count_by p xs
  count_by-cond p x xs true = count_by-cons p x xs
  count_by-cond p x xs false = omega arith

  pub count_by-filter : (p q : X → Bool) (xs : List X) → count_by p (filter q xs) ≡ count_by (λ x. q x && p x) xs
  count_by-filter p q [] = refl
  count_by-filter p q (x ∷ xs) =
      count_by-cond p x (filter q xs) (q x) ∙ ap (λ n. cond (q x && p x) 1 0 + n) (count_by-filter p q xs) ∙ sym (count_by-cons (λ x. q x && p x) x xs)

  -- those below a row and those above it are those beside it
  pub count_by-sides : (compare : X → X → Ordering) (p : X → Bool) (row : X) (xs : List X)
      → count_by p (filter (λ x. is_lt (compare x row)) xs) + count_by p (filter (λ x. is_gt (compare x row)) xs) ≡ count_by (λ x. p x && not (is_eq (compare x row))) xs
  count_by-sides compare p row [] = refl
  count_by-sides compare p row (x ∷ xs) =
      joined _ _ _ _ _ _ _ _ _
      (count_by-cond p x (filter (λ x. is_lt (compare x row)) xs) (is_lt (compare x row)))
      (count_by-cond p x (filter (λ x. is_gt (compare x row)) xs) (is_gt (compare x row)))
      (count_by-cons (λ x. p x && not (is_eq (compare x row))) x xs)
      (three_ways (compare x row) (p x))
      (count_by-sides compare p row xs)

  pub all_counted : (p : X → Bool) (xs : List X) → list_all p xs ≡ true → count_by p xs ≡ length xs
  all_counted p [] h = refl
  all_counted p (x ∷ xs) h =
      let more : count_by p (x ∷ xs) ≡ cond {A = ℕ} (p x) 1 0 + count_by p xs = count_by-cons p x xs in
      let first : cond {A = ℕ} (p x) 1 0 ≡ 1 = ap (λ b. cond b 1 0) ((and_parts (p x) (list_all p xs) h).0) in
      let rest : count_by p xs ≡ length xs = all_counted p xs ((and_parts (p x) (list_all p xs) h).1) in
      omega arith

  counted_first : (p : X → Bool) (x : X) (xs : List X) (b : Bool) → p x ≡ b → count_by p (x ∷ xs) ≡ length (x ∷ xs)
      → (count_by p xs ≡ length xs → list_all p xs ≡ true) → (p x && list_all p xs) ≡ true
  counted_first p x xs true is all others =
      let more : count_by p (x ∷ xs) ≡ cond {A = ℕ} (p x) 1 0 + count_by p xs = count_by-cons p x xs in
      let one : cond {A = ℕ} (p x) 1 0 ≡ 1 = ap (λ b. cond b 1 0) is in
      let left : count_by p xs ≡ length xs = omega arith in
      rw (is, others left) refl
  counted_first p x xs false is all others =
      let more : count_by p (x ∷ xs) ≡ cond {A = ℕ} (p x) 1 0 + count_by p xs = count_by-cons p x xs in
      let none : cond {A = ℕ} (p x) 1 0 ≡ 0 = ap (λ b. cond b 1 0) is in
      let few : count_by p xs ≤ length xs = count_by-le-length p xs in
      absurd (omega arith)

  pub counted_all : (p : X → Bool) (xs : List X) → count_by p xs ≡ length xs → list_all p xs ≡ true
  counted_all p [] h = refl
  counted_all p (x ∷ xs) h = counted_first p x xs (p x) refl h (counted_all p xs)

  not_all_counted : (p : X → Bool) (xs : List X) (b : Bool) → list_all p xs ≡ b → (count_by p xs ≡ length xs → ⊥) → b ≡ false
  not_all_counted p xs true is differ = absurd (differ (all_counted p xs is))
  not_all_counted p xs false is differ = refl

  pub not_counted : (p : X → Bool) (xs : List X) → (count_by p xs ≡ length xs → ⊥) → list_all p xs ≡ false
  not_counted p xs differ = not_all_counted p xs (list_all p xs) refl differ

-- a row that is put, and those of other keys
count_by-with_row : (p : StepRow → Bool) (row : StepRow) (steps : List StepRow)
    → count_by p (with_row step_key_cmp step_key row steps) ≡ count_by (λ x. p x && not (has_key_of x row)) steps + cond (p row) 1 0
unfolding with_row
count_by-with_row p row steps =
    let below = filter (λ (x : StepRow). is_lt (step_key_cmp (step_key x) (step_key row))) steps in
    let above = filter (λ (x : StepRow). is_gt (step_key_cmp (step_key x) (step_key row))) steps in
    let parts : count_by p (below ++ row ∷ above) ≡ count_by p below + count_by p (row ∷ above) = count_by-append p below (row ∷ above) in
    let own : count_by p (row ∷ above) ≡ cond {A = ℕ} (p row) 1 0 + count_by p above = count_by-cons p row above in
    let sides : count_by p below + count_by p above ≡ count_by (λ x. p x && not (has_key_of x row)) steps = count_by-sides (λ (a b : StepRow). step_key_cmp (step_key a) (step_key b)) p row steps in
    omega arith

and_true : (a b : Bool) → b ≡ true → (a && b) ≡ a
and_true true b is = is
and_true false b is = refl

and_not_false : (a : Bool) → (a && true) ≡ a
and_not_false true = refl
and_not_false false = refl

not_either : (a k s : Bool) → (a && not (k || s)) ≡ ((a && not s) && not k)
not_either true true true = refl
not_either true true false = refl
not_either true false true = refl
not_either true false false = refl
not_either false k s = refl

-- rows that are put, each under its own key, and those of other keys
pub count_by-put_all : (p : StepRow → Bool) (rows steps : List StepRow) → each_once rows ≡ true
    → count_by (λ x. p x && not (is_put rows x)) steps + count_by p rows ≡ count_by p (put_all rows steps)
count_by-put_all p [] steps once =
    let same : count_by (λ x. p x && true) steps ≡ count_by p steps = count_by-same (λ x. p x && true) p (λ x. and_not_false (p x)) steps in
    omega arith
count_by-put_all p (row ∷ rows) steps once =
    let left = λ (x : StepRow). p x && not (is_put rows x) in
    let (alone, others) = and_parts (not (is_put rows row)) (each_once rows) once in
    let rest : count_by left (with_row step_key_cmp step_key row steps) + count_by p rows ≡ count_by p (put_all rows (with_row step_key_cmp step_key row steps)) =
    count_by-put_all p rows (with_row step_key_cmp step_key row steps) others in
    let one : count_by left (with_row step_key_cmp step_key row steps) ≡ count_by (λ x. left x && not (has_key_of x row)) steps + cond {A = ℕ} (left row) 1 0 = count_by-with_row left row steps in
    let own : cond {A = ℕ} (left row) 1 0 ≡ cond {A = ℕ} (p row) 1 0 = ap (λ b. cond b 1 0) (and_true (p row) (not (is_put rows row)) alone) in
    let same : count_by (λ x. p x && not (is_put (row ∷ rows) x)) steps ≡ count_by (λ x. left x && not (has_key_of x row)) steps =
    count_by-same (λ x. p x && not (is_put (row ∷ rows) x)) (λ x. left x && not (has_key_of x row)) (λ x. not_either (p x) (has_key_of x row) (is_put rows x)) steps in
    let here : count_by p (row ∷ rows) ≡ cond {A = ℕ} (p row) 1 0 + count_by p rows = count_by-cons p row rows in
    omega arith

-- the steps of a round
pub round_length : (rows steps : List StepRow) (c : Id) (round : ℕ) → each_once rows ≡ true
    → count_by (λ x. is_of_round c round x && not (is_put rows x)) steps + count_by (is_of_round c round) rows ≡ length (steps_in (put_all rows steps) c round)
unfolding steps_in
round_length rows steps c round once =
    count_by-put_all (is_of_round c round) rows steps once ∙ sym (length-filter (is_of_round c round) (put_all rows steps))

-- and of them those that are done
pub round_done : (rows steps : List StepRow) (c : Id) (round : ℕ) → each_once rows ≡ true
    → count_by (λ x. (is_of_round c round x && is_done x.step.state) && not (is_put rows x)) steps + count_by (λ x. is_of_round c round x && is_done x.step.state) rows
    ≡ count_by (λ x. is_done x.step.state) (steps_in (put_all rows steps) c round)
unfolding steps_in
round_done rows steps c round once =
    count_by-put_all (λ x. is_of_round c round x && is_done x.step.state) rows steps once
    ∙ sym (count_by-filter (λ (x : StepRow). is_done x.step.state) (is_of_round c round) (put_all rows steps))
