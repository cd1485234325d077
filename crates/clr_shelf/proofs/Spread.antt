-- How blocks stay filled: after a put, a take, a move of one item, a split and a join.
use Rattle.std.proofs.Common.{◌≡◌, ◌≢◌, ℕ, ◌+◌, ◌-◌, ◌<◌, ◌≤◌, sym, subst, arith}
use Rattle.clr_shelf.specs.Blocks.{IsSpread, IsCrowded, IsThinned, IsMove, IsJoin}

-- what holds at a place holds at one that is equal to it
carry : (P : ℕ → Type 0) (at : ℕ) → P at → (k : ℕ) → k ≡ at → P k
carry P at here k is = subst P (sym is) here

-- the places after those of a join, counted where the two are apart
shifted : (apart together : ℕ → ℕ) (at : ℕ) → IsJoin at apart together → (k : ℕ) → at + 1 < k
    → together (k - 1) ≡ apart k
shifted apart together at join k later =
    let is : k - 1 + 1 ≡ k = omega arith in
    subst (λ n. together (k - 1) ≡ apart n) is (join.after (k - 1) (omega arith))

-- a pair of neighbours, named by the second
pair_before : (size : ℕ) (sizes : ℕ → ℕ) → ((k : ℕ) → 0 < sizes (k + 1)
    → size < sizes k + sizes (k + 1))
    → (k : ℕ) → 0 < k → 0 < sizes k → size < sizes (k - 1) + sizes k
pair_before size sizes filled k more has =
    let is : k - 1 + 1 ≡ k = omega arith in
    subst (λ n. 0 < sizes n → size < sizes (k - 1) + sizes n) is (filled (k - 1)) has

module _ (size : ℕ) (sizes : ℕ → ℕ) where
  -- where the pairs of a part from which one was taken are filled all the same
  pub kept : (at : ℕ) → IsThinned size at sizes
      → ((k : ℕ) → k + 1 ≡ at → size < sizes k + sizes at)
      → (0 < sizes (at + 1) → size < sizes at + sizes (at + 1)) → IsSpread size sizes
  kept at thinned before after =
      let second = λ (k : ℕ). carry (λ n. k + 1 ≡ at → size < sizes k + sizes n) at (before k) in
      let first = carry (λ n. 0 < sizes (n + 1) → size < sizes n + sizes (n + 1)) at after in
      record {
        fits = thinned.fits;
        filled = λ k has. grind (arith, has, thinned.filled k, first k, second k (k + 1));
      }

module _ (size : ℕ) (old new : ℕ → ℕ) where
  -- one item was put into a part that had some, or into the first
  pub crowded : (at : ℕ) → IsSpread size old → (0 < at → 0 < old at) → new at ≡ old at + 1
      → ((k : ℕ) → k ≢ at → new k ≡ old k) → IsCrowded size at new
  crowded at spread some more others =
      let here = carry (λ n. new n ≡ old n + 1) at more in
      let had = carry (λ n. 0 < n → 0 < old n) at some in
      record {
        fits = λ k other. grind (arith, spread.fits k, others k other);
        fits_here = omega (arith, spread.fits at);
        before = λ k is. grind (
          arith,
          spread.filled k,
          spread.fits (k + 1),
          had (k + 1) is,
          others k,
        );
        filled = λ k has. grind (
          arith,
          has,
          spread.filled k,
          had (k + 1),
          here k,
          here (k + 1),
          others k,
          others (k + 1),
        );
      }

  -- one item was taken
  pub thinned : (at : ℕ) → IsSpread size old → new at + 1 ≡ old at
      → ((k : ℕ) → k ≢ at → new k ≡ old k) → IsThinned size at new
  thinned at spread less others =
      let here = carry (λ n. new n + 1 ≡ old n) at less in
      record {
        fits = λ k. grind (arith, spread.fits k, here k, others k);
        room_here = omega (arith, spread.fits at);
        before = λ k is. subst (λ n. size ≤ new k + new n) is
            (grind (arith, spread.filled k, here (k + 1) is, others k));
        after = λ has. grind (arith, has, spread.filled at, others (at + 1));
        filled = λ k first second has. grind (
          arith,
          has,
          spread.filled k,
          others k first,
          others (k + 1) second,
        );
      }

  -- the first item of a part with too many was moved to the one before
  pub moved_left : (at : ℕ) → IsCrowded size (at + 1) old → old (at + 1) ≡ size + 1
      → old at < size → IsMove (at + 1) at old new → IsSpread size new
  moved_left at crowded full room move =
      let given = carry (λ n. new n + 1 ≡ old n) (at + 1) move.given in
      let taken = carry (λ n. new n ≡ old n + 1) at move.taken in
      let full_at = carry (λ n. old n ≡ size + 1) (at + 1) full in
      let room_at = carry (λ n. old n < size) at room in
      let some_at = carry (λ n. 0 < old n) at (crowded.before at (omega arith)) in
      record {
        fits = λ k. grind (
          arith,
          crowded.fits k,
          full_at k,
          room_at k,
          given k,
          taken k,
          move.others k,
        );
        filled = λ k has. grind (
          arith,
          has,
          crowded.filled k,
          some_at (k + 1),
          full_at k,
          full_at (k + 1),
          given k,
          given (k + 1),
          taken k,
          taken (k + 1),
          move.others k,
          move.others (k + 1),
          crowded.filled at,
        );
      }

  -- the last item of a part with too many was moved to the next
  pub moved_right : (at : ℕ) → IsCrowded size at old → old at ≡ size + 1 → old (at + 1) < size
      → IsMove at (at + 1) old new → IsSpread size new
  moved_right at crowded full room move =
      let given = carry (λ n. new n + 1 ≡ old n) at move.given in
      let taken = carry (λ n. new n ≡ old n + 1) (at + 1) move.taken in
      let full_at = carry (λ n. old n ≡ size + 1) at full in
      let room_at = carry (λ n. old n < size) (at + 1) room in
      record {
        fits = λ k. grind (
          arith,
          crowded.fits k,
          full_at k,
          room_at k,
          given k,
          taken k,
          move.others k,
        );
        filled = λ k has. grind (
          arith,
          has,
          crowded.filled k,
          crowded.before k,
          full_at k,
          full_at (k + 1),
          given k,
          given (k + 1),
          taken k,
          taken (k + 1),
          move.others k,
          move.others (k + 1),
        );
      }

  -- a part with too many was split, where its neighbours are full
  pub halved : (at : ℕ) → IsCrowded size at old → old at ≡ size + 1
      → ((k : ℕ) → k + 1 ≡ at → size ≤ old k) → size ≤ old (at + 1) → IsJoin at new old
      → 0 < new at → 0 < new (at + 1) → IsSpread size new
  halved at crowded full before after join left given =
      let first = carry (λ n. size + 1 ≡ new n + new (n + 1)) at (omega (arith, join.both)) in
      let second = carry (λ n. new n < size + 1) (at + 1) (omega (arith, join.both)) in
      let left_at = carry (λ n. 0 < new n) at left in
      let given_at = carry (λ n. 0 < new n) (at + 1) given in
      let third = carry (λ n. size ≤ new (n + 1)) (at + 1)
      (omega (arith, join.after (at + 1) (omega arith))) in
      record {
        fits = λ k. grind (
          arith,
          crowded.fits k,
          crowded.fits (k - 1),
          first k,
          second k,
          given_at (k + 1),
          join.before k,
          shifted new old at join k,
        );
        filled = λ k has. grind (
          arith,
          has,
          crowded.filled k,
          before k,
          first k,
          left_at (k + 1),
          given_at k,
          third k,
          join.before k,
          join.before (k + 1),
          shifted new old at join k,
          join.after k,
          pair_before size old crowded.filled k,
        );
      }

  -- two parts, of which one item was taken from the second, were joined
  pub joined_left : (at : ℕ) → IsThinned size (at + 1) old → old at + old (at + 1) ≤ size
      → IsJoin at old new → IsSpread size new
  joined_left at thinned room join =
      let both = carry (λ n. new n ≡ old n + old (n + 1)) at join.both in
      let first = carry (λ n. size ≤ old n + old (n + 1)) at (thinned.before at (omega arith)) in
      let second = carry (λ n. old (n + 1) < size) at thinned.room_here in
      let third = carry (λ n. 0 < old (n + 1 + 1) → size ≤ old (n + 1) + old (n + 1 + 1)) at
      thinned.after in
      let room_at = carry (λ n. old n + old (n + 1) ≤ size) at room in
      record {
        fits = λ k. grind (
          arith,
          thinned.fits k,
          thinned.fits (k + 1),
          both k,
          room_at k,
          join.before k,
          join.after k,
        );
        filled = λ k has. grind (
          arith,
          has,
          thinned.filled k,
          thinned.filled (k + 1),
          both k,
          both (k + 1),
          first k,
          first (k + 1),
          second k,
          second (k + 1),
          third k,
          join.before k,
          join.before (k + 1),
          join.after k,
          join.after (k + 1),
        );
      }

  -- two parts, of which one item was taken from the first, were joined
  pub joined_right : (at : ℕ) → IsThinned size at old
      → ((k : ℕ) → k + 1 ≡ at → size < old k + old at) → old at + old (at + 1) ≤ size
      → IsJoin at old new → IsSpread size new
  joined_right at thinned before room join =
      let both = carry (λ n. new n ≡ old n + old (n + 1)) at join.both in
      let room_at = carry (λ n. old n + old (n + 1) ≤ size) at room in
      let second = λ (k : ℕ). carry (λ n. k + 1 ≡ at → size < old k + old n) at (before k) in
      record {
        fits = λ k. grind (
          arith,
          thinned.fits k,
          thinned.fits (k + 1),
          both k,
          room_at k,
          join.before k,
          join.after k,
        );
        filled = λ k has. grind (
          arith,
          has,
          thinned.filled k,
          thinned.filled (k + 1),
          both k,
          both (k + 1),
          second k (k + 1),
          join.before k,
          join.before (k + 1),
          join.after k,
          join.after (k + 1),
        );
      }
