-- The steps of the search of a fence.
use Rattle.std.proofs.Common.{◌≡◌, ◌∙◌, ℕ, zero, suc, ◌+◌, ◌<◌, ◌≤◌, ◌⊎◌, inl, inr, Bool, true, false, cond, not, List, [], ◌∷◌, ◌++◌, length, get_or, set, take, drop, replicate, refl, sym, ap, arith}
use Rattle.std.specs.Prelude.{count_by, Contains, All}
use Rattle.std.proofs.lemmas.Bool.{false≢true, cases_eq}
use Rattle.std.proofs.lemmas.List.{append-nil, append_assoc, drop_all, get_or_append_left, get_or-set_same, get_or-set_other, length-append}
use Rattle.std.proofs.lemmas.List.Sums.{sum_by-set}
use Rattle.std.proofs.lemmas.List.Elements.{Contains-append_left, Contains-push, Contains-push_cases}
use Rattle.std.proofs.Math.Seq.{take-length}
use Rattle.clr_net.specs.Index.{PlaceWalk, has_place}
use Rattle.clr_net.specs.Index.PlaceWalk.{begins, follows}
use Rattle.clr_net.specs.Search.{Finds, Follows, IsQueued, is_marked}
use Rattle.clr_net.proofs.PlaceLists.{has_at, has_before, has_cases, has_now, place_of_has}
use Rattle.clr_net.specs.declared.ways.Way.{Way}

-- an empty list has no element
pub nothing_in_nil : {X : Type 0} (x : X) → Contains [] x → ⊥
nothing_in_nil x h = let (k, inside, here) = h in omega arith

-- marking a place that was not marked leaves one fewer
count_marked : (marked : List Bool) (t : ℕ) → t < length marked → is_marked marked t ≡ false → count_by not (set marked t true) + 1 ≡ count_by not marked
count_marked marked t inside e =
    let writes = sum_by-set (λ (b : Bool). cond (not b) 1 0) marked t true false inside in
    let fresh = rw e at writes in
    omega arith

-- a place that is marked is below the length
pub marked_inside : (marked : List Bool) (i : ℕ) → is_marked marked i ≡ true → i < length marked
marked_inside [] i e = cc e
marked_inside (b ∷ marked) zero e = omega arith
marked_inside (b ∷ marked) (suc i) e = omega (arith, marked_inside marked i e)

-- marking a place keeps those that are marked
kept_by_set : (marked : List Bool) (t i : ℕ) → is_marked marked i ≡ true → is_marked (set marked t true) i ≡ true
kept_by_set marked t i e = at (cases_eq i t)
  where
    at : (i ≡ t) ⊎ (i ≡ t → ⊥) → is_marked (set marked t true) i ≡ true
    at (inl same) = rw same (get_or-set_same marked t true false (let h = marked_inside marked i e in omega arith))
    at (inr other) = get_or-set_other marked t i true false other ∙ e

-- what is marked after a place was marked
marked_cases : (marked : List Bool) (t i : ℕ) → is_marked (set marked t true) i ≡ true → (is_marked marked i ≡ true) ⊎ (t ≡ i)
marked_cases marked t i e = at (cases_eq i t)
  where
    at : (i ≡ t) ⊎ (i ≡ t → ⊥) → (is_marked marked i ≡ true) ⊎ (t ≡ i)
    at (inl same) = inr (sym same)
    at (inr other) = inl (sym (get_or-set_other marked t i true false other) ∙ e)

-- one place more in the queue, which was marked
queued_more : (marked : List Bool) (queue : List ℕ) (t : ℕ) → t < length marked → IsQueued marked queue → IsQueued (set marked t true) (queue ++ t ∷ [])
queued_more marked queue t inside q i = (
  λ there. elim (has_cases queue t i there) [
    | inl before ↦ kept_by_set marked t i ((q i).0 before)
    | inr same ↦ rw (← same) (get_or-set_same marked t true false inside)
  ],
  λ e. elim (marked_cases marked t i e) [
    | inl before ↦ has_before queue t i ((q i).1 before)
    | inr same ↦ rw (← same) (has_now queue t)
  ],
)

-- a way that is cut, or leads to what is marked already, changes nothing
pub follows_skip : (done : List Way) (w : Way) (cuts : List ℕ) (old : List Bool) (old_queue : List ℕ) (marked : List Bool) (queue : List ℕ) → Follows done cuts old old_queue marked queue
    → (has_place cuts w.point ≡ false → is_marked marked w.to ≡ true) → Follows (done ++ w ∷ []) cuts old old_queue marked queue
follows_skip done w cuts old old_queue marked queue f skip = record {
  kept = f.kept;
  led = λ v h passes. elim (Contains-push_cases done w v h) [ inl before ↦ f.led v before passes | inr same ↦ rw (← same) (skip (rw same passes)) ];
  sound = λ i e. elim (f.sound i e) [ inl before ↦ inl before | inr by ↦ let (v, there, passes, leads) = by in inr (v, Contains-append_left done (w ∷ []) v there, passes, leads) ];
  queued = f.queued;
  behind = f.behind;
  once = f.once;
}

-- a way that leads to a section that is not marked yet marks it, and puts it into the queue
pub follows_mark : (done : List Way) (w : Way) (cuts : List ℕ) (old : List Bool) (old_queue : List ℕ) (marked : List Bool) (queue : List ℕ) → Follows done cuts old old_queue marked queue
    → w.to < length marked → has_place cuts w.point ≡ false → is_marked marked w.to ≡ false → Follows (done ++ w ∷ []) cuts old old_queue (set marked w.to true) (queue ++ w.to ∷ [])
follows_mark done w cuts old old_queue marked queue f inside passes fresh = record {
  kept = λ i e. kept_by_set marked w.to i (f.kept i e);
  led = λ v h open_way. elim (Contains-push_cases done w v h) [
    | inl before ↦ kept_by_set marked w.to v.to (f.led v before open_way)
    | inr same ↦ rw (← same) (get_or-set_same marked w.to true false inside)
  ];
  sound = λ i e. elim (marked_cases marked w.to i e) [
    | inl before ↦ elim (f.sound i before) [ inl long ↦ inl long | inr by ↦ let (v, there, v_passes, leads) = by in inr (v, Contains-append_left done (w ∷ []) v there, v_passes, leads) ]
    | inr here ↦ inr (w, Contains-push done w, passes, here)
  ];
  queued = λ q. queued_more marked queue w.to inside (f.queued q);
  behind = let (more, is) = f.behind in (more ++ w.to ∷ [], ap (λ q. q ++ w.to ∷ []) is ∙ append_assoc old_queue more (w.to ∷ []));
  once = let one = count_marked marked w.to inside fresh in let size = length-append queue (w.to ∷ []) in let before = f.once in omega arith;
}

-- the search so far: the queue has what is marked, and each of these was reached; what the first ones lead to, which were
-- looked at, is marked
pub record IsSearching (around : ℕ → List Way) (cuts : List ℕ) (start : ℕ) (marked : List Bool) (queue : List ℕ) (looked_at : ℕ) : Type 0 where
  pub begun : is_marked marked start ≡ true
  pub sound : (i : ℕ) → is_marked marked i ≡ true → PlaceWalk around cuts start i
  pub queued : IsQueued marked queue
  pub done : (k : ℕ) → k < looked_at → (w : Way) → Contains (around (get_or queue k 0)) w → has_place cuts w.point ≡ false → is_marked marked w.to ≡ true
  pub within : looked_at ≤ length queue

-- where the whole queue was looked at, the search is over
pub search_over : (around : ℕ → List Way) (n : ℕ) (cuts : List ℕ) (start : ℕ) (marked : List Bool) (queue : List ℕ) (looked_at : ℕ) → IsSearching around cuts start marked queue looked_at → length queue ≤ looked_at → Finds around n cuts start queue
search_over around n cuts start marked queue looked_at s all i inside = (λ there. s.sound i ((s.queued i).0 there), λ walk. (s.queued i).1 (reached i walk))
  where
    reached : (i : ℕ) → PlaceWalk around cuts start i → is_marked marked i ≡ true
    reached i (begins i' same) = rw (← same) s.begun
    reached i (follows j w walk there passes) =
        let (k, here, same) = place_of_has queue j ((s.queued j).1 (reached j walk)) in
        s.done k (omega arith) w (rw same there) passes

-- what the queue has are places of sections
pub queue_inside : (around : ℕ → List Way) (cuts : List ℕ) (start : ℕ) (marked : List Bool) (queue : List ℕ) (looked_at : ℕ) → IsSearching around cuts start marked queue looked_at
    → All (λ i. i < length marked) queue
queue_inside around cuts start marked queue looked_at s k d inside = marked_inside marked (get_or queue k d) ((s.queued (get_or queue k d)).0 (has_at queue k d inside))

-- the start
pub search_start : (around : ℕ → List Way) (cuts : List ℕ) (start : ℕ) (marked : List Bool) → ((i : ℕ) → is_marked marked i ≡ false) → start < length marked
    → IsSearching around cuts start (set marked start true) (start ∷ []) 0
search_start around cuts start marked none inside = record {
  begun = get_or-set_same marked start true false inside;
  sound = λ i e. elim (marked_cases marked start i e) [ inl before ↦ absurd (false≢true (sym (none i) ∙ before)) | inr same ↦ begins i same ];
  queued = queued_more marked [] start inside (λ i. (λ there. absurd (false≢true there), λ e. absurd (false≢true (sym (none i) ∙ e))));
  done = λ k lower. absurd (omega arith);
  within = omega arith;
}

-- the ways of the next one in the queue were followed
pub search_step : (around : ℕ → List Way) (cuts : List ℕ) (start : ℕ) (marked : List Bool) (queue : List ℕ) (looked_at : ℕ) (new_marked : List Bool) (new_queue : List ℕ)
    → IsSearching around cuts start marked queue looked_at → looked_at < length queue → Follows (around (get_or queue looked_at 0)) cuts marked queue new_marked new_queue
    → IsSearching around cuts start new_marked new_queue (looked_at + 1)
search_step around cuts start marked queue looked_at new_marked new_queue s waits f =
    let place = get_or queue looked_at 0 in
    let (more, is) = f.behind in
    let size = length-append queue more in
    let stands : (k : ℕ) → k < length queue → get_or new_queue k 0 ≡ get_or queue k 0 = λ k lower. rw is (get_or_append_left queue more 0 k lower) in
    record {
      begun = f.kept start s.begun;
      sound = λ i e. elim (f.sound i e) [
        | inl before ↦ s.sound i before
        | inr by ↦
            let (w, there, passes, leads) = by in
            rw (← leads) (follows place w (s.sound place ((s.queued place).0 (has_at queue looked_at 0 waits))) there passes)
      ];
      queued = f.queued s.queued;
      done = λ k lower w there passes. elim (cases_eq k looked_at) [
        | inl same ↦ f.led w (rw (same, stands looked_at waits) at there) passes
        | inr other ↦ f.kept w.to (s.done k (omega arith) w (rw (stands k (omega arith)) at there) passes)
      ];
      within = rw is (omega arith);
    }

-- among cells that are all unmarked nothing is marked
pub none_marked : (n i : ℕ) → is_marked (replicate n false) i ≡ false
none_marked zero i = refl
none_marked (suc n) zero = refl
none_marked (suc n) (suc i) = none_marked n i

-- a slice of a whole vector that was written, put back
pub put_back : {X : Type 0} (new old : List X) (n : ℕ) → length new ≡ length old → n ≡ length old → take n (new ++ drop (length new) old) ≡ new
put_back new old n same size =
    rw (drop_all (length new) old (omega arith), append-nil new, size, sym same) (take-length new)
