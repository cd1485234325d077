-- What is read of the points after one of them is changed: the position, the hand, and which points have a state.
use Rattle.std.proofs.Common.{◌≡◌, ◌∙◌, ℕ, Bool, true, false, cond, ◌||◌, List, [], ◌∷◌, map, Option, Some, None, refl, sym, ap, is_some, option_map, is_eq}
use Rattle.clr_rules.proofs.Common.{texts_ties, nat_list_cmp_total, nat_list_eq_equiv, name_cmp, same_name, has_name, Position, in_key_order-with_row, equal, same_text, member-row_of, row_of-with}
use Rattle.clr_rules.proofs.Common.{in_key_order, row_of}
use Rattle.clr_shelf.proofs.FirstRow.{keys-with_row}
use Rattle.clr_rules.specs.Prelude.{PointState, Id, hand_of, position_of, state_key, state_of}
use Rattle.clr_rules.specs.States.{change_state, changed_state, hand_in}

-- a state is at its point
pub state_of-point : (states : List PointState) (p : List ℕ) (state : PointState) → state_of states p ≡ Some state → state.point ≡ p
state_of-point states p state found =
    same_text state.point p (equal (name_cmp state.point p) (member-row_of name_cmp state_key nat_list_cmp_total p state states found).1)

-- names that are the same read the same
pub state_of-same : (states : List PointState) (p q : List ℕ) → same_name p q ≡ true → state_of states p ≡ state_of states q
state_of-same states p q same = ap (state_of states) (same_text p q (equal (name_cmp p q) (sym (texts_ties p q) ∙ same)))

-- a change that leaves the state at its point
abbrev pub StaysAtPoint : (PointState → PointState) → Type 0
StaysAtPoint change = (state : PointState) → PointState.point (change state) ≡ state.point

module _ (change : PointState → PointState) (stays : StaysAtPoint change) (states : List PointState) (p : List ℕ) where
  -- no change, where there is no state
  unchanged : (q : List ℕ) → state_of states p ≡ None → (same : Bool) → same_name p q ≡ same → state_of states q ≡ cond same None (state_of states q)
  unchanged q none true is = sym (state_of-same states p q is) ∙ none
  unchanged q none false is = refl

  changed_from : (q : List ℕ) (found : Option PointState) → state_of states p ≡ found
      → state_of (changed_state found change states) q ≡ cond (same_name p q) (option_map change found) (state_of states q)
  changed_from q None is = unchanged q is (same_name p q) refl
  changed_from q (Some state) is =
      let there : PointState.point (change state) ≡ p = stays state ∙ state_of-point states p state is in
      row_of-with name_cmp state_key nat_list_cmp_total q (change state) states
      ∙ (λ i. cond (is_eq (name_cmp (there i) q)) (Some (change state)) (state_of states q))
      ∙ (λ i. cond (sym (texts_ties p q) i) (Some (change state)) (state_of states q))

  -- what is read at a point after a change at one
  pub state_of-change : (q : List ℕ) → state_of (change_state states p change) q ≡ cond (same_name p q) (option_map change (state_of states p)) (state_of states q)
  state_of-change q = changed_from q (state_of states p) refl

  -- at the point itself
  pub state_of-changed : state_of (change_state states p change) p ≡ option_map change (state_of states p)
  state_of-changed = state_of-change p ∙ ap (λ same. cond same (option_map change (state_of states p)) (state_of states p)) (nat_list_eq_equiv.refl p)

  -- and at another
  pub state_of-other : (q : List ℕ) → same_name p q ≡ false → state_of (change_state states p change) q ≡ state_of states q
  state_of-other q differs = state_of-change q ∙ ap (λ same. cond same (option_map change (state_of states p)) (state_of states q)) differs

  -- a reading that the change does not touch is what it was, at each point
  pub untouched : {X : Type 0} (read : Option PointState → X) → ((found : Option PointState) → read (option_map change found) ≡ read found)
      → (q : List ℕ) → read (state_of (change_state states p change) q) ≡ read (state_of states q)
  untouched read kept q = ap read (state_of-change q) ∙ at (same_name p q) refl
    where
      at : (same : Bool) → same_name p q ≡ same → read (cond same (option_map change (state_of states p)) (state_of states q)) ≡ read (state_of states q)
      at true is = kept (state_of states p) ∙ ap read (state_of-same states p q is)
      at false is = refl

  -- the points that have a state, and the order of keys, stay
  keys_from : (found : Option PointState) → state_of states p ≡ found → in_key_order name_cmp state_key states ≡ true
      → map state_key (changed_state found change states) ≡ map state_key states
  keys_from None is ordered = refl
  keys_from (Some state) is ordered =
      let there : PointState.point (change state) ≡ p = stays state ∙ state_of-point states p state is in
      keys-with_row name_cmp state_key nat_list_cmp_total same_text (change state) states ordered (ap is_some (ap (state_of states) there ∙ is))

  pub state_keys-change : in_key_order name_cmp state_key states ≡ true → map state_key (change_state states p change) ≡ map state_key states
  state_keys-change ordered = keys_from (state_of states p) refl ordered

-- the order of keys is kept by any change
pub in_key_order-change : (change : PointState → PointState) (states : List PointState) (p : List ℕ) → in_key_order name_cmp state_key states ≡ true
    → in_key_order name_cmp state_key (change_state states p change) ≡ true
in_key_order-change change states p ordered = at (state_of states p)
  where
    at : (found : Option PointState) → in_key_order name_cmp state_key (changed_state found change states) ≡ true
    at None = ordered
    at (Some state) = in_key_order-with_row name_cmp state_key nat_list_cmp_total (change state) states ordered

-- the first state is read at its point
pub state_of-none : (p : List ℕ) → state_of [] p ≡ None
unfolding row_of
state_of-none p = refl

pub state_of-first : (state : PointState) (states : List PointState) (p : List ℕ)
    → state_of (state ∷ states) p ≡ cond (is_eq (name_cmp state.point p)) (Some state) (state_of states p)
unfolding row_of
state_of-first state states p = refl

-- the points of the states are those that have one
pub state_is_known : (states : List PointState) (p : List ℕ) → is_some (state_of states p) ≡ has_name (map state_key states) p
state_is_known [] p = ap is_some (state_of-none p)
state_is_known (state ∷ states) p =
    let tied : is_eq (name_cmp state.point p) ≡ same_name p state.point = sym (texts_ties state.point p) ∙ nat_list_eq_equiv.symm state.point p in
    ap is_some (state_of-first state states p) ∙ (λ i. is_some (cond (tied i) (Some state) (state_of states p)))
    ∙ at (same_name p state.point) ∙ (λ i. same_name p state.point || state_is_known states p i)
  where
    at : (b : Bool) → is_some (cond b (Some state) (state_of states p)) ≡ (b || is_some (state_of states p))
    at true = refl
    at false = refl

-- and then it has one to be read
pub state_there : (found : Option PointState) → is_some found ≡ true → (state : PointState) × (found ≡ Some state)
state_there None there = cc
state_there (Some state) there = (state, refl)

-- the states after a position is reported
abbrev pub with_position : List PointState → List ℕ → Position → List PointState
with_position states p position = change_state states p (λ state. record state { position = position })

-- the states after a point is taken in hand, or let go
abbrev pub with_hand : List PointState → List ℕ → Option Id → List PointState
with_hand states p hand = change_state states p (λ state. record state { hand = hand })

module _ (states : List PointState) (p : List ℕ) where
  position_from : (found : Option PointState) (position : Position) → is_some found ≡ true
      → option_map (λ (state : PointState). state.position) (option_map (λ (state : PointState). record state { position = position }) found) ≡ Some position
  position_from None position there = cc
  position_from (Some state) position there = refl

  hand_from : (found : Option PointState) (hand : Option Id) → is_some found ≡ true
      → hand_in (option_map (λ (state : PointState). record state { hand = hand }) found) ≡ hand
  hand_from None hand there = cc
  hand_from (Some state) hand there = refl

  -- a position is read back
  pub position_of-placed : (position : Position) → is_some (state_of states p) ≡ true → position_of (with_position states p position) p ≡ Some position
  position_of-placed position there =
      ap (option_map (λ (state : PointState). state.position)) (state_of-changed (λ state. record state { position = position }) (λ state. refl) states p)
      ∙ position_from (state_of states p) position there

  -- those of other points stay
  pub position_of-placed_other : (position : Position) (q : List ℕ) → same_name p q ≡ false → position_of (with_position states p position) q ≡ position_of states q
  position_of-placed_other position q differs =
      ap (option_map (λ (state : PointState). state.position)) (state_of-other (λ state. record state { position = position }) (λ state. refl) states p q differs)

  -- and so do all hands
  pub hand_of-placed : (position : Position) (q : List ℕ) → hand_of (with_position states p position) q ≡ hand_of states q
  hand_of-placed position = untouched (λ state. record state { position = position }) (λ state. refl) states p hand_in same
    where
      same : (found : Option PointState) → hand_in (option_map (λ (state : PointState). record state { position = position }) found) ≡ hand_in found
      same None = refl
      same (Some state) = refl

  -- a hand is read back
  pub hand_of-handed : (hand : Option Id) → is_some (state_of states p) ≡ true → hand_of (with_hand states p hand) p ≡ hand
  hand_of-handed hand there =
      ap hand_in (state_of-changed (λ state. record state { hand = hand }) (λ state. refl) states p) ∙ hand_from (state_of states p) hand there

  -- those of other points stay
  pub hand_of-handed_other : (hand : Option Id) (q : List ℕ) → same_name p q ≡ false → hand_of (with_hand states p hand) q ≡ hand_of states q
  hand_of-handed_other hand q differs = ap hand_in (state_of-other (λ state. record state { hand = hand }) (λ state. refl) states p q differs)

  -- and so do all positions
  pub position_of-handed : (hand : Option Id) (q : List ℕ) → position_of (with_hand states p hand) q ≡ position_of states q
  position_of-handed hand = untouched (λ state. record state { hand = hand }) (λ state. refl) states p (option_map (λ (state : PointState). state.position)) same
    where
      same : (found : Option PointState)
          → option_map (λ (state : PointState). state.position) (option_map (λ (state : PointState). record state { hand = hand }) found) ≡ option_map (λ (state : PointState). state.position) found
      same None = refl
      same (Some state) = refl
