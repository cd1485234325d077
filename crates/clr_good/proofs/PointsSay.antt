-- What it says that the list of points fits.
use Rattle.std.proofs.Common.{◌≡◌, ℕ, true, List, [], ◌∷◌, map, Option, Some, None, refl, ◌∙◌, ap, subst}
use Rattle.clr_rules.proofs.Common.{list_all, and_from, and_parts, false≢true, nat_list_cmp_total, Grid, point_names, name_cmp, same_name, one_name, same_itself, list_all-contains, member-row_of}
use Rattle.clr_rules.proofs.Common.{list_all-from_each, row_of-member, in_key_order, active_at, Id, Register, has_in_hand, state_key, state_of, steps_of, hand_in, is_hand, one_id, own_id}
use Rattle.clr_rules.proofs.lists.StateFacts.{state_of-point}
use Rattle.clr_good.specs.Points.{hand_fits, points_fit, same_names, state_fits}
use Rattle.clr_rules.specs.declared.point_state.PointState.{PointState}
use Rattle.clr_rules.specs.declared.step_row.StepRow.{StepRow}

-- ---- names

names_are : (xs ys : List (List ℕ)) → same_names xs ys ≡ true → xs ≡ ys
names_are [] [] h = refl
names_are [] (y ∷ ys) h = absurd (false≢true h)
names_are (x ∷ xs) [] h = absurd (false≢true h)
names_are (x ∷ xs) (y ∷ ys) h =
    let parts = and_parts (same_name x y) (same_names xs ys) h in
    λ i. one_name x y parts.0 i ∷ names_are xs ys parts.1 i

names_themselves : (xs : List (List ℕ)) → same_names xs xs ≡ true
names_themselves [] = refl
names_themselves (x ∷ xs) = and_from (same_name x x) (same_names xs xs) (same_itself x) (names_themselves xs)

-- ---- hands

-- whoever has a point in hand has a step there that is given out
abbrev pub HandsHaveSteps : List PointState → List StepRow → Type 0
HandsHaveSteps states steps = (c : Id) (p : List ℕ) → has_in_hand states c p ≡ true → active_at (steps_of steps c) p ≡ true

hand_says : (steps : List StepRow) (c : Id) (p : List ℕ) (hand : Option Id) → is_hand c hand ≡ true → hand_fits steps p hand ≡ true → active_at (steps_of steps c) p ≡ true
hand_says steps c p None held fits = absurd (false≢true held)
hand_says steps c p (Some d) held fits = rw (one_id c d held) fits

hands_say : (states : List PointState) (steps : List StepRow) → list_all (state_fits steps) states ≡ true → HandsHaveSteps states steps
hands_say states steps all c p held = at (state_of states p) refl held
  where
    at : (o : Option PointState) → state_of states p ≡ o → is_hand c (hand_in o) ≡ true → active_at (steps_of steps c) p ≡ true
    at None none has = absurd (false≢true has)
    at (Some state) found has =
        let there = (member-row_of name_cmp state_key nat_list_cmp_total p state states found).0 in
        let fits = list_all-contains (state_fits steps) states state all there in
        subst (λ (q : List ℕ). active_at (steps_of steps c) q ≡ true) (state_of-point states p state found) (hand_says steps c state.point state.hand has fits)

hand_said : (steps : List StepRow) (p : List ℕ) (hand : Option Id) → ((c : Id) → is_hand c hand ≡ true → active_at (steps_of steps c) p ≡ true) → hand_fits steps p hand ≡ true
hand_said steps p None each = refl
hand_said steps p (Some c) each = each c (own_id c)

hands_said : (states : List PointState) (steps : List StepRow) → in_key_order name_cmp state_key states ≡ true → HandsHaveSteps states steps → list_all (state_fits steps) states ≡ true
hands_said states steps ordered have = list_all-from_each (state_fits steps) states (λ state there.
    let found = row_of-member name_cmp state_key nat_list_cmp_total state states ordered there in
    hand_said steps state.point state.hand (λ c held. have c state.point (ap (λ (o : Option PointState). is_hand c (hand_in o)) found ∙ held)))

-- ---- both

pub points_say : (R : Register) → points_fit R ≡ true → (map state_key R.states ≡ point_names (Grid.points R.net)) × HandsHaveSteps R.states R.steps
points_say R fits =
    let parts = and_parts (same_names (map state_key R.states) (point_names (Grid.points R.net))) (list_all (state_fits R.steps) R.states) fits in
    (names_are (map state_key R.states) (point_names (Grid.points R.net)) parts.0, hands_say R.states R.steps parts.1)

pub points_said : (R : Register) → in_key_order name_cmp state_key R.states ≡ true
    → map state_key R.states ≡ point_names (Grid.points R.net) → HandsHaveSteps R.states R.steps → points_fit R ≡ true
points_said R ordered known have =
    and_from (same_names (map state_key R.states) (point_names (Grid.points R.net))) (list_all (state_fits R.steps) R.states)
    (subst (λ (names : List (List ℕ)). same_names (map state_key R.states) names ≡ true) known (names_themselves (map state_key R.states)))
    (hands_said R.states R.steps ordered have)
