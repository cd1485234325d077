-- The steps that undo what is held at points, and leave each open, are a restoring order.
use Rattle.std.proofs.Common.{◌≡◌, ℕ, ◌*◌, ◌<◌, ◌≤◌, Bool, true, false, not, ◌&&◌, ◌||◌, List, [], ◌∷◌, ◌++◌, length, filter, All, Contains, refl, sym, ◌∙◌, ap, subst, arith, length-append, ◌⊎◌, inl, inr}
use Rattle.std.proofs.lemmas.Bool.{both_ways, false_from_ne_true, or_left, or_right}
use Rattle.std.proofs.lemmas.List.{length-map}
use Rattle.std.proofs.lemmas.List.Elements.{All-append, All-cons, All-nil, All-weaker}
use Rattle.clr_net.proofs.Walks.{one_name, same_itself}
use Rattle.clr_net.specs.Name.{same_name}
use Rattle.clr_net.specs.Names.{has_name}
use Rattle.clr_order.specs.Needed.{Undoes, step_if, undoing}
use Rattle.clr_order.specs.Restoring.{IsRestoring, held_points}
use Rattle.clr_order.specs.Step.{Task, actions_at}
use Rattle.clr_order.specs.declared.action.Action.{Action}
use Rattle.clr_order.specs.declared.action.Action.TheVariants as actions
use Rattle.clr_order.specs.declared.held.Held.{Held}
use Rattle.clr_shelf.proofs.Lists.{Contains-cases}
use Rattle.clr_rules.specs.Holds.{first_of_each, held_among, held_at}
use Rattle.clr_rules.specs.Prelude.{Hold, HeldOpen, Id, has_hold}
use Rattle.clr_rules.specs.WayBack.{at_held_point, undoing_steps}
use Rattle.clr_rules.proofs.keeps.Restore.{held_names}
use Rattle.clr_rules.proofs.lists.NamedRows.{has_name-filter, has_name-row}
use Rattle.clr_rules.proofs.lists.RoundSteps.{All-from_each}

-- ---- names that come once

abbrev pub Apart : List (List ℕ) → Type 0
Apart [] = Unit {0}
Apart (p ∷ points) = (has_name points p ≡ false) × Apart points

pub and_none : (b : Bool) → (b && false) ≡ false
and_none true = refl
and_none false = refl

apart_filter : (f : List ℕ → Bool) (points : List (List ℕ)) → Apart points → Apart (filter f points)
apart_filter f [] h = tt
apart_filter f (p ∷ points) h = at (f p) refl (apart_filter f points h.1)
  where
    at : (b : Bool) → f p ≡ b → Apart (filter f points) → Apart (filter f (p ∷ points))
    at true e more = rw e (has_name-filter f points p ∙ ap (λ b. f p && b) h.0 ∙ and_none (f p), more)
    at false e more = rw e more

apart_once : (points : List (List ℕ)) → Apart (first_of_each points)
unfolding first_of_each
apart_once [] = tt
apart_once (p ∷ points) = (
  has_name-filter (λ q. not (same_name p q)) (first_of_each points) p ∙ ap (λ b. not b && has_name (first_of_each points) p) (same_itself p),
  apart_filter (λ q. not (same_name p q)) (first_of_each points) (apart_once points),
)

pub held_apart : (holds : List Hold) (c : Id) (points : List (List ℕ)) → Apart (held_points (held_among holds c points))
unfolding held_among
held_apart holds c points = subst Apart (sym (held_names holds c (filter (has_hold holds c HeldOpen) (first_of_each points))))
    (apart_filter (has_hold holds c HeldOpen) (first_of_each points) (apart_once points))

shorter : {X : Type 0} (f : X → Bool) (xs : List X) → length (filter f xs) ≤ length xs
shorter f [] = omega arith
shorter f (x ∷ xs) = at (f x) refl (shorter f xs)
  where
    at : (b : Bool) → f x ≡ b → length (filter f xs) ≤ length xs → length (filter f (x ∷ xs)) ≤ length (x ∷ xs)
    at true e more = rw e (omega arith)
    at false e more = rw e (omega arith)

pub held_fit : (holds : List Hold) (c : Id) (points : List (List ℕ)) → length (held_among holds c points) ≤ length (first_of_each points)
unfolding held_among
held_fit holds c points = rw (length-map (filter (has_hold holds c HeldOpen) (first_of_each points)) (held_at holds c))
    (shorter (has_hold holds c HeldOpen) (first_of_each points))

-- ---- the steps, point by point

actions_append : (first later : List Task) (p : List ℕ) → actions_at (first ++ later) p ≡ actions_at first p ++ actions_at later p
actions_append [] later p = refl
actions_append (t ∷ first) later p = at (same_name p t.point) refl (actions_append first later p)
  where
    at : (b : Bool) → same_name p t.point ≡ b → actions_at (first ++ later) p ≡ actions_at first p ++ actions_at later p
        → actions_at ((t ∷ first) ++ later) p ≡ actions_at (t ∷ first) p ++ actions_at later p
    at true e more = rw e (ap (λ rest. t.action ∷ rest) more)
    at false e more = rw e more

here_all : (h : Held) (list : List Action) (p : List ℕ) → same_name p h.point ≡ true → actions_at (at_held_point h list) p ≡ list
here_all h [] p same = refl
here_all h (a ∷ list) p same = rw same (ap (λ rest. a ∷ rest) (here_all h list p same))

elsewhere_none : (h : Held) (list : List Action) (p : List ℕ) → same_name p h.point ≡ false → actions_at (at_held_point h list) p ≡ []
elsewhere_none h [] p differs = refl
elsewhere_none h (a ∷ list) p differs = rw differs (elsewhere_none h list p differs)

none_at : (held : List Held) (p : List ℕ) → has_name (held_points held) p ≡ false → actions_at (undoing_steps held) p ≡ []
unfolding undoing_steps
none_at [] p none = refl
none_at (h ∷ held) p none = actions_append (at_held_point h (undoing h actions.Leave)) (undoing_steps held) p ∙ at (same_name p h.point) refl (none_at held p)
  where
    at : (b : Bool) → same_name p h.point ≡ b → (has_name (held_points held) p ≡ false → actions_at (undoing_steps held) p ≡ [])
        → actions_at (at_held_point h (undoing h actions.Leave)) p ++ actions_at (undoing_steps held) p ≡ []
    at true e more = absurd (both_ways (has_name (held_points (h ∷ held)) p) none (or_left (same_name p h.point) (has_name (held_points held) p) e))
    at false e more = rw (elsewhere_none h (undoing h actions.Leave) p e) (more (sym (ap (λ b. b || has_name (held_points held) p) e) ∙ none))

append_none : (list : List Action) → list ++ [] ≡ list
append_none [] = refl
append_none (a ∷ list) = ap (λ rest. a ∷ rest) (append_none list)

undone_each : (held : List Held) → Apart (held_points held) → (x : Held) → Contains held x → actions_at (undoing_steps held) x.point ≡ undoing x actions.Leave
unfolding undoing_steps
undone_each [] apart x there = let (k, within, is) = there in absurd (omega arith)
undone_each (h ∷ held) apart x there =
    actions_append (at_held_point h (undoing h actions.Leave)) (undoing_steps held) x.point ∙ at (Contains-cases h x held there) (undone_each held apart.1 x)
  where
    at : (h ≡ x) ⊎ Contains held x → (Contains held x → actions_at (undoing_steps held) x.point ≡ undoing x actions.Leave)
        → actions_at (at_held_point h (undoing h actions.Leave)) x.point ++ actions_at (undoing_steps held) x.point ≡ undoing x actions.Leave
    at (inl same) more = subst (λ (y : Held). actions_at (at_held_point h (undoing h actions.Leave)) y.point ++ actions_at (undoing_steps held) y.point ≡ undoing y actions.Leave) same
        (rw (here_all h (undoing h actions.Leave) h.point (same_itself h.point), none_at held h.point apart.0) (append_none (undoing h actions.Leave)))
    at (inr later) more =
        let differs : same_name x.point h.point ≡ false = false_from_ne_true (same_name x.point h.point) (λ same.
        both_ways (has_name (held_points held) h.point) apart.0
        (ap (has_name (held_points held)) (sym (one_name x.point h.point same)) ∙ has_name-row (λ (h : Held). h.point) held x later)) in
        rw (elsewhere_none h (undoing h actions.Leave) x.point differs) (more later)

at_points : (h : Held) (list : List Action) (points : List (List ℕ)) → has_name points h.point ≡ true → All (λ t. has_name points t.point ≡ true) (at_held_point h list)
at_points h [] points there = All-nil (λ (t : Task). has_name points t.point ≡ true)
at_points h (a ∷ list) points there = All-cons (λ (t : Task). has_name points t.point ≡ true) (record { action = a; point = h.point }) (at_held_point h list) there (at_points h list points there)

nowhere_else : (held : List Held) → All (λ t. has_name (held_points held) t.point ≡ true) (undoing_steps held)
unfolding undoing_steps
nowhere_else [] = All-nil (λ (t : Task). has_name [] t.point ≡ true)
nowhere_else (h ∷ held) = All-append (λ (t : Task). has_name (held_points (h ∷ held)) t.point ≡ true) (at_held_point h (undoing h actions.Leave)) (undoing_steps held)
    (at_points h (undoing h actions.Leave) (held_points (h ∷ held)) (or_left (same_name h.point h.point) (has_name (held_points held) h.point) (same_itself h.point)))
    (All-weaker (λ (t : Task). has_name (held_points held) t.point ≡ true) (λ (t : Task). has_name (held_points (h ∷ held)) t.point ≡ true)
    (λ t there. or_right (same_name t.point h.point) (has_name (held_points held) t.point) there) (undoing_steps held) (nowhere_else held))

at_most_four : (tag control block : Bool) → length (step_if tag actions.Untag (step_if control actions.Uncontrol (step_if block actions.Unblock (actions.Leave ∷ [])))) ≤ 4
at_most_four true true true = omega arith
at_most_four true true false = omega arith
at_most_four true false true = omega arith
at_most_four true false false = omega arith
at_most_four false true true = omega arith
at_most_four false true false = omega arith
at_most_four false false true = omega arith
at_most_four false false false = omega arith

at_least_one : (tag control block : Bool) → 0 < length (step_if tag actions.Untag (step_if control actions.Uncontrol (step_if block actions.Unblock (actions.Leave ∷ []))))
at_least_one true control block = omega arith
at_least_one false true block = omega arith
at_least_one false false true = omega arith
at_least_one false false false = omega arith

steps_fit : (held : List Held) → length (undoing_steps held) ≤ 4 * length held
unfolding undoing_steps
steps_fit [] = omega arith
steps_fit (h ∷ held) =
    let four = at_most_four h.tag h.control h.block in
    let more = steps_fit held in
    let each : length (at_held_point h (undoing h actions.Leave)) ≡ length (undoing h actions.Leave) = length-map (undoing h actions.Leave) (λ action. record { action = action; point = h.point }) in
    rw (length-append (at_held_point h (undoing h actions.Leave)) (undoing_steps held)) (omega arith)

some_step : (held : List Held) → 0 < length held → 0 < length (undoing_steps held)
unfolding undoing_steps
some_step [] some = absurd (omega arith)
some_step (h ∷ held) some =
    let one = at_least_one h.tag h.control h.block in
    let each : length (at_held_point h (undoing h actions.Leave)) ≡ length (undoing h actions.Leave) = length-map (undoing h actions.Leave) (λ action. record { action = action; point = h.point }) in
    rw (length-append (at_held_point h (undoing h actions.Leave)) (undoing_steps held)) (omega arith)

-- THEY ARE A RESTORING ORDER of 1 to 64 held points
pub undoing_restores : (held : List Held) → 0 < length held → length held ≤ 64 → Apart (held_points held) → IsRestoring held (undoing_steps held)
undoing_restores held some fits apart = record {
  some_step = some_step held some;
  steps_fit = let short = steps_fit held in omega arith;
  undone = All-from_each (λ (h : Held). Undoes h (actions_at (undoing_steps held) h.point)) held (λ h there. inr (undone_each held apart h there));
  nowhere_else = nowhere_else held;
}
