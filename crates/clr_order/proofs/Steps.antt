-- Lists of names and of steps.
use Rattle.std.proofs.Common.{◌≡◌, ◌∙◌, Bor, ℕ, Bool, false, not, IsTrue, None, List, [], ◌∷◌, map, find, All, refl, sym, ap, option_map}
use Rattle.std.specs.List.{IsDistinct, AllByRecursion, list_any}
use Rattle.std.proofs.lemmas.Bool.{not-false, not_from_true, or_parts, or_from}
use Rattle.std.proofs.lemmas.List.Elements.{All-weaker}
use Rattle.std.proofs.lemmas.Simd.{map-map}
use Rattle.clr_net.specs.Prelude.{point_names, same_name, has_name}
use Rattle.clr_order.specs.Step.{Task, stray_point}
use Rattle.clr_order.specs.Isolating.{has_repeat}
use Rattle.clr_order.proofs.Finds.{all_fail, find-none, find-map, option_map-none}
use Rattle.clr_net.specs.declared.point.PointRow.{PointRow}

-- the points of names are the names
pub names_themselves : (names : List (List ℕ)) → map (λ name. name) names ≡ names
names_themselves [] = refl
names_themselves (name ∷ names) = ap (λ rest. name ∷ rest) (names_themselves names)

-- the names of the rows behind references
pub names_behind : (rows : List (Bor PointRow)) → map (λ (row : Bor PointRow). row.now.name) rows ≡ point_names (map (λ (row : Bor PointRow). row.now) rows)
names_behind rows = sym (map-map (λ (row : PointRow). row.name) (λ (row : Bor PointRow). row.now) rows)

-- no step is elsewhere exactly where each is at one of the points
pub no_stray : (points : List (List ℕ)) (tasks : List Task) → stray_point points tasks ≡ None → All (λ t. IsTrue (has_name points t.point)) tasks
no_stray points tasks h =
    let none = option_map-none (λ (t : Task). t.point) (find (λ t. not (has_name points t.point)) tasks) (sym (find-map (λ p. not (has_name points p)) (λ (t : Task). t.point) tasks) ∙ h) in
    All-weaker (λ t. not (has_name points t.point) ≡ false) (λ t. IsTrue (has_name points t.point)) (λ t e. not-false (has_name points t.point) e) tasks (all_fail _ tasks none)

pub stray_point-none : (points : List (List ℕ)) (tasks : List Task) → All (λ t. IsTrue (has_name points t.point)) tasks → stray_point points tasks ≡ None
stray_point-none points tasks h =
    find-map (λ p. not (has_name points p)) (λ (t : Task). t.point) tasks
    ∙ ap (option_map (λ (t : Task). t.point)) (find-none (λ t. not (has_name points t.point)) tasks (All-weaker (λ t. IsTrue (has_name points t.point)) (λ t. not (has_name points t.point) ≡ false) (λ t e. not_from_true (has_name points t.point) e) tasks h))

none_passes : (p : List ℕ → Bool) (points : List (List ℕ)) → list_any p points ≡ false → AllByRecursion (λ q. p q ≡ false) points
none_passes p [] h = tt
none_passes p (q ∷ points) h = let parts = or_parts (p q) (list_any p points) h in (parts.0, none_passes p points parts.1)

list_any-none : (p : List ℕ → Bool) (points : List (List ℕ)) → AllByRecursion (λ q. p q ≡ false) points → list_any p points ≡ false
list_any-none p [] h = refl
list_any-none p (q ∷ points) h = or_from (p q) (list_any p points) h.0 (list_any-none p points h.1)

-- no point comes twice
pub once_from : (points : List (List ℕ)) → has_repeat points ≡ false → IsDistinct same_name points
unfolding IsDistinct
once_from [] h = tt
once_from (p ∷ points) h =
    let parts = or_parts (has_name points p) (has_repeat points) h in
    (none_passes (same_name p) points parts.0, once_from points parts.1)

pub has_repeat-once : (points : List (List ℕ)) → IsDistinct same_name points → has_repeat points ≡ false
unfolding IsDistinct
has_repeat-once [] h = refl
has_repeat-once (p ∷ points) h =
    or_from (has_name points p) (has_repeat points) (list_any-none (same_name p) points h.0) (has_repeat-once points h.1)
