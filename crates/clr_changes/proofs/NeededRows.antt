-- The rows that records need: the first of a kind, by what is found of each record.
use Rattle.std.proofs.Common.{◌≡◌, ◌∙◌, ℕ, Bool, true, false, List, [], ◌∷◌, ◌++◌, filter, Option, None, Some, refl, ap}
use Rattle.std.proofs.lemmas.Option.{same_Some}
use Rattle.clr_net.specs.Fence.{touches}
use Rattle.clr_net.specs.Grid.{point_names}
use Rattle.clr_net.specs.declared.point.PointRow.{PointRow}
use Rattle.clr_rules.specs.declared.record.Record.{Record}
use Rattle.clr_update.specs.Update.{first_named, first_needed}
use Rattle.clr_update.specs.declared.obstacle.Obstacle.{Obstacle}
use Rattle.clr_changes.specs.Needs.{Renewal, first_row, obstacle_of, rows_needed}
use Rattle.clr_changes.specs.Touched.{first_of}
use Rattle.clr_changes.specs.declared.needs.Need.{Need}

-- ---- the first of two lists

pub first-append_none : {X : Type 0} (xs ys : List X) → first_of xs ≡ None → first_of (xs ++ ys) ≡ first_of ys
first-append_none [] ys none = refl
first-append_none (x ∷ xs) ys none = absurd cc

pub first-append_some : {X : Type 0} (xs ys : List X) (x : X) → first_of xs ≡ Some x → first_of (xs ++ ys) ≡ Some x
first-append_some [] ys x some = absurd cc
first-append_some (y ∷ xs) ys x some = some

filter-append : {X : Type 0} (p : X → Bool) (xs ys : List X) → filter p (xs ++ ys) ≡ filter p xs ++ filter p ys
filter-append p [] ys = refl
filter-append p (x ∷ xs) ys = at (p x) refl (filter-append p xs ys)
  where
    at : (b : Bool) → p x ≡ b → filter p (xs ++ ys) ≡ filter p xs ++ filter p ys → filter p (x ∷ xs ++ ys) ≡ filter p (x ∷ xs) ++ filter p ys
    at true is more = rw is (ap (λ l. x ∷ l) more)
    at false is more = rw is more

names-append : (xs ys : List PointRow) → point_names (xs ++ ys) ≡ point_names xs ++ point_names ys
names-append [] ys = refl
names-append (x ∷ xs) ys = ap (λ l. x.name ∷ l) (names-append xs ys)

-- the points touching, of two lists
pub touching-append : (near : List ℕ → Bool) (xs ys : List PointRow)
    → point_names (filter (touches near) (xs ++ ys)) ≡ point_names (filter (touches near) xs) ++ point_names (filter (touches near) ys)
touching-append near xs ys = ap point_names (filter-append (touches near) xs ys) ∙ names-append (filter (touches near) xs) (filter (touches near) ys)

-- ---- the records, one after the other

named_none : (obstacle : List ℕ → Obstacle) (names : List (List ℕ)) (rest : Option Obstacle) → first_of names ≡ None → first_named obstacle names rest ≡ rest
named_none obstacle [] rest none = refl
named_none obstacle (name ∷ names) rest none = absurd cc

named_some : (obstacle : List ℕ → Obstacle) (names : List (List ℕ)) (rest : Option Obstacle) (name : List ℕ) → first_of names ≡ Some name
    → first_named obstacle names rest ≡ Some (obstacle name)
named_some obstacle [] rest name some = absurd cc
named_some obstacle (first ∷ names) rest name some = ap (λ (n : List ℕ). Some (obstacle n)) (same_Some first name some)

module _ (V : Renewal) (need : Need) (r : Record) (rest : List Record) where
  pub passed : first_of (rows_needed V need r) ≡ None → first_row V need (r ∷ rest) ≡ first_row V need rest
  unfolding first_needed
  passed none = named_none (λ (name : List ℕ). obstacle_of need name r.id) (rows_needed V need r) (first_row V need rest) none

  pub found : (name : List ℕ) → first_of (rows_needed V need r) ≡ Some name → first_row V need (r ∷ rest) ≡ Some (obstacle_of need name r.id)
  unfolding first_needed
  found name some = named_some (λ (name : List ℕ). obstacle_of need name r.id) (rows_needed V need r) (first_row V need rest) name some

pub none_left : (V : Renewal) (need : Need) → first_row V need [] ≡ None
unfolding first_needed
none_left V need = refl
