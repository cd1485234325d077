-- The states of the points, as the table of points has them: one for each point, in the order of the points.
use Rattle.std.proofs.Common.{◌≡◌, ℕ, Bool, true, ◌&&◌, List, [], ◌∷◌, map, drop, get_or, Some, Contains, refl, sym, ◌∙◌, ap}
use Rattle.std.specs.List.{list_all}
use Rattle.std.proofs.lemmas.Bool.{and_from, and_parts}
use Rattle.std.proofs.lemmas.Cmp.{nat_list_cmp_total}
use Rattle.clr_net.specs.Grid.{Grid, point_names}
use Rattle.clr_net.specs.Name.{name_cmp}
use Rattle.clr_net.specs.declared.point.PointRow.{PointRow}
use Rattle.clr_shelf.proofs.Lists.{Contains-here, Contains-later}
use Rattle.clr_shelf.proofs.Members.{row_of-member}
use Rattle.clr_rules.specs.Good.{ListsAreInOrder}
use Rattle.clr_rules.specs.Register.{Register}
use Rattle.clr_rules.specs.States.{state_key, state_of}
use Rattle.clr_rules.specs.declared.point_state.PointState.{PointState}
use Rattle.clr_load.specs.TableLaws.{StatesAreThePoints}
use Rattle.clr_load.specs.Tables.{state_at}
use Rattle.clr_load.proofs.TableChanges.{state_at-found}

-- the state of a point, under the point's name
abbrev pub state_from : List PointState → PointRow → PointState
state_from states p = record { point = p.name; position = (state_at states p).position; hand = (state_at states p).hand }

heads : (x y : List ℕ) (xs ys : List (List ℕ)) → x ∷ xs ≡ y ∷ ys → x ≡ y
heads x y xs ys same = ap (λ l. get_or l 0 []) same

tails : (x y : List ℕ) (xs ys : List (List ℕ)) → x ∷ xs ≡ y ∷ ys → xs ≡ ys
tails x y xs ys same = ap (drop 1) same

module _ (all : List PointState) where
  stated : (points : List PointRow) (states : List PointState) → map state_key states ≡ point_names points
      → ((state : PointState) → Contains states state → state_of all state.point ≡ Some state) → map (state_from all) points ≡ states
  stated [] [] same each = refl
  stated [] (state ∷ states) same each = cc
  stated (p ∷ points) [] same each = cc
  stated (p ∷ points) (state ∷ states) same each =
      let named : state.point ≡ p.name = heads state.point p.name (map state_key states) (point_names points) same in
      let at : state_at all p ≡ state = state_at-found all p state (ap (state_of all) (sym named) ∙ each state (Contains-here state states)) in
      let rest = stated points states (tails state.point p.name (map state_key states) (point_names points) same) (λ other there. each other (Contains-later state other states there)) in
      λ i. record { point = sym named i; position = PointState.position (at i); hand = PointState.hand (at i) } ∷ rest i

-- the states of a register, point by point
pub states_back : (R : Register) → StatesAreThePoints R → ListsAreInOrder R → map (state_from R.states) (Grid.points R.net) ≡ R.states
states_back R known ordered = stated R.states (Grid.points R.net) R.states known (λ state there.
    row_of-member name_cmp state_key nat_list_cmp_total state R.states ordered.states there)

-- two tests, of things and of what they are mapped to
pub both_tests : {X Y : Type 0} (p : X → Bool) (q : Y → Bool) (f : X → Y) (xs : List X) → list_all p xs ≡ true → list_all q (map f xs) ≡ true
    → list_all (λ x. p x && q (f x)) xs ≡ true
both_tests p q f [] ps qs = refl
both_tests p q f (x ∷ xs) ps qs =
    let (here, rest) = and_parts (p x) (list_all p xs) ps in
    let (there, others) = and_parts (q (f x)) (list_all q (map f xs)) qs in
    and_from (p x && q (f x)) (list_all (λ x. p x && q (f x)) xs) (and_from (p x) (q (f x)) here there) (both_tests p q f xs rest others)
