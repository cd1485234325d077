-- A row is found by a name exactly where the name is known.
use Rattle.std.proofs.Common.{◌≡◌, refl, ℕ, Bool, true, false, List, [], ◌∷◌, map}
use Rattle.std.specs.Prelude.{find, is_some, if◌then◌else◌, Some, ◌||◌}
use Rattle.clr_net.specs.Name.{same_name}
use Rattle.clr_net.specs.Names.{has_name}

pub is_some-find : {X : Type 0} (name_of : X → List ℕ) (name : List ℕ) (rows : List X)
    → is_some (find (λ row. same_name name (name_of row)) rows) ≡ has_name (map name_of rows) name
is_some-find name_of name [] = refl
is_some-find name_of name (row ∷ rows) = by_test (same_name name (name_of row)) (is_some-find name_of name rows)
  where
    by_test : (same : Bool) → is_some (find (λ row. same_name name (name_of row)) rows) ≡ has_name (map name_of rows) name
        → is_some (if same then Some row else find (λ row. same_name name (name_of row)) rows) ≡ (same || has_name (map name_of rows) name)
    by_test true e = refl
    by_test false e = e
