-- Rows found by their names: in maps and filters of lists.
use Rattle.std.proofs.Common.{◌≡◌, ◌∙◌, ℕ, Bool, true, List, [], ◌∷◌, map, Contains, refl, sym}
use Rattle.clr_rules.specs.Prelude.{list_any, same_name, has_name}
use Rattle.clr_net.proofs.Walks.{any_from, one_name, same_itself, some_from}
pub use Rattle.clr_net.proofs.KeptRows.{Contains-filter, filter-names, has_name-filter, has_name-kept}

pub list_any-map : {X Y : Type 0} (p : Y → Bool) (f : X → Y) (xs : List X) → list_any p (map f xs) ≡ list_any (λ x. p (f x)) xs
list_any-map p f [] = refl
list_any-map p f (x ∷ xs) = rw (list_any-map p f xs) refl

-- the name of a row is among those of the rows
pub has_name-row : {X : Type 0} (name_of : X → List ℕ) (rows : List X) (row : X) → Contains rows row → has_name (map name_of rows) (name_of row) ≡ true
has_name-row name_of rows row there =
    list_any-map (same_name (name_of row)) name_of rows ∙ any_from (λ other. same_name (name_of row) (name_of other)) rows row there (same_itself (name_of row))

-- and a name among them is that of a row
pub row_named : {X : Type 0} (name_of : X → List ℕ) (rows : List X) (name : List ℕ) → has_name (map name_of rows) name ≡ true
    → (row : X) × Contains rows row × (name ≡ name_of row)
row_named name_of rows name known =
    let (row, there, same) = some_from (λ row. same_name name (name_of row)) rows (sym (list_any-map (same_name name) name_of rows) ∙ known) in
    (row, there, one_name name (name_of row) same)
