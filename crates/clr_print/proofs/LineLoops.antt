-- One turn of a loop that writes a line for each row.
use Rattle.std.proofs.Common.{◌≡◌, ◌∙◌, ◌<◌, ◌+◌, ◌++◌, ◌∷◌, ℕ, List, length, drop, get_or, map, ap, sym, Bor, append_assoc, flat_map}
use Rattle.clr_rules.proofs.Common.{drop_more}

-- the lines so far with that of the row, and those of the rows after it, are all
pub line_more : {Row : Type 0} (line : Row → List ℕ) (written : List ℕ) (rows : List (Bor Row))
    (i : ℕ) (row : Bor Row) (all : List ℕ) → row ≡ get_or rows i row → i < length rows
    → written ++ flat_map line (map (λ (r : Bor Row). r.now) (drop i rows)) ≡ all
    → (written ++ line row.now) ++ flat_map line (map (λ (r : Bor Row). r.now) (drop (i + 1) rows))
    ≡ all
line_more {Row = Row} line written rows i row all is inside so_far =
    let lines = λ (left : List (Bor Row)). flat_map line (map (λ (r : Bor Row). r.now) left) in
    append_assoc written (line row.now) (lines (drop (i + 1) rows))
    ∙ ap (λ left. written ++ lines left)
    (ap (λ r. r ∷ drop (i + 1) rows) is ∙ sym (drop_more rows i row inside))
    ∙ so_far
