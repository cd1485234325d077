-- One turn of a loop over rows: what it keeps, and what is left of the rows.
use Rattle.std.proofs.Common.{◌≡◌, ◌∙◌, ◌<◌, ◌+◌, ◌++◌, ◌&&◌, ℕ, Bool, true, false, List, ◌∷◌}
use Rattle.std.proofs.Common.{length, drop, get_or, refl, ap, sym}
use Rattle.std.proofs.lemmas.List.{append_assoc}
use Rattle.std.proofs.lemmas.List.{drop_more}

-- what is left of a list at a place begins with the item there
pub drop_step : {X : Type 0} (xs ys : List X) (i : ℕ) (x : X) → xs ≡ ys → x ≡ get_or xs i x → i < length xs → drop i ys ≡ x ∷ drop (i + 1) ys
drop_step xs ys i x same is inside =
    ap (drop i) (sym same) ∙ drop_more xs i x inside ∙ ap (λ y. y ∷ drop (i + 1) xs) (sym is) ∙ ap (λ zs. x ∷ drop (i + 1) zs) same

-- a row adds to what is kept what the rest would have given of it
pub kept_more : {Row Kept : Type 0} (gives : List Row → List Kept) (kept more : List Kept)
    (rows : List Row) (i : ℕ) (row : Row) (all : List Kept) → row ≡ get_or rows i row
    → i < length rows → gives (row ∷ drop (i + 1) rows) ≡ more ++ gives (drop (i + 1) rows)
    → kept ++ gives (drop i rows) ≡ all → (kept ++ more) ++ gives (drop (i + 1) rows) ≡ all
kept_more gives kept more rows i row all is inside adds so_far =
    append_assoc kept more (gives (drop (i + 1) rows))
    ∙ ap (λ left. kept ++ left)
    (sym adds ∙ ap gives (sym (drop_step rows rows i row refl is inside)))
    ∙ so_far

-- a row that does not count is passed over
pub passed_over : {Row Told : Type 0} (tells : List Row → Told) (rows : List Row) (i : ℕ)
    (row : Row) (all : Told) → row ≡ get_or rows i row → i < length rows
    → tells (row ∷ drop (i + 1) rows) ≡ tells (drop (i + 1) rows) → tells (drop i rows) ≡ all
    → tells (drop (i + 1) rows) ≡ all
passed_over tells rows i row all is inside same so_far =
    sym same ∙ ap tells (sym (drop_step rows rows i row refl is inside)) ∙ so_far

-- two tests, of which the second is made where the first holds
pub both_hold : (a b : Bool) → a ≡ true → b ≡ true → (a && b) ≡ true
both_hold a b x y = rw x y

pub second_fails : (a b : Bool) → a ≡ true → b ≡ false → (a && b) ≡ false
second_fails a b x y = rw x y

pub first_fails : (a b : Bool) → a ≡ false → (a && b) ≡ false
first_fails a b x = rw x refl
