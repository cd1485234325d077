-- A number that is no whole number is found.
use Rattle.std.proofs.Common.{◌≡◌, ◌∙◌, ◌+◌, ◌<◌, ℕ, zero, suc, Bool, true, false, ◌||◌, List, [], ◌∷◌, ◌++◌, length, get_or, take, refl, ap, sym, arith, add-one}
use Rattle.serde_json.proofs.Views.{Entry}
use Rattle.serde_json.specs.View.{items_view, members_view, view}
use Rattle.serde_json.specs.Written.{has_float, items_have_float, members_have_float}
use Rattle.serde_json.specs.declared.value.Value.{Value}

or_right : (a b : Bool) → b ≡ true → (a || b) ≡ true
or_right true b h = refl
or_right false b h = h

or_left : (a b : Bool) → a ≡ true → (a || b) ≡ true
or_left true b h = refl
or_left false b h = cc h

pub some_item : (vs : List Value) (i : ℕ) (v : Value) → i < length vs → v ≡ get_or vs i v → has_float (view v) ≡ true → items_have_float (items_view vs) ≡ true
some_item [] i v inside is is_one = absurd (omega arith)
some_item (x ∷ vs) zero v inside is is_one = or_left (has_float (view x)) (items_have_float (items_view vs)) (ap (λ one. has_float (view one)) (sym is) ∙ is_one)
some_item (x ∷ vs) (suc i) v inside is is_one =
    or_right (has_float (view x)) (items_have_float (items_view vs)) (some_item vs i v (omega arith) is is_one)

pub some_member : (done : List Entry) (e : Entry) (left : List Entry) → has_float (view e.1) ≡ true → members_have_float (members_view (done ++ e ∷ left)) ≡ true
some_member [] e left is_one = or_left (has_float (view e.1)) (members_have_float (members_view left)) is_one
some_member (x ∷ done) e left is_one =
    or_right (has_float (view x.1)) (members_have_float (members_view (done ++ e ∷ left))) (some_member done e left is_one)

neither : (a b : Bool) → a ≡ false → b ≡ false → (a || b) ≡ false
neither true b h k = cc h
neither false b h k = k

first_false : (a b : Bool) → (a || b) ≡ false → a ≡ false
first_false true b h = h
first_false false b h = refl

second_false : (a b : Bool) → (a || b) ≡ false → b ≡ false
second_false true b h = cc h
second_false false b h = h

pub none_more : (done : List Entry) (e : Entry) → members_have_float (members_view done) ≡ false → has_float (view e.1) ≡ false → members_have_float (members_view (done ++ e ∷ [])) ≡ false
none_more [] e none is_none = neither (has_float (view e.1)) false is_none refl
none_more (x ∷ done) e none is_none =
    neither (has_float (view x.1)) (members_have_float (members_view (done ++ e ∷ [])))
    (first_false (has_float (view x.1)) (members_have_float (members_view done)) none)
    (none_more done e (second_false (has_float (view x.1)) (members_have_float (members_view done)) none) is_none)

pub none_so : (vs : List Value) (i : ℕ) (v : Value) → i < length vs → v ≡ get_or vs i v → items_have_float (items_view (take i vs)) ≡ false → has_float (view v) ≡ false
    → items_have_float (items_view (take (suc i) vs)) ≡ false
none_so [] i v inside is none one = absurd (omega arith)
none_so (x ∷ vs) zero v inside is none one = neither (has_float (view x)) false (ap (λ y. has_float (view y)) (sym is) ∙ one) refl
none_so (x ∷ vs) (suc i) v inside is none one =
    neither (has_float (view x)) (items_have_float (items_view (take (suc i) vs)))
    (first_false (has_float (view x)) (items_have_float (items_view (take i vs))) none)
    (none_so vs i v (omega arith) is (second_false (has_float (view x)) (items_have_float (items_view (take i vs))) none) one)

pub none_at_more : (vs : List Value) (i : ℕ) (v : Value) → i < length vs → v ≡ get_or vs i v → items_have_float (items_view (take i vs)) ≡ false → has_float (view v) ≡ false
    → items_have_float (items_view (take (i + 1) vs)) ≡ false
none_at_more vs i v inside is none one = ap (λ n. items_have_float (items_view (take n vs))) (add-one i) ∙ none_so vs i v inside is none one
