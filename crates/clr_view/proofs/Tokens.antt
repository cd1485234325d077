-- The tokens of lists and of what is written part by part.
use Rattle.std.proofs.Common.{◌≡◌, ◌∙◌, ◌<◌, ◌+◌, ℕ, List, [], ◌∷◌, ◌++◌, map, flat_map, get_or, length, take, ap, refl, subst, sym, append_assoc, append-nil}
use Rattle.std.proofs.lemmas.List.{take_more}
use Rattle.json.specs.Token.{Token, begin_array, end_array, key}
use Rattle.json.specs.Tree.{items_tokens}
use Rattle.json.specs.Written.{Written}
use Rattle.serde_json.specs.Data.{Data}
use Rattle.serde_json.specs.View.{items_of}
use Rattle.serde_json.specs.Written.{items_outline}
use Rattle.clr_text.specs.Json.{list_data}
use Rattle.clr_view.specs.Tokens.{Adds, data_tokens, member_tokens}

flat_map_push : {A : Type 0} (f : A → Data) (xs : List A) (x : A)
    → flat_map (λ y. data_tokens (f y)) (xs ++ x ∷ []) ≡ flat_map (λ y. data_tokens (f y)) xs ++ data_tokens (f x)
flat_map_push f [] x = append-nil (data_tokens (f x))
flat_map_push f (y ∷ ys) x =
    ap (λ ts. data_tokens (f y) ++ ts) (flat_map_push f ys x)
    ∙ sym (append_assoc (data_tokens (f y)) (flat_map (λ z. data_tokens (f z)) ys) (data_tokens (f x)))

-- those of the values of a list, and the bracket after them
pub list_tokens : {A : Type 0} (f : A → Data) (xs : List A)
    → items_tokens (items_outline (items_of (map f xs))) ≡ flat_map (λ x. data_tokens (f x)) xs ++ end_array ∷ []
list_tokens f [] = refl
list_tokens f (x ∷ xs) =
    ap (λ ts. data_tokens (f x) ++ ts) (list_tokens f xs)
    ∙ sym (append_assoc (data_tokens (f x)) (flat_map (λ y. data_tokens (f y)) xs) (end_array ∷ []))

-- one part after the other
pub adds_then : (ts us : List Token) (a b c : Written) → Adds ts a b → Adds us b c → Adds (ts ++ us) a c
adds_then ts us a b c first second = record {
  tokens = second.tokens ∙ ap (λ l. l ++ us) first.tokens ∙ append_assoc a.tokens ts us;
  before = second.before ∙ first.before;
}

pub adds_as : (ts us : List Token) (a b : Written) → ts ≡ us → Adds ts a b → Adds us a b
adds_as ts us a b is first = subst (λ (l : List Token). Adds l a b) is first

-- the values of a list, and the bracket after them
pub adds_list : {A : Type 0} (f : A → Data) (xs : List A) (a b c : Written)
    → Adds (flat_map (λ x. data_tokens (f x)) xs) a b → Adds (end_array ∷ []) b c
    → Adds (items_tokens (items_outline (items_of (map f xs)))) a c
adds_list f xs a b c values bracket =
    let all = flat_map (λ x. data_tokens (f x)) xs in
    adds_as (all ++ end_array ∷ []) (items_tokens (items_outline (items_of (map f xs)))) a c (sym (list_tokens f xs))
    (adds_then all (end_array ∷ []) a b c values bracket)

-- the whole list, with its key
pub adds_member : {A : Type 0} (f : A → Data) (xs : List A) (name : List ℕ) (a b c d : Written)
    → Adds (key name ∷ begin_array ∷ []) a b → Adds (flat_map (λ x. data_tokens (f x)) xs) b c → Adds (end_array ∷ []) c d
    → Adds (member_tokens name (list_data f xs)) a d
adds_member f xs name a b c d begun values bracket =
    adds_then (key name ∷ begin_array ∷ []) (items_tokens (items_outline (items_of (map f xs)))) a b d begun (adds_list f xs b c d values bracket)

-- a value more
pub adds_next : {A : Type 0} (f : A → Data) (xs : List A) (i : ℕ) (x : A) (a b c : Written) → i < length xs → x ≡ get_or xs i x
    → Adds (flat_map (λ y. data_tokens (f y)) (take i xs)) a b → Adds (data_tokens (f x)) b c
    → Adds (flat_map (λ y. data_tokens (f y)) (take (i + 1) xs)) a c
adds_next f xs i x a b c within is before next =
    let more : take (i + 1) xs ≡ take i xs ++ x ∷ [] = take_more xs i x within ∙ ap (λ y. take i xs ++ y ∷ []) (sym is) in
    adds_as _ _ a c (sym (ap (flat_map (λ y. data_tokens (f y))) more ∙ flat_map_push f (take i xs) x))
    (adds_then (flat_map (λ y. data_tokens (f y)) (take i xs)) (data_tokens (f x)) a b c before next)
