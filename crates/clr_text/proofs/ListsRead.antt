-- What was read of the front of a list, and what its rest is read as.
use Rattle.std.proofs.Common.{◌≡◌, ◌∙◌, ◌<◌, ◌+◌, ℕ, List, [], ◌∷◌, ◌++◌, Option, None, Some, length, drop, get_or, refl, ap, sym, append_assoc, option_map}
use Rattle.clr_rules.proofs.Common.{drop_more}
use Rattle.serde_json.specs.Data.{Data}
use Rattle.serde_json.specs.View.{items_view, view}
use Rattle.serde_json.specs.declared.value.Value.{Value}
use Rattle.clr_text.specs.Values.{all_read}

-- the front, with what the rest is read as
abbrev pub after : {A : Type 0} → List A → Option (List A) → Option (List A)
after front rest = option_map (λ xs. front ++ xs) rest

pub after-next : {A : Type 0} (front : List A) (x : A) (rest : Option (List A))
    → after (front ++ x ∷ []) rest ≡ after front (option_map (λ xs. x ∷ xs) rest)
after-next front x None = refl
after-next front x (Some xs) = ap Some (append_assoc front (x ∷ []) xs)

-- one more item of a list is read
pub read_more : {A : Type 0} (reading : Data → Option A) (front : List A) (list : List Value)
    (i : ℕ) (value : Value) (x : A) (all : Option (List A)) → value ≡ get_or list i value
    → i < length list → reading (view value) ≡ Some x
    → after front (all_read reading (items_view (drop i list))) ≡ all
    → after (front ++ x ∷ []) (all_read reading (items_view (drop (i + 1) list))) ≡ all
read_more reading front list i value x all is inside gives so_far =
    let more = drop (i + 1) list in
    let rest = all_read reading (items_view more) in
    let first : all_read reading (items_view (value ∷ more)) ≡ option_map (λ xs. x ∷ xs) rest =
    rw gives refl in
    after-next front x rest
    ∙ ap (after front)
    (sym first ∙ ap (λ left. all_read reading (items_view left))
    (ap (λ v. v ∷ more) is ∙ sym (drop_more list i value inside)))
    ∙ so_far
