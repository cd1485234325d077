-- One field of a name, or several.
use Rattle.std.proofs.Common.{◌≡◌, ℕ, ◌<◌, Bool, true, false, List, [], ◌∷◌, filter, map, drop, take, get_or, length, ◌-◌, refl, arith, take_all, Err, Result, if◌then◌else◌, Option, None, Some}
use Rattle.clr_rules.proofs.Common.{list_any}
use Rattle.clr_http.specs.Fields.{Field, only_value}
use Rattle.clr_http.specs.Length.{length_of_fields, read_length}
use Rattle.clr_http.specs.declared.length.LengthFault.{LengthFault}
use Rattle.clr_http.specs.declared.length.LengthFault.TheVariants.{BadLength}

module _ (test : Field → Bool) where
  -- what a field that passes gives, and whether another one does
  abbrev pub given_by : Field → List Field → Result ℕ LengthFault
  given_by first rest = if list_any test rest then Err BadLength else read_length first.1

  abbrev GivesOne : Field → List Field → Type 0
  GivesOne first rest = length_of_fields (first ∷ filter test rest) ≡ given_by first rest

  next_field : (first field : Field) (rest : List Field) (b : Bool) → test field ≡ b → GivesOne first rest → GivesOne first (field ∷ rest)
  next_field first field rest true t later = rw t refl
  next_field first field rest false t later = rw t later

  one : (first : Field) (rest : List Field) → GivesOne first rest
  one first [] = refl
  one first (field ∷ rest) = next_field first field rest (test field) refl (one first rest)

  first_field : (field : Field) (rest : List Field) (b : Bool) → test field ≡ b
      → length_of_fields (filter test (field ∷ rest)) ≡ (if test field then given_by field rest else length_of_fields (filter test rest))
  first_field field rest true t = rw t (one field rest)
  first_field field rest false t = rw t refl

  -- the length, by the first field
  pub by_first : (field : Field) (rest : List Field)
      → length_of_fields (filter test (field ∷ rest)) ≡ (if test field then given_by field rest else length_of_fields (filter test rest))
  by_first field rest = first_field field rest (test field) refl

-- the rest of a list, as a slice of it
abbrev pub rest_of : {X : Type 0} → List X → List X
rest_of xs = take (length xs - 1) (drop 1 xs)

rest_whole : {X : Type 0} (x : X) (xs : List X) → rest_of (x ∷ xs) ≡ xs
rest_whole x xs = take_all _ xs (omega arith)

-- the length that the fields of a list give, where it has a first
pub by_front : {X : Type 0} (test : Field → Bool) (f : X → Field) (xs : List X) (d : X) → 0 < length xs
    → length_of_fields (filter test (map f xs))
    ≡ (if test (f (get_or xs 0 d)) then given_by test (f (get_or xs 0 d)) (map f (rest_of xs)) else length_of_fields (filter test (map f (rest_of xs))))
by_front test f [] d l = absurd (omega arith)
by_front test f (x ∷ xs) d l = rw (rest_whole x xs) (by_first test (f x) (map f xs))

-- ---- the value of the one field

module _ (test : Field → Bool) where
  abbrev pub value_by : Field → List Field → Option (List ℕ)
  value_by first rest = if list_any test rest then None else Some first.1

  abbrev HasOne : Field → List Field → Type 0
  HasOne first rest = only_value (first ∷ filter test rest) ≡ value_by first rest

  next_value : (first field : Field) (rest : List Field) (b : Bool) → test field ≡ b → HasOne first rest → HasOne first (field ∷ rest)
  next_value first field rest true t later = rw t refl
  next_value first field rest false t later = rw t later

  one_value : (first : Field) (rest : List Field) → HasOne first rest
  one_value first [] = refl
  one_value first (field ∷ rest) = next_value first field rest (test field) refl (one_value first rest)

  first_value : (field : Field) (rest : List Field) (b : Bool) → test field ≡ b
      → only_value (filter test (field ∷ rest)) ≡ (if test field then value_by field rest else only_value (filter test rest))
  first_value field rest true t = rw t (one_value field rest)
  first_value field rest false t = rw t refl

-- the value of the one field of a list, where it has a first
pub value_by_front : {X : Type 0} (test : Field → Bool) (f : X → Field) (xs : List X) (d : X) → 0 < length xs
    → only_value (filter test (map f xs))
    ≡ (if test (f (get_or xs 0 d)) then value_by test (f (get_or xs 0 d)) (map f (rest_of xs)) else only_value (filter test (map f (rest_of xs))))
value_by_front test f [] d l = absurd (omega arith)
value_by_front test f (x ∷ xs) d l = rw (rest_whole x xs) (first_value test (f x) (map f xs) (test (f x)) refl)
