-- Keys in the order of their bytes: the first that passes a test is the least that does.
use Rattle.std.proofs.Common.{◌≡◌, zero, suc, Bool, true, false, List, [], ◌∷◌, Some, refl, subst, inl, inr, find, Contains, arith, is_le, is_lt, nat_cmp, Ordering, Less, Equal, Greater}
use Rattle.clr_rules.proofs.Common.{and_parts, nat_list_cmp_total, tied_itself, list_all, in_key_order, in_key_order-filter}
use Rattle.std.proofs.lemmas.List.Elements.{Contains-append_cases, Contains-append_right, Contains-append_left}
use Rattle.std.specs.Cmp.Lexicographic.{slice_cmp}
use Rattle.clr_text.specs.KeyLaws.{IsLeast, KeysStandInOrder}
use Rattle.clr_text.specs.Keys.{every_key, key_text}
use Rattle.clr_text.specs.Kinds.{has_key, keys_of}
use Rattle.clr_text.specs.declared.key.Key.{Key}

pub keys_stand_in_order : KeysStandInOrder
unfolding keys_of every_key
keys_stand_in_order w = in_key_order-filter (slice_cmp nat_cmp) key_text nat_list_cmp_total (has_key w) every_key refl

-- a key is not after another
abbrev not_after : Key → Key → Bool
not_after key other = is_le (slice_cmp nat_cmp (key_text key) (key_text other))

abbrev before : Key → Key → Bool
before key other = is_lt (slice_cmp nat_cmp (key_text key) (key_text other))

not_after_itself : (key : Key) → not_after key key ≡ true
not_after_itself key = rw (tied_itself nat_list_cmp_total (key_text key)) refl

le_from_lt : (o : Ordering) → is_lt o ≡ true → is_le o ≡ true
le_from_lt Less below = refl
le_from_lt Equal below = refl
le_from_lt Greater below = cc

one : (key other : Key) → Contains (key ∷ []) other → key ≡ other
one key other (zero, within, is) = is
one key other (suc k, within, is) = absurd (omega arith)

all_after : (key : Key) (rest : List Key) (other : Key) → list_all (before key) rest ≡ true → Contains rest other → not_after key other ≡ true
all_after key [] other all (k, within, is) = absurd (omega arith)
all_after key (first ∷ rest) other all there =
    let (here, later) = and_parts (before key first) (list_all (before key) rest) all in
    elim (Contains-append_cases (first ∷ []) rest other there) [
      | inl at ↦ subst (λ (found : Key). not_after key found ≡ true) (one first other at) (le_from_lt (slice_cmp nat_cmp (key_text key) (key_text first)) here)
      | inr behind ↦ all_after key rest other later behind
    ]

-- where the first that is asked passes, or does not
least_step : (test : Key → Bool) (first : Key) (rest : List Key) (key : Key) (passes : Bool) → test first ≡ passes
    → list_all (before first) rest ≡ true
    → (find test rest ≡ Some key → IsLeast test rest key)
    → find test (first ∷ rest) ≡ Some key → IsLeast test (first ∷ rest) key
least_step test first rest key true is above later found =
    let same : first ≡ key = let found_here = rw is at found in cc in
    subst (λ (k : Key). IsLeast test (first ∷ rest) k) same
    (record {
      among = Contains-append_left (first ∷ []) rest first (0, omega arith, refl);
      passes = is;
      least = λ other there _. elim (Contains-append_cases (first ∷ []) rest other there) [
        | inl at ↦ subst (λ (k : Key). not_after first k ≡ true) (one first other at) (not_after_itself first)
        | inr behind ↦ all_after first rest other above behind
      ];
    })
least_step test first rest key false is above later found =
    let least = later (rw is at found) in
    record {
      among = Contains-append_right (first ∷ []) rest key least.among;
      passes = least.passes;
      least = λ other there passes. elim (Contains-append_cases (first ∷ []) rest other there) [
        | inl at ↦ let same = one first other at in let fails : test other ≡ false = subst (λ (k : Key). test k ≡ false) same is in cc
        | inr behind ↦ least.least other behind passes
      ];
    }

pub least_is_first : (test : Key → Bool) (keys : List Key) (key : Key) → in_key_order (slice_cmp nat_cmp) key_text keys ≡ true
    → find test keys ≡ Some key → IsLeast test keys key
least_is_first test [] key ordered found = cc
least_is_first test (first ∷ rest) key ordered found =
    let (above, later) = and_parts (list_all (before first) rest) (in_key_order (slice_cmp nat_cmp) key_text rest) ordered in
    least_step test first rest key (test first) refl above (least_is_first test rest key later) found
