-- The end of a journal says what is found in all of it.
use Rattle.std.proofs.Common.{◌≡◌, ◌∙◌, ◌+◌, ◌-◌, ◌≤◌, min, ℕ, Bool, true, false, cond, List, [], ◌∷◌, ◌++◌, length, take, drop, Option, None, Some, refl, ap, ap₂, sym, subst, arith, append_assoc, length-drop, take_all, take-append-drop, bytes_eq, IfSome, inl, inr, option_and_then, take-take}
use Rattle.std.proofs.lemmas.Bool.{cases_lt}
use Rattle.clr_journal.specs.Lines.{but_last, ended_lines, last_of, pieces, unfinished}
use Rattle.clr_chain.proofs.Cutting.{AheadEnds, EndsWith, all_left, both, by_ends, cut_at, found_there, found_whole, links_end, sought-ends}
use Rattle.clr_chain.proofs.NotMissed.{stays_met}
use Rattle.clr_chain.proofs.Parts.{HasEnd, end_pieces, last_apart, last_same}
use Rattle.clr_chain.specs.Chain.{all_but_first, links_of}
use Rattle.clr_chain.specs.Finding.{Found, Sought, first_of, first_text_of, found_by, found_in, met, other_rules_of, passed, sought, unmet}
use Rattle.clr_chain.specs.First.{other_rules_in, read_first}
use Rattle.clr_chain.specs.Laws.{EndsSayAll}
use Rattle.clr_chain.specs.Near.{found_near, is_unmet}
use Rattle.clr_chain.specs.Reading.{IsFound, IsFoundNear, IsFoundWith, rest_of, seen_unread}
use Rattle.clr_chain.specs.declared.finding.Found.{Found as SeenFound}
use Rattle.clr_chain.specs.declared.finding.Found.TheVariants as seen
use Rattle.clr_rules.specs.declared.place.Place.{Place}

-- ---- what the end says

record Says (place first : Place) (tail : List ℕ) (found : Found) : Type 0 where
  some : is_unmet (sought place (links_of tail)) ≡ false
  is : found_by place first (links_of tail) (sought place (links_of tail)) ≡ found

says_by : (place first : Place) (tail : List ℕ) (found : Found) (b : Bool) → is_unmet (sought place (links_of tail)) ≡ b
    → cond b None (Some (found_by place first (links_of tail) (sought place (links_of tail)))) ≡ Some found → Says place first tail found
says_by place first tail found true e h = cc h
says_by place first tail found false e h =
    let same : found_by place first (links_of tail) (sought place (links_of tail)) ≡ found = cc h in record { some = e; is = same }

says : (place first : Place) (tail : List ℕ) (found : Found) → found_near place first tail ≡ Some found → Says place first tail found
unfolding found_near
says place first tail found h = says_by place first tail found (is_unmet (sought place (links_of tail))) refl h

-- ---- the lines of all end with those of the end

record Ends (front tail : List ℕ) : Type 0 where
  lines : EndsWith (links_of (front ++ tail)) (links_of tail)
  rest : unfinished (front ++ tail) ≡ unfinished tail

no_links : (place : Place) (texts : List (List ℕ)) → texts ≡ [] → is_unmet (sought place texts) ≡ false → ⊥
unfolding sought
no_links place texts none some = let no : true ≡ false = ap (λ ts. is_unmet (sought place ts)) (sym none) ∙ some in cc no

after_first : (kept : List (List ℕ)) (h : List ℕ) (left : List (List ℕ)) → EndsWith (all_but_first (kept ++ h ∷ left)) left
after_first [] h left = all_left left
after_first (k ∷ kept) h left = record { kept = kept ++ h ∷ []; is = sym (append_assoc kept (h ∷ []) left) }

ends_by : (place : Place) (front tail : List ℕ) (ps : List (List ℕ)) → pieces tail ≡ ps → is_unmet (sought place (links_of tail)) ≡ false → Ends front tail
ends_by place front tail [] is some = absurd (no_links place (links_of tail) (ap (λ ps. all_but_first (but_last ps)) is) some)
ends_by place front tail (p ∷ []) is some = absurd (no_links place (links_of tail) (ap (λ ps. all_but_first (but_last ps)) is) some)
ends_by place front tail (p ∷ q ∷ qs) is some =
    let end : HasEnd (q ∷ qs) (pieces (front ++ tail)) = end_pieces front tail p (q ∷ qs) is in
    let all : links_of (front ++ tail) ≡ all_but_first (end.0 ++ end.1 ∷ but_last (q ∷ qs)) =
    ap all_but_first (ap but_last end.2 ∙ last_apart end.0 end.1 q qs) in
    let mine : links_of tail ≡ but_last (q ∷ qs) = ap (λ ps. all_but_first (but_last ps)) is in
    record {
      lines = subst (λ xs. EndsWith xs (links_of tail)) (sym all)
          (subst (λ ys. EndsWith (all_but_first (end.0 ++ end.1 ∷ but_last (q ∷ qs))) ys) (sym mine) (after_first end.0 end.1 (but_last (q ∷ qs))));
      rest = ap last_of end.2 ∙ last_same end.0 end.1 q qs ∙ sym (ap last_of is);
    }

-- ---- what is found by a line that is met does not rest on the lines before it

by_any : (place first : Place) (links links' : List (List ℕ)) (s : Sought) → is_unmet s ≡ false → found_by place first links s ≡ found_by place first links' s
by_any place first links links' (met true turn after) some = refl
by_any place first links links' (met false turn after) some = refl
by_any place first links links' (passed number after) some = refl
by_any place first links links' unmet some = cc some

all_by : (place first : Place) (front tail : List ℕ) (found : Found) → Says place first tail found
    → (found_by place first (links_of (front ++ tail)) (sought place (links_of (front ++ tail))) ≡ found) × (unfinished (front ++ tail) ≡ unfinished tail)
all_by place first front tail found said =
    let ends = ends_by place front tail (pieces tail) refl said.some in
    let s : Sought = sought place (links_of tail) in
    let met_so : sought place (links_of (front ++ tail)) ≡ s = ap (sought place) ends.lines.is ∙ stays_met place ends.lines.kept (links_of tail) s refl said.some in
    (ap (found_by place first (links_of (front ++ tail))) met_so ∙ by_any place first (links_of (front ++ tail)) (links_of tail) s said.some ∙ said.is, ends.rest)

pub ends_say_all : EndsSayAll
ends_say_all place first front tail found is same near =
    found_there place first (front ++ tail) is same ∙ (all_by place first front tail found (says place first tail found near)).0

-- ---- so what the code finds by the end is what it would find by all

near_whole : (place first : Place) (front tail bytes : List ℕ) (found : SeenFound) → bytes ≡ front ++ tail → first_of bytes ≡ Some first → bytes_eq first.id place.id ≡ true
    → IsFoundNear (unfinished tail) (Some found) (found_near place first tail) → IsFound bytes found (found_in place bytes)
near_whole place first front tail bytes found parts is same (said, near, h) =
    let all = all_by place first front tail said (says place first tail said near) in
    let here : found_by place first (links_of bytes) (sought place (links_of bytes)) ≡ said =
    ap (λ (bs : List ℕ). found_by place first (links_of bs) (sought place (links_of bs))) parts ∙ all.0 in
    let rest : unfinished tail ≡ unfinished bytes = sym (ap unfinished parts ∙ all.1) in
    found_whole place first bytes found (found_there place first bytes is same)
    (subst (λ f. IsFoundWith (unfinished bytes) found f) (sym here) (subst (λ r. IsFoundWith r found said) rest h))

pub near_says : (place first : Place) (bytes tail : List ℕ) (len size : ℕ) (found : SeenFound) → len ≡ length bytes → size ≤ len → tail ≡ take size (drop (len - size) bytes)
    → first_of bytes ≡ Some first → bytes_eq first.id place.id ≡ true → IsFoundNear (unfinished tail) (Some found) (found_near place first tail)
    → IsFound bytes found (found_in place bytes)
near_says place first bytes tail len size found all inside is at same near =
    let n = length-drop (len - size) bytes in
    let end : take size (drop (len - size) bytes) ≡ drop (len - size) bytes = take_all size (drop (len - size) bytes) (omega (arith, n, all, inside)) in
    near_whole place first (take (len - size) bytes) tail bytes found
    (sym (take-append-drop (len - size) bytes) ∙ ap (λ t. take (len - size) bytes ++ t) (sym (is ∙ end))) at same near

pub near_all : (place first : Place) (bytes tail : List ℕ) (len size : ℕ) (found : Option SeenFound) (Clean : Type 0) → size ≤ len
    → (Clean → len ≡ length bytes → tail ≡ take size (drop (len - size) bytes)) → IsFoundNear (unfinished tail) found (found_near place first tail)
    → IfSome found (λ one. Clean → len ≡ length bytes → first_of bytes ≡ Some first → bytes_eq first.id place.id ≡ true → IsFound bytes one (found_in place bytes))
near_all place first bytes tail len size None Clean inside part near = tt
near_all place first bytes tail len size (Some one) Clean inside part near =
    λ clean all at same. near_says place first bytes tail len size one all inside (part clean all) at same near

-- ---- the first line is in the front

same_front : (bytes front : List ℕ) (len size : ℕ) → len ≡ length bytes → size ≡ min 4096 len → front ≡ take size (drop 0 bytes) → take 4096 front ≡ take 4096 bytes
same_front bytes front len size all least is = elim (cases_lt 4096 len) [
  | inl long ↦
      let same : size ≡ 4096 = omega (arith, least, long) in
      ap (take 4096) (is ∙ ap (λ n. take n bytes) same) ∙ take-take 4096 4096 bytes (omega arith)
  | inr short ↦ ap (take 4096) (is ∙ take_all size bytes (omega (arith, least, short, all)))
]

pub front_first : (bytes front : List ℕ) (len size : ℕ) → len ≡ length bytes → size ≡ min 4096 len → front ≡ take size (drop 0 bytes) → first_of front ≡ first_of bytes
front_first bytes front len size all least is =
    ap (λ f. option_and_then read_first (first_text_of (ended_lines f))) (same_front bytes front len size all least is)

pub front_other : (bytes front : List ℕ) (len size : ℕ) → len ≡ length bytes → size ≡ min 4096 len → front ≡ take size (drop 0 bytes) → other_rules_of front ≡ other_rules_of bytes
front_other bytes front len size all least is =
    ap (λ f. option_and_then other_rules_in (first_text_of (ended_lines f))) (same_front bytes front len size all least is)

-- ---- no more is to be cut off than there is

rest_within : (place first : Place) (tail : List ℕ) (found : SeenFound) → IsFoundWith (unfinished tail) found (found_by place first (links_of tail) (sought place (links_of tail)))
    → rest_of found ≤ length tail
rest_within place first tail (seen.OtherRules number) h = omega arith
rest_within place first tail seen.OtherRegister h = omega arith
rest_within place first tail seen.TooShort h = omega arith
rest_within place first tail (seen.Differs number) h = omega arith
rest_within place first tail (seen.BadLine number) h = omega arith
rest_within place first tail (seen.Ahead lines) (after, alike, size, h) =
    let ends = by_ends place first (links_of tail) (sought place (links_of tail)) (sought-ends place (links_of tail)) in
    let left : EndsWith (links_of tail) (ended_lines after) = subst (λ f. AheadEnds (links_of tail) f) h ends in
    let cut = cut_at tail after (both (ended_lines tail) (links_of tail) (ended_lines after) (links_end (ended_lines tail)) left) alike in
    let count = cut.count in omega (arith, size, count)

pub within_tail : (place first : Place) (tail links : List ℕ) (s : Sought) (found : SeenFound) → ended_lines links ≡ links_of tail → unfinished links ≡ unfinished tail
    → s ≡ sought place (ended_lines links) → IsFoundWith (unfinished links) found (found_by place first (ended_lines links) s) → rest_of found ≤ length tail
within_tail place first tail links s found lines alike is h =
    let here : found_by place first (ended_lines links) s ≡ found_by place first (links_of tail) (sought place (links_of tail)) =
    ap₂ (found_by place first) lines (is ∙ ap (sought place) lines) in
    rest_within place first tail found
    (subst (λ f. IsFoundWith (unfinished tail) found f) here (subst (λ r. IsFoundWith r found (found_by place first (ended_lines links) s)) alike h))

pub unread_within : (found : SeenFound) (other : Option ℕ) (len : ℕ) → found ≡ seen_unread other → rest_of found ≤ len
unread_within found other len is = subst (λ (f : SeenFound). rest_of f ≤ len) (sym is) (by other)
  where
    by : (named : Option ℕ) → rest_of (seen_unread named) ≤ len
    by None = omega arith
    by (Some number) = omega arith
