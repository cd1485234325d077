-- Two journals with one sum are the same up to it, or a collision is shown.
use Rattle.std.proofs.Common.{◌≡◌, ◌∙◌, ◌⊎◌, ℕ, true, false, List, [], ◌∷◌, ◌++◌, length, refl, ap, ap₂, sym, subst, inl, inr, arith, append_assoc}
use Rattle.std.proofs.lemmas.Bool.{cases_Bool}
use Rattle.std.proofs.lemmas.List.{map-append}
use Rattle.std.proofs.lemmas.Slice.Eq.{bytes_eq-Decides}
use Rattle.std.specs.List.{list_any}
use Rattle.std.specs.Prelude.{bytes_eq}
use Rattle.hex.proofs.HexLemmas.{length-encode_with}
use Rattle.hex.specs.Hex.{lower_digits}
use Rattle.sha2.proofs.Facts256.{length-sha256}
use Rattle.sha2.specs.Sha256.{sha256}
use Rattle.clr_journal.specs.Lines.{is_line_feed}
use Rattle.clr_journal.proofs.JournalsRead.{lines_are_one_line}
use Rattle.clr_journal.specs.Line.{Entry, line_text}
use Rattle.clr_chain.specs.Laws.{AreSame, Collision, SameSumSameJournal}
use Rattle.clr_chain.specs.Sums.{Files, first_sum, sum_after, sum_behind, sum_line, sum_of}

length-sum_of : (text : List ℕ) → length (sum_of text) ≡ 64
unfolding sum_of
length-sum_of text = let hex = length-encode_with lower_digits (sha256 text) in let digest = length-sha256 text in omega (arith, hex, digest)

abbrev Or : Type 0 → Type 0
Or P = P ⊎ Collision

-- one sum is of one text
one_text : (xs ys : List ℕ) → sum_of xs ≡ sum_of ys → Or (xs ≡ ys)
one_text xs ys same = elim (cases_Bool (bytes_eq xs ys)) [
  | inl is ↦ inl ((bytes_eq-Decides xs ys).0 is)
  | inr not ↦ inr (record { one = xs; other = ys; differ = λ equal. let is = (bytes_eq-Decides xs ys).1 equal in cc (is, not); sum = same })
]

parts : (a b x y : List ℕ) → length a ≡ length b → a ++ x ≡ b ++ y → (a ≡ b) × (x ≡ y)
parts [] [] x y size same = (refl, same)
parts [] (c ∷ b) x y size same = absurd (omega (arith, size))
parts (c ∷ a) [] x y size same = absurd (omega (arith, size))
parts (c ∷ a) (d ∷ b) x y size same =
    let head : c ≡ d = cc in
    let tail : a ++ x ≡ b ++ y = cc in
    let rest = parts a b x y (omega (arith, size)) tail in
    (ap₂ (λ z zs. z ∷ zs) head rest.0, rest.1)

sums_part : (s t x y : List ℕ) → sum_of s ++ x ≡ sum_of t ++ y → (sum_of s ≡ sum_of t) × (x ≡ y)
sums_part s t x y same = parts (sum_of s) (sum_of t) x y (length-sum_of s ∙ sym (length-sum_of t)) same

tail_same : (x y : List ℕ) → 10 ∷ x ≡ 10 ∷ y → x ≡ y
tail_same x y same = cc

record LinePart (a b x y : List ℕ) : Type 0 where
  pub text : a ≡ b
  pub more : x ≡ y

line_part : (a b x y : List ℕ) → sum_line a x ≡ sum_line b y → Or (LinePart a b x y)
line_part a b x y same =
    let both = sums_part a b (10 ∷ x) (10 ∷ y) (sym (append_assoc (sum_of a) (10 ∷ []) x) ∙ same ∙ append_assoc (sum_of b) (10 ∷ []) y) in
    elim (one_text a b both.0) [
      | inl text ↦ inl (record { text = text; more = tail_same x y both.1 })
      | inr shown ↦ inr shown
    ]

-- ---- the first lines

record SameFirst (files files' : Files) (id id' : List ℕ) : Type 0 where
  pub sections : files.sections ≡ files'.sections
  pub points : files.points ≡ files'.points
  pub staff : files.staff ≡ files'.staff
  pub ids : id ≡ id'

from_text : (files files' : Files) (id id' : List ℕ)
    → sum_line files.sections (sum_line files.points (sum_line files.staff id)) ≡ sum_line files'.sections (sum_line files'.points (sum_line files'.staff id'))
    → Or (SameFirst files files' id id')
from_text files files' id id' same =
    elim (line_part files.sections files'.sections _ _ same) [
      | inr shown ↦ inr shown
      | inl one ↦ elim (line_part files.points files'.points _ _ one.more) [
        | inr shown ↦ inr shown
        | inl two ↦ elim (line_part files.staff files'.staff id id' two.more) [
          | inr shown ↦ inr shown
          | inl three ↦ inl (record { sections = one.text; points = two.text; staff = three.text; ids = three.more })
        ]
      ]
    ]

firsts : (files files' : Files) (id id' : List ℕ) → first_sum files id ≡ first_sum files' id' → Or (SameFirst files files' id id')
unfolding first_sum
firsts files files' id id' same = elim (one_text _ _ same) [
  | inl text ↦ from_text files files' id id' text
  | inr shown ↦ inr shown
]

-- ---- a first line and a later one

fed : (x : List ℕ) (line : List ℕ) → 10 ∷ x ≡ line → list_any is_line_feed line ≡ true
fed x line is = subst (λ l. list_any is_line_feed l ≡ true) is refl

no_feed : (x : List ℕ) (entry : Entry) → 10 ∷ x ≡ line_text entry → Collision
no_feed x entry is = let has = fed x (line_text entry) is in let none = lines_are_one_line entry in absurd (let e : true ≡ false = cc (has, none) in no e)
  where
    no : true ≡ false → ⊥
    no e = cc

-- a sum is that of some text
record IsSum (sum : List ℕ) : Type 0 where
  pub of : List ℕ
  pub is : sum ≡ sum_of of

first_is_sum : (files : Files) (id : List ℕ) → IsSum (first_sum files id)
unfolding first_sum
first_is_sum files id = record { of = _; is = refl }

after_is_sum : (before : List ℕ) (entry : Entry) → IsSum (sum_after before entry)
unfolding sum_after
after_is_sum before entry = record { of = _; is = refl }

mixed_texts : (files : Files) (id : List ℕ) (before : List ℕ) (entry : Entry) → IsSum before
    → sum_line files.sections (sum_line files.points (sum_line files.staff id)) ≡ before ++ line_text entry → Collision
mixed_texts files id before entry sum same =
    let more : List ℕ = sum_line files.points (sum_line files.staff id) in
    let both = sums_part files.sections sum.of (10 ∷ more) (line_text entry) (sym (append_assoc (sum_of files.sections) (10 ∷ []) more) ∙ same ∙ ap (λ s. s ++ line_text entry) sum.is) in
    no_feed _ entry both.1

mixed : (files : Files) (id : List ℕ) (before : List ℕ) (entry : Entry) → IsSum before → first_sum files id ≡ sum_after before entry → Collision
unfolding first_sum sum_after
mixed files id before entry sum same = elim (one_text _ _ same) [
  | inl text ↦ mixed_texts files id before entry sum text
  | inr shown ↦ shown
]

-- ---- later lines

record SameAfter (before before' : List ℕ) (entry entry' : Entry) : Type 0 where
  pub sums : before ≡ before'
  pub lines : line_text entry ≡ line_text entry'

from_line : (before before' : List ℕ) (entry entry' : Entry) → IsSum before → IsSum before' → before ++ line_text entry ≡ before' ++ line_text entry'
    → SameAfter before before' entry entry'
from_line before before' entry entry' sum sum' same =
    let size : length before ≡ length before' = ap length sum.is ∙ length-sum_of sum.of ∙ sym (length-sum_of sum'.of) ∙ ap length (sym sum'.is) in
    let both = parts before before' (line_text entry) (line_text entry') size same in
    record { sums = both.0; lines = both.1 }

afters : (before before' : List ℕ) (entry entry' : Entry) → IsSum before → IsSum before' → sum_after before entry ≡ sum_after before' entry'
    → Or (SameAfter before before' entry entry')
unfolding sum_after
afters before before' entry entry' sum sum' same = elim (one_text _ _ same) [
  | inl text ↦ inl (from_line before before' entry entry' sum sum' text)
  | inr shown ↦ inr shown
]

-- ---- lines from the last one back

abbrev turned : List Entry → List Entry
turned [] = []
turned (entry ∷ back) = turned back ++ entry ∷ []

turned-last : (back : List Entry) (entry : Entry) → turned (back ++ entry ∷ []) ≡ entry ∷ turned back
turned-last [] entry = refl
turned-last (x ∷ back) entry = ap (λ es. es ++ x ∷ []) (turned-last back entry)

record Back (entries : List Entry) : Type 0 where
  pub back : List Entry
  pub is : turned back ≡ entries

from_back : (entries : List Entry) → Back entries
from_back [] = record { back = []; is = refl }
from_back (entry ∷ rest) =
    let more = from_back rest in
    record { back = more.back ++ entry ∷ []; is = turned-last more.back entry ∙ ap (λ es. entry ∷ es) more.is }

sum_behind-last : (sum : List ℕ) (entries : List Entry) (entry : Entry) → sum_behind sum (entries ++ entry ∷ []) ≡ sum_after (sum_behind sum entries) entry
sum_behind-last sum [] entry = refl
sum_behind-last sum (x ∷ entries) entry = sum_behind-last (sum_after sum x) entries entry

back_is_sum : (files : Files) (id : List ℕ) (back : List Entry) → IsSum (sum_behind (first_sum files id) (turned back))
back_is_sum files id [] = first_is_sum files id
back_is_sum files id (entry ∷ back) =
    let sum = after_is_sum (sum_behind (first_sum files id) (turned back)) entry in
    record { of = sum.of; is = sum_behind-last (first_sum files id) (turned back) entry ∙ sum.is }

onto_last : (files files' : Files) (id id' : List ℕ) (back back' : List Entry) (entry entry' : Entry) → AreSame files files' id id' (turned back) (turned back')
    → line_text entry ≡ line_text entry' → AreSame files files' id id' (turned (entry ∷ back)) (turned (entry' ∷ back'))
onto_last files files' id id' back back' entry entry' same line = record {
  sections = same.sections;
  points = same.points;
  staff = same.staff;
  ids = same.ids;
  lines = map-append line_text (turned back) (entry ∷ []) ∙ ap₂ (λ texts text. texts ++ text ∷ []) same.lines line ∙ sym (map-append line_text (turned back') (entry' ∷ []));
}

from_end : (files files' : Files) (id id' : List ℕ) (back back' : List Entry)
    → sum_behind (first_sum files id) (turned back) ≡ sum_behind (first_sum files' id') (turned back')
    → Or (AreSame files files' id id' (turned back) (turned back'))
from_end files files' id id' [] [] same = elim (firsts files files' id id' same) [
  | inl one ↦ inl (record { sections = one.sections; points = one.points; staff = one.staff; ids = one.ids; lines = refl })
  | inr shown ↦ inr shown
]
from_end files files' id id' [] (entry' ∷ back') same =
    inr (mixed files id (sum_behind (first_sum files' id') (turned back')) entry' (back_is_sum files' id' back') (same ∙ sum_behind-last (first_sum files' id') (turned back') entry'))
from_end files files' id id' (entry ∷ back) [] same =
    inr (mixed files' id' (sum_behind (first_sum files id) (turned back)) entry (back_is_sum files id back) (sym same ∙ sum_behind-last (first_sum files id) (turned back) entry))
from_end files files' id id' (entry ∷ back) (entry' ∷ back') same =
    let last = sym (sum_behind-last (first_sum files id) (turned back) entry) ∙ same ∙ sum_behind-last (first_sum files' id') (turned back') entry' in
    elim (afters _ _ entry entry' (back_is_sum files id back) (back_is_sum files' id' back') last) [
      | inr shown ↦ inr shown
      | inl one ↦ elim (from_end files files' id id' back back' one.sums) [
        | inr shown ↦ inr shown
        | inl more ↦ inl (onto_last files files' id id' back back' entry entry' more one.lines)
      ]
    ]

pub same_sum : SameSumSameJournal
same_sum files files' id id' entries entries' same =
    let one = from_back entries in
    let two = from_back entries' in
    let sums : sum_behind (first_sum files id) (turned one.back) ≡ sum_behind (first_sum files' id') (turned two.back) =
    ap (sum_behind (first_sum files id)) one.is ∙ same ∙ ap (sum_behind (first_sum files' id')) (sym two.is) in
    let found = from_end files files' id id' one.back two.back sums in
    let left = subst (λ es. Or (AreSame files files' id id' es (turned two.back))) one.is found in
    subst (λ es. Or (AreSame files files' id id' entries es)) two.is left
