-- The lines of a text, by those of its front and of its end.
use Rattle.std.proofs.Common.{◌≡◌, ◌∙◌, ◌+◌, ◌-◌, ◌<◌, ◌≤◌, ℕ, zero, suc, Bool, true, false, cond, List, [], ◌∷◌, ◌++◌, length, take, Some, refl, ap, sym, subst, arith, append-nil, append_assoc}
use Rattle.std.proofs.Math.Seq.{take-append-add}
use Rattle.std.proofs.lemmas.List.{append_cancel_left}
use Rattle.std.proofs.lemmas.List.Splits.{length-slice_split}
use Rattle.std.specs.List.{list_any, onto_first}
use Rattle.std.specs.Prelude.{⊤}
use Rattle.clr_journal.proofs.Pieces.{line_first, some_piece, whole_text}
use Rattle.clr_journal.specs.Lines.{but_last, ended_lines, is_line_feed, last_of, pieces, text_of, unfinished, with_feed}

-- ---- no line has a line feed

abbrev pub AreLines : List (List ℕ) → Type 0
AreLines [] = ⊤
AreLines (line ∷ lines) = (list_any is_line_feed line ≡ false) × AreLines lines

byte_more : (x : ℕ) (ps : List (List ℕ)) → is_line_feed x ≡ false → AreLines ps → AreLines (onto_first x ps)
byte_more x [] h all = (rw h refl, tt)
byte_more x (p ∷ ps) h all = (rw h all.0, all.1)

by_first : (b : Bool) (x : ℕ) (ps : List (List ℕ)) → is_line_feed x ≡ b → AreLines ps → AreLines (cond b ([] ∷ ps) (onto_first x ps))
by_first true x ps e all = (refl, all)
by_first false x ps e all = byte_more x ps e all

pieces_are_lines : (xs : List ℕ) → AreLines (pieces xs)
pieces_are_lines [] = (refl, tt)
pieces_are_lines (x ∷ xs) = by_first (is_line_feed x) x (pieces xs) refl (pieces_are_lines xs)

all_but_one : (ps : List (List ℕ)) → AreLines ps → AreLines (but_last ps)
all_but_one [] all = tt
all_but_one (p ∷ []) all = tt
all_but_one (p ∷ q ∷ ps) all = (all.0, all_but_one (q ∷ ps) all.1)

pub lines_are_lines : (xs : List ℕ) → AreLines (ended_lines xs)
lines_are_lines xs = all_but_one (pieces xs) (pieces_are_lines xs)

pub front_are_lines : (kept left : List (List ℕ)) → AreLines (kept ++ left) → AreLines kept
front_are_lines [] left all = tt
front_are_lines (k ∷ kept) left all = (all.0, front_are_lines kept left all.1)

-- ---- lines, and a text after them

fed : (line : List ℕ) (lines : List (List ℕ)) (more : List ℕ) → text_of (line ∷ lines) ++ more ≡ line ++ 10 ∷ (text_of lines ++ more)
fed line lines more = append_assoc (with_feed line) (text_of lines) more ∙ append_assoc line (10 ∷ []) (text_of lines ++ more)

pub lines_then : (kept : List (List ℕ)) (more : List ℕ) → AreLines kept → ended_lines (text_of kept ++ more) ≡ kept ++ ended_lines more
lines_then [] more all = refl
lines_then (k ∷ kept) more all =
    ap ended_lines (fed k kept more) ∙ (line_first k (text_of kept ++ more) all.0).0 ∙ ap (λ ls. k ∷ ls) (lines_then kept more all.1)

-- ---- a text after its first lines

pub record Parted (bytes : List ℕ) (kept left : List (List ℕ)) : Type 0 where
  pub more : List ℕ
  pub is : bytes ≡ text_of kept ++ more
  pub front : ended_lines (text_of kept) ≡ kept
  pub lines : ended_lines more ≡ left

last_there : (ps : List (List ℕ)) → 0 < length ps → (r : List ℕ) × (last_of ps ≡ Some r)
last_there [] some = let none : 0 < 0 = some in absurd (omega (arith, none))
last_there (p ∷ []) some = (p, refl)
last_there (p ∷ q ∷ ps) some = last_there (q ∷ ps) (omega arith)

pub there_is_a_rest : (xs : List ℕ) → (r : List ℕ) × (unfinished xs ≡ Some r)
there_is_a_rest xs = let n = length-slice_split is_line_feed xs in last_there (pieces xs) (omega (arith, n))

pub text_of-append : (xs ys : List (List ℕ)) → text_of (xs ++ ys) ≡ text_of xs ++ text_of ys
text_of-append [] ys = refl
text_of-append (x ∷ xs) ys = ap (λ t. with_feed x ++ t) (text_of-append xs ys) ∙ sym (append_assoc (with_feed x) (text_of xs) (text_of ys))

pub parted : (bytes : List ℕ) (kept left : List (List ℕ)) → ended_lines bytes ≡ kept ++ left → Parted bytes kept left
parted bytes kept left lines =
    let rest = there_is_a_rest bytes in
    let is : bytes ≡ text_of kept ++ (text_of left ++ rest.0) =
    sym (whole_text bytes rest.0 rest.1) ∙ ap (λ ls. text_of ls ++ rest.0) lines ∙ ap (λ t. t ++ rest.0) (text_of-append kept left)
    ∙ append_assoc (text_of kept) (text_of left) rest.0 in
    let all : AreLines kept = front_are_lines kept left (subst (λ ls. AreLines ls) lines (lines_are_lines bytes)) in
    record {
      more = text_of left ++ rest.0;
      is = is;
      front = ap ended_lines (sym (append-nil (text_of kept))) ∙ lines_then kept [] all ∙ append-nil kept;
      lines = append_cancel_left kept (ended_lines (text_of left ++ rest.0)) left
          (sym (lines_then kept (text_of left ++ rest.0) all) ∙ ap ended_lines (sym is) ∙ lines);
    }

-- ---- a front of a text

on_head : ℕ → List (List ℕ) → List (List ℕ)
on_head x [] = []
on_head x (p ∷ ps) = (x ∷ p) ∷ ps

head_more : (x : ℕ) (ps : List (List ℕ)) → 0 < length ps → but_last (onto_first x ps) ≡ on_head x (but_last ps)
unfolding on_head
head_more x [] some = let none : 0 < 0 = some in absurd (omega (arith, none))
head_more x (p ∷ []) some = refl
head_more x (p ∷ q ∷ ps) some = refl

has_piece : (xs : List ℕ) → 0 < length (pieces xs)
has_piece xs = let n = length-slice_split is_line_feed xs in omega (arith, n)

abbrev lines_by : Bool → ℕ → List ℕ → List (List ℕ)
lines_by true x xs = [] ∷ ended_lines xs
lines_by false x xs = on_head x (ended_lines xs)

by_byte : (b : Bool) (x : ℕ) (xs : List ℕ) → but_last (cond b ([] ∷ pieces xs) (onto_first x (pieces xs))) ≡ lines_by b x xs
by_byte true x xs = (some_piece (pieces xs) (has_piece xs) []).0
by_byte false x xs = head_more x (pieces xs) (has_piece xs)

take_on_head : (x k : ℕ) (ls : List (List ℕ)) → on_head x (take k ls) ≡ take k (on_head x ls)
unfolding on_head
take_on_head x zero ls = refl
take_on_head x (suc k) [] = refl
take_on_head x (suc k) (l ∷ ls) = refl

abbrev HasFront : List (List ℕ) → List (List ℕ) → Type 0
HasFront some all = (k : ℕ) × (some ≡ take k all)

more_by : (b : Bool) (x : ℕ) (front xs : List ℕ) → HasFront (ended_lines front) (ended_lines xs) → HasFront (lines_by b x front) (lines_by b x xs)
more_by true x front xs (k, is) = (suc k, ap (λ ls. [] ∷ ls) is)
more_by false x front xs (k, is) = (k, ap (on_head x) is ∙ take_on_head x k (ended_lines xs))

-- THE LINES OF A FRONT are the first of the lines
pub front_lines : (m : ℕ) (xs : List ℕ) → HasFront (ended_lines (take m xs)) (ended_lines xs)
front_lines zero xs = (0, refl)
front_lines (suc m) [] = (0, refl)
front_lines (suc m) (x ∷ xs) =
    let more = more_by (is_line_feed x) x (take m xs) xs (front_lines m xs) in
    (more.0, by_byte (is_line_feed x) x (take m xs) ∙ more.1 ∙ ap (take more.0) (sym (by_byte (is_line_feed x) x xs)))

pub past_front : (n : ℕ) (front more : List ℕ) → length front ≤ n → take n (front ++ more) ≡ front ++ take (n - length front) more
past_front n front more enough =
    let same : n ≡ length front + (n - length front) = omega (arith, enough) in
    ap (λ k. take k (front ++ more)) same ∙ take-append-add front more (n - length front)

-- ---- an end of a text

abbrev pub HasEnd : List (List ℕ) → List (List ℕ) → Type 0
HasEnd ps all = (kept : List (List ℕ)) × (h : List ℕ) × (all ≡ kept ++ h ∷ ps)

end_more : (b : Bool) (x : ℕ) (ps all : List (List ℕ)) → HasEnd ps all → HasEnd ps (cond b ([] ∷ all) (onto_first x all))
end_more true x ps all (kept, h, is) = ([] ∷ kept, h, ap (λ qs. [] ∷ qs) is)
end_more false x ps all ([], h, is) = ([], x ∷ h, ap (onto_first x) is)
end_more false x ps all (k ∷ kept, h, is) = ((x ∷ k) ∷ kept, h, ap (onto_first x) is)

-- the pieces of an end are the last ones, but for the first of them
pub end_pieces : (front tail p : List ℕ) (ps : List (List ℕ)) → pieces tail ≡ p ∷ ps → HasEnd ps (pieces (front ++ tail))
end_pieces [] tail p ps is = ([], p, is)
end_pieces (x ∷ front) tail p ps is = end_more (is_line_feed x) x ps (pieces (front ++ tail)) (end_pieces front tail p ps is)

pub last_apart : (kept : List (List ℕ)) (h q : List ℕ) (qs : List (List ℕ)) → but_last (kept ++ h ∷ q ∷ qs) ≡ kept ++ h ∷ but_last (q ∷ qs)
last_apart [] h q qs = refl
last_apart (k ∷ []) h q qs = refl
last_apart (k ∷ l ∷ kept) h q qs = ap (λ ls. k ∷ ls) (last_apart (l ∷ kept) h q qs)

pub last_same : (kept : List (List ℕ)) (h q : List ℕ) (qs : List (List ℕ)) → last_of (kept ++ h ∷ q ∷ qs) ≡ last_of (q ∷ qs)
last_same [] h q qs = refl
last_same (k ∷ []) h q qs = refl
last_same (k ∷ l ∷ kept) h q qs = last_same (l ∷ kept) h q qs
