-- A journal's first line is found again where what comes after its lines is another.
use Rattle.std.proofs.Common.{◌≡◌, ◌∙◌, ◌+◌, ◌-◌, ◌<◌, ◌≤◌, ℕ, zero, suc, Bool, true, false, cond, List, [], ◌∷◌, ◌++◌, length, take, Option, None, Some, refl, ap, sym, subst, arith, inl, inr, append_assoc, length-append, option_and_then, bytes_eq}
use Rattle.std.proofs.lemmas.Bool.{cases_lt, or_parts}
use Rattle.std.proofs.lemmas.List.{take-append-le}
use Rattle.std.specs.List.{list_any}
use Rattle.clr_journal.proofs.Pieces.{line_first, no_line}
use Rattle.clr_journal.specs.Lines.{ended_lines, is_line_feed, text_of, with_feed}
use Rattle.clr_chain.proofs.Cutting.{AheadEnds, EndsWith, by_ends, found_there, sought-ends}
use Rattle.clr_chain.proofs.NotMissed.{front_says_nothing, same_found, with_left}
use Rattle.clr_chain.proofs.Parts.{AreLines, front_are_lines, front_lines, lines_are_lines, lines_then, parted, past_front}
use Rattle.clr_chain.specs.Chain.{ReadOn, all_but_first, links_of}
use Rattle.clr_chain.specs.Finding.{Found, ahead, first_of, first_text_of, found_by, found_from, found_in, found_unread, other_register, other_rules_of, sought}
use Rattle.clr_chain.specs.First.{read_first}
use Rattle.clr_chain.specs.Laws.{CutsAreNotMissed, FrontsAreFound}
use Rattle.clr_chain.specs.Near.{SayNothing}
use Rattle.clr_rules.specs.declared.place.Place.{Place}

-- ---- the first line of a text that begins with a line

abbrev first_by : List (List ℕ) → Option Place
first_by texts = option_and_then read_first (first_text_of texts)

none_in_front : (n : ℕ) (xs : List ℕ) → list_any is_line_feed xs ≡ false → list_any is_line_feed (take n xs) ≡ false
none_in_front zero xs h = refl
none_in_front (suc n) [] h = refl
none_in_front (suc n) (x ∷ xs) h =
    let parts = or_parts (is_line_feed x) (list_any is_line_feed xs) h in rw parts.0 (none_in_front n xs parts.1)

-- it is whole in the first bytes
pub first_whole : (text more : List ℕ) → list_any is_line_feed text ≡ false → length (with_feed text) ≤ 4096 → first_of (with_feed text ++ more) ≡ read_first text
first_whole text more none short =
    let rest : List ℕ = take (4096 - length (with_feed text)) more in
    ap (λ front. first_by (ended_lines front)) (past_front 4096 (with_feed text) more short ∙ append_assoc text (10 ∷ []) rest)
    ∙ ap first_by (line_first text rest none).0

-- or it is too long
first_long : (text more : List ℕ) → list_any is_line_feed text ≡ false → 4096 < length (with_feed text) → first_of (with_feed text ++ more) ≡ None
first_long text more none long =
    let size = length-append text (10 ∷ []) in
    let front : take 4096 (with_feed text ++ more) ≡ take 4096 text =
    take-append-le 4096 (with_feed text) more (omega (arith, long)) ∙ take-append-le 4096 text (10 ∷ []) (omega (arith, long, size)) in
    ap (λ bytes. first_by (ended_lines bytes)) front
    ∙ ap first_by (no_line (take 4096 text) (none_in_front 4096 text none)).0

first_short : (text more : List ℕ) (first : Place) → list_any is_line_feed text ≡ false → first_of (with_feed text ++ more) ≡ Some first → length (with_feed text) ≤ 4096
first_short text more first none is = elim (cases_lt 4096 (length (with_feed text))) [
  | inl long ↦ let no : None ≡ Some first = sym (first_long text more none long) ∙ is in cc no
  | inr short ↦ short
]

-- the same first line, whatever comes after it
first_same : (text more other : List ℕ) (first : Place) → list_any is_line_feed text ≡ false → first_of (with_feed text ++ more) ≡ Some first → first_of (with_feed text ++ other) ≡ Some first
first_same text more other first none is =
    let short = first_short text more first none is in
    first_whole text other none short ∙ sym (first_whole text more none short) ∙ is

take_none : (k : ℕ) → ◌≡◌ {A = List (List ℕ)} (take k []) []
take_none zero = refl
take_none (suc k) = refl

shorter : (texts : List (List ℕ)) → length texts ≤ length (all_but_first texts) → texts ≡ []
shorter [] h = refl
shorter (t ∷ texts) h = absurd (omega (arith, h))

-- a text with no line has no first one
no_first : (bytes : List ℕ) (first : Place) → ended_lines bytes ≡ [] → first_of bytes ≡ Some first → ⊥
no_first bytes first none is =
    let front = front_lines 4096 bytes in
    let no : None ≡ Some first = sym (ap first_by (front.1 ∙ ap (take front.0) none ∙ take_none front.0)) ∙ is in cc no

-- ---- what is found ahead

pub record IsAhead (place : Place) (bytes : List ℕ) (read : ReadOn) : Type 0 where
  pub first : Place
  pub is : first_of bytes ≡ Some first
  pub same : bytes_eq first.id place.id ≡ true
  pub found : found_by place first (links_of bytes) (sought place (links_of bytes)) ≡ ahead read

unread : (other : Option ℕ) (read : ReadOn) → found_unread other ≡ ahead read → ⊥
unread None read h = cc h
unread (Some number) read h = cc h

ahead_by : (place : Place) (bytes : List ℕ) (read : ReadOn) (o : Option Place) → first_of bytes ≡ o → found_from place (links_of bytes) (other_rules_of bytes) o ≡ ahead read
    → IsAhead place bytes read
ahead_by place bytes read None e h = absurd (unread (other_rules_of bytes) read h)
ahead_by place bytes read (Some first) e h = by_id (bytes_eq first.id place.id) refl h
  where
    by_id : (b : Bool) → bytes_eq first.id place.id ≡ b → cond b (found_by place first (links_of bytes) (sought place (links_of bytes))) other_register ≡ ahead read → IsAhead place bytes read
    by_id true i k = record { first = first; is = e; same = i; found = k }
    by_id false i k = cc k

pub is_ahead : (place : Place) (bytes : List ℕ) (read : ReadOn) → found_in place bytes ≡ ahead read → IsAhead place bytes read
unfolding found_in
is_ahead place bytes read h = ahead_by place bytes read (first_of bytes) refl h

ends_ahead : (place : Place) (bytes : List ℕ) (read : ReadOn) → (found : IsAhead place bytes read) → EndsWith (links_of bytes) read.left
ends_ahead place bytes read found =
    subst (λ f. AheadEnds (links_of bytes) f) found.found (by_ends place found.first (links_of bytes) (sought place (links_of bytes)) (sought-ends place (links_of bytes)))

-- what comes after these lines is another text, whose lines say nothing
by_kept : (place : Place) (bytes more other : List ℕ) (kept left : List (List ℕ)) (read : ReadOn) → IsAhead place bytes read → ended_lines bytes ≡ kept ++ left → read.left ≡ left
    → bytes ≡ text_of kept ++ more → AreLines kept → SayNothing place read.end (ended_lines other)
    → found_in place (text_of kept ++ other) ≡ ahead (with_left (ended_lines other) read)
by_kept place bytes more other [] left read found lines same is all nothing =
    let ends = ends_ahead place bytes read found in
    let n = length-append ends.kept read.left in
    let size : length (links_of bytes) ≡ length (ends.kept ++ read.left) = ap length ends.is in
    let whole : length (ended_lines bytes) ≡ length read.left = ap length (lines ∙ sym same) in
    absurd (no_first bytes found.first (shorter (ended_lines bytes) (omega (arith, n, size, whole))) found.is)
by_kept place bytes more other (text ∷ kept) left read found lines same is all nothing =
    let tail : List ℕ = text_of kept ++ more in
    let was : bytes ≡ with_feed text ++ tail = is ∙ append_assoc (with_feed text) (text_of kept) more in
    let first : first_of (text_of (text ∷ kept) ++ other) ≡ Some found.first =
    ap first_of (append_assoc (with_feed text) (text_of kept) other)
    ∙ first_same text tail (text_of kept ++ other) found.first all.0 (ap first_of (sym was) ∙ found.is) in
    let links : links_of bytes ≡ kept ++ left = ap all_but_first lines in
    let links' : links_of (text_of (text ∷ kept) ++ other) ≡ kept ++ ended_lines other = ap all_but_first (lines_then (text ∷ kept) other all) in
    let by : (ls : List (List ℕ)) → Found = λ ls. found_by place found.first ls (sought place ls) in
    found_there place found.first (text_of (text ∷ kept) ++ other) first found.same
    ∙ ap by links'
    ∙ same_found place found.first left (ended_lines other) kept read (ap by (sym links) ∙ found.found) same nothing

says : (place : Place) (bytes : List ℕ) (read : ReadOn) → IsAhead place bytes read → (k : ℕ) → SayNothing place read.end (take k read.left)
says place bytes read found k =
    let ends = ends_ahead place bytes read found in
    let by : (ls : List (List ℕ)) → Found = λ ls. found_by place found.first ls (sought place ls) in
    front_says_nothing place found.first read.left ends.kept read k (ap by (sym ends.is) ∙ found.found) refl

pub found_again : (place : Place) (bytes other : List ℕ) (kept : List (List ℕ)) (read : ReadOn) → found_in place bytes ≡ ahead read → ended_lines bytes ≡ kept ++ read.left
    → SayNothing place read.end (ended_lines other) → found_in place (text_of kept ++ other) ≡ ahead (with_left (ended_lines other) read)
found_again place bytes other kept read h lines nothing =
    let parts = parted bytes kept read.left lines in
    by_kept place bytes parts.more other kept read.left read (is_ahead place bytes read h) lines refl parts.is
    (front_are_lines kept read.left (subst (λ ls. AreLines ls) lines (lines_are_lines bytes))) nothing

pub cuts_are_not_missed : CutsAreNotMissed
cuts_are_not_missed place bytes other kept read h lines nothing = found_again place bytes other kept read h lines nothing

pub fronts_are_found : FrontsAreFound
fronts_are_found place bytes kept read n h lines enough =
    let parts = parted bytes kept read.left lines in
    let more : List ℕ = take (n - length (text_of kept)) parts.more in
    let front = front_lines (n - length (text_of kept)) parts.more in
    let there : ended_lines more ≡ take front.0 read.left = front.1 ∙ ap (take front.0) parts.lines in
    let found = is_ahead place bytes read h in
    let nothing : SayNothing place read.end (take front.0 read.left) = says place bytes read found front.0 in (
      front.0,
      ap (found_in place) (ap (take n) parts.is ∙ past_front n (text_of kept) parts.more enough)
          ∙ found_again place bytes more kept read h lines (subst (λ ls. SayNothing place read.end ls) (sym there) nothing)
          ∙ ap (λ ls. ahead (with_left ls read)) there,
    )
