-- A front of a journal reads as its first lines.
use Rattle.std.proofs.Common.{◌≡◌, ◌∙◌, ◌+◌, ◌-◌, ◌<◌, ◌≤◌, ◌++◌, ℕ, zero, suc, true, false, List, [], ◌∷◌, length, take, Ok, Some, ok_or, refl, ap, inl, inr, arith, append_assoc, length-append}
use Rattle.std.proofs.Math.Seq.{take-append-add}
use Rattle.std.proofs.lemmas.Bool.{and_parts, cases_lt, or_parts}
use Rattle.std.proofs.lemmas.List.{take-append-le}
use Rattle.std.specs.List.{list_any}
use Rattle.clr_journal.proofs.Pieces.{line_first, no_line}
use Rattle.clr_journal.specs.Lines.{ended_lines, is_line_feed}
use Rattle.clr_net.specs.Results.{◌>>=◌}
use Rattle.clr_journal.proofs.JournalsRead.{is_the_next, lines_are_one_line, taken_by}
use Rattle.clr_journal.specs.Journals.{bad_line, first_turn, in_turn, is_next, journal_text, lines_read, next_place, turn_after}
use Rattle.clr_journal.specs.Laws.{FrontsRead, ReadBack}
use Rattle.clr_journal.specs.Line.{Entry, line_text, read_line}
use Rattle.clr_journal.specs.declared.reading.Turn.{Turn}

none_in_front : (n : ℕ) (xs : List ℕ) → list_any is_line_feed xs ≡ false → list_any is_line_feed (take n xs) ≡ false
none_in_front zero xs h = refl
none_in_front (suc n) [] h = refl
none_in_front (suc n) (x ∷ xs) h =
    let parts = or_parts (is_line_feed x) (list_any is_line_feed xs) h in rw parts.0 (none_in_front n xs parts.1)

abbrev with_feed : Entry → List ℕ
with_feed entry = line_text entry ++ 10 ∷ []

-- the first line is whole
whole_line : (place : ℕ) (turn : Turn) (entry : Entry) (rest : List ℕ) (more : List Entry) → read_line (line_text entry) ≡ Some entry → is_next turn entry ≡ true
    → lines_read (next_place place) (turn_after entry) (ended_lines rest) ≡ Ok more
    → lines_read place turn (ended_lines (with_feed entry ++ rest)) ≡ Ok (entry ∷ more)
whole_line place turn entry rest more reads next read =
    ap (λ text. lines_read place turn (ended_lines text)) (append_assoc (line_text entry) (10 ∷ []) rest)
    ∙ ap (lines_read place turn) (line_first (line_text entry) rest (lines_are_one_line entry)).0
    ∙ taken_by place turn (line_text entry) (ended_lines rest) entry (ap (λ found. ok_or found (bad_line place)) (is_the_next turn entry reads next))
    ∙ ap (λ found. found >>= λ all. Ok (entry ∷ all)) read

-- the first line is not whole
part_of_line : (place : ℕ) (turn : Turn) (entry : Entry) (rest : List ℕ) (n : ℕ) → n < length (with_feed entry)
    → lines_read place turn (ended_lines (take n (with_feed entry ++ rest))) ≡ Ok []
unfolding lines_read
part_of_line place turn entry rest n short =
    let size = length-append (line_text entry) (10 ∷ []) in
    let front : take n (with_feed entry ++ rest) ≡ take n (line_text entry) =
    take-append-le n (with_feed entry) rest (omega (arith, short)) ∙ take-append-le n (line_text entry) (10 ∷ []) (omega (arith, short, size)) in
    ap (λ text. lines_read place turn (ended_lines text)) front
    ∙ ap (lines_read place turn) (no_line (take n (line_text entry)) (none_in_front n (line_text entry) (lines_are_one_line entry))).0

past_line : (n : ℕ) (line rest : List ℕ) → length line ≤ n → take n (line ++ rest) ≡ line ++ take (n - length line) rest
past_line n line rest enough =
    let same : n ≡ length line + (n - length line) = omega (arith, enough) in
    ap (λ k. take k (line ++ rest)) same ∙ take-append-add line rest (n - length line)

abbrev ReadsFront : ℕ → Turn → List ℕ → List Entry → List Entry → Type 0
ReadsFront place turn text kept more = (k : ℕ) × (lines_read place turn (ended_lines text) ≡ Ok (kept ++ take k more))

front_from : (place : ℕ) (turn : Turn) (more : List Entry) (n : ℕ) → ReadBack more → in_turn turn more ≡ true → ReadsFront place turn (take n (journal_text more)) [] more
unfolding lines_read in_turn
front_from place turn [] zero back turns = (0, refl)
front_from place turn [] (suc n) back turns = (0, refl)
front_from place turn (entry ∷ rest) n back turns =
    let both = and_parts (is_next turn entry) (in_turn (turn_after entry) rest) turns in
    elim (cases_lt n (length (with_feed entry))) [
      | inl short ↦ (0, part_of_line place turn entry (journal_text rest) n short)
      | inr long ↦ let more = front_from (next_place place) (turn_after entry) rest (n - length (with_feed entry)) back.1 both.1 in (
        suc more.0,
        ap (λ text. lines_read place turn (ended_lines text)) (past_line n (with_feed entry) (journal_text rest) (omega (arith, long)))
            ∙ whole_line place turn entry (take (n - length (with_feed entry)) (journal_text rest)) (take more.0 rest) back.0 both.0 more.1,
      )
    ]

kept_from : (place : ℕ) (turn : Turn) (kept more : List Entry) (n : ℕ) → ReadBack (kept ++ more) → in_turn turn (kept ++ more) ≡ true → length (journal_text kept) ≤ n
    → ReadsFront place turn (take n (journal_text (kept ++ more))) kept more
unfolding in_turn
kept_from place turn [] more n back turns enough = front_from place turn more n back turns
kept_from place turn (entry ∷ rest) more n back turns enough =
    let both = and_parts (is_next turn entry) (in_turn (turn_after entry) (rest ++ more)) turns in
    let size = length-append (with_feed entry) (journal_text rest) in
    let after = kept_from (next_place place) (turn_after entry) rest more (n - length (with_feed entry)) back.1 both.1 (omega (arith, size, enough)) in (
      after.0,
      ap (λ text. lines_read place turn (ended_lines text)) (past_line n (with_feed entry) (journal_text (rest ++ more)) (omega (arith, size, enough)))
          ∙ whole_line place turn entry (take (n - length (with_feed entry)) (journal_text (rest ++ more))) (rest ++ take after.0 more) back.0 both.0 after.1,
    )

pub fronts_read : FrontsRead
fronts_read kept more n back turns enough = kept_from 1 first_turn kept more n back turns enough
