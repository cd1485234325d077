-- A first line by other rules says which, and a journal that begins with it is found so.
use Rattle.std.proofs.Common.{◌≡◌, ◌≢◌, ◌∙◌, ◌^◌, ◌-◌, ◌≤◌, ℕ, Bool, true, false, cond, List, ◌∷◌, [], ◌++◌, length, take, None, Some, codes, refl, ap, ap₂, sym, append_assoc, nat_lt, option_and_then, bytes_eq}
use Rattle.std.proofs.lemmas.Bool.{ne_eqb}
use Rattle.std.proofs.lemmas.Slice.Eq.{bytes_eq-Decides}
use Rattle.std.specs.List.{list_any}
use Rattle.clr_journal.proofs.Pieces.{line_first}
use Rattle.clr_journal.specs.Lines.{ended_lines, is_line_feed, with_feed}
use Rattle.clr_journal.specs.Line.{at_key}
use Rattle.clr_text.proofs.PlainTexts.{one_line}
use Rattle.clr_text.specs.Reading.{value_of}
use Rattle.clr_text.specs.Values.{whole}
use Rattle.clr_chain.proofs.Begun.{first_value, same_bytes}
use Rattle.clr_chain.proofs.Firsts.{first_whole}
use Rattle.clr_chain.proofs.Parts.{past_front}
use Rattle.clr_chain.specs.Chain.{links_of}
use Rattle.clr_chain.specs.Finding.{first_of, first_text_of, found_from, found_in, other_rules_of}
use Rattle.clr_chain.specs.First.{first_data_by, first_text, first_text_by, if_by, if_other, if_own_place, other_rules_in, place_in, read_first, rules}
use Rattle.clr_chain.specs.Laws.{OthersAreFound}
use Rattle.clr_chain.specs.Opening.{CanBegin}
use Rattle.clr_rules.specs.declared.place.Place.{Place}

-- ---- what its text says

number_in : (number : ℕ) (first : Place) → CanBegin first → nat_lt number (2 ^ 64) ≡ true
    → option_and_then (at_key whole (codes "rules")) (value_of (first_text_by number first)) ≡ Some number
number_in number first can small = ap (option_and_then (at_key whole (codes "rules"))) (first_value number first can small)

-- its text is not that of one by these rules
not_these : (number : ℕ) (first : Place) → CanBegin first → nat_lt number (2 ^ 64) ≡ true → number ≢ rules → bytes_eq (first_text_by number first) (first_text first) ≡ true → ⊥
unfolding first_text
not_these number first can small other h =
    let same : first_text_by number first ≡ first_text_by rules first = (bytes_eq-Decides (first_text_by number first) (first_text_by rules first)).0 h in
    let numbers : Some number ≡ Some rules =
    sym (number_in number first can small) ∙ ap (λ t. option_and_then (at_key whole (codes "rules")) (value_of t)) same ∙ number_in rules first can refl in
    let is : number ≡ rules = cc numbers in other is

not_read : (number : ℕ) (first : Place) → CanBegin first → nat_lt number (2 ^ 64) ≡ true → number ≢ rules → read_first (first_text_by number first) ≡ None
unfolding read_first
not_read number first can small other =
    let text : List ℕ = first_text_by number first in
    ap (λ d. option_and_then (if_own_place text) (option_and_then place_in d)) (first_value number first can small)
    ∙ by_own (bytes_eq text (first_text first)) refl
  where
    by_own : (b : Bool) → bytes_eq (first_text_by number first) (first_text first) ≡ b → cond b (Some first) None ≡ None
    by_own true e = absurd (not_these number first can small other e)
    by_own false e = refl

others_back : (number : ℕ) (first : Place) → CanBegin first → nat_lt number (2 ^ 64) ≡ true → number ≢ rules → other_rules_in (first_text_by number first) ≡ Some number
unfolding other_rules_in
others_back number first can small other =
    let text : List ℕ = first_text_by number first in
    ap (option_and_then (λ d. option_and_then (if_other text d) (at_key whole (codes "rules") d))) (first_value number first can small)
    ∙ ap (λ (b : Bool). cond b None (option_and_then (if_by text number) (Some first))) (ne_eqb number rules other)
    ∙ ap (λ (b : Bool). cond b (Some number) None) (same_bytes text)

-- ---- what is found

other_line : (number : ℕ) (first : Place) → list_any is_line_feed (first_text_by number first) ≡ false
unfolding first_text_by
other_line number first = one_line (first_data_by number first)

text_whole : (text more : List ℕ) → list_any is_line_feed text ≡ false → length (with_feed text) ≤ 4096 → first_text_of (ended_lines (take 4096 (with_feed text ++ more))) ≡ Some text
text_whole text more none short =
    let rest : List ℕ = take (4096 - length (with_feed text)) more in
    ap (λ front. first_text_of (ended_lines front)) (past_front 4096 (with_feed text) more short ∙ append_assoc text (10 ∷ []) rest)
    ∙ ap first_text_of (line_first text rest none).0

pub others_found : OthersAreFound
unfolding found_in
others_found number place first more can small other short =
    let text : List ℕ = first_text_by number first in
    let bytes : List ℕ = with_feed text ++ more in
    let line = other_line number first in
    let named : other_rules_of bytes ≡ Some number = ap (option_and_then other_rules_in) (text_whole text more line short) ∙ others_back number first can small other in
    let none : first_of bytes ≡ None = first_whole text more line short ∙ not_read number first can small other in
    ap₂ (found_from place (links_of bytes)) named none
