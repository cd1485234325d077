-- A first line that can be written is read from its text, and a new journal opens at its place.
use Rattle.std.proofs.Common.{◌≡◌, ◌∙◌, ◌^◌, ℕ, Bool, true, cond, List, [], None, Some, refl, ap, sym, arith, append-nil, nat_lt, option_and_then, eq-eqb, bytes_eq}
use Rattle.std.proofs.lemmas.Slice.Eq.{bytes_eq-Decides}
use Rattle.clr_journal.proofs.Pieces.{line_first}
use Rattle.clr_journal.specs.Lines.{with_feed}
use Rattle.clr_text.proofs.PlainTexts.{members_of, object_plain, plain_values_read_back}
use Rattle.clr_text.specs.Reading.{value_of}
use Rattle.clr_chain.proofs.Cutting.{found_there}
use Rattle.clr_chain.proofs.Firsts.{first_whole}
use Rattle.clr_chain.proofs.LinksBack.{firsts_line}
use Rattle.clr_chain.proofs.NotMissed.{from_first}
use Rattle.clr_chain.specs.Chain.{all_but_first, links_of, read_on}
use Rattle.clr_chain.specs.Finding.{Found, ahead, first_of, found_by, sought}
use Rattle.clr_chain.specs.First.{end_at, first_data, first_data_by, first_text, first_text_by, if_own_place, place_in, read_first, rules}
use Rattle.clr_chain.specs.Laws.{FirstsReadBack, NewJournalsOpen}
use Rattle.clr_chain.specs.Near.{stopped}
use Rattle.clr_chain.specs.Opening.{CanBegin, new_text}
use Rattle.clr_rules.specs.declared.place.Place.{Place}

-- the value of a first line that names the rules of this number
pub first_value : (number : ℕ) (first : Place) → CanBegin first → nat_lt number (2 ^ 64) ≡ true → value_of (first_text_by number first) ≡ Some (first_data_by number first)
unfolding first_text_by
first_value number first can small =
    plain_values_read_back (first_data_by number first) (object_plain (members_of (first_data_by number first)) refl (can.id, (can.number, (small, (can.sum, tt))))) (omega arith)

pub same_bytes : (text : List ℕ) → bytes_eq text text ≡ true
same_bytes text = (bytes_eq-Decides text text).1 refl

back_by : (first : Place) → option_and_then (if_own_place (first_text first)) (option_and_then place_in (Some (first_data first))) ≡ Some first
back_by first = ap (λ (b : Bool). cond b (Some first) None) (same_bytes (first_text first))

pub firsts_back : FirstsReadBack
unfolding read_first first_text
firsts_back first can =
    ap (λ d. option_and_then (if_own_place (first_text first)) (option_and_then place_in d)) (first_value rules first can refl)
    ∙ back_by first

first_there : (first : Place) → CanBegin first → first_of (new_text first) ≡ Some first
first_there first can =
    ap first_of (sym (append-nil (with_feed (first_text first))))
    ∙ first_whole (first_text first) [] (firsts_line first) can.short ∙ firsts_back first can

no_links : (first : Place) → links_of (new_text first) ≡ []
no_links first = ap all_but_first (line_first (first_text first) [] (firsts_line first)).0

alone : (first : Place) → found_by first first [] (sought first []) ≡ ahead (stopped (end_at first) [])
unfolding sought read_on
alone first = from_first first first [] (ahead (stopped (end_at first) [])) (eq-eqb first.number first.number refl) (same_bytes first.sum) refl

pub journals_open : NewJournalsOpen
journals_open first can =
    let by : (ls : List (List ℕ)) → Found = λ ls. found_by first first ls (sought first ls) in
    found_there first first (new_text first) (first_there first can) (same_bytes first.id) ∙ ap by (no_links first) ∙ alone first
