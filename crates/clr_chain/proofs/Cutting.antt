-- What is left of a journal's lines ends them, so it is known what comes before it.
use Rattle.std.proofs.Common.{◌≡◌, ◌∙◌, ℕ, Bool, true, false, cond, List, [], ◌∷◌, ◌++◌, length, Option, None, Some, refl, ap, ap₂, sym, subst, arith, append_assoc, length-append}
use Rattle.std.specs.List.{list_any}
use Rattle.std.specs.Option.{option_map_or}
use Rattle.std.specs.Prelude.{bytes_eq, nat_lt, ◌==◌, ⊤}
use Rattle.clr_journal.proofs.Pieces.{whole_text}
use Rattle.clr_journal.specs.Lines.{ended_lines, ended_text, text_of, unfinished}
use Rattle.clr_journal.specs.Journals.{next_place, turn_after, withdraws}
use Rattle.clr_journal.specs.Line.{Entry, carried, read_line, withdrawn}
use Rattle.clr_chain.proofs.Parts.{text_of-append, there_is_a_rest}
use Rattle.clr_chain.specs.Chain.{ReadOn, all_but_first, links_of, onto, read_on}
use Rattle.clr_chain.specs.Finding.{Found, Sought, ahead, bad_line, differs, end_of, found_after, found_at_first, found_by, found_from, found_in, found_short, found_unread, first_of, met, or_earlier, other_register, other_rules, other_rules_of, passed, says_accepted, sought, sought_at, sought_below, sought_here, too_short, unmet}
use Rattle.clr_chain.specs.First.{end_at}
use Rattle.clr_chain.specs.Link.{end_after, is_own, next_link}
use Rattle.clr_chain.specs.Reading.{IsCut, IsFound, IsFoundWith, seen_unread}
use Rattle.clr_chain.specs.declared.chain_end.ChainEnd.{ChainEnd}
use Rattle.clr_chain.specs.declared.finding.Found.{Found as SeenFound}
use Rattle.clr_chain.specs.declared.finding.Found.TheVariants as seen
use Rattle.clr_rules.specs.declared.place.Place.{Place}

-- lines end with these
pub record EndsWith (texts left : List (List ℕ)) : Type 0 where
  pub kept : List (List ℕ)
  pub is : texts ≡ kept ++ left

pub all_left : (texts : List (List ℕ)) → EndsWith texts texts
all_left texts = record { kept = []; is = refl }

one_more : (text : List ℕ) (texts left : List (List ℕ)) → EndsWith texts left → EndsWith (text ∷ texts) left
one_more text texts left ends = record { kept = text ∷ ends.kept; is = ap (λ ts. text ∷ ts) ends.is }

pub both : (xs ys zs : List (List ℕ)) → EndsWith xs ys → EndsWith ys zs → EndsWith xs zs
both xs ys zs one two = record {
  kept = one.kept ++ two.kept;
  is = one.is ∙ ap (λ ts. one.kept ++ ts) two.is ∙ sym (append_assoc one.kept two.kept zs);
}

-- ---- what is read on

by_link : (end : ChainEnd) (text : List ℕ) (rest : List (List ℕ)) (found : Option Entry) → ((e : ChainEnd) → EndsWith rest (read_on e rest).left)
    → EndsWith (text ∷ rest) (option_map_or (λ entry. onto entry (read_on (end_after end entry) rest)) found (record { entries = []; end = end; left = text ∷ rest })).left
by_link end text rest None more = all_left (text ∷ rest)
by_link end text rest (Some entry) more = one_more text rest _ (more (end_after end entry))

pub read_on-ends : (texts : List (List ℕ)) (end : ChainEnd) → EndsWith texts (read_on end texts).left
unfolding read_on
read_on-ends [] end = all_left []
read_on-ends (text ∷ rest) end = by_link end text rest (next_link end text) (read_on-ends rest)

-- ---- what is sought

abbrev SoughtEnds : List (List ℕ) → Sought → Type 0
SoughtEnds texts (met is_own turn after) = EndsWith texts after
SoughtEnds texts (passed number after) = EndsWith texts after
SoughtEnds texts unmet = ⊤

either_sought : (texts : List (List ℕ)) (b : Bool) (s t : Sought) → SoughtEnds texts s → SoughtEnds texts t → SoughtEnds texts (cond b s t)
either_sought texts true s t one two = one
either_sought texts false s t one two = two

below_ends : (place : Place) (number : ℕ) (text : List ℕ) (rest : List (List ℕ)) → SoughtEnds (text ∷ rest) (sought_below place number rest)
below_ends place number text rest =
    either_sought (text ∷ rest) (nat_lt number place.number) (passed number rest) unmet (one_more text rest rest (all_left rest)) tt

here_ends : (b : Bool) (entry : Entry) (text : List ℕ) (rest : List (List ℕ)) → SoughtEnds (text ∷ rest) (sought_here b entry rest)
here_ends true entry text rest = one_more text rest rest (all_left rest)
here_ends false (carried receipt q reply) text rest = one_more text rest rest (all_left rest)
here_ends false (withdrawn n) text rest = tt

at_ends : (place : Place) (text : List ℕ) (rest : List (List ℕ)) (found : Option Entry) → SoughtEnds (text ∷ rest) (sought_at place text rest found)
at_ends place text rest None = tt
at_ends place text rest (Some entry) =
    either_sought (text ∷ rest) ((turn_after entry).last == place.number)
    (sought_here (is_own entry place.sum text) entry rest) (sought_below place (turn_after entry).last rest)
    (here_ends (is_own entry place.sum text) entry text rest) (below_ends place (turn_after entry).last text rest)

later_ends : (text : List ℕ) (rest : List (List ℕ)) (later here : Sought) → SoughtEnds rest later → SoughtEnds (text ∷ rest) here → SoughtEnds (text ∷ rest) (or_earlier later here)
later_ends text rest (met is_own turn after) here more one = one_more text rest after more
later_ends text rest (passed number after) here more one = one_more text rest after more
later_ends text rest unmet here more one = one

pub sought-ends : (place : Place) (texts : List (List ℕ)) → SoughtEnds texts (sought place texts)
unfolding sought
sought-ends place [] = tt
sought-ends place (text ∷ rest) =
    later_ends text rest (sought place rest) (sought_at place text rest (read_line text)) (sought-ends place rest) (at_ends place text rest (read_line text))

-- ---- what is found

abbrev pub AheadEnds : List (List ℕ) → Found → Type 0
AheadEnds texts (other_rules number) = ⊤
AheadEnds texts other_register = ⊤
AheadEnds texts too_short = ⊤
AheadEnds texts (differs number) = ⊤
AheadEnds texts (bad_line number) = ⊤
AheadEnds texts (ahead read) = EndsWith texts read.left

either_found : (texts : List (List ℕ)) (b : Bool) (f g : Found) → AheadEnds texts f → AheadEnds texts g → AheadEnds texts (cond b f g)
either_found texts true f g one two = one
either_found texts false f g one two = two

after_ends : (texts : List (List ℕ)) (number : ℕ) (read : ReadOn) → EndsWith texts read.left → AheadEnds texts (found_after number read)
after_ends texts number read ends =
    either_found texts (withdraws read.entries) (differs number) _ tt
    (either_found texts (list_any says_accepted read.left) (bad_line (next_place read.end.turn.last)) (ahead read) tt ends)

short_ends : (texts : List (List ℕ)) (number : ℕ) (after : List (List ℕ)) → AheadEnds texts (found_short number after)
short_ends texts number after = either_found texts (list_any says_accepted after) (bad_line (next_place number)) too_short tt tt

first_ends : (place first : Place) (links : List (List ℕ)) → AheadEnds links (found_at_first place first links)
first_ends place first links =
    either_found links (first.number == place.number) _ _
    (either_found links (bytes_eq first.sum place.sum) (found_after place.number (read_on (end_at place) links)) (differs place.number)
    (after_ends links place.number (read_on (end_at place) links) (read_on-ends links (end_at place))) tt)
    (either_found links (nat_lt first.number place.number) (found_short first.number links) too_short (short_ends links first.number links) tt)

pub by_ends : (place first : Place) (links : List (List ℕ)) (s : Sought) → SoughtEnds links s → AheadEnds links (found_by place first links s)
by_ends place first links (met true turn after) ends =
    after_ends links place.number (read_on (end_of place turn) after) (both links after _ ends (read_on-ends after (end_of place turn)))
by_ends place first links (met false turn after) ends = tt
by_ends place first links (passed number after) ends = short_ends links number after
by_ends place first links unmet ends = first_ends place first links

-- ---- bytes

pub cut_at : (bytes after : List ℕ) → EndsWith (ended_lines bytes) (ended_lines after) → unfinished after ≡ unfinished bytes → IsCut bytes (ended_lines after) (length after)
cut_at bytes after ends alike =
    let rest = there_is_a_rest bytes in
    let all : length (ended_text bytes ++ rest.0) ≡ length bytes = ap length (whole_text bytes rest.0 rest.1) in
    let end : length (ended_text after ++ rest.0) ≡ length after = ap length (whole_text after rest.0 (alike ∙ rest.1)) in
    let split : length (ended_text bytes) ≡ length (text_of ends.kept ++ ended_text after) =
    ap length (ap text_of ends.is ∙ text_of-append ends.kept (ended_lines after)) in
    let a = length-append (ended_text bytes) rest.0 in
    let b = length-append (ended_text after) rest.0 in
    let c = length-append (text_of ends.kept) (ended_text after) in
    record { kept = ends.kept; lines = ends.is; count = omega (arith, all, end, split, a, b, c) }

pub links_end : (texts : List (List ℕ)) → EndsWith texts (all_but_first texts)
links_end [] = all_left []
links_end (text ∷ rest) = one_more text rest rest (all_left rest)

-- what is found by these lines and this end is what is found in these bytes
pub found_whole : (place first : Place) (bytes : List ℕ) (found : SeenFound) → found_in place bytes ≡ found_by place first (links_of bytes) (sought place (links_of bytes))
    → IsFoundWith (unfinished bytes) found (found_by place first (links_of bytes) (sought place (links_of bytes))) → IsFound bytes found (found_in place bytes)
found_whole place first bytes (seen.OtherRules number) is h = is ∙ h
found_whole place first bytes seen.OtherRegister is h = is ∙ h
found_whole place first bytes seen.TooShort is h = is ∙ h
found_whole place first bytes (seen.Differs number) is h = is ∙ h
found_whole place first bytes (seen.BadLine number) is h = is ∙ h
found_whole place first bytes (seen.Ahead lines) is (after, alike, size, h) =
    let ends = by_ends place first (links_of bytes) (sought place (links_of bytes)) (sought-ends place (links_of bytes)) in
    let left : EndsWith (links_of bytes) (ended_lines after) = subst (λ f. AheadEnds (links_of bytes) f) h ends in
    let cut = cut_at bytes after (both (ended_lines bytes) (links_of bytes) (ended_lines after) (links_end (ended_lines bytes)) left) alike in
    (ended_lines after, subst (λ n. IsCut bytes (ended_lines after) n) (sym size) cut, is ∙ h)

pub found_there : (place first : Place) (bytes : List ℕ) → first_of bytes ≡ Some first → bytes_eq first.id place.id ≡ true
    → found_in place bytes ≡ found_by place first (links_of bytes) (sought place (links_of bytes))
unfolding found_in
found_there place first bytes is same =
    ap (found_from place (links_of bytes) (other_rules_of bytes)) is
    ∙ ap (λ (b : Bool). cond b (found_by place first (links_of bytes) (sought place (links_of bytes))) other_register) same

-- where there is no first line by these rules
unread_found : (bytes : List ℕ) (other : Option ℕ) → IsFound bytes (seen_unread other) (found_unread other)
unread_found bytes None = refl
unread_found bytes (Some number) = refl

pub found_no_first : (place : Place) (bytes : List ℕ) (found : SeenFound) (other : Option ℕ) → first_of bytes ≡ None → other ≡ other_rules_of bytes → found ≡ seen_unread other
    → IsFound bytes found (found_in place bytes)
unfolding found_in
found_no_first place bytes found other none named is =
    let there : found_unread other ≡ found_in place bytes = ap found_unread named ∙ sym (ap (found_from place (links_of bytes) (other_rules_of bytes)) none) in
    subst (λ (f : SeenFound). IsFound bytes f (found_in place bytes)) (sym is) (subst (λ (f : Found). IsFound bytes (seen_unread other) f) there (unread_found bytes other))

-- what is found where there is one, by slices that the lines and the end are of
pub found_by_links : (place first : Place) (bytes links : List ℕ) (s : Sought) (found : SeenFound) → first_of bytes ≡ Some first → bytes_eq first.id place.id ≡ true
    → ended_lines links ≡ links_of bytes → unfinished links ≡ unfinished bytes → s ≡ sought place (ended_lines links)
    → IsFoundWith (unfinished links) found (found_by place first (ended_lines links) s) → IsFound bytes found (found_in place bytes)
found_by_links place first bytes links s found is same lines alike seen h =
    let here : found_by place first (ended_lines links) s ≡ found_by place first (links_of bytes) (sought place (links_of bytes)) =
    ap₂ (found_by place first) lines (seen ∙ ap (sought place) lines) in
    found_whole place first bytes found (found_there place first bytes is same)
    (subst (λ f. IsFoundWith (unfinished bytes) found f) here (subst (λ r. IsFoundWith r found (found_by place first (ended_lines links) s)) alike h))
