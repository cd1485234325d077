-- Journals read back; and what a line more makes of one.
use Rattle.std.proofs.Common.{◌≡◌, ◌∙◌, ◌&&◌, ◌++◌, ℕ, Bool, true, false, not, cond, List, [], ◌∷◌, Option, None, Some, Ok, ok_or, refl, ap, sym, append_assoc, append-nil, option_and_then}
use Rattle.std.proofs.lemmas.Bool.{and_from, and_parts}
use Rattle.std.specs.List.{list_any}
use Rattle.serde_json.specs.Data.{Data}
use Rattle.clr_journal.proofs.Pieces.{line_first, no_line}
use Rattle.clr_journal.specs.Lines.{ended_lines, is_line_feed}
use Rattle.clr_net.specs.Results.{◌>>=◌}
use Rattle.clr_changes.specs.Deeds.{Deed}
use Rattle.clr_text.proofs.PlainTexts.{one_line}
use Rattle.clr_journal.specs.Journals.{bad_line, carried_out, first_turn, if_next, in_turn, is_next, journal_text, lines_read, next_line, next_place, onto_some, own_pair, turn_after, withdraws}
use Rattle.clr_journal.specs.Laws.{DeedsGrow, JournalsReadBack, LinesAreOneLine, LinesGrow, ReadBack, WithdrawnIsLeftOut, turn_behind}
use Rattle.clr_journal.specs.Line.{Entry, carried, withdrawn, entry_data, is_accepted, line_text, read_line}
use Rattle.clr_journal.specs.declared.reading.Turn.{Turn}

pub lines_are_one_line : LinesAreOneLine
lines_are_one_line entry = one_line (entry_data entry)

-- ---- reading

pub taken_by : (place : ℕ) (turn : Turn) (text : List ℕ) (texts : List (List ℕ)) (entry : Entry) → ok_or (next_line turn text) (bad_line place) ≡ Ok entry
    → lines_read place turn (text ∷ texts) ≡ (lines_read (next_place place) (turn_after entry) texts >>= λ rest. Ok (entry ∷ rest))
unfolding lines_read
taken_by place turn text texts entry is =
    ap (λ found. found >>= λ one. lines_read (next_place place) (turn_after one) texts >>= λ rest. Ok (one ∷ rest)) is

pub is_the_next : (turn : Turn) (entry : Entry) → read_line (line_text entry) ≡ Some entry → is_next turn entry ≡ true → next_line turn (line_text entry) ≡ Some entry
is_the_next turn entry reads next = ap (option_and_then (if_next turn)) reads ∙ ap (λ (b : Bool). cond b (Some entry) None) next

first_of : (entry : Entry) (rest : List Entry) (unfinished : List ℕ)
    → ended_lines (journal_text (entry ∷ rest) ++ unfinished) ≡ line_text entry ∷ ended_lines (journal_text rest ++ unfinished)
first_of entry rest unfinished =
    ap ended_lines (append_assoc (line_text entry ++ 10 ∷ []) (journal_text rest) unfinished ∙ append_assoc (line_text entry) (10 ∷ []) (journal_text rest ++ unfinished))
    ∙ (line_first (line_text entry) (journal_text rest ++ unfinished) (lines_are_one_line entry)).0

read_from : (place : ℕ) (turn : Turn) (entries : List Entry) (unfinished : List ℕ) → ReadBack entries → in_turn turn entries ≡ true → list_any is_line_feed unfinished ≡ false
    → lines_read place turn (ended_lines (journal_text entries ++ unfinished)) ≡ Ok entries
unfolding lines_read in_turn
read_from place turn [] unfinished back turns none = ap (lines_read place turn) (no_line unfinished none).0
read_from place turn (entry ∷ rest) unfinished back turns none =
    let both = and_parts (is_next turn entry) (in_turn (turn_after entry) rest) turns in
    ap (lines_read place turn) (first_of entry rest unfinished)
    ∙ taken_by place turn (line_text entry) _ entry (ap (λ found. ok_or found (bad_line place)) (is_the_next turn entry back.0 both.0))
    ∙ ap (λ read. read >>= λ more. Ok (entry ∷ more)) (read_from (next_place place) (turn_after entry) rest unfinished back.1 both.1 none)

pub journals_read_back : JournalsReadBack
journals_read_back entries unfinished back turns none = read_from 1 first_turn entries unfinished back turns none

-- ---- a line more

grown_turn : (turn : Turn) (entries : List Entry) (entry : Entry) → in_turn turn entries ≡ true → is_next (turn_behind turn entries) entry ≡ true
    → in_turn turn (entries ++ entry ∷ []) ≡ true
unfolding in_turn
grown_turn turn [] entry turns next = and_from _ _ next refl
grown_turn turn (one ∷ rest) entry turns next =
    let both = and_parts (is_next turn one) (in_turn (turn_after one) rest) turns in
    and_from _ _ both.0 (grown_turn (turn_after one) rest entry both.1 next)

grown_text : (entries : List Entry) (entry : Entry) → journal_text (entries ++ entry ∷ []) ≡ journal_text entries ++ (line_text entry ++ 10 ∷ [])
grown_text [] entry = append-nil (line_text entry ++ 10 ∷ [])
grown_text (one ∷ rest) entry =
    ap (λ t. (line_text one ++ 10 ∷ []) ++ t) (grown_text rest entry)
    ∙ sym (append_assoc (line_text one ++ 10 ∷ []) (journal_text rest) (line_text entry ++ 10 ∷ []))

pub lines_grow : LinesGrow
lines_grow turn entries entry turns next = (grown_turn turn entries entry turns next, grown_text entries entry)

-- ---- a deed more

onto_pairs : (o : Option (Deed × Data)) (rest more : List (Deed × Data)) → onto_some o (rest ++ more) ≡ onto_some o rest ++ more
onto_pairs None rest more = refl
onto_pairs (Some pair) rest more = refl

-- what comes after other lines than none decides nothing of what those before them are withdrawn by
same_withdraws : (rest : List Entry) (entry : Entry) (more : List Entry) → withdraws (entry ∷ []) ≡ false → withdraws (rest ++ entry ∷ more) ≡ withdraws rest
same_withdraws [] (carried receipt q reply) more h = refl
same_withdraws [] (withdrawn n) more h = cc
same_withdraws (carried receipt q reply ∷ rest) entry more h = refl
same_withdraws (withdrawn n ∷ rest) entry more h = refl

own_same : (one : Entry) (rest : List Entry) (entry : Entry) (more : List Entry) → withdraws (entry ∷ []) ≡ false → own_pair one (rest ++ entry ∷ more) ≡ own_pair one rest
own_same (withdrawn n) rest entry more h = refl
own_same (carried receipt q reply) rest entry more h =
    ap (λ (b : Bool). cond (is_accepted reply && not b) (Some (q, reply)) None) (same_withdraws rest entry more h)

-- lines that begin with a deed are carried out after those before them
before_deed : (entries : List Entry) (entry : Entry) (more : List Entry) → withdraws (entry ∷ []) ≡ false
    → carried_out (entries ++ entry ∷ more) ≡ carried_out entries ++ carried_out (entry ∷ more)
unfolding carried_out
before_deed [] entry more h = refl
before_deed (one ∷ rest) entry more h =
    ap (λ (o : Option (Deed × Data)). onto_some o (carried_out (rest ++ entry ∷ more))) (own_same one rest entry more h)
    ∙ ap (onto_some (own_pair one rest)) (before_deed rest entry more h)
    ∙ onto_pairs (own_pair one rest) (carried_out rest) (carried_out (entry ∷ more))

last_deed : (b : Bool) (pair : Deed × Data) → onto_some (cond (b && true) (Some pair) None) [] ≡ cond b (pair ∷ []) []
last_deed true pair = refl
last_deed false pair = refl

pub deeds_grow : DeedsGrow
unfolding carried_out
deeds_grow entries receipt q reply =
    before_deed entries (carried receipt q reply) [] refl ∙ ap (λ more. carried_out entries ++ more) (last_deed (is_accepted reply) (q, reply))

none_more : (b : Bool) (pair : Deed × Data) → onto_some (cond (b && false) (Some pair) None) [] ≡ []
none_more true pair = refl
none_more false pair = refl

pub withdrawn_is_left_out : WithdrawnIsLeftOut
unfolding carried_out
withdrawn_is_left_out entries receipt q reply n =
    before_deed entries (carried receipt q reply) (withdrawn n ∷ []) refl
    ∙ ap (λ more. carried_out entries ++ more) (none_more (is_accepted reply) (q, reply))
    ∙ append-nil (carried_out entries)
