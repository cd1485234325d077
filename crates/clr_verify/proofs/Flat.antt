-- A reply of a journal that was read nests no deeper than a line's text may.
use Rattle.std.proofs.Common.{◌≡◌, ◌≤◌, ◌&&◌, ℕ, Bool, true, false, not, All, List, [], ◌∷◌, Option, None, Some, Result, Ok, Err, IfOk, IfSome, map, refl, ap₂, subst, option_and_then, ok_or, if◌then◌else◌}
use Rattle.std.proofs.lemmas.List.Elements.{All-from_recursion}
use Rattle.std.specs.List.{AllByRecursion}
use Rattle.serde_json.specs.Data.{Data, depth}
use Rattle.clr_net.specs.Results.{◌>>=◌}
use Rattle.clr_journal.proofs.Shallow.{text_is_shallow}
use Rattle.clr_journal.specs.Journals.{JournalFault, bad_line, if_next, is_next, lines_read, next_line, next_place, onto_some, read_journal, turn_after, withdraws}
use Rattle.clr_journal.specs.Laws.{IsShallow}
use Rattle.clr_journal.specs.Line.{Entry, carried, is_accepted, read_line, withdrawn}
use Rattle.clr_journal.specs.declared.reading.Turn.{Turn}
use Rattle.clr_verify.specs.Replay.{Answered, answered_in, due_answered}
use Rattle.clr_verify.specs.Replies.{AreReplies}

next_is_flat : (turn : Turn) (text : List ℕ) → IfSome (next_line turn text) IsShallow
next_is_flat turn text = by (read_line text) (text_is_shallow text)
  where
    here : (b : Bool) (entry : Entry) → IsShallow entry → IfSome (if b then Some entry else None) IsShallow
    here true entry flat = flat
    here false entry flat = tt

    by : (o : Option Entry) → IfSome o IsShallow → IfSome (option_and_then (if_next turn) o) IsShallow
    by None flat = tt
    by (Some entry) flat = here (is_next turn entry) entry flat

lines_are_flat : (place : ℕ) (turn : Turn) (texts : List (List ℕ)) → IfOk (lines_read place turn texts) (AllByRecursion IsShallow)
unfolding lines_read
lines_are_flat place turn [] = tt
lines_are_flat place turn (text ∷ texts) =
    first (next_line turn text) (next_is_flat turn text) (λ entry. lines_are_flat (next_place place) (turn_after entry) texts)
  where
    rest : (entry : Entry) → IsShallow entry → (more : Result (List Entry) JournalFault) → IfOk more (AllByRecursion IsShallow) → IfOk (more >>= λ entries. Ok (entry ∷ entries)) (AllByRecursion IsShallow)
    rest entry flat (Ok entries) are = (flat, are)
    rest entry flat (Err fault) are = tt

    first : (o : Option Entry) → IfSome o IsShallow → ((entry : Entry) → IfOk (lines_read (next_place place) (turn_after entry) texts) (AllByRecursion IsShallow))
        → IfOk (ok_or o (bad_line place) >>= λ entry. lines_read (next_place place) (turn_after entry) texts >>= λ entries. Ok (entry ∷ entries)) (AllByRecursion IsShallow)
    first None flat more = tt
    first (Some entry) flat more = rest entry flat (lines_read (next_place place) (turn_after entry) texts) (more entry)

answered_are_flat : (entries : List Entry) → AllByRecursion IsShallow entries → AllByRecursion (λ (line : Answered). depth line.reply ≤ 127) (answered_in entries)
unfolding answered_in
answered_are_flat [] flat = tt
answered_are_flat (withdrawn n ∷ rest) flat = answered_are_flat rest flat.1
answered_are_flat (carried receipt q reply ∷ rest) flat = by (is_accepted reply && not (withdraws rest)) flat.0 (answered_are_flat rest flat.1)
  where
    by : (b : Bool) → depth reply ≤ 127 → AllByRecursion (λ (line : Answered). depth line.reply ≤ 127) (answered_in rest)
        → AllByRecursion (λ (line : Answered). depth line.reply ≤ 127)
        (onto_some (if b then Some (record { number = receipt.number; deed = q; reply = reply }) else None) (answered_in rest))
    by true here more = (here, more)
    by false here more = more

each_read : (bytes : List ℕ) (entries : List Entry) → read_journal bytes ≡ Ok entries → AllByRecursion (λ (line : Answered). depth line.reply ≤ 127) (answered_in entries)
each_read bytes entries is =
    answered_are_flat entries (subst (λ (read : Result (List Entry) JournalFault). IfOk read (AllByRecursion IsShallow)) is (lines_are_flat _ _ _))

pub read_are_flat : (bytes : List ℕ) (entries : List Entry) → read_journal bytes ≡ Ok entries → All (λ (line : Answered). depth line.reply ≤ 127) (answered_in entries)
read_are_flat bytes entries is = All-from_recursion _ (answered_in entries) (each_read bytes entries is)

each_exact : (lines : List Answered) (replies : List Data) → AllByRecursion (λ (line : Answered). depth line.reply ≤ 127) lines → AreReplies (map due_answered lines) replies
    → map (λ (line : Answered). line.reply) lines ≡ replies
each_exact [] [] flat are = refl
each_exact [] (reply ∷ replies) flat are = absurd are
each_exact (line ∷ lines) [] flat are = absurd are
each_exact (line ∷ lines) (reply ∷ replies) flat are =
    ap₂ (λ (d : Data) (ds : List Data). d ∷ ds) (are.0 flat.0) (each_exact lines replies flat.1 are.1)

pub exact : (bytes : List ℕ) (entries : List Entry) (replies : List Data) → read_journal bytes ≡ Ok entries → AreReplies (map due_answered (answered_in entries)) replies
    → map (λ (line : Answered). line.reply) (answered_in entries) ≡ replies
exact bytes entries replies is are = each_exact (answered_in entries) replies (each_read bytes entries is) are
