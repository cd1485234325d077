-- A reply of a line that was read nests no deeper than the line's text may, so none of the lines that are found ahead does.
use Rattle.std.proofs.Common.{◌≡◌, ℕ, Bool, true, false, List, [], ◌∷◌, Option, None, Some, IfSome, refl, subst, sym, option_and_then, if◌then◌else◌}
use Rattle.std.specs.List.{AllByRecursion}
use Rattle.clr_journal.proofs.Shallow.{text_is_shallow}
use Rattle.clr_journal.specs.Laws.{IsShallow}
use Rattle.clr_journal.specs.Line.{Entry, read_line}
use Rattle.clr_chain.proofs.Firsts.{is_ahead}
use Rattle.clr_chain.proofs.NotMissed.{IsReadOn, ahead_is_read}
use Rattle.clr_chain.proofs.ReadingOn.{reads}
use Rattle.clr_chain.specs.Chain.{ReadOn, links_of, read_on}
use Rattle.clr_chain.specs.Finding.{ahead, found_in}
use Rattle.clr_chain.specs.Laws.{LinesAheadAreShallow, LinesAheadGoOn}
use Rattle.clr_chain.specs.Link.{end_after, if_holds, next_link}
use Rattle.clr_chain.specs.declared.chain_end.ChainEnd.{ChainEnd}
use Rattle.clr_rules.specs.declared.place.Place.{Place}

pub next_is_shallow : (end : ChainEnd) (text : List ℕ) → IfSome (next_link end text) IsShallow
unfolding next_link
next_is_shallow end text = by (read_line text) (text_is_shallow text)
  where
    here : (b : Bool) (entry : Entry) → IsShallow entry → IfSome (if b then Some entry else None) IsShallow
    here true entry shallow = shallow
    here false entry shallow = tt

    by : (line : Option Entry) → IfSome line IsShallow → IfSome (option_and_then (if_holds end text) line) IsShallow
    by None shallow = tt
    by (Some entry) shallow = here _ entry shallow

-- ---- the lines of a chain

pub read_are_shallow : (texts : List (List ℕ)) (end : ChainEnd) → AllByRecursion IsShallow (read_on end texts).entries
unfolding read_on
read_are_shallow [] end = tt
read_are_shallow (text ∷ texts) end = by (next_link end text) refl (next_is_shallow end text) (λ (e : ChainEnd). read_are_shallow texts e)
  where
    by : (found : Option Entry) → next_link end text ≡ found → IfSome (next_link end text) IsShallow → ((e : ChainEnd) → AllByRecursion IsShallow (read_on e texts).entries)
        → AllByRecursion IsShallow (read_on end (text ∷ texts)).entries
    by None is shallow more = subst (λ (r : ReadOn). AllByRecursion IsShallow r.entries) (sym (reads end text texts None is)) tt
    by (Some entry) is shallow more =
        subst (λ (r : ReadOn). AllByRecursion IsShallow r.entries) (sym (reads end text texts (Some entry) is))
        (subst (λ (o : Option Entry). IfSome o IsShallow) is shallow, more (end_after end entry))

found_is_read : (place : Place) (bytes : List ℕ) (read : ReadOn) → found_in place bytes ≡ ahead read → IsReadOn read
found_is_read place bytes read h = let it = is_ahead place bytes read h in ahead_is_read place it.first (links_of bytes) read it.found

pub lines_ahead_go_on : LinesAheadGoOn
lines_ahead_go_on place bytes read h = (found_is_read place bytes read h).begins

pub lines_ahead_are_shallow : LinesAheadAreShallow
lines_ahead_are_shallow place bytes read h =
    let it = found_is_read place bytes read h in
    subst (λ (r : ReadOn). AllByRecursion IsShallow r.entries) it.is (read_are_shallow it.texts it.end)
