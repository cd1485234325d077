-- A chain is read on, line by line.
use Rattle.std.proofs.Common.{◌≡◌, ◌∙◌, ℕ, List, [], ◌∷◌, ◌++◌, map, Option, None, Some, ap, ap₂, sym, append_assoc, append-nil}
use Rattle.std.proofs.lemmas.List.{map-append}
use Rattle.std.specs.Option.{option_map_or}
use Rattle.clr_journal.specs.Lines.{ended_lines}
use Rattle.clr_journal.specs.Line.{Entry, entry_of}
use Rattle.clr_journal.specs.declared.line.Line.{Line}
use Rattle.clr_chain.specs.Chain.{ReadOn, onto, read_on}
use Rattle.clr_chain.specs.Link.{end_after, next_link}
use Rattle.clr_chain.specs.declared.chain_end.ChainEnd.{ChainEnd}

-- lines before those that are read on
abbrev pub prepended : List Entry → ReadOn → ReadOn
prepended earlier read = record { entries = earlier ++ read.entries; end = read.end; left = read.left }

pub reads : (end : ChainEnd) (text : List ℕ) (rest : List (List ℕ)) (found : Option Entry) → next_link end text ≡ found
    → read_on end (text ∷ rest) ≡ option_map_or (λ entry. onto entry (read_on (end_after end entry) rest)) found (record { entries = []; end = end; left = text ∷ rest })
unfolding read_on
reads end text rest found is =
    ap (λ (o : Option Entry). option_map_or (λ entry. onto entry (read_on (end_after end entry) rest)) o (record { entries = []; end = end; left = text ∷ rest })) is

moved : (earlier : List Entry) (entry : Entry) (read : ReadOn) → prepended (earlier ++ entry ∷ []) read ≡ prepended earlier (onto entry read)
moved earlier entry read =
    ap (λ (es : List Entry). let all : ReadOn = record { entries = es; end = read.end; left = read.left } in all) (append_assoc earlier (entry ∷ []) read.entries)

pub goes_on : (end end' : ChainEnd) (rest text after : List ℕ) (lines lines' : List Line) (line : Line) (whole : ReadOn)
    → ended_lines rest ≡ text ∷ ended_lines after → next_link end text ≡ Some (entry_of line) → end' ≡ end_after end (entry_of line)
    → lines' ≡ lines ++ line ∷ [] → prepended (map entry_of lines) (read_on end (ended_lines rest)) ≡ whole
    → prepended (map entry_of lines') (read_on end' (ended_lines after)) ≡ whole
goes_on end end' rest text after lines lines' line whole first is ends grown so_far =
    let entry : Entry = entry_of line in
    let earlier : map entry_of lines' ≡ map entry_of lines ++ entry ∷ [] = ap (map entry_of) grown ∙ map-append entry_of lines (line ∷ []) in
    ap₂ (λ es e. prepended es (read_on e (ended_lines after))) earlier ends
    ∙ moved (map entry_of lines) entry (read_on (end_after end entry) (ended_lines after))
    ∙ ap (prepended (map entry_of lines)) (sym (ap (read_on end) first ∙ reads end text (ended_lines after) (Some entry) is))
    ∙ so_far

pub stops : (end : ChainEnd) (rest text after : List ℕ) (lines : List Line) (whole : ReadOn)
    → ended_lines rest ≡ text ∷ ended_lines after → next_link end text ≡ None
    → prepended (map entry_of lines) (read_on end (ended_lines rest)) ≡ whole
    → record { entries = map entry_of lines; end = end; left = ended_lines rest } ≡ whole
stops end rest text after lines whole first is so_far =
    let here : read_on end (ended_lines rest) ≡ record { entries = []; end = end; left = ended_lines rest } =
    ap (read_on end) first ∙ reads end text (ended_lines after) None is ∙ ap (λ (texts : List (List ℕ)). let r : ReadOn = record { entries = []; end = end; left = texts } in r) (sym first) in
    ap (λ (es : List Entry). let r : ReadOn = record { entries = es; end = end; left = ended_lines rest } in r) (sym (append-nil (map entry_of lines)))
    ∙ ap (prepended (map entry_of lines)) (sym here) ∙ so_far

pub ends : (end : ChainEnd) (rest : List ℕ) (lines : List Line) (whole : ReadOn)
    → ended_lines rest ≡ [] → prepended (map entry_of lines) (read_on end (ended_lines rest)) ≡ whole
    → record { entries = map entry_of lines; end = end; left = ended_lines rest } ≡ whole
unfolding read_on
ends end rest lines whole none so_far =
    let here : read_on end (ended_lines rest) ≡ record { entries = []; end = end; left = ended_lines rest } =
    ap (read_on end) none ∙ ap (λ (texts : List (List ℕ)). let r : ReadOn = record { entries = []; end = end; left = texts } in r) (sym none) in
    ap (λ (es : List Entry). let r : ReadOn = record { entries = es; end = end; left = ended_lines rest } in r) (sym (append-nil (map entry_of lines)))
    ∙ ap (prepended (map entry_of lines)) (sym here) ∙ so_far
