-- A CHAIN: a first line, and lines each of which holds its sum.
use Rattle.std.specs.Prelude.{ℕ, List, [], ◌∷◌}
use Rattle.std.specs.Option.{option_map_or}
use Rattle.clr_journal.specs.Lines.{ended_lines, text_of}
use Rattle.clr_journal.specs.Line.{Entry}
use Rattle.clr_chain.specs.First.{first_text}
use Rattle.clr_chain.specs.Link.{end_after, link_text, next_link}
use Rattle.clr_chain.specs.Sums.{sum_after}
use Rattle.clr_chain.specs.declared.chain_end.ChainEnd.{ChainEnd}
use Rattle.clr_rules.specs.declared.place.Place.{Place}

-- ---- writing

-- the texts of lines that go on after this sum
abbrev pub link_texts : List ℕ → List Entry → List (List ℕ)
link_texts sum [] = []
link_texts sum (entry ∷ rest) =
    link_text entry (sum_after sum entry) ∷ link_texts (sum_after sum entry) rest

-- THE BYTES OF A CHAIN with this first line and these lines
abbrev pub chain_text : Place → List Entry → List ℕ
chain_text first entries = text_of (first_text first ∷ link_texts first.sum entries)

-- ---- reading

abbrev pub all_but_first : List (List ℕ) → List (List ℕ)
all_but_first [] = []
all_but_first (text ∷ rest) = rest

-- the texts of the lines after the first
abbrev pub links_of : List ℕ → List (List ℕ)
links_of bytes = all_but_first (ended_lines bytes)

-- how far lines hold their sums: these, the end of the chain after them, and the texts after the
-- last of them
pub record ReadOn : Type 0 where
  pub entries : List Entry
  pub end : ChainEnd
  pub left : List (List ℕ)

abbrev pub onto : Entry → ReadOn → ReadOn
onto entry read = record { entries = entry ∷ read.entries; end = read.end; left = read.left }

-- A CHAIN IS READ ON from an end of it, up to the first line that does not hold its sum
unfoldable pub read_on : ChainEnd → List (List ℕ) → ReadOn
read_on end [] = record { entries = []; end = end; left = [] }
read_on end (text ∷ rest) =
    option_map_or (λ entry. onto entry (read_on (end_after end entry) rest)) (next_link end text)
    (record { entries = []; end = end; left = text ∷ rest })
