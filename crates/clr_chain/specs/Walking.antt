-- A CHAIN IS READ LINE BY LINE, to its end: the lines that hold their sums, and the numbers of those
-- that do not.
use Rattle.std.specs.Prelude.{◌-◌, ◌==◌, ◌&&◌, ℕ, Bool, true, false, List, [], ◌∷◌, codes, drop}
use Rattle.std.specs.Prelude.{Option, None, Some, bytes_eq, if◌then◌else◌, length, option_and_then}
use Rattle.std.specs.Prelude.{take}
use Rattle.std.specs.Str.{is_utf8}
use Rattle.serde_json.specs.Find.{as_str}
use Rattle.clr_text.specs.Reading.{value_of}
use Rattle.clr_journal.specs.Journals.{next_place, turn_after}
use Rattle.clr_journal.specs.Line.{Entry, at_key, entry_of, read_line}
use Rattle.clr_chain.specs.First.{end_at}
use Rattle.clr_chain.specs.Link.{end_after, next_link}
use Rattle.clr_chain.specs.declared.chain_end.ChainEnd.{ChainEnd}
use Rattle.clr_rules.specs.declared.place.Place.{Place}
use Rattle.clr_chain.specs.declared.walk.Step.{Step as SeenStep}
use Rattle.clr_chain.specs.declared.walk.Step.TheVariants as seen

-- a line that holds its sum; or one that does not, which would have this number
pub data Step : Type 0 where
  holds : Entry → Step
  bad : ℕ → Step

abbrev pub seen_step : SeenStep → Step
seen_step (seen.Holds line) = holds (entry_of line)
seen_step (seen.Bad number) = bad number

-- the sum that a text says
abbrev pub sum_said : List ℕ → Option (List ℕ)
sum_said text = option_and_then (at_key as_str (codes "sum")) (value_of text)

-- where the text of a command's line has its sum: the last 64 bytes before its last two
abbrev pub sum_bytes : List ℕ → List ℕ
sum_bytes text = drop (length text - 66) (take (length text - 2) text)

-- one more line, of which nothing is known but where it has its sum
abbrev pub end_unread : ChainEnd → List ℕ → ChainEnd
end_unread end text = record {
  turn = record { last = next_place end.turn.last; is_open = false };
  sum = if is_utf8 (sum_bytes text) then sum_bytes text else end.sum;
}

abbrev pub end_by : ChainEnd → List ℕ → Option Entry → Option (List ℕ) → ChainEnd
end_by end text None sum = end_unread end text
end_by end text (Some entry) None = end_unread end text
end_by end text (Some entry) (Some sum) = record { turn = turn_after entry; sum = sum }

-- WHERE A CHAIN GOES ON after a line that does not hold its sum: at the number and the sum that it
-- says; where it cannot be read, at the next number, and at the bytes in the place of its sum. So
-- the line after it is looked at by itself
abbrev pub end_said : ChainEnd → List ℕ → ChainEnd
end_said end text = end_by end text (read_line text) (sum_said text)

abbrev pub step_by : ChainEnd → List ℕ → Option Entry → Step × ChainEnd
step_by end text (Some entry) = (holds entry, end_after end entry)
step_by end text None = (bad (next_place end.turn.last), end_said end text)

-- ONE STEP: what a line is after this end of a chain, and the end of the chain after it
abbrev pub step_of : ChainEnd → List ℕ → Step × ChainEnd
step_of end text = step_by end text (next_link end text)

-- ALL STEPS from an end of a chain
unfoldable pub walk : ChainEnd → List (List ℕ) → List Step
walk end [] = []
walk end (text ∷ rest) = (step_of end text).0 ∷ walk (step_of end text).1 rest

-- A PART GOES ON from an end of a chain, where its first line has the same id, number and sum
abbrev pub goes_on : List ℕ → ChainEnd → Place → Bool
goes_on id end first =
    bytes_eq first.id id && (first.number == end.turn.last && bytes_eq first.sum end.sum)

abbrev pub part_at : ChainEnd → Bool → Place → Bool × ChainEnd
part_at end true first = (true, end_at first)
part_at end false first = (false, end)

-- whether the part that begins with this line, if it is one, goes on; and the end of the chain then
abbrev pub part_of : List ℕ → ChainEnd → Option Place → Bool × ChainEnd
part_of id end None = (false, end)
part_of id end (Some first) = part_at end (goes_on id end first) first
