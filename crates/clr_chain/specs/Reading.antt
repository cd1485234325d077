-- What the values of the code are of what the definitions speak of.
use Rattle.std.specs.Prelude.{◌≡◌, ◌+◌, ℕ, List, ◌++◌, Option, None, Some, map, length, ⊤}
use Rattle.clr_journal.specs.Lines.{ended_lines, text_of, unfinished}
use Rattle.clr_journal.specs.Line.{entry_of}
use Rattle.clr_chain.specs.Chain.{ReadOn}
use Rattle.clr_chain.specs.Finding.{Found, Sought, ahead, bad_line, differs, met, other_register}
use Rattle.clr_chain.specs.Finding.{other_rules, passed, too_short, unmet}
use Rattle.clr_chain.specs.declared.finding.Ahead.{Ahead as SeenAhead}
use Rattle.clr_chain.specs.declared.finding.Found.{Found as SeenFound}
use Rattle.clr_chain.specs.declared.finding.Found.TheVariants as seen
use Rattle.clr_chain.specs.declared.read_on.ReadOn.{ReadOn as SeenRead}
use Rattle.clr_chain.specs.declared.sought.Sought.{Sought as SeenSought}
use Rattle.clr_chain.specs.declared.sought.Sought.TheVariants as sought

abbrev pub seen_read : SeenRead → ReadOn
seen_read read = record {
  entries = map entry_of read.lines.items;
  end = read.end;
  left = ended_lines read.rest.now;
}

abbrev pub seen_sought : SeenSought → Sought
seen_sought (sought.Met is_own turn after) = met is_own turn (ended_lines after.now)
seen_sought (sought.Passed number after) = passed number (ended_lines after.now)
seen_sought sought.Unmet = unmet

-- what comes after the line that was met ends as all does
abbrev pub EndsAlike : Option (List ℕ) → SeenSought → Type 0
EndsAlike rest (sought.Met is_own turn after) = unfinished after.now ≡ rest
EndsAlike rest (sought.Passed number after) = unfinished after.now ≡ rest
EndsAlike rest sought.Unmet = ⊤

-- lines ahead, and how many bytes come after them, where all ends so
abbrev pub AreAhead : Option (List ℕ) → SeenAhead → Found → Type 0
AreAhead rest seen found = (after : List ℕ) × (unfinished after ≡ rest) × (seen.rest ≡ length after)
    × (found ≡ ahead (record {
      entries = map entry_of seen.lines.items;
      end = seen.end;
      left = ended_lines after;
    }))

abbrev pub IsFoundWith : Option (List ℕ) → SeenFound → Found → Type 0
IsFoundWith rest (seen.OtherRules number) found = found ≡ other_rules number
IsFoundWith rest seen.OtherRegister found = found ≡ other_register
IsFoundWith rest seen.TooShort found = found ≡ too_short
IsFoundWith rest (seen.Differs number) found = found ≡ differs number
IsFoundWith rest (seen.BadLine number) found = found ≡ bad_line number
IsFoundWith rest (seen.Ahead lines) found = AreAhead rest lines found

-- THE LINES OF THESE BYTES end with those that are left; what comes before these has all but `rest`
-- bytes
pub record IsCut (bytes : List ℕ) (left : List (List ℕ)) (rest : ℕ) : Type 0 where
  pub kept : List (List ℕ)
  pub lines : ended_lines bytes ≡ kept ++ left
  pub count : length (text_of kept) + rest ≡ length bytes

-- WHAT WAS FOUND IN THESE BYTES is this
abbrev pub IsFound : List ℕ → SeenFound → Found → Type 0
IsFound bytes (seen.OtherRules number) found = found ≡ other_rules number
IsFound bytes seen.OtherRegister found = found ≡ other_register
IsFound bytes seen.TooShort found = found ≡ too_short
IsFound bytes (seen.Differs number) found = found ≡ differs number
IsFound bytes (seen.BadLine number) found = found ≡ bad_line number
IsFound bytes (seen.Ahead lines) found = (left : List (List ℕ)) × IsCut bytes left lines.rest
    × (found ≡ ahead (record {
      entries = map entry_of lines.lines.items;
      end = lines.end;
      left = left;
    }))

-- where there is no first line by these rules
abbrev pub seen_unread : Option ℕ → SeenFound
seen_unread None = seen.BadLine 0
seen_unread (Some number) = seen.OtherRules number

-- what the end of a journal says, if it says what is found
abbrev pub IsFoundNear : Option (List ℕ) → Option SeenFound → Option Found → Type 0
IsFoundNear rest None found = found ≡ None
IsFoundNear rest (Some seen) found =
    (said : Found) × (found ≡ Some said) × IsFoundWith rest seen said

-- how many bytes are to be cut off
abbrev pub rest_of : SeenFound → ℕ
rest_of (seen.OtherRules number) = 0
rest_of seen.OtherRegister = 0
rest_of seen.TooShort = 0
rest_of (seen.Differs number) = 0
rest_of (seen.BadLine number) = 0
rest_of (seen.Ahead lines) = lines.rest
