-- THE SUMS OF A CHAIN. Each says all that comes before it, but for a collision of SHA-256.
use Rattle.std.specs.Prelude.{ℕ, List, [], ◌∷◌, ◌++◌}
use Rattle.hex.specs.Hex.{encode_lower}
use Rattle.sha2.specs.Sha256.{sha256}
use Rattle.clr_journal.specs.Lines.{with_feed}
use Rattle.clr_journal.specs.Line.{Entry, line_text}

-- SHA-256 of these bytes, in hex
unfoldable pub sum_of : List ℕ → List ℕ
sum_of bytes = encode_lower (sha256 bytes)

-- THE SUM AT A LINE: of the sum before it, and of the line without its sum
unfoldable pub sum_after : List ℕ → Entry → List ℕ
sum_after before entry = sum_of (before ++ line_text entry)

-- the three files that a register is made of
pub record Files : Type 0 where
  pub sections : List ℕ
  pub points : List ℕ
  pub staff : List ℕ

-- the sum of a text on a line of its own, and more
abbrev pub sum_line : List ℕ → List ℕ → List ℕ
sum_line text more = with_feed (sum_of text) ++ more

-- THE SUM AT THE FIRST LINE of a register's journal: of the sum of each file, on a line of its own,
-- and of the id
unfoldable pub first_sum : Files → List ℕ → List ℕ
first_sum files id =
    sum_of (sum_line files.sections (sum_line files.points (sum_line files.staff id)))

-- the sum after these lines
abbrev pub sum_behind : List ℕ → List Entry → List ℕ
sum_behind sum [] = sum
sum_behind sum (entry ∷ rest) = sum_behind (sum_after sum entry) rest
