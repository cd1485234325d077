-- The line that a terminal shows of an opening, and what takes it away.
use Rattle.std.specs.Prelude.{ℕ, ◌++◌, ◌∷◌, [], List, codes, decimal}

-- from the start of the line on: the MiB of the file, those that were read, and the seconds
abbrev pub opening_line : ℕ → ℕ → ℕ → List ℕ
opening_line size read seconds = codes "\ropening " ++ (decimal size
    ++ (codes " MiB: " ++ (decimal read
    ++ (codes " MiB read in " ++ (decimal seconds ++ codes " s")))))

-- to the start of the line, and ESC [ K, by which a terminal clears it from there on
abbrev pub no_line : List ℕ
no_line = 13 ∷ 27 ∷ 91 ∷ 75 ∷ []
