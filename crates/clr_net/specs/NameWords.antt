-- A name as three numbers, which are in the order of the names.
use Rattle.std.specs.Prelude.{ℕ, ◌+◌, ◌*◌, List, [], ◌∷◌, take, drop}
use Rattle.clr_net.specs.Name.{padded}

-- the number that bytes spell after n, the first of them the highest digit
abbrev pub spelt : ℕ → List ℕ → ℕ
spelt n [] = n
spelt n (b ∷ bs) = spelt (n * 256 + b) bs

-- the number that eight cells spell, from a place on
abbrev pub word_from : ℕ → List ℕ → ℕ
word_from place cells = spelt 0 (take 8 (drop place cells))

-- the numbers that a name's cells spell, eight of the twenty-four for each
abbrev pub words_of : List ℕ → ℕ × ℕ × ℕ
words_of text = (word_from 0 (padded text), word_from 8 (padded text), word_from 16 (padded text))
