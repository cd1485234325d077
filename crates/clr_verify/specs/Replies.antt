-- WHETHER REPLIES ARE THOSE OF THE LINES, one by one.
use Rattle.std.specs.Prelude.{◌≡◌, ◌≢◌, ◌≤◌, ℕ, Bool, true, false, ⊤, List, [], ◌∷◌}
use Rattle.serde_json.specs.Data.{Data, depth}

-- a line's reply is this one. Of one that nests deeper than any that was read nothing is said
abbrev pub IsReply : Data → Data → Type 0
IsReply d own = depth d ≤ 127 → d ≡ own

abbrev pub DecidesReply : Data → Data → Bool → Type 0
DecidesReply d own true = IsReply d own
DecidesReply d own false = d ≢ own

-- as many replies as lines, and each is the line's
abbrev pub AreReplies : List (ℕ × Data) → List Data → Type 0
AreReplies [] [] = ⊤
AreReplies [] (own ∷ owns) = ⊥
AreReplies (line ∷ lines) [] = ⊥
AreReplies (line ∷ lines) (own ∷ owns) = IsReply line.1 own × AreReplies lines owns
