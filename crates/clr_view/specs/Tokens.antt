-- THE TOKENS OF A VALUE, as a writer takes them.
use Rattle.std.specs.Prelude.{◌≡◌, ℕ, List, ◌∷◌, ◌++◌}
use Rattle.json.specs.Token.{Token, key}
use Rattle.json.specs.Tree.{json_tokens}
use Rattle.json.specs.Written.{Written}
use Rattle.serde_json.specs.Data.{Data}
use Rattle.serde_json.specs.Written.{outline}

abbrev pub data_tokens : Data → List Token
data_tokens d = json_tokens (outline d)

-- a member of an object: its key, and its value
abbrev pub member_tokens : List ℕ → Data → List Token
member_tokens name d = key name ∷ data_tokens d

-- A WRITER HAS THESE TOKENS MORE, and what was before the first one stays
pub record Adds (more : List Token) (old new : Written) : Type 0 where
  pub tokens : new.tokens ≡ old.tokens ++ more
  pub before : new.before ≡ old.before
