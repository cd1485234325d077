-- Results that follow one another.
use Rattle.std.specs.Prelude.{Result, Ok, Err}

-- the next step of a value; a fault ends what is done
infixl 10 ◌>>=◌
abbrev pub ◌>>=◌ : {A B E : Type 0} → Result A E → (A → Result B E) → Result B E
Ok value >>= next = next value
Err fault >>= next = Err fault
