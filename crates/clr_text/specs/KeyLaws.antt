-- KEYS GO BY THE ORDER OF THEIR BYTES: of those that are missing, or whose values do not fit, the
-- least is named.
use Rattle.std.specs.Prelude.{◌≡◌, ℕ, Bool, true, not, List, Some, Ok, Err, is_none, is_ok}
use Rattle.std.specs.List.{Contains}
use Rattle.std.specs.Cmp.Lexicographic.{slice_cmp}
use Rattle.std.specs.Ordering.{is_le, nat_cmp}
use Rattle.serde_json.specs.Data.{Data}
use Rattle.clr_shelf.specs.Rows.{in_key_order}
use Rattle.clr_text.specs.Kinds.{keys_of}
use Rattle.clr_text.specs.Keys.{key_text}
use Rattle.clr_text.specs.Reading.{read_command, text_at_do, value_of, word_in}
use Rattle.clr_text.specs.Values.{said_at, value_at}
use Rattle.clr_text.specs.declared.fault.TextFault.TheVariants.{BadValue, MissingKey}
use Rattle.clr_text.specs.declared.key.Key.{Key}
use Rattle.clr_text.specs.declared.key.Key.TheVariants.{Do}
use Rattle.clr_text.specs.declared.kinds.Word.{Word}

-- THE KEYS OF EACH COMMAND are in the order of their bytes, and none comes twice
abbrev pub KeysStandInOrder : Type 0
KeysStandInOrder = (w : Word) → in_key_order (slice_cmp nat_cmp) key_text (keys_of w) ≡ true

-- an object lacks a key
abbrev pub lacks : Data → Key → Bool
lacks d key = is_none (value_at key d)

-- the value at a key is what the key asks for, whichever command it is
abbrev pub fits : Data → Key → Bool
fits d Do = is_ok (text_at_do d)
fits d key = is_ok (said_at key d)

-- of these keys it is the least in byte order that passes a test
pub record IsLeast (test : Key → Bool) (keys : List Key) (key : Key) : Type 0 where
  pub among : Contains keys key
  pub passes : test key ≡ true
  pub least : (other : Key) → Contains keys other → test other ≡ true
      → is_le (slice_cmp nat_cmp (key_text key) (key_text other)) ≡ true

-- THE KEY THAT IS SAID TO BE MISSING is the least of the command's keys that the object lacks
abbrev pub LeastMissingIsNamed : Type 0
LeastMissingIsNamed = (bytes : List ℕ) (d : Data) (w : Word) (key : Key)
    → value_of bytes ≡ Some d → word_in d ≡ Ok w → read_command bytes ≡ Err (MissingKey key)
    → IsLeast (lacks d) (keys_of w) key

-- THE KEY WHOSE VALUE IS SAID TO BE BAD is the least of the command's keys whose value does not fit
abbrev pub LeastBadValueIsNamed : Type 0
LeastBadValueIsNamed = (bytes : List ℕ) (d : Data) (w : Word) (key : Key)
    → value_of bytes ≡ Some d → word_in d ≡ Ok w → read_command bytes ≡ Err (BadValue key)
    → IsLeast (λ other. not (fits d other)) (keys_of w) key
