-- WHICH COMMAND A TEXT IS, or the first of its faults.
use Rattle.std.specs.Prelude.{ℕ, ◌&&◌, Bool, true, List, [], ◌∷◌, Result, Ok, Err, Option, None}
use Rattle.std.specs.Prelude.{is_some, if◌then◌else◌, ok_or}
use Rattle.clr_rules.specs.Prelude.{list_any}
use Rattle.std.specs.Str.{bytes_eq, is_utf8}
use Rattle.serde_json.specs.Data.{Data, Members, member, no_members}
use Rattle.serde_json.specs.Find.{as_object, as_str}
use Rattle.serde_json.specs.Read.{read}
use Rattle.clr_net.specs.Results.{◌>>=◌}
use Rattle.clr_text.specs.Keys.{every_key, key_text}
use Rattle.clr_text.specs.Kinds.{has_key, keys_of, kind_in, states_moment, word_named}
use Rattle.clr_text.specs.Values.{said_at, value_at}
use Rattle.clr_text.specs.declared.fault.TextFault.{TextFault}
use Rattle.clr_text.specs.declared.fault.TextFault.TheVariants.{BadValue, MissingKey, NotJson}
use Rattle.clr_text.specs.declared.fault.TextFault.TheVariants.{NotObject, UnknownCommand}
use Rattle.clr_text.specs.declared.fault.TextFault.TheVariants.{UnknownKey}
use Rattle.clr_text.specs.declared.key.Key.{Key}
use Rattle.clr_text.specs.declared.key.Key.TheVariants.{At, By, Do}
use Rattle.clr_text.specs.declared.kinds.Word.{Word}
use Rattle.clr_rules.specs.declared.command.Command.{Command}

-- the value of a text: UTF-8, and one JSON value with blanks round it. Of a key that comes twice
-- the last value stays
unfoldable pub value_of : List ℕ → Option Data
value_of bytes = if is_utf8 bytes then read bytes else None

-- the text at `do`
abbrev pub text_at_do : Data → Result (List ℕ) TextFault
text_at_do d = ok_or (value_at Do d) (MissingKey Do) >>= λ v. ok_or (as_str v) (BadValue Do)

-- which command it is
abbrev pub word_in : Data → Result Word TextFault
word_in d = text_at_do d >>= λ text. ok_or (word_named text) UnknownCommand

-- the text is a key of the command
abbrev pub is_key_of : Word → List ℕ → Bool
is_key_of w text = list_any (λ key. has_key w key && bytes_eq text (key_text key)) every_key

-- each key of an object passes a test
abbrev pub all_keys : (List ℕ → Bool) → Members → Bool
all_keys test no_members = true
all_keys test (member key d others) = test key && all_keys test others

-- the object has keys of the command alone
abbrev pub no_others : Word → Members → Result Bool TextFault
no_others w members = if all_keys (is_key_of w) members then Ok true else Err UnknownKey

-- the first of the keys that the object lacks
unfoldable pub none_missing : List Key → Data → Result Bool TextFault
none_missing [] d = Ok true
none_missing (key ∷ keys) d = if is_some (value_at key d) then none_missing keys d
    else Err (MissingKey key)

-- the moment of a command: one that states none is at 0
abbrev pub moment_of : Word → Data → Result ℕ TextFault
moment_of w d = if states_moment w then said_at At d else Ok 0

-- the command of the values, or the first key whose value does not fit
unfoldable pub values_in : Word → Data → Result Command TextFault
values_in w d = do
  at ← moment_of w d
  by ← said_at By d
  kind ← kind_in w d
  Ok (record { caller = by; moment = at; kind = kind })

-- the command of a JSON value, or the first of its faults: it is no object; it names no command; it
-- has a key that the command does not have; it lacks a key; a value does not fit
unfoldable pub command_in : Data → Result Command TextFault
command_in d = do
  members ← ok_or (as_object d) NotObject
  w ← word_in d
  known ← no_others w members
  all ← none_missing (keys_of w) d
  values_in w d

unfoldable pub read_command : List ℕ → Result Command TextFault
read_command bytes = ok_or (value_of bytes) NotJson >>= command_in
