-- COMMANDS THAT ARE WRITTEN AND READ AGAIN
use Rattle.std.specs.Prelude.{◌≡◌, ◌≤◌, ◌^◌, ℕ, nat_lt, Bool, true, false, ◌&&◌, ◌==◌, List, Some, Ok}
use Rattle.std.specs.List.{list_any}
use Rattle.std.specs.Cmp.Lexicographic.{slice_cmp}
use Rattle.std.specs.Ordering.{is_lt, nat_cmp}
use Rattle.std.specs.Str.{is_utf8}
use Rattle.serde_json.specs.Data.{Data, Items, Members, Num, array, boolean, depth, float, item}
use Rattle.serde_json.specs.Data.{member, negative, no_items, no_members, null, number, object}
use Rattle.serde_json.specs.Data.{string, unsigned}
use Rattle.serde_json.specs.Find.{get}
use Rattle.serde_json.specs.Written.{compact_text}
use Rattle.clr_text.specs.CommandText.{can_be_sent, command_data, command_text}
use Rattle.clr_text.specs.Reading.{command_in, read_command, value_of}
use Rattle.clr_rules.specs.declared.command.Command.{Command}

-- A COMMAND THAT CAN BE SENT is read from its text; and from its value, wherever that is
abbrev pub CommandsReadBack : Type 0
CommandsReadBack = (q : Command) → can_be_sent q ≡ true → read_command (command_text q) ≡ Ok q

abbrev pub CommandValuesReadBack : Type 0
CommandValuesReadBack = (q : Command) → can_be_sent q ≡ true → command_in (command_data q) ≡ Ok q

-- EACH COMMAND THAT WAS READ can be sent: so it is written, and read again, as what it was
abbrev pub ReadCommandsCanBeSent : Type 0
ReadCommandsCanBeSent = (bytes : List ℕ) (q : Command) → read_command bytes ≡ Ok q
    → can_be_sent q ≡ true

-- and so can one that was read at a key of another value
abbrev pub CommandsAtKeysCanBeSent : Type 0
CommandsAtKeysCanBeSent = (bytes key : List ℕ) (whole d : Data) (q : Command)
    → value_of bytes ≡ Some whole → get key whole ≡ Some d → command_in d ≡ Ok q
    → can_be_sent q ≡ true

-- ---- texts of values, also of those in which a command is one part

-- a whole number of 64 bits
abbrev pub is_whole : Num → Bool
is_whole (unsigned n) = nat_lt n (2 ^ 64)
is_whole (negative z) = false
is_whole (float x) = false

-- a key goes before those of an object
abbrev pub is_before : List ℕ → Members → Bool
is_before key no_members = true
is_before key (member other d others) = is_lt (slice_cmp nat_cmp key other)

-- a value of texts in UTF-8, whole numbers, `true`, `false` and null; the keys of each object in
-- the order of their bytes, none of them twice
abbrev mutual
  pub is_plain : Data → Bool
  is_plain null = true
  is_plain (boolean b) = true
  is_plain (number n) = is_whole n
  is_plain (string s) = is_utf8 s
  is_plain (array ds) = items_are_plain ds
  is_plain (object ms) = members_are_plain ms

  pub items_are_plain : Items → Bool
  items_are_plain no_items = true
  items_are_plain (item d ds) = is_plain d && items_are_plain ds

  pub members_are_plain : Members → Bool
  members_are_plain no_members = true
  members_are_plain (member key d others) =
      is_utf8 key && (is_before key others && (is_plain d && members_are_plain others))

-- A PLAIN VALUE is what its text reads as
abbrev pub PlainValuesReadBack : Type 0
PlainValuesReadBack = (d : Data) → is_plain d ≡ true → depth d ≤ 127
    → value_of (compact_text d) ≡ Some d

-- THE VALUE OF A COMMAND that can be sent is plain, and holds lists at most
abbrev pub CommandValuesArePlain : Type 0
CommandValuesArePlain = (q : Command) → can_be_sent q ≡ true
    → (is_plain (command_data q) ≡ true) × (depth (command_data q) ≤ 2)

abbrev pub is_line_feed : ℕ → Bool
is_line_feed b = b == 10

-- THE TEXT OF A VALUE IS ONE LINE: it has no line feed
abbrev pub ValuesAreOneLine : Type 0
ValuesAreOneLine = (d : Data) → list_any is_line_feed (compact_text d) ≡ false
