-- HOW A LINE OF A JOURNAL IS WRITTEN, AND READ: one JSON object without blanks, its keys in the
-- order of their bytes.
use Rattle.std.specs.Prelude.{ℕ, Bool, true, false, ◌||◌, List, [], Option, None, Some, codes}
use Rattle.std.specs.Prelude.{if◌then◌else◌, is_some, option_map, option_and_then}
use Rattle.std.specs.Result.{result_ok}
use Rattle.std.specs.Str.{bytes_eq}
use Rattle.serde_json.specs.Data.{Data, array, boolean, member, no_members, null, number, object}
use Rattle.serde_json.specs.Data.{string}
use Rattle.serde_json.specs.Find.{as_bool, as_str, get}
use Rattle.serde_json.specs.View.{view}
use Rattle.serde_json.specs.Written.{compact_text}
use Rattle.clr_rules.specs.declared.command.Command.{Command}
use Rattle.clr_rules.specs.declared.command.Kind.{Kind}
use Rattle.clr_rules.specs.declared.command.Kind.TheVariants as kinds
use Rattle.clr_changes.specs.Deeds.{Deed, archive, command, deed_of, update}
use Rattle.clr_journal.specs.Delta.{changes_data, changes_in}
use Rattle.clr_text.specs.CommandText.{command_data}
use Rattle.clr_text.specs.Json.{optional_data, whole_data}
use Rattle.clr_text.specs.Reading.{command_in, value_of}
use Rattle.clr_text.specs.Values.{moment_in, whole}
use Rattle.clr_journal.specs.declared.line.Line.{Line}
use Rattle.clr_journal.specs.declared.line.Line.TheVariants.{Carried, Withdrawn}
use Rattle.clr_journal.specs.declared.line.Receipt.{Receipt}

-- WHAT A LINE SAYS: a deed and its reply, as a JSON value; or that the deed of a number was accepted
-- and not carried out
pub data Entry : Type 0 where
  carried : Receipt → Deed → Data → Entry
  withdrawn : ℕ → Entry

abbrev pub entry_of : Line → Entry
entry_of (Carried c) = carried c.receipt (deed_of c.deed) (view c.reply)
entry_of (Withdrawn n) = withdrawn n

-- ---- writing

-- what an update or an archive is answered. Its line does not have it, nor a login
abbrev pub done : Data
done = object (member (codes "reply") (string (codes "accepted")) no_members)

-- a receipt without its login, as such a line has it
abbrev pub bare : Receipt → Receipt
bare receipt = record { number = receipt.number; received = receipt.received; login = None }

-- a command in brief, if it is of a kind that has lists or a text: it has none of them
abbrev pub brief_kind : Kind → Option Kind
brief_kind (kinds.Order c points tasks) = Some (kinds.Order c [] [])
brief_kind (kinds.Restore c tasks) = Some (kinds.Restore c [])
brief_kind (kinds.Switch tasks) = Some (kinds.Switch [])
brief_kind (kinds.Repeat c n text) = Some (kinds.Repeat c n [])
brief_kind kind = None

abbrev pub archive_data : ℕ → Data
archive_data before = object (member (codes "before") (whole_data before) no_members)

abbrev pub entry_data : Entry → Data
entry_data (carried receipt (command q) reply) =
    object (member (codes "command") (command_data q)
    (member (codes "login") (optional_data string receipt.login)
    (member (codes "number") (whole_data receipt.number)
    (member (codes "received") (whole_data receipt.received)
    (member (codes "reply") reply no_members)))))
entry_data (carried receipt (update of) reply) =
    object (member (codes "number") (whole_data receipt.number)
    (member (codes "received") (whole_data receipt.received)
    (member (codes "updated") (changes_data of) no_members)))
entry_data (carried receipt (archive before) reply) =
    object (member (codes "archived") (archive_data before)
    (member (codes "number") (whole_data receipt.number)
    (member (codes "received") (whole_data receipt.received) no_members)))
entry_data (withdrawn n) =
    object (member (codes "number") (whole_data n)
    (member (codes "withdrawn") (boolean true) no_members))

-- THE TEXT OF A LINE, without its line feed
abbrev pub line_text : Entry → List ℕ
line_text entry = compact_text (entry_data entry)

-- ---- whether a reply accepts

abbrev pub is_text : List ℕ → Option (List ℕ) → Bool
is_text word None = false
is_text word (Some text) = bytes_eq text word

-- this is the reply's word
abbrev pub says : List ℕ → Data → Bool
says word d = is_text word (option_and_then as_str (get (codes "reply") d))

-- the deed was carried out
abbrev pub is_accepted : Data → Bool
is_accepted d = says (codes "accepted") d || says (codes "added") d

-- ---- reading

-- what the value at a key is read as
abbrev pub at_key : {A : Type 0} → (Data → Option A) → List ℕ → Data → Option A
at_key reading key d = option_and_then reading (get key d)

-- a text, or null
abbrev pub login_in : Data → Option (Option (List ℕ))
login_in null = Some None
login_in (boolean b) = None
login_in (number n) = None
login_in (string s) = Some (Some s)
login_in (array ds) = None
login_in (object ms) = None

abbrev pub command_at : Data → Option Command
command_at = at_key (λ d. result_ok (command_in d)) (codes "command")

abbrev pub receipt_in : Data → Option Receipt
receipt_in d =
    option_and_then (λ number. option_and_then (λ received. option_map (λ login.
    record { number = number; received = received; login = login })
    (at_key login_in (codes "login") d))
    (at_key whole (codes "received") d))
    (at_key whole (codes "number") d)

abbrev pub carried_in : Data → Option Entry
carried_in d =
    option_and_then (λ receipt. option_and_then (λ q. option_map (carried receipt (command q))
    (get (codes "reply") d))
    (command_at d))
    (receipt_in d)

-- the number and the moment of a line that has no login
abbrev pub bare_receipt_in : Data → Option Receipt
bare_receipt_in d =
    option_and_then (λ number. option_map (λ received.
    record { number = number; received = received; login = None })
    (at_key whole (codes "received") d))
    (at_key whole (codes "number") d)

abbrev pub updated_in : Data → Option Entry
updated_in d =
    option_and_then (λ receipt. option_map (λ of. carried receipt (update of) done)
    (at_key changes_in (codes "updated") d))
    (bare_receipt_in d)

abbrev pub archived_in : Data → Option Entry
archived_in d =
    option_and_then (λ receipt. option_map (λ before. carried receipt (archive before) done)
    (at_key (at_key moment_in (codes "before")) (codes "archived") d))
    (bare_receipt_in d)

abbrev pub if_withdrawn : Bool → Data → Option Entry
if_withdrawn true d = option_map withdrawn (at_key whole (codes "number") d)
if_withdrawn false d = None

abbrev pub withdrawn_in : Data → Option Entry
withdrawn_in d =
    option_and_then (λ is. if_withdrawn is d) (at_key as_bool (codes "withdrawn") d)

-- the line of a value: one with the key `withdrawn` withdraws, one with `updated` or `archived` has
-- an update or an archive, and any other a command
abbrev pub line_in : Data → Option Entry
line_in d = if is_some (get (codes "withdrawn") d) then withdrawn_in d
    else if is_some (get (codes "updated") d) then updated_in d
    else if is_some (get (codes "archived") d) then archived_in d
    else carried_in d

-- WHAT A TEXT SAYS, if it is a line
unfoldable pub read_line : List ℕ → Option Entry
read_line bytes = option_and_then line_in (value_of bytes)
