-- THE SWITCHING LOG: a line for each line of a journal that is wanted. Its columns are two blanks
-- apart: the number, the moment, the clearance, who, what, and the reply.
--
--     7  1970-01-01 00:01:46 +00:00  JONES/1  OPS  instruct 1 OPEN S2  accepted
--
-- An update has lines of its changes after its own, as `update` prints them.
use Rattle.std.specs.Prelude.{ℕ, nat_le, Bool, true, false, ◌&&◌, List, [], ◌∷◌, ◌++◌, filter}
use Rattle.std.specs.Prelude.{Option, None, Some, codes, decimal, ℤ, if◌then◌else◌}
use Rattle.std.specs.Prelude.{option_and_then, bytes_eq}
use Rattle.serde_json.specs.Data.{Data}
use Rattle.serde_json.specs.Find.{as_str, get}
use Rattle.clr_print.specs.Moments.{moment_text}
use Rattle.clr_changes.specs.Lines.{change_lines}
use Rattle.clr_changes.specs.Deeds.{archive, command, update}
use Rattle.clr_rules.specs.Id.{Id, id_text}
use Rattle.clr_rules.specs.Moment.{new_moment}
use Rattle.clr_rules.specs.declared.command.Command.{Command}
use Rattle.clr_rules.specs.declared.command.Kind.{Kind}
use Rattle.clr_rules.specs.declared.command.Kind.TheVariants.{Show, Jumper}
use Rattle.clr_journal.specs.Line.{Entry, carried, withdrawn, is_accepted}
use Rattle.clr_journal.specs.declared.line.Receipt.{Receipt}
use Rattle.clr_log.specs.About.{clearance_of, is_wanted, last_clearance, line_clearance}
use Rattle.clr_log.specs.Words.{words}
use Rattle.clr_update.specs.Changes.{Changes}

-- a moment; a dash for `show` and `jumper`, which state none
abbrev pub when : Kind → ℕ → ℤ → List ℕ
when (Show c) seconds offset = codes "-"
when (Jumper point from to lockable remote) seconds offset = codes "-"
when kind seconds offset = moment_text seconds offset

abbrev pub id_or_dash : Option Id → List ℕ
id_or_dash None = codes "-"
id_or_dash (Some c) = id_text c

-- a text of one line: the bytes that are printed
abbrev pub is_printed : ℕ → Bool
is_printed b = nat_le 32 b && nat_le b 126

unfoldable pub plain : List ℕ → List ℕ
plain text = filter is_printed text

-- the caller, and the login, where it is another name
abbrev pub login_words : List ℕ → Option (List ℕ) → List ℕ
login_words caller None = []
login_words caller (Some login) =
    if bytes_eq login caller then [] else codes " (" ++ plain login ++ codes ")"

abbrev pub who : Command → Receipt → List ℕ
who q receipt = q.caller ++ login_words q.caller receipt.login

abbrev pub word_or_dash : Option (List ℕ) → List ℕ
word_or_dash None = codes "-"
word_or_dash (Some word) = plain word

-- `accepted`, or `refused` and the refusal's name
abbrev pub reply_words : Data → List ℕ
reply_words reply =
    if is_accepted reply then codes "accepted" else codes "refused "
    ++ word_or_dash (option_and_then as_str (get (codes "refusal") reply))

-- the first four columns: the number, the moment, the clearance, who
unfoldable pub given_columns : ℤ → Receipt → Command → Data → List ℕ
given_columns offset receipt q reply =
    decimal receipt.number ++ codes "  " ++ when q.kind q.moment offset ++ codes "  "
    ++ id_or_dash (clearance_of (command q) reply) ++ codes "  " ++ who q receipt ++ codes "  "

-- the others: what, and the reply
unfoldable pub said_columns : List Entry → Command → Data → List ℕ
said_columns older q reply = words older q.kind ++ codes "  " ++ reply_words reply ++ codes "\n"

-- THE LINE OF A COMMAND AND ITS REPLY, after the lines before it, of which the newest come first
abbrev pub carried_line : ℤ → List Entry → Receipt → Command → Data → List ℕ
carried_line offset older receipt q reply =
    given_columns offset receipt q reply ++ said_columns older q reply

-- when a line was received; a dash after the end of 2099
abbrev pub received_text : ℤ → Option ℕ → List ℕ
received_text offset None = codes "-"
received_text offset (Some seconds) = moment_text seconds offset

-- the first columns of a line that has no caller: the number, and when it was received
unfoldable pub received_columns : ℤ → Receipt → List ℕ
received_columns offset receipt =
    decimal receipt.number ++ codes "  " ++ received_text offset (new_moment receipt.received)
    ++ codes "  -  -  "

-- THE LINES OF AN UPDATE: its own, and one for each thing that changes
unfoldable pub updated_lines : ℤ → Receipt → Changes → List ℕ
updated_lines offset receipt of =
    received_columns offset receipt ++ codes "update  accepted\n" ++ change_lines of

-- THE LINE OF AN ARCHIVE
unfoldable pub archived_line : ℤ → Receipt → ℕ → List ℕ
archived_line offset receipt before =
    received_columns offset receipt ++ codes "archive before " ++ moment_text before offset
    ++ codes "  accepted\n"

-- one that withdraws
unfoldable pub withdrawn_line : List Entry → ℕ → List ℕ
withdrawn_line older n =
    decimal n ++ codes "  -  " ++ id_or_dash (last_clearance older)
    ++ codes "  -  -  withdrawn\n"

abbrev pub entry_line : ℤ → List Entry → Entry → List ℕ
entry_line offset older (carried receipt (command q) reply) =
    carried_line offset older receipt q reply
entry_line offset older (carried receipt (update of) reply) = updated_lines offset receipt of
entry_line offset older (carried receipt (archive before) reply) =
    archived_line offset receipt before
entry_line offset older (withdrawn n) = withdrawn_line older n

abbrev pub if_wanted : Bool → List ℕ → List ℕ
if_wanted b text = if b then text else []

unfoldable pub log_from : Option Id → ℤ → List Entry → List Entry → List ℕ
log_from wanted offset older [] = []
log_from wanted offset older (entry ∷ rest) =
    if_wanted (is_wanted wanted (line_clearance older entry)) (entry_line offset older entry)
    ++ log_from wanted offset (entry ∷ older) rest

-- THE LOG of a journal's lines, or of those about one clearance
abbrev pub log_text : Option Id → ℤ → List Entry → List ℕ
log_text wanted offset entries = log_from wanted offset [] entries
