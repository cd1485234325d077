-- A line is read from its value, and from its text.
use Rattle.std.proofs.Common.{◌≡◌, ◌∙◌, ◌≤◌, ◌+◌, ℕ, true, false, List, Option, None, Some, Result, Ok, option_map, option_and_then, IsUtf8, refl, ap, ap₂, arith}
use Rattle.std.specs.Result.{result_ok}
use Rattle.serde_json.specs.Data.{Data, depth, string}
use Rattle.serde_json.specs.Read.{read}
use Rattle.serde_json.specs.Written.{has_float}
use Rattle.clr_changes.specs.Deeds.{archive, command, update}
use Rattle.clr_journal.proofs.NoFloats.{in_changes}
use Rattle.clr_journal.specs.Delta.{changes_data, changes_in}
use Rattle.clr_rules.specs.Moment.{is_moment}
use Rattle.clr_rules.specs.declared.command.Command.{Command}
use Rattle.clr_rules.specs.declared.reply.Reply.{Reply}
use Rattle.clr_text.proofs.NoFloats.{in_command, in_optional, in_reply}
use Rattle.clr_text.proofs.RepliesFlat.{optional_is_flat}
use Rattle.clr_text.specs.CommandText.{command_data}
use Rattle.clr_text.specs.Json.{optional_data, whole_data}
use Rattle.clr_text.specs.Reading.{command_in}
use Rattle.clr_text.specs.Replies.{reply_data}
use Rattle.clr_text.specs.Values.{moment_in}
use Rattle.clr_update.specs.Changes.{Changes}
use Rattle.clr_text.specs.declared.fault.TextFault.{TextFault}
use Rattle.clr_journal.proofs.Values.{there}
use Rattle.clr_journal.specs.Line.{Entry, bare, carried, withdrawn, entry_data, done, line_in, login_in, read_line}
use Rattle.clr_journal.specs.declared.line.Receipt.{Receipt}

login_back : (login : Option (List ℕ)) → login_in (optional_data string login) ≡ Some login
login_back None = refl
login_back (Some s) = refl

pub carried_back : (receipt : Receipt) (q : Command) (reply : Data) → command_in (command_data q) ≡ Ok q
    → line_in (entry_data (carried receipt (command q) reply)) ≡ Some (carried receipt (command q) reply)
carried_back receipt q reply is =
    let from : Option (Option (List ℕ)) → Result Command TextFault → Option Entry = λ login found.
    option_and_then (λ (r : Receipt). option_and_then (λ (c : Command). Some (carried r (command c) reply)) (result_ok found))
    (option_map (λ (o : Option (List ℕ)). record { number = receipt.number; received = receipt.received; login = o }) login) in
    ap₂ from (login_back receipt.login) is

pub updated_back : (receipt : Receipt) (of : Changes) (reply : Data) → changes_in (changes_data of) ≡ Some of
    → line_in (entry_data (carried receipt (update of) reply)) ≡ Some (carried (bare receipt) (update of) done)
updated_back receipt of reply is = ap (option_map (λ (changes : Changes). carried (bare receipt) (update changes) done)) is

pub archived_back : (receipt : Receipt) (before : ℕ) (reply : Data) → is_moment before ≡ true
    → line_in (entry_data (carried receipt (archive before) reply)) ≡ Some (carried (bare receipt) (archive before) done)
archived_back receipt before reply is =
    let read : moment_in (whole_data before) ≡ Some before = rw is refl in
    ap (option_map (λ (moment : ℕ). carried (bare receipt) (archive moment) done)) read

pub withdrawn_back : (n : ℕ) → line_in (entry_data (withdrawn n)) ≡ Some (withdrawn n)
withdrawn_back n = refl

-- a text that reads as the value of a line reads as that line
pub line_back : (bytes : List ℕ) (entry : Entry) → IsUtf8 bytes → read bytes ≡ Some (entry_data entry) → line_in (entry_data entry) ≡ Some entry
    → read_line bytes ≡ Some entry
unfolding read_line
line_back bytes entry utf8 reads is = ap (option_and_then line_in) (there bytes (entry_data entry) utf8 reads) ∙ is

pub carried_has_none : (receipt : Receipt) (q : Command) (reply : Reply) → has_float (entry_data (carried receipt (command q) (reply_data reply))) ≡ false
carried_has_none receipt q reply = rw (in_command q, in_optional string (λ s. refl) receipt.login, in_reply reply) refl

pub updated_has_none : (receipt : Receipt) (of : Changes) → has_float (entry_data (carried receipt (update of) done)) ≡ false
updated_has_none receipt of = rw (in_changes of) refl

pub carried_is_flat : (receipt : Receipt) (q : Command) (reply : Data) (n : ℕ) → depth (command_data q) ≤ n → depth reply ≤ n → depth (entry_data (carried receipt (command q) reply)) ≤ n + 1
carried_is_flat receipt q reply n flat said = let login = optional_is_flat string (λ s. omega arith) receipt.login in omega (arith, flat, said, login)
