-- A line that can be written is read from its text.
use Rattle.std.proofs.Common.{◌≡◌, ◌∙◌, ◌≤◌, ◌^◌, ℕ, Bool, true, List, Option, None, Some, nat_lt, codes, refl, ap, sym, arith, leb-true, lt-ltb, ltb-true, option_and_then}
use Rattle.std.proofs.lemmas.Bool.{and_parts, false≢true}
use Rattle.std.proofs.lemmas.Slice.Eq.{bytes_eq-Decides}
use Rattle.std.proofs.lemmas.Str.{is_utf8-from_IsUtf8}
use Rattle.std.specs.Prelude.{bytes_eq}
use Rattle.json.proofs.Printed.Utf8.{IsUtf8-are_ascii}
use Rattle.serde_json.specs.Data.{Data, Members, depth, member, no_members, object, string}
use Rattle.clr_changes.specs.Deeds.{Deed, archive, command, update}
use Rattle.clr_journal.proofs.Back.{change_values_are_plain, changes_read_back}
use Rattle.clr_journal.specs.Delta.{can_be_said}
use Rattle.clr_rules.specs.Moment.{is_moment}
use Rattle.clr_text.proofs.CommandsRead.{command_values_are_plain, command_values_read_back}
use Rattle.clr_text.proofs.PlainTexts.{members_of, object_plain, plain_values_read_back}
use Rattle.clr_text.specs.CommandLaws.{is_plain}
use Rattle.clr_text.specs.CommandText.{can_be_sent}
use Rattle.clr_text.specs.Json.{optional_data}
use Rattle.clr_journal.proofs.LinesRead.{archived_back, carried_back, carried_is_flat, updated_back, withdrawn_back}
use Rattle.clr_journal.specs.Laws.{LinesReadBack, can_be_written, is_done, is_done_member, is_no_login, login_is_text}
use Rattle.clr_journal.specs.Line.{Entry, archive_data, bare, carried, done, entry_data, line_in, read_line, withdrawn}
use Rattle.clr_journal.specs.declared.line.Receipt.{Receipt}

login_is_plain : (login : Option (List ℕ)) → login_is_text login ≡ true → is_plain (optional_data string login) ≡ true
login_is_plain None h = refl
login_is_plain (Some text) h = h

moment_is_whole : (before : ℕ) → is_moment before ≡ true → nat_lt before (2 ^ 64) ≡ true
moment_is_whole before h = let small = leb-true before 4102444799 h in lt-ltb before (2 ^ 64) (omega arith)

-- ---- an update, and an archive

no_login : (login : Option (List ℕ)) → is_no_login login ≡ true → None ≡ login
no_login None h = refl
no_login (Some text) h = absurd (false≢true h)

done_member : (ms : Members) → is_done_member ms ≡ true → member (codes "reply") (string (codes "accepted")) no_members ≡ ms
done_member (member key (string text) no_members) h =
    let both = and_parts (bytes_eq key (codes "reply")) (bytes_eq text (codes "accepted")) h in
    let key_is = (bytes_eq-Decides key (codes "reply")).0 both.0 in
    let text_is = (bytes_eq-Decides text (codes "accepted")).0 both.1 in
    λ i. member (sym key_is i) (string (sym text_is i)) no_members
done_member _ h = absurd (false≢true h)

done_is : (d : Data) → is_done d ≡ true → done ≡ d
done_is (object ms) h = ap object (done_member ms h)
done_is _ h = absurd (false≢true h)

done_is_plain : (d : Data) → is_done d ≡ true → is_plain d ≡ true
done_is_plain d h = sym (ap is_plain (done_is d h)) ∙ object_plain (members_of done) refl (is_utf8-from_IsUtf8 (codes "accepted") (IsUtf8-are_ascii (codes "accepted") refl), tt)

same_entry : (receipt : Receipt) (deed : Deed) (reply : Data) → is_no_login receipt.login ≡ true → is_done reply ≡ true → carried (bare receipt) deed done ≡ carried receipt deed reply
same_entry receipt deed reply login said =
    let none = no_login receipt.login login in
    let is = done_is reply said in
    λ i. carried (record receipt { login = none i }) deed (is i)

-- ---- the line and its value

abbrev pub reply_is_plain : Entry → Bool
reply_is_plain (carried receipt deed reply) = is_plain reply
reply_is_plain (withdrawn n) = true

-- its value is plain and does not nest deep, and it is read from it
pub record IsWritten (entry : Entry) : Type 0 where
  pub plain : is_plain (entry_data entry) ≡ true
  pub shallow : depth (entry_data entry) ≤ 127
  pub back : line_in (entry_data entry) ≡ Some entry
  pub reply : reply_is_plain entry ≡ true

pub is_written : (entry : Entry) → can_be_written entry ≡ true → IsWritten entry
is_written (carried receipt (command q) reply) h =
    let a = and_parts (nat_lt receipt.number (2 ^ 64)) _ h in
    let b = and_parts (nat_lt receipt.received (2 ^ 64)) _ a.1 in
    let c = and_parts (login_is_text receipt.login) _ b.1 in
    let d = and_parts (can_be_sent q) _ c.1 in
    let e = and_parts (is_plain reply) (nat_lt (depth reply) 127) d.1 in
    let deep = ltb-true (depth reply) 127 e.1 in
    let sent = command_values_are_plain q d.0 in
    record {
      plain =
          object_plain (members_of (entry_data (carried receipt (command q) reply))) refl
          (sent.0, (login_is_plain receipt.login c.0, (a.0, (b.0, (e.0, tt)))));
      shallow = carried_is_flat receipt q reply 126 (omega (arith, sent.1)) (omega (arith, deep));
      back = carried_back receipt q reply (command_values_read_back q d.0);
      reply = e.0;
    }
is_written (carried receipt (update of) reply) h =
    let a = and_parts (nat_lt receipt.number (2 ^ 64)) _ h in
    let b = and_parts (nat_lt receipt.received (2 ^ 64)) _ a.1 in
    let c = and_parts (is_no_login receipt.login) _ b.1 in
    let d = and_parts (can_be_said of) (is_done reply) c.1 in
    let said = change_values_are_plain of d.0 in
    record {
      plain = object_plain (members_of (entry_data (carried receipt (update of) reply))) refl (a.0, (b.0, (said.0, tt)));
      shallow = omega (arith, said.1);
      back = updated_back receipt of reply (changes_read_back of d.0) ∙ ap Some (same_entry receipt (update of) reply c.0 d.1);
      reply = done_is_plain reply d.1;
    }
is_written (carried receipt (archive before) reply) h =
    let a = and_parts (nat_lt receipt.number (2 ^ 64)) _ h in
    let b = and_parts (nat_lt receipt.received (2 ^ 64)) _ a.1 in
    let c = and_parts (is_no_login receipt.login) _ b.1 in
    let d = and_parts (is_moment before) (is_done reply) c.1 in
    record {
      plain =
          object_plain (members_of (entry_data (carried receipt (archive before) reply))) refl
          (object_plain (members_of (archive_data before)) refl (moment_is_whole before d.0, tt), (a.0, (b.0, tt)));
      shallow = omega arith;
      back = archived_back receipt before reply d.0 ∙ ap Some (same_entry receipt (archive before) reply c.0 d.1);
      reply = done_is_plain reply d.1;
    }
is_written (withdrawn n) h = record {
  plain = object_plain (members_of (entry_data (withdrawn n))) refl (h, (refl, tt));
  shallow = omega arith;
  back = withdrawn_back n;
  reply = refl;
}

pub lines_read_back : LinesReadBack
unfolding read_line
lines_read_back entry h =
    let it = is_written entry h in
    ap (option_and_then line_in) (plain_values_read_back (entry_data entry) it.plain it.shallow) ∙ it.back
