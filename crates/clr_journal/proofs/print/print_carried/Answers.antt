use Rattle.std.proofs.Common.{◌≡◌, ◌∙◌, ◌≤◌, Some, false, ap, arith, IsUtf8, string_bytes, subst}
use Rattle.serde_json.specs.Data.{depth}
use Rattle.serde_json.specs.View.{view}
use Rattle.serde_json.specs.Written.{compact_text, has_float}
use Rattle.clr_text.proofs.CommandsRead.{command_values_are_plain, command_values_read_back}
use Rattle.clr_text.specs.Replies.{reply_data}
use Rattle.clr_changes.specs.Deeds.{command}
use Rattle.clr_journal.specs.Line.{Entry, carried}
use Rattle.clr_journal.proofs.LinesRead.{carried_back, carried_has_none, carried_is_flat, line_back}
use Rattle.clr_text.proofs.RepliesFlat.{reply_is_flat}
use Rattle.clr_journal.proofs.print.print_carried.Goals as goal

pub returns-clause-text : goal.returns-clause-text
returns-clause-text c =
    let e = c.in_ok-value.ensures in
    let none : has_float (view c.in_ok-value.value) ≡ false = rw e (carried_has_none c.args.receipt.now c.args.command.now c.args.reply.now) in
    c.in_ok-text.ensures.text none ∙ ap compact_text e

pub returns-clause-reads : goal.returns-clause-reads
returns-clause-reads c stated =
    let receipt = c.args.receipt.now in
    let q = c.args.command.now in
    let reply = c.args.reply.now in
    let entry : Entry = carried receipt (command q) (reply_data reply) in
    let e = c.in_ok-value.ensures in
    let sent = c.can_be_sent.ensures stated in
    let plain = (command_values_are_plain q sent).1 in
    let said = reply_is_flat reply in
    let whole = carried_is_flat receipt q (reply_data reply) 9 (omega (arith, plain)) said in
    let shallow : depth (view c.in_ok-value.value) ≤ 127 = rw e (omega (arith, whole)) in
    let utf8 : IsUtf8 (string_bytes c.in_ok-text.text) = subst IsUtf8 c.as_str-bytes.ensures.value c.as_str-bytes.utf8 in
    line_back (string_bytes c.in_ok-text.text) entry utf8 (c.in_ok-text.ensures.reads_back shallow ∙ ap Some e) (carried_back receipt q (reply_data reply) (command_values_read_back q sent))
