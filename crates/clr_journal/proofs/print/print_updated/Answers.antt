use Rattle.std.proofs.Common.{◌≡◌, ◌∙◌, ◌≤◌, Some, false, ap, arith, IsUtf8, string_bytes, subst}
use Rattle.serde_json.specs.Data.{depth}
use Rattle.serde_json.specs.View.{view}
use Rattle.serde_json.specs.Written.{compact_text, has_float}
use Rattle.clr_changes.specs.Deeds.{update}
use Rattle.clr_journal.proofs.Back.{change_values_are_plain, changes_read_back}
use Rattle.clr_update.specs.Shown.{as_changes}
use Rattle.clr_journal.specs.Line.{Entry, bare, carried, done}
use Rattle.clr_journal.proofs.LinesRead.{line_back, updated_back, updated_has_none}
use Rattle.clr_journal.proofs.print.print_updated.Goals as goal

pub returns-clause-text : goal.returns-clause-text
returns-clause-text c =
    let e = c.in_ok-value.ensures in
    let none : has_float (view c.in_ok-value.value) ≡ false = rw e (updated_has_none c.args.receipt.now (as_changes c.args.changes.now)) in
    c.in_ok-text.ensures.text none ∙ ap compact_text e

pub returns-clause-reads : goal.returns-clause-reads
returns-clause-reads c open_all =
    let receipt = c.args.receipt.now in
    let of = as_changes c.args.changes.now in
    let entry : Entry = carried (bare receipt) (update of) done in
    let e = c.in_ok-value.ensures in
    let said = c.can_be_said.ensures open_all in
    let flat = (change_values_are_plain of said).1 in
    let shallow : depth (view c.in_ok-value.value) ≤ 127 = rw e (omega (arith, flat)) in
    let utf8 : IsUtf8 (string_bytes c.in_ok-text.text) = subst IsUtf8 c.as_str-bytes.ensures.value c.as_str-bytes.utf8 in
    line_back (string_bytes c.in_ok-text.text) entry utf8 (c.in_ok-text.ensures.reads_back shallow ∙ ap Some e) (updated_back receipt of done (changes_read_back of said))
