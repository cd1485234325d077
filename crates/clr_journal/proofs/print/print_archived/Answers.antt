use Rattle.std.proofs.Common.{◌≡◌, ◌∙◌, ◌≤◌, Some, true, ap, arith, IsUtf8, string_bytes, subst}
use Rattle.std.proofs.lemmas.Bool.{le-leb}
use Rattle.serde_json.specs.Data.{depth}
use Rattle.serde_json.specs.View.{view}
use Rattle.clr_changes.specs.Deeds.{archive}
use Rattle.clr_rules.specs.Moment.{is_moment}
use Rattle.clr_journal.specs.Line.{Entry, bare, carried, done}
use Rattle.clr_journal.proofs.LinesRead.{archived_back, line_back}
use Rattle.clr_journal.proofs.print.print_archived.Goals as goal

pub returns-clause-reads : goal.returns-clause-reads
returns-clause-reads c =
    let receipt = c.args.receipt.now in
    let entry : Entry = carried (bare receipt) (archive c.args.before) done in
    let e = c.in_ok-value.ensures in
    let value = c.seconds.ensures.value in
    let range = c.seconds.ensures.range in
    let moment : is_moment c.args.before ≡ true = le-leb c.args.before 4102444799 (omega (arith, value, range)) in
    let shallow : depth (view c.in_ok-value.value) ≤ 127 = rw e (omega arith) in
    let utf8 : IsUtf8 (string_bytes c.in_ok-text.text) = subst IsUtf8 c.as_str-bytes.ensures.value c.as_str-bytes.utf8 in
    line_back (string_bytes c.in_ok-text.text) entry utf8 (c.in_ok-text.ensures.reads_back shallow ∙ ap Some e) (archived_back receipt c.args.before done moment)
