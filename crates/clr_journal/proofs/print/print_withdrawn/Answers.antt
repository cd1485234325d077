use Rattle.std.proofs.Common.{◌∙◌, ◌≤◌, Some, ap, arith, IsUtf8, string_bytes, subst}
use Rattle.serde_json.specs.Data.{depth}
use Rattle.serde_json.specs.View.{view}
use Rattle.clr_journal.specs.Line.{withdrawn}
use Rattle.clr_journal.proofs.LinesRead.{line_back, withdrawn_back}
use Rattle.clr_journal.proofs.print.print_withdrawn.Goals as goal

pub returns-clause-reads : goal.returns-clause-reads
returns-clause-reads c =
    let e = c.in_ok-value.ensures in
    let shallow : depth (view c.in_ok-value.value) ≤ 127 = rw e (omega arith) in
    let utf8 : IsUtf8 (string_bytes c.in_ok-text.text) = subst IsUtf8 c.as_str-bytes.ensures.value c.as_str-bytes.utf8 in
    line_back (string_bytes c.in_ok-text.text) (withdrawn c.args.number) utf8 (c.in_ok-text.ensures.reads_back shallow ∙ ap Some e) (withdrawn_back c.args.number)
