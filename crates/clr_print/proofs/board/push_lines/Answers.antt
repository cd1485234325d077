use Rattle.std.proofs.Common.{◌≡◌, ◌∙◌, ◌++◌, ap, string_bytes}
use Rattle.clr_print.specs.Printed.{board_line}
use Rattle.clr_print.proofs.LineLoops.{line_more}
use Rattle.clr_print.proofs.board.push_lines.Goals as goal

pub loop-row-preserved : goal.loop-row-preserved
loop-row-preserved c =
    let i = c.loop-row.row-index in
    let row = c.row-item.result in
    let written = string_bytes c.loop-row.out in
    let now : string_bytes c.push_str.new.self ≡ written ++ board_line c.args.clock row.now =
    c.in_ok-push_str.ensures.bytes
    ∙ ap (λ line. written ++ line) (c.as_str.ensures.value ∙ c.in_ok-line.ensures) in
    rw now
    (line_more (board_line c.args.clock) written c.args.standing.now i row _ c.row-item.is
    c.loop-row-test.true c.loop-row.invariant)
