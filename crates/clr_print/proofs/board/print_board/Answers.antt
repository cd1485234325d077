use Rattle.std.proofs.Common.{◌≡◌, ◌∙◌, ◌++◌, ap, Bor, filter, map, string_bytes, FitsSigned, w16, to_z-of_z}
use Rattle.clr_rules.proofs.Common.{Grid, unplaced}
use Rattle.clr_print.specs.Printed.{board_of, is_open, jumper_lines}
use Rattle.clr_print.proofs.OpenPrinted.{open_printed}
use Rattle.clr_print.proofs.board.print_board.Goals as goal
use Rattle.clr_rules.specs.declared.record.Record.{Record}

pub returns : goal.returns
returns g c =
    let register = c.args.book.now.register in
    let fits : FitsSigned w16 c.args.offset = c.ranges.offset in
    let clock : c.new-clock.result ≡ c.args.offset = simp to_z-of_z at c.new-clock.ensures in
    let standing : map (λ (row : Bor Record). row.now) c.as_slice.result.now ≡ filter is_open register.records =
    ap (map (λ (row : Bor Record). row.now)) c.as_slice.ensures.value ∙ c.in_ok-standing.ensures ∙ open_printed register.records in
    let first : string_bytes c.in_ok-text.text ≡ board_of (filter is_open register.records) c.args.offset =
    c.in_ok-text.ensures ∙ (λ i. board_of (standing i) (clock i)) in
    let points : map unplaced c.points.result.now ≡ register.net.points =
    ap (map unplaced) c.points.ensures.rows ∙ ap (λ (net : Grid). net.points) c.network.ensures.register in
    c.in_ok-push_jumpers.ensures ∙ (λ i. first i ++ jumper_lines register.states (points i))
