use Rattle.std.proofs.Common.{◌≡◌, ◌∙◌, ◌-◌, ap, drop, length, sym, take, true, List, ℕ}
use Rattle.std.specs.Option.{option_map_or}
use Rattle.std.specs.Prelude.{Option, slice_get}
use Rattle.clr_journal.specs.Lines.{is_line_feed}
use Rattle.clr_journal.proofs.Pieces.{rest_of_slice}
use Rattle.clr_edge.specs.Lines.{held_of}
use Rattle.clr_edge.proofs.LineFeeds.{ends-last}
use Rattle.clr_edge.proofs.lines.Lines.ends_whole.Goals as goal

-- by the last byte of what is held
pub returns-in-Some : goal.returns-in-Some
returns-in-Some c =
    let lines = c.args.self.now in
    let read = c.deref.result.now in
    let same : take (length read - lines.given) (drop lines.given read) ≡ held_of lines = rest_of_slice lines.given read ∙ ap (drop lines.given) c.deref.ensures.value in
    ap (λ (o : Option ℕ). option_map_or is_line_feed o true)
    (c.in-Some.ensures.value ∙ ap (λ (l : List ℕ). slice_get l (length l - 1)) same) ∙ sym (ends-last (held_of lines))
