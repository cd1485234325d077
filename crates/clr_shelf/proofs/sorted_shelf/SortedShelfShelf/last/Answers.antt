use Rattle.std.proofs.Common.{◌≡◌, ◌+◌, ◌-◌, ◌<◌, length, get_or, Some, None, sym, ◌∙◌, ap, arith}
use Rattle.std.specs.List.{last_or, slice_range}
use Rattle.std.proofs.lemmas.Option.{slice_get-get_or}
use Rattle.std.proofs.lemmas.List.Edits.{length-between, get_or-between}
use Rattle.clr_shelf.specs.Items.{items_of}
use Rattle.clr_shelf.proofs.GroupRuns.{last_or-slice_get}
use Rattle.clr_shelf.proofs.sorted_shelf.SortedShelfShelf.last.Goals as goal

-- the last place of the run has the last row of the group
pub returns-then-run : goal.returns-then-run
returns-then-run g c =
    let rows = items_of c.args.self.now.list in
    let start = c.places_of-run.result.start in
    let end = c.places_of-run.result.end in
    let run = slice_range rows start end in
    let row = c.at.result.now in
    let long : length run ≡ end - start = length-between rows start end
    c.places_of-run.ensures.in_range in
    let within : length run - 1 < length run = omega (arith, long) in
    let last : start + (length run - 1) ≡ end - 1 = omega (arith, long) in
    let read : get_or run (length run - 1) row ≡ row =
    get_or-between rows start end (length run - 1) row (omega (arith, long))
    ∙ ap (λ n. get_or rows n row) last ∙ sym c.at.ensures in
    sym (slice_get-get_or run (length run - 1) row within ∙ ap Some read)
    ∙ last_or-slice_get run ∙ ap (last_or None) c.places_of-run.ensures.run
