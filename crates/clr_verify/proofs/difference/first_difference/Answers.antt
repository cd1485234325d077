use Rattle.std.proofs.Common.{◌∙◌, sym, ap, option_map}
use Rattle.clr_verify.proofs.Fronts.{found_at, longer_references}
use Rattle.clr_verify.proofs.difference.first_difference.Goals as goal

pub loop-place-preserved : goal.loop-place-preserved
loop-place-preserved g c =
    let left = c.get.ensures.lookup in
    let right = c.get-in-loop-place.ensures.lookup in
    let row = c.copied.ensures ∙ found_at c.get.result c.loop-place.place c.args.left.now left.1 left.3 in
    let other = c.copied-in-loop-place.ensures ∙ found_at c.get-in-loop-place.result c.loop-place.place c.args.right.now right.1 right.3 in
    longer_references c.loop-place.place c.args.left.now c.args.right.now c.loop-place.invariant
    (ap (option_map (λ row. row.now)) (sym row) ∙ c.in_default.ensures.same ∙ ap (option_map (λ row. row.now)) other)
