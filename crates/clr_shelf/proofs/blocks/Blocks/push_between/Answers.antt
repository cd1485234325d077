use Rattle.std.proofs.Common.{[], ◌∷◌, ◌++◌, get_or, map, sym, ◌∙◌, ap, arith, slice_range}
use Rattle.std.proofs.lemmas.List.{append_assoc, map_push}
use Rattle.std.proofs.lemmas.List.Edits.{between_more}
use Rattle.clr_shelf.specs.Items.{items_of}
use Rattle.clr_shelf.proofs.blocks.Blocks.push_between.Goals as goal

pub loop-place-preserved : goal.loop-place-preserved
loop-place-preserved g c =
    let all = items_of c.args.self.now in
    let place = c.loop-place.place in
    let item = c.at.result.now in
    let before = map (λ item. item.now) c.args.found.now.items in
    ap (map (λ item. item.now)) c.in_ok-push.ensures.items
    ∙ map_push (λ item. item.now) c.loop-place.found.items c.at.result
    ∙ (λ i. c.loop-place.invariant i ++ c.at.ensures i ∷ [])
    ∙ append_assoc before (slice_range all c.args.start place) (get_or all place item ∷ [])
    ∙ ap (λ more. before ++ more) (sym (between_more all c.args.start place item (omega arith) (omega arith)))
