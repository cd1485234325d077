use Rattle.std.proofs.Common.{[], ◌∷◌, ◌++◌, map, sym, ◌∙◌, ap, arith}
use Rattle.std.proofs.lemmas.List.{map_push}
use Rattle.std.proofs.lemmas.List.Edits.{between_more}
use Rattle.clr_shelf.specs.Items.{items_of}
use Rattle.clr_shelf.proofs.blocks.Blocks.between.Goals as goal

pub loop-place-preserved : goal.loop-place-preserved
loop-place-preserved g c =
    let all = items_of c.args.self.now in
    let place = c.loop-place.place in
    let item = c.at.result.now in
    record {
      items = ap (map (λ item. item.now)) c.push_reserved.ensures.items
          ∙ map_push (λ item. item.now) c.loop-place.found.items c.at.result
          ∙ (λ i. c.loop-place.invariant.items i ++ c.at.ensures i ∷ [])
          ∙ sym (between_more all c.args.start place item (omega arith) (omega arith));
      counts = omega (arith, c.loop-place.invariant.counts);
      room = omega (arith, c.loop-place.invariant.room);
    }
