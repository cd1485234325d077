use Rattle.std.proofs.Common.{◌≡◌, [], ◌∷◌, ◌++◌, ◌∙◌, ap, arith}
use Rattle.std.proofs.lemmas.List.{replicate_more}
use Rattle.clr_shelf.specs.Blocks.{parts_of}
use Rattle.clr_shelf.proofs.Parts.{parts-push}
use Rattle.clr_shelf.proofs.blocks.empty_blocks.Goals as goal

pub loop-preserved : goal.loop-preserved
loop-preserved g c =
    let none : c.in_ok-new.field-0.items.items ≡ [] = c.in_ok-new.ensures in (
      ap parts_of c.push_reserved.ensures.items ∙ parts-push c.loop.blocks.items c.in_ok-new.field-0
          ∙ (λ i. c.loop.invariant.0 i ++ none i ∷ []) ∙ replicate_more c.loop.counter [],
      omega arith,
      omega arith,
    )
