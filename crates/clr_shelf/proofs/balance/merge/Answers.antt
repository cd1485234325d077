use Rattle.std.proofs.Common.{◌≡◌, ℕ, ◌+◌, ◌-◌, ◌<◌, ◌≤◌, subst, arith}
use Rattle.clr_shelf.specs.Blocks.{parts_of, size_at, IsThinned}
use Rattle.clr_shelf.specs.declared.block.TheConstants.{SIZE}
use Rattle.clr_shelf.proofs.Parts.{size_read, size_past, length-parts}
use Rattle.clr_shelf.proofs.Spread.{kept, joined_left, joined_right}
use Rattle.clr_shelf.proofs.balance.merge.Goals.{else-k-gt0-via-then-k-gt0+else-len-le-SIZE, else-k-gt0-via-else-k-gt0, else-k-len-via-then-k-len+else-len-le-SIZE-2, else-k-len-via-else-k-len}
use Rattle.clr_shelf.proofs.balance.merge.Goals as goal

pub returns-then-len-le-SIZE-clause-spread : goal.returns-then-len-le-SIZE-clause-spread
returns-then-len-le-SIZE-clause-spread g c =
    let blocks = c.args.blocks.now.items in
    let sizes = size_at (parts_of blocks) in
    let k = c.args.k in
    let is : k ≡ k - 1 + 1 = omega arith in
    let before = size_read blocks (k - 1) c.index.result.now (omega arith) c.index.ensures in
    let here = size_read blocks k c.index-then-k-gt0.result.now (omega arith)
    c.index-then-k-gt0.ensures in
    let room : sizes (k - 1) + sizes k ≤ SIZE = omega (arith, before, here) in
    joined_left SIZE sizes (size_at (parts_of c.join.new.blocks.items)) (k - 1)
    (subst (λ n. IsThinned SIZE n sizes) is c.requires.thinned)
    (subst (λ n. sizes (k - 1) + sizes n ≤ SIZE) is room) c.join.ensures.sizes

-- with the block before, if there is one, it is filled
pub returns-then-len-le-SIZE-2-clause-spread : goal.returns-then-len-le-SIZE-2-clause-spread
returns-then-len-le-SIZE-2-clause-spread g c =
    let blocks = c.args.blocks.now.items in
    let sizes = size_at (parts_of blocks) in
    let k = c.args.k in
    let here = size_read blocks k c.index-then-k-len.result.now (omega arith)
    c.index-then-k-len.ensures in
    let next = size_read blocks (k + 1) c.index-then-k-len-2.result.now (omega arith)
    c.index-then-k-len-2.ensures in
    let before : (j : ℕ) → j + 1 ≡ k → SIZE < sizes j + sizes k = λ j is. elim c.else-k-gt0.branch [
      | else-k-gt0-via-then-k-gt0+else-len-le-SIZE w ↦
          let size = size_read blocks (k - 1) w.index.result.now (omega arith) w.index.ensures in
          let own = size_read blocks k w.index-then-k-gt0.result.now (omega arith)
          w.index-then-k-gt0.ensures in
          let at : k - 1 ≡ j = omega arith in
          subst (λ n. SIZE < sizes n + sizes k) at (omega (arith, size, own))
      | else-k-gt0-via-else-k-gt0 w ↦ absurd (omega arith)
    ] in
    joined_right SIZE sizes (size_at (parts_of c.join-then-len-le-SIZE-2.new.blocks.items)) k
    c.requires.thinned before (omega (arith, here, next))
    c.join-then-len-le-SIZE-2.ensures.sizes

-- and so it is with the next
pub returns-else-k-len-clause-spread : goal.returns-else-k-len-clause-spread
returns-else-k-len-clause-spread g c =
    let blocks = c.args.blocks.now.items in
    let sizes = size_at (parts_of blocks) in
    let k = c.args.k in
    let before : (j : ℕ) → j + 1 ≡ k → SIZE < sizes j + sizes k = λ j is. elim c.else-k-gt0.branch [
      | else-k-gt0-via-then-k-gt0+else-len-le-SIZE w ↦
          let size = size_read blocks (k - 1) w.index.result.now (omega arith) w.index.ensures in
          let own = size_read blocks k w.index-then-k-gt0.result.now (omega arith)
          w.index-then-k-gt0.ensures in
          let at : k - 1 ≡ j = omega arith in
          subst (λ n. SIZE < sizes n + sizes k) at (omega (arith, size, own))
      | else-k-gt0-via-else-k-gt0 w ↦ absurd (omega arith)
    ] in
    let after : 0 < sizes (k + 1) → SIZE < sizes k + sizes (k + 1) = λ has. elim
    c.else-k-len.branch [
      | else-k-len-via-then-k-len+else-len-le-SIZE-2 w ↦
          let own = size_read blocks k w.index-then-k-len.result.now (omega arith)
          w.index-then-k-len.ensures in
          let next = size_read blocks (k + 1) w.index-then-k-len-2.result.now (omega arith)
          w.index-then-k-len-2.ensures in
          omega (arith, own, next)
      | else-k-len-via-else-k-len w ↦
          let none = size_past (parts_of blocks) (k + 1) (omega (arith, length-parts blocks)) in
          absurd (omega (arith, has, none))
    ] in
    kept SIZE sizes k c.requires.thinned before after

pub returns-then-len-le-SIZE-clause-before : goal.returns-then-len-le-SIZE-clause-before
returns-then-len-le-SIZE-clause-before g c = λ j sooner.
    c.join.ensures.sizes.before j (omega arith)

pub returns-then-len-le-SIZE-2-clause-before : goal.returns-then-len-le-SIZE-2-clause-before
returns-then-len-le-SIZE-2-clause-before g c = λ j sooner.
    c.join-then-len-le-SIZE-2.ensures.sizes.before j (omega arith)
