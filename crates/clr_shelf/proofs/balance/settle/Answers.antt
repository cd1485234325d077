use Rattle.std.proofs.Common.{◌≡◌, ℕ, ◌+◌, ◌-◌, ◌≤◌, sym, subst, arith}
use Rattle.clr_shelf.specs.Blocks.{parts_of, size_at, IsCrowded}
use Rattle.clr_shelf.specs.declared.block.TheConstants.{SIZE}
use Rattle.clr_shelf.proofs.Parts.{size_read}
use Rattle.clr_shelf.proofs.Spread.{moved_left, moved_right, halved}
use Rattle.clr_shelf.proofs.balance.settle.Goals.{else-k-gt0-via-then-k-gt0+else-len-lt-SIZE-2, else-k-gt0-via-else-k-gt0}
use Rattle.clr_shelf.proofs.balance.settle.Goals as goal

pub returns-then-len-lt-SIZE-clause-spread : goal.returns-then-len-lt-SIZE-clause-spread
returns-then-len-lt-SIZE-clause-spread g c =
    let blocks = c.args.blocks.now.items in
    let sizes = size_at (parts_of blocks) in
    let k = c.args.k in
    let here = size_read blocks k c.index.result.now (omega arith) c.index.ensures in
    let next = size_read blocks (k + 1) c.index-2.result.now (omega arith) c.index-2.ensures in
    let full : sizes k ≡ SIZE + 1 = omega (arith, here) in
    moved_right SIZE sizes (size_at (parts_of c.move_right.new.blocks.items)) k c.requires.crowded
    full (omega (arith, next)) c.move_right.ensures.sizes

pub returns-then-len-lt-SIZE-clause-before : goal.returns-then-len-lt-SIZE-clause-before
returns-then-len-lt-SIZE-clause-before g c = λ j sooner.
    c.move_right.ensures.sizes.others j (omega arith) (omega arith)

pub returns-then-len-lt-SIZE-2-clause-spread : goal.returns-then-len-lt-SIZE-2-clause-spread
returns-then-len-lt-SIZE-2-clause-spread g c =
    let blocks = c.args.blocks.now.items in
    let sizes = size_at (parts_of blocks) in
    let k = c.args.k in
    let is : k ≡ k - 1 + 1 = omega arith in
    let here = size_read blocks k c.index.result.now (omega arith) c.index.ensures in
    let before = size_read blocks (k - 1) c.index-then-k-gt0.result.now (omega arith)
    c.index-then-k-gt0.ensures in
    let full : sizes k ≡ SIZE + 1 = omega (arith, here) in
    moved_left SIZE sizes (size_at (parts_of c.move_left.new.blocks.items)) (k - 1)
    (subst (λ n. IsCrowded SIZE n sizes) is c.requires.crowded)
    (subst (λ n. sizes n ≡ SIZE + 1) is full) (omega (arith, before)) c.move_left.ensures.sizes

pub returns-then-len-lt-SIZE-2-clause-before : goal.returns-then-len-lt-SIZE-2-clause-before
returns-then-len-lt-SIZE-2-clause-before g c = λ j sooner.
    c.move_left.ensures.sizes.others j (omega arith) (omega arith)

-- the block before, if there is one, is full, and so is the next
pub returns-else-k-gt0-clause-spread : goal.returns-else-k-gt0-clause-spread
returns-else-k-gt0-clause-spread g c =
    let blocks = c.args.blocks.now.items in
    let sizes = size_at (parts_of blocks) in
    let k = c.args.k in
    let here = size_read blocks k c.index.result.now (omega arith) c.index.ensures in
    let next = size_read blocks (k + 1) c.index-2.result.now (omega arith) c.index-2.ensures in
    let full : sizes k ≡ SIZE + 1 = omega (arith, here) in
    let before : (j : ℕ) → j + 1 ≡ k → SIZE ≤ sizes j = λ j is. elim c.else-k-gt0.branch [
      | else-k-gt0-via-then-k-gt0+else-len-lt-SIZE-2 w ↦
          let size = size_read blocks (k - 1) w.index-then-k-gt0.result.now (omega arith)
          w.index-then-k-gt0.ensures in
          let at : k - 1 ≡ j = omega arith in
          subst (λ n. SIZE ≤ sizes n) at (omega (arith, size))
      | else-k-gt0-via-else-k-gt0 w ↦ absurd (omega arith)
    ] in
    halved SIZE sizes (size_at (parts_of c.split.new.blocks.items)) k c.requires.crowded full
    before (omega (arith, next)) c.split.ensures.sizes c.split.ensures.left
    c.split.ensures.given

pub returns-else-k-gt0-clause-before : goal.returns-else-k-gt0-clause-before
returns-else-k-gt0-clause-before g c = λ j sooner.
    sym (c.split.ensures.sizes.before j (omega arith))
