use Rattle.std.proofs.Common.{rules}
use Rattle.clr_verify.proofs.Same.{all_same}
use Rattle.clr_verify.proofs.registers.compare.Goals as goal

pub returns : goal.returns
returns g c =
    all_same c.args.left.now.register c.args.right.now.register (search rules) (search rules) (search rules) (search rules) (search rules) (search rules)
