use Rattle.std.proofs.Common.{◌≡◌, ◌++◌, arith, take}
use Rattle.std.proofs.lemmas.Grind.{common_steps}
use Rattle.clr_edge.specs.Lines.{held_of}
use Rattle.clr_edge.proofs.LineFeeds.{held-read, left-read}
use Rattle.clr_edge.proofs.lines.Lines.read_on.Goals as goal

-- what was read is held
pub returns-clause-left : goal.returns-clause-left
returns-clause-left g c =
    let items : c.extend_from_slice.new.self.items ≡ c.args.self.now.held.items ++ take c.in-Ok.count c.read_counted.new.buf = grind (arith, common_steps) in
    left-read (held_of c.args.self.now) _ (take c.in-Ok.count c.read_counted.new.buf) _ _
    (held-read c.args.self.now.given c.args.self.now.held.items (take c.in-Ok.count c.read_counted.new.buf) _ c.args.self.now.within items)
    c.in-Ok.ensures.bytes.0
