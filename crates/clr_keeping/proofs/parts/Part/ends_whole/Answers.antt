use Rattle.clr_edge.specs.Lines.{held_of}
use Rattle.clr_keeping.proofs.PartLines.{held-ends}
use Rattle.clr_keeping.proofs.parts.Part.ends_whole.Goals as goal

pub returns : goal.returns
returns g c = λ end. held-ends (held_of c.args.self.now.lines) (g.S.Read.remaining c.args.self.now.source) c.ends_whole.result c.ends_whole.ensures end
