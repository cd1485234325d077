use Rattle.std.proofs.Common.{subst}
use Rattle.std.proofs.lemmas.List.{take_all}
use Rattle.clr_view.specs.Spread.{NoneLeaves, is_marked}
use Rattle.clr_view.specs.declared.spread.Link.{Link}
use Rattle.std.proofs.Common.{List}
use Rattle.clr_view.proofs.Spreading.{spread_on}
use Rattle.clr_view.proofs.spread.spread_once.Goals as goal

pub loop-link-preserved : goal.loop-link-preserved
loop-link-preserved c =
    let links = c.args.links.now in
    spread_on links c.loop-link.link-index c.args.marks.now c.loop-link.marks c.carry-there.new.marks c.carry-back.new.marks _
    c.loop-link.more c.carry-there.result c.carry-back.result c.loop-link-test.true c.loop-link.invariant c.carry-there.ensures c.carry-back.ensures

pub returns-clause-ended : goal.returns-clause-ended
returns-clause-ended c none =
    subst (λ (ls : List Link). NoneLeaves ls (is_marked c.loop-link.marks)) (take_all c.loop-link.link-index c.args.links.now c.loop-link-test.false)
    (c.loop-link.invariant.ended none)
