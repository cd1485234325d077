use Rattle.std.proofs.Common.{Bool, IsTrue, inr, subst}
use Rattle.clr_chain.proofs.Opened.{not_cut}
use Rattle.clr_chain.proofs.opening.open_chain.Goals as goal

pub returns-in-Err-cut_synced-clause-left : goal.returns-in-Err-cut_synced-clause-left
returns-in-Err-cut_synced-clause-left g c clean =
    let read = c.in-Ok.ensures.read in
    let back = c.in-Err-cut_synced.ensures in
    let calm : IsTrue (g.D.Disk.is_clean c.ahead_on.new.disk) = subst (λ (b : Bool). IsTrue b) back.calm clean in
    inr (not_cut g.D.Disk.seen g.D.Disk.may_leave g.D.Disk.faults c.args.place.now c.args.disk c.ahead_on.new.disk c.in-Err-cut_synced.disk c.in-Ok.ahead c.in-Ok.end
    read.same read.no_more c.in-Ok.ensures.counts (c.in-Ok.ensures.opened calm) (c.in-Ok.ensures.all calm) back.seen back.kept back.cause)
