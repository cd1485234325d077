use Rattle.std.proofs.Common.{ℕ, IsTrue, List, arith, subst}
use Rattle.clr_journal.specs.Lines.{unfinished}
use Rattle.clr_chain.specs.Near.{found_near}
use Rattle.clr_chain.specs.Reading.{IsFoundNear}
use Rattle.clr_chain.proofs.Ending.{near_all}
use Rattle.clr_chain.proofs.looking.look_at.Goals as goal

pub returns-clause-found : goal.returns-clause-found
returns-clause-found g c =
    let place = c.args.place.now in
    let first = c.args.first.now in
    let within = c.requires.within in
    near_all place first (g.D.Disk.seen c.args.disk.now) c.in_ok-tail.tail.items c.args.len c.args.size c.in_ok-found.found (IsTrue (g.D.Disk.is_clean c.part_of.new.disk)) within
    (λ clean all. c.in_ok-tail.ensures.bytes clean (omega (arith, all, within)))
    (subst (λ (t : List ℕ). IsFoundNear (unfinished t) c.in_ok-found.found (found_near place first t)) c.deref.ensures.value c.in_ok-found.ensures.found)
