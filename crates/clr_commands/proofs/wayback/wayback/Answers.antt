use Rattle.std.proofs.Common.{◌≡◌, ap, subst, sym}
use Rattle.clr_book.specs.Book.{Shelved}
use Rattle.clr_rules.specs.IdText.{read_id}
use Rattle.clr_rules.specs.Register.{Register}
use Rattle.clr_rules.specs.Staffed.{IsStaffed}
use Rattle.clr_commands.specs.Answers.{IsMemory, Prints}
use Rattle.clr_commands.specs.WayBack.{GivesBackTo, IsOfWayBack, IsWayBackOf, way_back_asked_for}
use Rattle.clr_commands.proofs.Databases.{unvisited, visited}
use Rattle.clr_commands.proofs.Faults.{each_plain, passed, taking_up_plain, way_back_plain}
use Rattle.clr_commands.proofs.WaysBack.{both_print}
use Rattle.clr_commands.proofs.wayback.wayback.Goals as goal

-- the way back in the register of the database at the path
pub returns-clause-visit : goal.returns-clause-visit
returns-clause-visit g c =
    let same : c.end.result ≡ c.in_ok-desk.desk.store = cc in
    let register : c.parted-book.result.0.register ≡ c.in_ok-desk.desk.book.register = ap (λ (b : Shelved). b.register) c.parted-book.ensures.book in
    visited g.R.Tables.Store g.R.Databases.opens g.R.Databases.shuts g.R.Databases.ends c.args.args.now.database.now (λ fault. IsOfWayBack fault) (IsWayBackOf c.args.args.now) c.wayback_of-printed.result c.args.rt.now c.open_desk.new.rt
    c.close-closed.new.rt c.in_ok-desk.desk c.end.result c.close-closed.result c.in_ok-desk.ensures.up same c.close-closed.ensures
    (subst (λ (Q : Register). Prints IsMemory (IsWayBackOf c.args.args.now Q) c.wayback_of-printed.result) register
    (both_print (λ known. way_back_asked_for c.parted-book.result.0.register c.args.args.now ≡ known)
    (λ known. GivesBackTo c.parted-book.result.0.register (read_id c.args.args.now.clearance.now)) c.wayback_of-printed.result c.wayback_of-printed.ensures.answer
    (c.wayback_of-printed.ensures.back (subst IsStaffed (sym register) c.in_ok-desk.ensures.up.taken_up.1.fit.1))))
    c.wayback_of-printed.ensures.faults

pub returns-clause-faults : goal.returns-clause-faults
returns-clause-faults g c = each_plain c.wayback_of-printed.result (λ fault. IsOfWayBack fault) way_back_plain c.wayback_of-printed.ensures.faults

-- it was not taken up
pub returns-in_err-desk-clause-visit : goal.returns-in_err-desk-clause-visit
returns-in_err-desk-clause-visit g c =
    unvisited g.R.Tables.Store g.R.Databases.opens g.R.Databases.shuts g.R.Databases.ends c.args.args.now.database.now (λ fault. IsOfWayBack fault) (IsWayBackOf c.args.args.now) _ c.args.rt.now c.open_desk.new.rt _ c.from_residual.ensures.1 c.in_err-desk.ensures.none

pub returns-in_err-desk-clause-faults : goal.returns-in_err-desk-clause-faults
returns-in_err-desk-clause-faults g c = passed _ _ c.from_residual.ensures.1 (taking_up_plain _ c.in_err-desk.ensures.fault)
