use Rattle.std.proofs.Common.{inr, subst}
use Rattle.clr_rules.specs.Good.{IsGood}
use Rattle.clr_rules.specs.Staffed.{IsStaffed}
use Rattle.clr_book.specs.Book.{Shelved}
use Rattle.clr_load.specs.declared.fault.StoreFault.TheVariants.{BadRow}
use Rattle.clr_edge.specs.Database.{IsOfUnfit}
use Rattle.clr_edge.proofs.Databases.{unfit_told}
use Rattle.clr_edge.proofs.database.expect_good.Goals as goal

-- the table is that of the first list that does not fit
pub returns-in-Some-clause-fault : goal.returns-in-Some-clause-fault
returns-in-Some-clause-fault g c =
    inr (subst (λ (book : Shelved). IsOfUnfit book.register (BadRow c.in-Some.table)) c.book.ensures
    (unfit_told c.book.result.now.register _ c.in-Some.table c.in-Some.is c.in_ok-found.ensures.first c.in_ok-found.ensures.good))

pub returns-in-None-clause-good : goal.returns-in-None-clause-good
returns-in-None-clause-good g c = subst (λ (book : Shelved). IsGood book.register) c.book.ensures (c.in_ok-found.ensures.good.0 c.in-None.is).0

pub returns-in-None-clause-staffed : goal.returns-in-None-clause-staffed
returns-in-None-clause-staffed g c = subst (λ (book : Shelved). IsStaffed book.register) c.book.ensures (c.in_ok-found.ensures.good.0 c.in-None.is).1
