use Rattle.std.proofs.Common.{rules, ◌∙◌, ap, refl, subst, sym, Ok}
use Rattle.sqlite.specs.Held.{state}
use Rattle.sqlite.specs.State.{HasCleanDisk}
use Rattle.clr_book.specs.Book.{Shelved}
use Rattle.clr_load.specs.RowsRead.{rows_read}
use Rattle.clr_load.specs.Tables.{tables_of}
use Rattle.clr_desk.specs.Opening.{HasNetworkOf, OpensAs}
use Rattle.clr_desk.proofs.RowsOpened.{fails_by_database, opened_again}
use Rattle.clr_desk.proofs.OneCommand.{of_command}
use Rattle.clr_desk.proofs.Opened.{shut_or_open}
use Rattle.clr_desk.proofs.desk.Desk+Store+S.open.Goals as goal

pub returns-in-Ok-clause-opened : goal.returns-in-Ok-clause-opened
returns-in-Ok-clause-opened g c clean t has =
    let early = subst (λ h. HasCleanDisk (state g.S.Store h)) c.over.ensures.store clean in
    subst (λ (b : Shelved). OpensAs (λ (book : Shelved). book.register) (rows_read t) (Ok b)) (sym c.over.ensures.book)
    (c.in-Ok.ensures.tables early t has)

pub returns-in-Ok-clause-network : goal.returns-in-Ok-clause-network
returns-in-Ok-clause-network g c clean t has =
    let early = subst (λ h. HasCleanDisk (state g.S.Store h)) c.over.ensures.store clean in
    subst (λ (b : Shelved). HasNetworkOf (rows_read t) b.network) (sym c.over.ensures.book)
    (c.in-Ok.ensures.network early t has)

pub returns-in-Ok-clause-again : goal.returns-in-Ok-clause-again
returns-in-Ok-clause-again g c clean R good has =
    let early = subst (λ h. HasCleanDisk (state g.S.Store h)) c.over.ensures.store clean in
    ap (λ (book : Shelved). book.register) c.over.ensures.book
    ∙ opened_again R good c.in-Ok.book (rows_read (tables_of R)) refl (c.in-Ok.ensures.tables early (tables_of R) has)

pub returns-in-Err-clause-cause : goal.returns-in-Err-clause-cause
returns-in-Err-clause-cause g c clean R good typed has =
    of_command c.in-Err.fault c.from.result
    (fails_by_database R good typed c.in-Err.fault (c.in-Err.ensures.tables clean (tables_of R) has)) (search rules)

pub returns-in-Err-clause-shut : goal.returns-in-Err-clause-shut
returns-in-Err-clause-shut g c clean =
    shut_or_open _ c.in-Err.fault c.from.result (c.in-Err.ensures.was_open clean) (search rules)

pub returns-in-Err-clause-refused : goal.returns-in-Err-clause-refused
returns-in-Err-clause-refused g c =
    (c.in-Err.fault, c.from.ensures, λ clean t has. (c.in-Err.ensures.tables clean t has, c.in-Err.ensures.cause clean t has))
