use Rattle.sqlite.specs.Held.{state}
use Rattle.clr_load.specs.RowsRead.{rows_read}
use Rattle.clr_desk.specs.Loaded.{HasRows}
use Rattle.clr_desk.proofs.RowsOpened.{fails_to_open, loaded, network_loaded, not_loaded, opened_cause}
use Rattle.clr_desk.proofs.opening.book_in.Goals as goal

pub returns-in-Ok-book_of-clause-tables : goal.returns-in-Ok-book_of-clause-tables
returns-in-Ok-book_of-clause-tables g c clean t has =
    let (rows, read, are) = c.in-Ok.ensures.rows clean t has in
    loaded (rows_read t) rows c.in-Ok-book_of.book read (c.in-Ok-book_of.ensures.register rows are) (c.in-Ok-book_of.ensures.none rows are)

pub returns-in-Ok-book_of-clause-network : goal.returns-in-Ok-book_of-clause-network
returns-in-Ok-book_of-clause-network g c clean t has =
    let (rows, read, are) = c.in-Ok.ensures.rows clean t has in
    network_loaded (rows_read t) rows c.in-Ok-book_of.book.network read (c.in-Ok-book_of.ensures.network rows are)

pub returns-in-Err-book_of-clause-tables : goal.returns-in-Err-book_of-clause-tables
returns-in-Err-book_of-clause-tables g c clean t has =
    let (rows, read, are) = c.in-Ok.ensures.rows clean t has in
    fails_to_open (rows_read t) rows c.in-Err-book_of.fault read (c.in-Err-book_of.ensures.fault rows are)

pub returns-in-Err-book_of-clause-cause : goal.returns-in-Err-book_of-clause-cause
returns-in-Err-book_of-clause-cause g c clean t has =
    let (rows, read, are) = c.in-Ok.ensures.rows clean t has in
    opened_cause rows c.in-Err-book_of.fault (state g.S.Store c.args.store.now) (state g.S.Store c.load_into.new.self) (c.in-Err-book_of.ensures.fault rows are)

pub returns-in-Err-clause-tables : goal.returns-in-Err-clause-tables
returns-in-Err-clause-tables g c clean t has = not_loaded HasRows (rows_read t) c.in-Err.fault (c.in-Err.ensures.rows clean t has)

pub returns-in-Err-clause-cause : goal.returns-in-Err-clause-cause
returns-in-Err-clause-cause g c clean t has = c.in-Err.ensures.cause clean t has
