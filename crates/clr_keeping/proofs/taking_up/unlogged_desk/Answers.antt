use Rattle.std.proofs.Common.{◌≡◌, ◌∙◌, inr, subst, sym}
use Rattle.clr_book.specs.Book.{Shelved}
use Rattle.clr_rules.specs.Good.{IsGood}
use Rattle.clr_rules.specs.Staffed.{IsStaffed}
use Rattle.clr_keeping.specs.Keeping.{IsNotUp, IsReadFrom, unlogged}
use Rattle.clr_keeping.specs.TakenUp.{IsOfTakingUp}
use Rattle.clr_edge.proofs.Databases.{IfErr-passed}
use Rattle.clr_keeping.proofs.Keeping.{of_missing, refused_alone}
use Rattle.clr_keeping.proofs.TakenUp.{from_on_stays, misses_one, place_on_stays}
use Rattle.clr_keeping.proofs.taking_up.unlogged_desk.Goals as goal

-- it has no journal
pub returns-in-Ok-clause-up : goal.returns-in-Ok-clause-up
returns-in-Ok-clause-up g c =
    let up = c.in_ok-desk.ensures.up in
    let was = c.in_ok-desk.desk in
    let now = c.in-Ok.desk in
    let read = from_on_stays g.R.Tables.Store up.before was.store was.book.register up.taken_up.1 now.store c.in-Ok.ensures.read in
    record {
      before = up.before;
      middle = up.middle;
      opened = up.opened;
      mode = up.mode;
      good = subst (λ (b : Shelved). IsGood b.register) (sym c.in-Ok.ensures.book) up.good;
      staffed = subst (λ (b : Shelved). IsStaffed b.register) (sym c.in-Ok.ensures.book) up.staffed;
      uncounted = c.in-Ok.ensures.faults;
      taken_up = (
        up.taken_up.0,
        (
          subst (λ (b : Shelved). IsReadFrom g.R.Tables.Store up.before now.store b.register) (sym c.in-Ok.ensures.book) read,
          place_on_stays g.R.Tables.Store up.before was.store now.store up.taken_up.1.read c.in-Ok.ensures.read _ c.in-Ok.ensures.placed,
        ),
      );
    }

-- it has one, or its place was not read, and the database was closed
pub returns-in-Err-clause-none : goal.returns-in-Err-clause-none
returns-in-Err-clause-none g c =
    let up = c.in_ok-desk.ensures.up in
    let was = c.in_ok-desk.desk in
    inr (record {
      before = up.before;
      after = c.in-Err.connection;
      closed = c.close-closed.result;
      middle = up.middle;
      later = c.open_desk.new.rt;
      opened = up.opened;
      mode = up.mode;
      does = (
        up.taken_up.0,
        misses_one g.R.Tables.Store up.before was.store was.book.register up.taken_up.1 c.in-Err.connection c.in-Err.fault c.in-Err.ensures.read_too c.in-Err.ensures.missing,
      );
      ended = c.close-closed.ensures;
    })

pub returns-in-Err-clause-fault : goal.returns-in-Err-clause-fault
returns-in-Err-clause-fault g c = of_missing g.R.Tables.Store c.in_ok-desk.desk.store c.in-Err.fault c.in-Err.connection c.in-Err.ensures.missing

-- the register was refused
pub returns-in_err-desk-clause-none : goal.returns-in_err-desk-clause-none
returns-in_err-desk-clause-none g c =
    IfErr-passed _ _ (IsNotUp g.R.Databases.opens g.R.Databases.shuts g.R.Databases.ends c.args.path.now (unlogged g.R.Tables.Store) c.args.rt.now c.open_desk.new.rt)
    c.from_residual.ensures.1
    (refused_alone g.R.Tables.Store g.R.Databases.opens g.R.Databases.shuts g.R.Databases.ends c.args.path.now c.args.rt.now c.open_desk.new.rt _ c.in_err-desk.ensures.none)

pub returns-in_err-desk-clause-fault : goal.returns-in_err-desk-clause-fault
returns-in_err-desk-clause-fault g c = IfErr-passed _ _ (λ fault. IsOfTakingUp fault) c.from_residual.ensures.1 c.in_err-desk.ensures.fault
