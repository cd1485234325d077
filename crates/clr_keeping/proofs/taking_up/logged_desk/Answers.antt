use Rattle.std.proofs.Common.{◌≡◌, ◌∙◌, inr, subst, sym}
use Rattle.clr_keeping.specs.Keeping.{IsNotUp, logged}
use Rattle.clr_keeping.specs.TakenUp.{IsOfTakingUp, logs}
use Rattle.clr_edge.proofs.Databases.{IfErr-passed}
use Rattle.clr_keeping.proofs.Keeping.{refused_too}
use Rattle.clr_keeping.proofs.TakenUp.{not_up, takes_up}
use Rattle.clr_keeping.proofs.taking_up.logged_desk.Goals as goal

-- it was given its journal
pub returns-in-Ok-clause-up : goal.returns-in-Ok-clause-up
returns-in-Ok-clause-up g c =
    let up = c.in_ok-desk.ensures.up in
    let was = c.in_ok-desk.desk in
    let now = c.in-Ok.desk in
    let given = c.in-Ok.ensures.taken in
    record {
      before = up.before;
      middle = c.open_desk.new.rt;
      opened = subst (λ (m : _). g.R.Databases.opens c.args.rt.now c.args.path.now up.before m) (sym up.taken_up.0) up.opened;
      mode = up.mode;
      good = given.kept.good up.good;
      staffed = (given.fit (up.good, up.staffed)).1;
      uncounted = c.in-Ok.ensures.faults;
      taken_up = takes_up g.R.Tables.Store up.before was.store was.book.register up.taken_up.1
          (logs g.R.Journals g.R.Log.Journal g.R.Time.Clock.shows) c.args.journal.now c.open_desk.new.rt c.logged.new.rt now.store now.book.register given;
    }

-- it was not, and the database was closed
pub returns-in-Err-clause-none : goal.returns-in-Err-clause-none
returns-in-Err-clause-none g c =
    let up = c.in_ok-desk.ensures.up in
    let was = c.in_ok-desk.desk in
    inr (record {
      before = up.before;
      after = c.in-Err.connection;
      closed = c.close-closed.result;
      middle = c.open_desk.new.rt;
      later = c.logged.new.rt;
      opened = subst (λ (m : _). g.R.Databases.opens c.args.rt.now c.args.path.now up.before m) (sym up.taken_up.0) up.opened;
      mode = up.mode;
      does = not_up g.R.Tables.Store up.before was.store was.book.register up.taken_up.1
          (logs g.R.Journals g.R.Log.Journal g.R.Time.Clock.shows) c.args.journal.now c.open_desk.new.rt c.logged.new.rt c.in-Err.fault c.in-Err.connection
          c.in-Err.ensures.refused;
      ended = c.close-closed.ensures;
    })

-- the register was refused
pub returns-in_err-desk-clause-none : goal.returns-in_err-desk-clause-none
returns-in_err-desk-clause-none g c =
    IfErr-passed _ _ (IsNotUp g.R.Databases.opens g.R.Databases.shuts g.R.Databases.ends c.args.path.now
    (logged g.R.Tables.Store (logs g.R.Journals g.R.Log.Journal g.R.Time.Clock.shows) c.args.journal.now) c.args.rt.now c.open_desk.new.rt) c.from_residual.ensures.1
    (refused_too g.R.Tables.Store g.R.Databases.opens g.R.Databases.shuts g.R.Databases.ends c.args.path.now c.args.journal.now
    (logs g.R.Journals g.R.Log.Journal g.R.Time.Clock.shows) c.args.rt.now c.open_desk.new.rt _ c.in_err-desk.ensures.none)

pub returns-in_err-desk-clause-fault : goal.returns-in_err-desk-clause-fault
returns-in_err-desk-clause-fault g c = IfErr-passed _ _ (λ fault. IsOfTakingUp fault) c.from_residual.ensures.1 c.in_err-desk.ensures.fault
