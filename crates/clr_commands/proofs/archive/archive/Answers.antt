use Rattle.std.proofs.Common.{◌≡◌, refl, subst}
use Rattle.clr_keeping.specs.Keeping.{IsUpWith, plain_keeper}
use Rattle.clr_keeping.specs.TakenUp.{logs}
use Rattle.clr_keeping.proofs.Keeping.{not_worked_either}
use Rattle.clr_edge.specs.Visit.{first_fault}
use Rattle.clr_commands.specs.Archive.{ArchivesAlone, ArchivesLogged}
use Rattle.clr_commands.proofs.Archived.{archived_alone, archived_level, up_good}
use Rattle.clr_commands.proofs.archive.archive.Goals as goal

-- a register that was taken up is good
pub archive_logged-archived-requires : goal.archive_logged-archived-requires
archive_logged-archived-requires g c =
    up_good g.R.Tables.Store g.R.Databases.opens c.args.args.now.database.now (logs g.R.Journals g.R.Log.Journal g.R.Time.Clock.shows) c.args.args.now.journal
    c.args.rt.now c.take_up.new.rt c.in-Logged.desk
    (subst (λ opened. IsUpWith g.R.Tables.Store g.R.Databases.opens c.args.args.now.database.now (logs g.R.Journals g.R.Log.Journal g.R.Time.Clock.shows)
    c.args.args.now.journal c.args.rt.now c.take_up.new.rt opened) c.in-Logged.is c.in_ok-opened.ensures.up)

-- the register of the database at the path was archived, without a journal
pub returns-in-Plain : goal.returns-in-Plain
returns-in-Plain g c =
    let by = logs g.R.Journals g.R.Log.Journal g.R.Time.Clock.shows in
    let same : c.end.result ≡ c.archive_desk-archived.result.1 = cc in
    record {
      visit =
          archived_alone (g.W.CountedWrite.stream c.args.output.now) (g.W.CountedWrite.stream c.archive_desk-archived.new.output) by g.R.Tables.Store
          g.R.Databases.opens g.R.Databases.shuts g.R.Databases.ends c.args.args.now c.moment_of-before.result c.archive_desk-archived.result.0 c.first_fault.result
          c.close-closed.result c.args.rt.now c.take_up.new.rt c.close-closed.new.rt c.in-Plain.desk c.archive_desk-archived.result.1 c.end.result
          (subst (λ opened. IsUpWith g.R.Tables.Store g.R.Databases.opens c.args.args.now.database.now by c.args.args.now.journal c.args.rt.now c.take_up.new.rt opened)
          c.in-Plain.is c.in_ok-opened.ensures.up)
          c.moment_of-before.ensures c.archive_desk-archived.ensures same c.close-closed.ensures c.first_fault.ensures;
    }

-- or with one
pub returns-in-Logged : goal.returns-in-Logged
returns-in-Logged g c =
    let by = logs g.R.Journals g.R.Log.Journal g.R.Time.Clock.shows in
    record {
      visit =
          archived_level (g.W.CountedWrite.stream c.args.output.now) (g.W.CountedWrite.stream c.archive_logged-archived.new.output) by g.R.Tables.Store
          g.R.Databases.opens g.R.Databases.shuts g.R.Databases.ends c.args.args.now c.moment_of-before.result c.archive_logged-archived.result.0 c.first_fault-in-Logged.result
          c.let_go-closed.result c.args.rt.now c.take_up.new.rt c.let_go-closed.new.rt c.in-Logged.desk c.archive_logged-archived.result.1
          (subst (λ opened. IsUpWith g.R.Tables.Store g.R.Databases.opens c.args.args.now.database.now by c.args.args.now.journal c.args.rt.now c.take_up.new.rt opened)
          c.in-Logged.is c.in_ok-opened.ensures.up)
          c.moment_of-before.ensures c.archive_logged-archived.ensures.archived c.archive_logged-archived.ensures.noted
          (c.archive_logged-archived.ensures.level, c.archive_logged-archived.ensures.sound, c.archive_logged-archived.ensures.safe)
          c.let_go-closed.ensures c.first_fault-in-Logged.ensures;
    }

-- it was not taken up, and nothing went out
pub returns-in_err-opened : goal.returns-in_err-opened
returns-in_err-opened g c =
    let output = g.W.CountedWrite.stream c.args.output.now in
    record {
      visit =
          not_worked_either g.R.Tables.Store g.R.Databases.opens g.R.Databases.shuts (λ old path fault new. g.R.Databases.shuts old path fault new × (output ≡ output))
          g.R.Databases.ends c.args.args.now.database.now (output ≡ output) first_fault (logs g.R.Journals g.R.Log.Journal g.R.Time.Clock.shows)
          (ArchivesAlone c.args.args.now.before output output _ (plain_keeper g.R.Tables.Store))
          (ArchivesLogged (logs g.R.Journals g.R.Log.Journal g.R.Time.Clock.shows) g.R.Tables.Store c.args.args.now.before output output) c.args.args.now.journal _ c.args.rt.now c.take_up.new.rt _
          c.from_residual.ensures.1 (λ closed. refl) refl (λ cause shut. (shut, refl)) c.in_err-opened.ensures.none;
    }
