use Rattle.std.proofs.Common.{◌≡◌, ◌∙◌, ⊎_elim, ap, inl, inr, subst, sym}
use Rattle.sqlite.specs.Held.{Held, state}
use Rattle.std.specs.Prelude.{IsTrue}
use Rattle.sqlite.specs.State.{HasCleanDisk, Survives}
use Rattle.clr_rules.specs.Fit.{IsFit}
use Rattle.clr_rules.specs.Register.{Register}
use Rattle.clr_load.specs.Cause.{SqlHasCause}
use Rattle.clr_load.specs.Stored.{HasTables}
use Rattle.clr_load.proofs.Loading.{has_meta}
use Rattle.clr_store.proofs.Moving.{opened_cause}
use Rattle.clr_load.specs.Tables.{tables_of}
use Rattle.clr_edge.specs.Database.{IsDatabaseFault, IsRefused}
use Rattle.clr_edge.specs.Fault.{of_desk}
use Rattle.clr_edge.proofs.Databases.{IsOfCommand-shut, command_fault, unfit_fault, version_fault}
use Rattle.clr_edge.proofs.Databases.{RefusesTables-unfit, RefusesOpening-of_command, SqlHasCause-unfit}
use Rattle.clr_edge.proofs.Databases.{of_desk-of_store, rows_of-opened, survives_on, was_clean}
use Rattle.clr_desk.specs.Faults.{IsOfCommand}
use Rattle.clr_edge.proofs.database.desk_over.Goals as goal

-- the version is the one that is read
pub returns-in-Err-clause-fault : goal.returns-in-Err-clause-fault
returns-in-Err-clause-fault g c R known clean =
    subst (λ fault. IsDatabaseFault fault) (sym c.from.ensures)
    (version_fault R _ (c.in-Err.ensures.refused clean (tables_of R) known.tables))

-- the rows are those of a good register
pub returns-in-Ok-expect_good-clause-register : goal.returns-in-Ok-expect_good-clause-register
returns-in-Ok-expect_good-clause-register g c R known clean =
    let was_open = c.in-Ok-open.ensures.was_open clean in
    let same = c.in-Ok.ensures.opened (was_clean _ _ _ c.in-Ok-open.ensures.survives clean) was_open in
    c.in-Ok-open.ensures.again clean R known.good (subst (λ db. HasTables db (tables_of R)) (sym same) known.tables)

-- and so of any tables
pub returns-in-Ok-expect_good-clause-reads : goal.returns-in-Ok-expect_good-clause-reads
returns-in-Ok-expect_good-clause-reads g c clean t has =
    let same = c.in-Ok.ensures.opened (was_clean _ _ _ c.in-Ok-open.ensures.survives clean) (c.in-Ok-open.ensures.was_open clean) in
    rows_of-opened _ c.in-Ok-open.desk.book (c.in-Ok-open.ensures.opened clean t (subst (λ db. HasTables db t) (sym same) has))

pub returns-in-Err-open-clause-fault : goal.returns-in-Err-open-clause-fault
returns-in-Err-open-clause-fault g c R known clean_back =
    let clean = subst (λ h. HasCleanDisk (state g.S.Store h)) c.end.ensures.connection clean_back in
    let clean_before = was_clean _ _ _ c.in-Err-open.ensures.survives_too clean in
    subst (λ fault. IsDatabaseFault fault) (sym c.from-in-Err-open.ensures)
    (command_fault _ (IsOfCommand-shut _ _
    (c.in-Err-open.ensures.shut clean)
    (λ was_open. c.in-Err-open.ensures.cause clean R known.good
    known.typed (subst (λ db. HasTables db (tables_of R))
    (sym (c.in-Ok.ensures.opened clean_before was_open)) known.tables))))

-- the fault is the one that was answered
pub returns-in-Err-clause-told : goal.returns-in-Err-clause-told
returns-in-Err-clause-told g c =
    record {
      fault = c.in-Err.field-0.fault;
      told_is = c.from.ensures;
      bare = c.in-Err.ensures.bare;
      refuses = λ clean t has. inl (c.in-Err.ensures.refused clean t has);
      version = λ clean out meta has other. (c.in-Err.ensures.unread clean meta has, c.in-Err.ensures.cause clean out meta has);
      cause = λ clean out t has. c.in-Err.ensures.cause clean out t.meta (has_meta has.layout _ t has.here);
    }

pub returns-in-Err-open-clause-told : goal.returns-in-Err-open-clause-told
returns-in-Err-open-clause-told g c =
    let (fault, is, refused) = c.in-Err-open.ensures.refused in
    let before = state g.S.Store c.args.connection in
    record {
      fault = fault;
      told_is = c.from-in-Err-open.ensures ∙ (ap of_desk is ∙ of_desk-of_store fault);
      bare = λ lacks. absurd (c.in-Ok.ensures.bare lacks);
      refuses = λ clean_back t has.
          let clean = subst (λ h. HasCleanDisk (state g.S.Store h)) c.end.ensures.connection clean_back in
          ⊎_elim
          (λ was_open. inr (inl (refused clean t (subst (λ db. HasTables db t)
          (sym (c.in-Ok.ensures.opened (was_clean _ _ _ c.in-Err-open.ensures.survives_too clean) was_open)) has)).0))
          (λ shut. inl (RefusesOpening-of_command t fault (subst (λ told. IsOfCommand told) is shut)))
          (c.in-Err-open.ensures.shut clean);
      version = λ clean_back out meta has other.
          let clean = subst (λ h. HasCleanDisk (state g.S.Store h)) c.end.ensures.connection clean_back in
          let opened = was_clean _ _ _ c.in-Err-open.ensures.survives_too clean in
          absurd (other (c.in-Ok.ensures.laid_out opened) (c.in-Ok.ensures.version opened meta has));
      cause = λ clean_back out t has.
          let clean = subst (λ h. HasCleanDisk (state g.S.Store h)) c.end.ensures.connection clean_back in
          subst (λ h. SqlHasCause before (state g.S.Store h) fault) (sym c.end.ensures.connection)
          (opened_cause before _ _ fault c.in-Ok.ensures.crash_opened c.in-Err-open.ensures.survives_too clean
          (λ was_open. (refused clean t (subst (λ db. HasTables db t)
          (sym (c.in-Ok.ensures.opened (was_clean _ _ _ c.in-Err-open.ensures.survives_too clean) was_open)) has)).1));
    }

pub returns-in-Err-open-clause-unread : goal.returns-in-Err-open-clause-unread
returns-in-Err-open-clause-unread g c =
    subst (λ (h : Held g.row.S.Denot). Survives (state g.S.Store c.args.connection) (state g.S.Store h) (λ _. ⊥)) (sym c.end.ensures.connection)
    (survives_on _ _ _ c.in-Ok.ensures.crash_opened c.in-Err-open.ensures.survives_too)

-- the tables are only read
pub returns-in-Ok-expect_good-clause-read : goal.returns-in-Ok-expect_good-clause-read
returns-in-Ok-expect_good-clause-read g c =
    let same : HasCleanDisk (state g.S.Store c.in-Ok-open.desk.store) → IsTrue (state g.S.Store c.in-Ok-open.desk.store).is_open
    → (state g.S.Store c.in-Ok-open.desk.store).now ≡ (state g.S.Store c.args.connection).now = λ clean shown.
    c.in-Ok-open.ensures.same clean shown
    ∙ c.in-Ok.ensures.opened (was_clean _ _ _ c.in-Ok-open.ensures.survives clean) (c.in-Ok-open.ensures.was_open clean) in
    record {
      has_meta = c.in-Ok.ensures.bare;
      version = λ clean meta has. c.in-Ok.ensures.version (was_clean _ _ _ c.in-Ok-open.ensures.survives clean) meta has;
      alone = λ clean meta has. c.in-Ok.ensures.alone (was_clean _ _ _ c.in-Ok-open.ensures.survives clean) meta has;
      laid_out = λ clean. c.in-Ok.ensures.laid_out (was_clean _ _ _ c.in-Ok-open.ensures.survives clean);
      there = λ clean whole. c.in-Ok.ensures.there (was_clean _ _ _ c.in-Ok-open.ensures.survives clean) whole;
      same = same;
      committed = λ clean was_open shown auto. (c.in-Ok-open.ensures.saved clean shown).1 ∙ (same clean shown ∙ c.settled.ensures auto was_open);
      survives = survives_on _ _ _ c.in-Ok.ensures.crash_opened c.in-Ok-open.ensures.survives;
    }

-- a register that is known is good and staffed
pub returns-in-Err-expect_good-clause-fault : goal.returns-in-Err-expect_good-clause-fault
returns-in-Err-expect_good-clause-fault g c R known clean_back =
    let back : c.end-in-Err-expect_good-2.result ≡ c.in-Ok-open.desk.store = cc in
    let clean = subst (λ (h : Held g.row.S.Denot). HasCleanDisk (state g.S.Store h)) back clean_back in
    let was_open = c.in-Ok-open.ensures.was_open clean in
    let same = c.in-Ok.ensures.opened (was_clean _ _ _ c.in-Ok-open.ensures.survives clean) was_open in
    let is : c.in-Ok-open.desk.book.register ≡ R =
    c.in-Ok-open.ensures.again clean R known.good
    (subst (λ db. HasTables db (tables_of R)) (sym same) known.tables) in
    subst (λ fault. IsDatabaseFault fault) (sym c.from-in-Err-expect_good.ensures)
    (unfit_fault c.in-Ok-open.desk.book.register c.in-Err-expect_good.cause
    (subst (λ (r : Register). IsFit r) (sym is) (known.good, known.staffed)) c.in-Err-expect_good.ensures.fault)

-- the tables are those of a register that is not good
pub returns-in-Err-expect_good-clause-told : goal.returns-in-Err-expect_good-clause-told
returns-in-Err-expect_good-clause-told g c =
    let back : c.end-in-Err-expect_good-2.result ≡ c.in-Ok-open.desk.store = cc in
    subst (λ (h : Held g.row.S.Denot). IsRefused g.S.Store c.args.connection c.from-in-Err-expect_good.result h) (sym back)
    (record {
      fault = c.in-Err-expect_good.cause;
      told_is = c.from-in-Err-expect_good.ensures;
      bare = λ lacks. absurd (c.in-Ok.ensures.bare lacks);
      refuses = λ clean t has.
          RefusesTables-unfit t c.in-Ok-open.desk.book c.in-Err-expect_good.cause
          (c.in-Ok-open.ensures.opened clean t (subst (λ db. HasTables db t)
          (sym (c.in-Ok.ensures.opened (was_clean _ _ _ c.in-Ok-open.ensures.survives clean) (c.in-Ok-open.ensures.was_open clean))) has))
          c.in-Err-expect_good.ensures.fault;
      version = λ clean out meta has other.
          let opened = was_clean _ _ _ c.in-Ok-open.ensures.survives clean in
          absurd (other (c.in-Ok.ensures.laid_out opened) (c.in-Ok.ensures.version opened meta has));
      cause = λ clean out t has. SqlHasCause-unfit c.in-Ok-open.desk.book.register c.in-Err-expect_good.cause (state g.S.Store c.args.connection) (state g.S.Store c.in-Ok-open.desk.store) c.in-Err-expect_good.ensures.fault;
    })

pub returns-in-Err-expect_good-clause-unread : goal.returns-in-Err-expect_good-clause-unread
returns-in-Err-expect_good-clause-unread g c =
    let back : c.end-in-Err-expect_good-2.result ≡ c.in-Ok-open.desk.store = cc in
    subst (λ (h : Held g.row.S.Denot). Survives (state g.S.Store c.args.connection) (state g.S.Store h) (λ _. ⊥)) (sym back)
    (survives_on _ _ _ c.in-Ok.ensures.crash_opened c.in-Ok-open.ensures.survives)
