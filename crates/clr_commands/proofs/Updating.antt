-- An update over a register that was taken up from a database: what is asked for, and what comes of it.
use Rattle.std.proofs.Common.{◌≡◌, ◌≢◌, ◌∙◌, ap, inl, inr, refl, subst, sym, ℕ, Bool, true, not, List, [], ◌∷◌, ◌++◌, map, Result, Ok, Err, OnOk, OnErr, IsTrue, append_assoc, if◌then◌else◌}
use Rattle.std.specs.Borrow.{Bor}
use Rattle.std.specs.List.{list_all, list_any}
use Rattle.std.specs.Prelude.{IfErr, IfOk, IsErrAnd, None, Option, Some, String, string_bytes}
use Rattle.std.specs.declared.alloc.Global.{Global}
use Rattle.std.proofs.lemmas.List.{append-nil}
use Rattle.sqlite.specs.Held.{Held, state}
use Rattle.sqlite.specs.State.{HasCleanDisk, State, Survives}
use Rattle.sqlite.proofs.StateLemmas.{survives_weaker}
use Rattle.sqlite_trees.specs.declared.store.Store.{Ghosts}
use Rattle.clr_journal.specs.declared.journal.Journal as append
use Rattle.clr_net.specs.Grid.{Grid, unplaced}
use Rattle.clr_net.specs.NameText.{read_name}
use Rattle.clr_net.specs.declared.point.PointRow.{PointRow}
use Rattle.clr_net.specs.Results.{◌>>=◌}
use Rattle.clr_rules.specs.Fit.{IsFit}
use Rattle.clr_rules.specs.Good.{IsGood}
use Rattle.clr_rules.specs.Register.{Register}
use Rattle.clr_shelf.proofs.Lists.{list_all-filter}
use Rattle.clr_rules.specs.Staffed.{IsStaffed}
use Rattle.clr_update.specs.Changes.{Changes as ChangedRows, changes}
use Rattle.clr_update.specs.Delta.{after_changes, can_be_made}
use Rattle.clr_update.specs.DeltaLaws.{ChangesSayAll}
use Rattle.clr_update.specs.Laws.{IsAccepted, UpdatesKeepGood}
use Rattle.clr_update.specs.Rows.{same_point}
use Rattle.clr_update.specs.Shown.{as_changes}
use Rattle.clr_update.specs.Update.{IsRead, Update as Changed, after_update, in_the_way, unless_obstacle, updated}
use Rattle.clr_changes.specs.Lines.{change_lines}
use Rattle.clr_changes.specs.Outcome.{IsOutcome}
use Rattle.clr_changes.specs.Report.{IsReport}
use Rattle.clr_changes.specs.declared.outcome.After.{After}
use Rattle.clr_changes.specs.declared.outcome.Outcome.{Outcome}
use Rattle.clr_changes.specs.declared.outcome.Outcome.TheVariants.{Accepted, InTheWay as Obstructed}
use Rattle.clr_changes.specs.declared.report.Report.{Report}
use Rattle.clr_changes.specs.declared.report.Report.TheVariants.{Changes, InTheWay}
use Rattle.clr_changes.specs.Deeds.{update}
use Rattle.clr_journal.specs.Delta.{can_be_said}
use Rattle.clr_journal.specs.DeltaRows.{is_open}
use Rattle.clr_load.specs.Tables.{tables_of}
use Rattle.clr_load.specs.Stored.{AreTables, HasTables}
use Rattle.clr_load.specs.declared.fault.StoreFault.{StoreFault}
use Rattle.clr_load.specs.declared.fault.StoreFault.TheVariants as store
use Rattle.clr_journal.specs.Answered.{deed_reply, not_done}
use Rattle.clr_journal.specs.Line.{done}
use Rattle.clr_desk.specs.Faults.{FailsAsStore, IsOfCommand, IsOfKeeper}
use Rattle.clr_desk.specs.Placing.{Placing}
use Rattle.clr_desk.specs.Taking.{Came}
use Rattle.clr_desk.specs.Updating.{AreUpdated, SavesIfAccepted}
use Rattle.clr_desk.specs.declared.desk.Desk.{Desk}
use Rattle.clr_desk.specs.declared.desk_fault.DeskFault.{DeskFault}
use Rattle.clr_desk.specs.declared.desk_fault.DeskFault.TheVariants as desk
use Rattle.clr_level.specs.Journaling.{FailsToo}
use Rattle.clr_level.specs.Renewing.{AreDoneSafely, RenewsAt}
use Rattle.clr_level.specs.declared.keeper.Keeper.{Keeper}
use Rattle.clr_level.proofs.Crashes.{left_itself}
use Rattle.clr_args.specs.declared.asked.UpdateArgs.{UpdateArgs}
use Rattle.clr_edge.specs.Fault.{of_desk, of_store}
use Rattle.clr_keeping.specs.Keeping.{IsLetGo, IsUpWith, StaysLevel, StaysOne, plain_keeper}
use Rattle.clr_keeping.specs.TakenUp.{Logs, store_place}
use Rattle.clr_keeping.specs.declared.taking_up.Opened.TheVariants.{Logged, Plain}
use Rattle.clr_keeping.proofs.Keeping.{worked_either}
use Rattle.clr_edge.specs.Visit.{Closed, Ending, Opening, Shutting, first_fault}
use Rattle.clr_edge.specs.declared.fault.Fault.{Fault}
use Rattle.clr_edge.specs.declared.fault.Fault.TheVariants.{Memory, Update}
use Rattle.clr_update.specs.declared.obstacle.Obstacle.{Obstacle}
use Rattle.clr_commands.specs.DeedLines.{HasLine}
use Rattle.clr_commands.specs.Faults.{IsOfSubcommand}
use Rattle.clr_commands.specs.Fence.{argument}
use Rattle.clr_commands.specs.Import.{FileRows}
use Rattle.clr_commands.specs.Update.{AreSaid, IsDone, IsRenewed, IsUpdated, NotesUpdate, RefusesUpdate, ReportsUpdate, Texts, UpdatesAlone, UpdatesAt, UpdatesLogged, WithJournal, names_said, reported, text_reported, update_fault}
use Rattle.clr_commands.proofs.Faults.{obstacle_plain, of_desk_plain}
use Rattle.clr_commands.proofs.PointsNamed.{names_after}

-- ---- the names that words say, one by one from the left
pub names_said-more : (word : List ℕ) (words names : List (List ℕ)) (name : List ℕ) → argument (read_name word) ≡ Ok name
    → names_after names (names_said (word ∷ words)) ≡ names_after (names ++ name ∷ []) (names_said words)
unfolding names_said
names_said-more word words names name e = rw e (by (names_said words))
  where
    by : (rest : Result (List (List ℕ)) Fault) → names_after names (rest >>= (λ more. Ok (name ∷ more))) ≡ names_after (names ++ name ∷ []) rest
    by (Ok more) = rw append_assoc
    by (Err fault) = refl

pub names_said-fault : (word : List ℕ) (words names : List (List ℕ)) (fault : Fault) → argument (read_name word) ≡ Err fault
    → names_after names (names_said (word ∷ words)) ≡ Err fault
unfolding names_said
names_said-fault word words names fault e = rw e

pub names_said-nil : (names : List (List ℕ)) → names_after names (names_said []) ≡ Ok names
unfolding names_said
names_said-nil names = rw append-nil

-- rows and words that say no update
pub refused-fault : {T U : Type 0} (rows : FileRows) (words : List (List ℕ)) (result : Result T Fault) (report : Result U Fault) (fault : Fault) → IsErrAnd result (λ cause. cause ≡ fault)
    → report ≡ Err fault → RefusesUpdate rows words report → RefusesUpdate rows words result
refused-fault rows words (Ok value) report fault is same refuses = absurd is
refused-fault {U = U} rows words (Err cause) report fault is same refuses =
    subst (λ (f : Fault). f ≢ Memory → update_fault rows words ≡ Err f) (sym is) (subst (λ (it : Result U Fault). RefusesUpdate rows words it) same refuses)

-- ---- what comes of it

-- a fault of a desk is no obstacle
store-no_update : (cause : StoreFault) (obstacle : Obstacle) → of_store cause ≢ Update obstacle
store-no_update store.Sql obstacle e = cc e
store-no_update (store.WrongVersion n) obstacle e = cc e
store-no_update (store.BadRow table) obstacle e = cc e
store-no_update store.OtherTables obstacle e = cc e
store-no_update store.NoMemory obstacle e = cc e

desk-no_update : (cause : DeskFault) (obstacle : Obstacle) → of_desk cause ≢ Update obstacle
desk-no_update desk.NoMemory obstacle e = cc e
desk-no_update desk.Journal obstacle e = cc e
desk-no_update (desk.Store cause) obstacle e = store-no_update cause obstacle e

unrefused : (cause : DeskFault) (obstacle : Obstacle) (text : Texts) → text ≡ Err (of_desk cause) → text ≢ Err (Update obstacle)
unrefused cause obstacle text is e = desk-no_update cause obstacle (cc (sym is ∙ e))

-- what is said of it, or memory ran out
pub report_told : (fails : DeskFault → Type 0) (R : Register) (u : Changed) (report : Report) → IsReport R u report → ReportsUpdate fails R u (text_reported (Ok report))
report_told fails R u (Changes lines) is = is
report_told fails R u (InTheWay cause) is = inl (cause, refl, is)

pub memory_told : (fails : DeskFault → Type 0) (R : Register) (u : Changed) → ReportsUpdate fails R u (Err Memory)
memory_told fails R u = inr (desk.NoMemory, refl, tt)

-- where no keeper was called, its faults may be any
no_keeper : (fails : DeskFault → Type 0) (cause : DeskFault) → IsOfKeeper (λ _. ⊥) cause → IsOfKeeper fails cause
no_keeper fails (desk.Store store.Sql) of = absurd of
no_keeper fails (desk.Store (store.WrongVersion n)) of = absurd of
no_keeper fails (desk.Store (store.BadRow table)) of = absurd of
no_keeper fails (desk.Store store.OtherTables) of = absurd of
no_keeper fails (desk.Store store.NoMemory) of = absurd of
no_keeper fails desk.Journal of = absurd of
no_keeper fails desk.NoMemory of = tt

pub tried_told : (fails : DeskFault → Type 0) (R Q : Register) (u : Changed) (report : Texts) → Q ≡ R → ReportsUpdate (λ _. ⊥) Q u report → ReportsUpdate fails R u report
tried_told fails R Q u report same reports = subst (λ (X : Register). ReportsUpdate fails X u report) same (by report reports)
  where
    by : (report : Texts) → ReportsUpdate (λ _. ⊥) Q u report → ReportsUpdate fails Q u report
    by (Ok text) reports = reports
    by (Err fault) (inl way) = inl way
    by (Err fault) (inr (cause, is, of)) = inr (cause, is, no_keeper fails cause of)

pub report_is : (R : Register) (u : Changed) (report : Result Report DeskFault) → IfOk report (IsReport R u) → IfErr report IsOfCommand
    → ReportsUpdate FailsAsStore R u (text_reported report)
report_is R u (Ok report) is of = report_told FailsAsStore R u report is
report_is R u (Err cause) is of = inr (cause, refl, of)

after_is : (R : Register) (u : Changed) → in_the_way R u ≡ None → after_update R u ≡ updated R u
after_is R u none = ap (λ o. unless_obstacle o R (updated R u)) none

-- good and staffed again
fit_after : (R : Register) (u : Changed) → IsRead u → UpdatesKeepGood → in_the_way R u ≡ None → IsFit R → IsFit (updated R u)
fit_after R u read law none fit = (
  subst (λ (Q : Register). IsGood Q) (after_is R u none) (law.good R u fit.0 read),
  subst (λ (Q : Register). IsStaffed Q) (after_is R u none) (law.staffed R u fit.0 fit.1 read),
)

-- nothing was written
pub not_updated : {K : Type 0} (kept : K → State) (R : Register) (u : Changed) (fault : Fault) (k : K) → IsUpdated kept R u (Err fault) k k
not_updated kept R u fault k = record {
  tables = λ clean has. tt;
  saved = λ clean. tt;
  fit = tt;
  refused = λ cause e. refl;
  none = λ clean is_open. refl;
  crash = left_itself (kept k) (AreUpdated (kept k).now R u);
}

module _ {S : Type 0} (g : Ghosts S) (R : Register) (u : Changed) (read after : Held S) where
  pub updated_by : (report : Result Report DeskFault) → IsFit R → IsRead u → UpdatesKeepGood → IfOk report (IsReport R u)
      → (HasCleanDisk (state g after) → HasTables (state g read).now (tables_of R) → OnOk report (HasTables (state g after).now (tables_of (after_update R u))))
      → IfOk report (λ it. SavesIfAccepted g it read after)
      → (HasCleanDisk (state g after) → IsTrue (state g after).is_open → OnErr report ((state g after).now ≡ (state g read).now))
      → Survives (state g read) (state g after) (AreUpdated (state g read).now R u)
      → IsUpdated (state g) R u (text_reported report) read after
  updated_by (Ok (Changes lines)) good is_read law is tables saved none crash = record {
    tables = λ clean has. subst (λ (Q : Register). HasTables (state g after).now (tables_of Q)) (after_is R u is.0) (tables clean has);
    saved = saved;
    fit = fit_after R u is_read law is.0 good;
    refused = λ cause e. absurd (cc e);
    none = λ clean is_open. tt;
    crash = crash;
  }
  updated_by (Ok (InTheWay cause)) good is_read law is tables saved none crash = record {
    tables = λ clean has. tt;
    saved = λ clean. tt;
    fit = tt;
    refused = λ obstacle e. saved;
    none = λ clean is_open. ap (λ (h : Held S). (state g h).now) saved;
    crash = crash;
  }
  updated_by (Err cause) good is_read law is tables saved none crash = record {
    tables = λ clean has. tt;
    saved = λ clean. tt;
    fit = tt;
    refused = λ obstacle e. absurd (unrefused cause obstacle (Err (of_desk cause)) refl e);
    none = none;
    crash = crash;
  }

-- ---- with a journal

-- an update that nothing is in the way of is accepted, and these are its changes
pub accepted_by : (R Q : Register) (u : Changed) (outcome : Outcome) (after : After) → Q ≡ R → outcome ≡ Accepted after → IsGood R → IsRead u
    → IsOutcome Q u outcome → IsAccepted R u × (as_changes after.changes ≡ changes R (updated R u))
accepted_by R Q u outcome after same is good read of =
    let it : IsOutcome R u (Accepted after) = subst (IsOutcome R u) is (subst (λ (X : Register). IsOutcome X u outcome) same of) in
    (record { good = good; read = read; free = it.0 }, it.1.changes)

pub obstacle_told : (fails : DeskFault → Type 0) (R Q : Register) (u : Changed) (outcome : Outcome) (obstacle : Obstacle) → Q ≡ R → outcome ≡ Obstructed obstacle
    → IsOutcome Q u outcome → ReportsUpdate fails R u (Err (Update obstacle))
obstacle_told fails R Q u outcome obstacle same is of =
    inl (obstacle, refl, subst (IsOutcome R u) is (subst (λ (X : Register). IsOutcome X u outcome) same of))

-- changes that an update says are made
pub can_be_done : (R : Register) (u : Changed) (of : ChangedRows) → ChangesSayAll → IsAccepted R u → of ≡ changes R (updated R u)
    → deed_reply R (update of) ≡ done
can_be_done R u of law accepted same =
    ap (λ (b : Bool). if b then done else not_done) (ap (can_be_made R) same ∙ law.made R u accepted)

-- the points that go are those of a good register, which have no position
abbrev has_none : PointRow → Bool
has_none p = is_open p.position

unplaced_have_none : (points : List PointRow) → list_all has_none (map unplaced points) ≡ true
unplaced_have_none [] = refl
unplaced_have_none (p ∷ points) = unplaced_have_none points

gone_have_none : (R S : Register) → IsGood R → list_all has_none (ChangedRows.points_go (changes R S)) ≡ true
gone_have_none R S good =
    let points : map unplaced (Grid.points R.net) ≡ Grid.points R.net = ap (λ (g : Grid). g.points) good.besides.placed in
    list_all-filter has_none (λ row. not (list_any (same_point row) (Grid.points S.net))) (Grid.points R.net)
    (subst (λ (ps : List PointRow). list_all has_none ps ≡ true) points (unplaced_have_none (Grid.points R.net)))

-- so what changes can be said
pub are_said : (R : Register) (u : Changed) (of : ChangedRows) → IsAccepted R u → of ≡ changes R (updated R u)
    → (IsTrue (list_all (λ p. is_open p.position) of.points_go) → IsTrue (can_be_said of)) → can_be_said (changes R (updated R u)) ≡ true
are_said R u of accepted same says =
    let none = ap (λ (rows : ChangedRows). list_all has_none rows.points_go) same ∙ gone_have_none R (updated R u) accepted.good in
    sym (ap can_be_said same) ∙ says none

module _ {K J C : Type 0} (kept : K → State) (has_place : Placing) (fails : DeskFault → Type 0) (shows : C → ℕ → Type 0) (log : append.Ghosts J)
    (u : Changed) (of : ChangedRows) (lines : String Global) (old new : Desk (Keeper K J C)) where
  abbrev Renews : Came → Type 0
  Renews came = RenewsAt kept has_place fails shows log.text log.found log.may_leave log.is_usable old new (update of) came

  abbrev Q : Register
  Q = old.book.register

  abbrev below : Keeper K J C → State
  below it = kept it.keeper

  renewed_left : after_changes Q of ≡ updated Q u → in_the_way Q u ≡ None → IsGood Q
      → Survives (below old.store) (below new.store) (AreDoneSafely kept has_place log.text log.may_leave Q old.store (update of) new.store)
      → Survives (below old.store) (below new.store) (AreUpdated (below old.store).now Q u)
  renewed_left is none good left =
      survives_weaker (below old.store) (below new.store) (AreDoneSafely kept has_place log.text log.may_leave Q old.store (update of) new.store)
      (AreUpdated (below old.store).now Q u)
      (λ clean trees done has. (none, subst (λ (X : Register). AreTables trees (tables_of X)) is (done.0 good has).0)) left

  -- its line has these changes
  noted_by : (came : Came) → of ≡ changes Q (updated Q u) → Renews came
      → RenewsAt kept has_place fails shows log.text log.found log.may_leave log.is_usable old new (update (changes Q (updated Q u))) came
  noted_by came same renews =
      subst (λ (o : ChangedRows). RenewsAt kept has_place fails shows log.text log.found log.may_leave log.is_usable old new (update o) came) same renews

  noted_as : (came : Came) → of ≡ changes Q (updated Q u) → Renews came
      → HasLine kept has_place fails shows log old (update (changes Q (updated Q u))) (reported lines came) new
  noted_as (Ok value) same renews = record { came = Ok value; reports = tt; renews = noted_by (Ok value) same renews }
  noted_as (Err cause) same renews = record { came = Err cause; reports = refl; renews = noted_by (Err cause) same renews }

  renewed_as : (came : Came) → IsStaffed Q → IsAccepted Q u → after_changes Q of ≡ updated Q u → of ≡ changes Q (updated Q u) → UpdatesKeepGood
      → can_be_said (changes Q (updated Q u)) ≡ true → string_bytes lines ≡ change_lines of → Renews came
      → IsRenewed kept has_place fails shows log old new u (reported lines came)
  renewed_as (Ok value) staffed accepted is same law can said renews = record {
    reports = (accepted.free, said ∙ ap change_lines same);
    is_done = record {
      tables = λ clean has. subst (λ (X : Register). HasTables (below new.store).now (tables_of X)) (renews.register accepted.good ∙ is) (renews.tables clean accepted.good has);
      saved = λ clean. renews.saved clean tt;
      fit = fit_after Q u accepted.read law accepted.free (accepted.good, staffed);
      refused = λ cause e. absurd (cc e);
      none = λ clean is_open. tt;
      crash = renewed_left is accepted.free accepted.good renews.crash;
    };
    said = inr can;
    noted = inr (noted_as (Ok value) same renews);
  }
  renewed_as (Err cause) staffed accepted is same law can said renews = record {
    reports = inr (cause, refl, renews.fault);
    is_done = record {
      tables = λ clean has. tt;
      saved = λ clean. tt;
      fit = tt;
      refused = λ obstacle e. absurd (unrefused cause obstacle (Err (of_desk cause)) refl e);
      none = λ clean is_open. renews.stays.now clean is_open;
      crash = renewed_left is accepted.free accepted.good renews.crash;
    };
    said = inr can;
    noted = inr (noted_as (Err cause) same renews);
  }

  pub renewed_with : (came : Came) → UpdatesKeepGood → ChangesSayAll → IsStaffed Q → IsAccepted Q u → of ≡ changes Q (updated Q u)
      → can_be_said (changes Q (updated Q u)) ≡ true → string_bytes lines ≡ change_lines of → Renews came
      → IsRenewed kept has_place fails shows log old new u (reported lines came)
  renewed_with came law says staffed accepted same can said renews =
      renewed_as came staffed accepted (ap (after_changes Q) same ∙ says.same Q u accepted) same law can said renews

-- nothing was done, and why
pub unrenewed : {K J C : Type 0} (kept : K → State) (has_place : Placing) (fails : DeskFault → Type 0) (shows : C → ℕ → Type 0) (log : append.Ghosts J)
    (old : Desk (Keeper K J C)) (u : Changed) (fault : Fault)
    → ReportsUpdate (FailsToo fails) old.book.register u (Err fault) → IsRenewed kept has_place fails shows log old old u (Err fault)
unrenewed {K} {J} {C} kept has_place fails shows log old u fault reports = record {
  reports = reports;
  is_done = not_updated (λ (it : Keeper K J C). kept it.keeper) old.book.register u fault old.store;
  said = inl refl;
  noted = inl refl;
}

pub levels_alike : {K J C : Type 0} (kept : K → State) (has_place : Placing) (text : J → List ℕ) (d : Desk (Keeper K J C)) → StaysLevel kept has_place text d d
levels_alike kept has_place text d first start good level = level

-- ---- over a database
pub answer_plain : (fails : DeskFault → Type 0) (R : Register) (u : Changed) (report : Texts) → ReportsUpdate fails R u report → IfErr report IsOfSubcommand
answer_plain fails R u (Ok text) reports = tt
answer_plain fails R u (Err fault) (inl (cause, is, way)) = obstacle_plain fault cause is
answer_plain fails R u (Err fault) (inr (cause, is, of)) = subst (λ (f : Fault). IsOfSubcommand f) (sym is) (of_desk_plain cause)

-- a register that was taken up without a journal has none named
none_named : {M J C S : Type 0} (logs : Logs M J C) (g : Ghosts S) (opens : Opening M S) (path : List ℕ) (journal : Option (Bor (List ℕ))) (old new : M) (desk : Desk (Held S)) (So : Type 0)
    → IsUpWith g opens path logs journal old new (Plain desk) → WithJournal journal So
none_named logs g opens path None old new desk So up = tt
none_named logs g opens path (Some journal) old new desk So up = absurd up

where_named : (journal : Option (Bor (List ℕ))) (So : Type 0) → So → WithJournal journal So
where_named None So so = tt
where_named (Some journal) So so = so

module _ {M J C S : Type 0} (logs : Logs M J C) (g : Ghosts S) (opens : Opening M S) (shuts : Shutting M) (ends : Ending M S) (args : UpdateArgs) (u : Changed) where
  -- the register of the database at the path was updated, or something was in the way
  pub updated_alone : (report result : Texts) (closed : Closed) (old between new : M) (desk : Desk (Held S)) (store after : Held S)
      → IsUpWith g opens args.database.now logs args.journal old between (Plain desk) → ReportsUpdate FailsAsStore desk.book.register u report
      → IsDone (state g) args.dry_run desk.book.register u report desk.store store → after ≡ store → ends between after closed new
      → result ≡ first_fault report closed → UpdatesAt logs g opens shuts ends args u result old new
  updated_alone report result closed old between new desk store after up reports is_done same ended is =
      let left : Desk (Held S) = record { book = desk.book; store = store; faults = desk.faults } in
      worked_either g opens shuts shuts ends args.database.now (Unit {0}) first_fault logs (UpdatesAlone args u (Held S) (plain_keeper g))
      (UpdatesLogged logs g args u) args.journal report result old between between new (Plain desk) (Plain left) closed up
      (refl, record { reports = reports; is_done = is_done; said = none_named logs g opens args.database.now args.journal old between desk (AreSaid u desk left) up })
      tt (store, between, (refl, refl), subst (λ (h : Held S). ends between h closed new) same ended) is

  -- with its journal, with which it stays level, and in which it has its line
  pub updated_level : (report result : Texts) (closed : Closed) (old between new : M) (desk left : Desk (Keeper (Held S) J C))
      → IsUpWith g opens args.database.now logs args.journal old between (Logged desk) → ReportsUpdate (FailsToo FailsAsStore) desk.book.register u report
      → IsDone (λ (it : Keeper (Held S) J C). state g it.keeper) args.dry_run desk.book.register u report desk.store left.store → AreSaid u desk left
      → NotesUpdate (state g) store_place FailsAsStore logs.shows logs.log args.dry_run u report desk left → StaysOne (state g) store_place logs.log desk left
      → IsLetGo ends logs (Logged left) closed between new → result ≡ first_fault report closed
      → UpdatesAt logs g opens shuts ends args u result old new
  updated_level report result closed old between new desk left up reports is_done said noted stays gone is =
      worked_either g opens shuts shuts ends args.database.now (Unit {0}) first_fault logs (UpdatesAlone args u (Held S) (plain_keeper g))
      (UpdatesLogged logs g args u) args.journal report result old between between new (Logged desk) (Logged left) closed up ((refl, record { reports = reports; is_done = is_done; said = where_named args.journal (AreSaid u desk left) said }), noted) stays gone is
