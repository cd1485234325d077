-- Why a register is not taken up, and what comes of one that is.
use Rattle.std.proofs.Common.{◌≡◌, ◌∙◌, ap, inl, inr, refl, sym, ℕ, List, Result, Ok, Err}
use Rattle.std.specs.Borrow.{Bor}
use Rattle.std.specs.Prelude.{IsErrAnd, None, Option, Some}
use Rattle.sqlite.specs.Held.{Held, state}
use Rattle.sqlite_trees.specs.declared.store.Store.{Ghosts}
use Rattle.clr_load.specs.declared.fault.StoreFault.{StoreFault}
use Rattle.clr_load.specs.declared.fault.StoreFault.TheVariants.{Sql}
use Rattle.clr_desk.specs.declared.commit.Commit as commit
use Rattle.clr_desk.specs.declared.desk.Desk.{Desk}
use Rattle.clr_desk.specs.declared.desk_fault.DeskFault.TheVariants as desk
use Rattle.clr_level.specs.declared.keeper.Keeper.{Keeper}
use Rattle.clr_edge.specs.Fault.{of_database, of_store}
use Rattle.clr_edge.specs.Journals.{IsOfOpening}
use Rattle.clr_keeping.specs.Keeping.{IsDoneOver, IsGone, IsLetGo, IsNotUp, IsNotUpWith, IsUp, IsUpWith, Keeping, StaysLevelOver, WorksEither, WorksIn, WorksWith, logged, logged_keeper, plain, plain_keeper, unlogged}
use Rattle.clr_keeping.specs.TakenUp.{IsOfTakingUp, LacksPlace, Logs, MissesOne, store_place}
use Rattle.clr_keeping.specs.TakenUp.IsNotTakenUp.{refused}
use Rattle.clr_edge.specs.Visit.{Closed, Comes, Ending, Opening, Shutting}
use Rattle.clr_edge.specs.declared.fault.DatabaseFault.{DatabaseFault}
use Rattle.clr_edge.specs.declared.fault.DatabaseFault.TheVariants as database
use Rattle.clr_edge.specs.declared.fault.Fault.{Fault}
use Rattle.clr_keeping.specs.declared.taking_up.Opened.{Opened}
use Rattle.clr_keeping.specs.declared.taking_up.Opened.TheVariants.{Logged, Plain}
use Rattle.clr_edge.proofs.Databases.{visits-as}

pub of_database-taking : (cause : DatabaseFault) → IsOfTakingUp (of_database cause)
of_database-taking database.NoMemory = inl (desk.NoMemory, refl)
of_database-taking database.Sql = inl (desk.Store Sql, refl)

pub of_tables : (cause : StoreFault) (fault : Fault) → fault ≡ of_store cause → IsOfTakingUp fault
of_tables cause fault is = inl (desk.Store cause, is)

-- a place that was not read, or is one too many
pub of_place : {T : Type 0} (g : Ghosts T) (before : Held T) (fault : Fault) (after : Held T) → LacksPlace g before fault after → IsOfTakingUp fault
of_place g before fault after lacks = of_tables lacks.cause fault lacks.fault_is

pub of_missing : {T : Type 0} (g : Ghosts T) (before : Held T) (fault : Fault) (after : Held T) → MissesOne g before fault after → IsOfTakingUp fault
of_missing g before fault after (inl lacks) = of_place g before fault after lacks
of_missing g before fault after (inr one) = inr (inl one.0)

-- a journal that was not opened, and one that does not go together with the register
pub of_shut : (fault : Fault) → IsOfOpening fault → IsOfTakingUp fault
of_shut fault is = inr (inr (inl is))

-- why it is not taken up with a journal, or to be changed without one, where its database refused it
pub refused_too : {M T J C : Type 0} (g : Ghosts T) (opens : Opening M T) (shuts : Shutting M) (ends : Ending M T) (path journal : List ℕ) (logs : Logs M J C)
    (old new : M) (fault : Fault) → IsNotUp opens shuts ends path (plain g) old new fault
    → IsNotUp opens shuts ends path (logged g logs journal) old new fault
refused_too g opens shuts ends path journal logs old new fault (inl shut) = inl shut
refused_too g opens shuts ends path journal logs old new fault (inr visit) =
    inr (visits-as opens ends path _ _ old new (λ middle before after closed later opened it. refused it.1.refused it.1.survives it.0) visit)

pub refused_alone : {M T : Type 0} (g : Ghosts T) (opens : Opening M T) (shuts : Shutting M) (ends : Ending M T) (path : List ℕ)
    (old new : M) (fault : Fault) → IsNotUp opens shuts ends path (plain g) old new fault
    → IsNotUp opens shuts ends path (unlogged g) old new fault
refused_alone g opens shuts ends path old new fault (inl shut) = inl shut
refused_alone g opens shuts ends path old new fault (inr visit) =
    inr (visits-as opens ends path _ _ old new (λ middle before after closed later opened it. (it.0, inl it.1)) visit)

module _ {M T R : Type 0} (g : Ghosts T) (opens : Opening M T) (shuts kept_shut : Shutting M) (ends : Ending M T) (path : List ℕ) (Idle : Type 0)
    (closed_as : Result R Fault → Closed → Result R Fault) where
  module _ {K : Type 0} (by : Keeping M T K) (Did : Result R Fault → M → M → Desk K → Desk K → Type 0) where
    visit_of : (told result : Result R Fault) (old between later new : M) (taken left : Desk K) (closed : Closed) → IsUp opens path by old between taken
        → Did told between later taken left → by.stays taken left → IsGone by.lets_go ends left.store closed later new
        → result ≡ closed_as told closed
        → Comes opens kept_shut ends path (WorksIn by Idle Did closed_as) result old new
    visit_of told result old between later new taken left closed up did stays (after, behind, gone, ended) is = inr (record {
      before = up.before;
      after = after;
      closed = closed;
      middle = up.middle;
      later = behind;
      opened = up.opened;
      mode = up.mode;
      does = record {
        told = told;
        works = inr (record {
          taken = taken;
          between = between;
          good = up.good;
          staffed = up.staffed;
          uncounted = up.uncounted;
          taken_up = up.taken_up;
          left = left;
          later = later;
          did = did;
          stays = stays;
          gone = gone;
        });
        result_is = is;
      };
      ended = ended;
    })

    no_visit : (result : Result R Fault) (old new : M) (fault : Fault) → IsErrAnd result (λ cause. cause ≡ fault)
        → ((closed : Closed) → closed_as (Err fault) closed ≡ Err fault) → Idle → ((cause : DatabaseFault) → shuts old path cause new → kept_shut old path cause new)
        → IsNotUp opens shuts ends path by old new fault → Comes opens kept_shut ends path (WorksIn by Idle Did closed_as) result old new
    no_visit (Ok value) old new fault is same idle shut not = absurd is
    no_visit (Err told) old new fault is same idle shut (inl (cause, of, it)) = inl (cause, ap Err (is ∙ of), shut cause it)
    no_visit (Err told) old new fault is same idle shut (inr visit) =
        inr (visits-as opens ends path _ _ old new (λ middle before after closed later opened it.
        record { told = Err fault; works = inl (it, idle); result_is = ap Err is ∙ sym (same closed) }) visit)

  -- the register of the database at a path was taken up, and let go as what was done over it left it
  module _ {J C : Type 0} (logs : Logs M J C) (Plainly : Result R Fault → M → M → Desk (Held T) → Desk (Held T) → Type 0)
      (Loggedly : Result R Fault → M → M → Desk (Keeper (Held T) J C) → Desk (Keeper (Held T) J C) → Type 0) where
    pub worked_either : (journal : Option (Bor (List ℕ))) (told result : Result R Fault) (old between later new : M) (opened last : Opened (Held T) J C) (closed : Closed)
        → IsUpWith g opens path logs journal old between opened
        → IsDoneOver (Plainly told between later) (Loggedly told between later) opened last
        → StaysLevelOver {K = Held T} (state g) store_place logs.log opened last
        → IsLetGo ends logs last closed later new → result ≡ closed_as told closed
        → Comes opens kept_shut ends path (WorksEither logs g journal Idle Plainly Loggedly closed_as) result old new
    worked_either None told result old between later new (Plain taken) (Plain left) closed up did stays gone is =
        visit_of (unlogged g) Plainly told result old between later new taken left closed up did stays gone is
    worked_either (Some journal) told result old between later new (Logged taken) (Logged left) closed up did stays gone is =
        visit_of (logged g logs journal.now) Loggedly told result old between later new taken left closed up did stays gone is
    worked_either None told result old between later new (Plain taken) (Logged left) closed up did stays gone is = absurd did
    worked_either (Some journal) told result old between later new (Logged taken) (Plain left) closed up did stays gone is = absurd did
    worked_either None told result old between later new (Logged taken) last closed up did stays gone is = absurd up
    worked_either (Some journal) told result old between later new (Plain taken) last closed up did stays gone is = absurd up

    -- or it was not taken up
    pub not_worked_either : (journal : Option (Bor (List ℕ))) (result : Result R Fault) (old new : M) (fault : Fault) → IsErrAnd result (λ cause. cause ≡ fault)
        → ((closed : Closed) → closed_as (Err fault) closed ≡ Err fault) → Idle → ((cause : DatabaseFault) → shuts old path cause new → kept_shut old path cause new)
        → IsNotUpWith g opens shuts ends path logs journal old new fault
        → Comes opens kept_shut ends path (WorksEither logs g journal Idle Plainly Loggedly closed_as) result old new
    not_worked_either None result old new fault is same idle shut not =
        no_visit (unlogged g) Plainly result old new fault is same idle shut not
    not_worked_either (Some journal) result old new fault is same idle shut not =
        no_visit (logged g logs journal.now) Loggedly result old new fault is same idle shut not

  module _ {J C : Type 0} (logs : Logs M J C) (Did : (K : Type 0) → commit.Ghosts K → Result R Fault → M → M → Desk K → Desk K → Type 0) where
    pub worked : (journal : Option (Bor (List ℕ))) (told result : Result R Fault) (old between later new : M) (opened last : Opened (Held T) J C) (closed : Closed)
        → IsUpWith g opens path logs journal old between opened
        → IsDoneOver (Did (Held T) (plain_keeper g) told between later) (Did (Keeper (Held T) J C) (logged_keeper g logs) told between later) opened last
        → StaysLevelOver {K = Held T} (state g) store_place logs.log opened last
        → IsLetGo ends logs last closed later new → result ≡ closed_as told closed
        → Comes opens kept_shut ends path (WorksWith logs g journal Idle Did closed_as) result old new
    worked = worked_either logs (Did (Held T) (plain_keeper g)) (Did (Keeper (Held T) J C) (logged_keeper g logs))

    pub not_worked : (journal : Option (Bor (List ℕ))) (result : Result R Fault) (old new : M) (fault : Fault) → IsErrAnd result (λ cause. cause ≡ fault)
        → ((closed : Closed) → closed_as (Err fault) closed ≡ Err fault) → Idle → ((cause : DatabaseFault) → shuts old path cause new → kept_shut old path cause new)
        → IsNotUpWith g opens shuts ends path logs journal old new fault → Comes opens kept_shut ends path (WorksWith logs g journal Idle Did closed_as) result old new
    not_worked = not_worked_either logs (Did (Held T) (plain_keeper g)) (Did (Keeper (Held T) J C) (logged_keeper g logs))
