-- A register taken up with its journal, or without one, after its place was read.
use Rattle.std.proofs.Common.{◌≡◌, ◌∙◌, ℕ, List, Option, ⊎_elim, arith, inl, inr, subst, sym}
use Rattle.std.proofs.Math.Seq.{take-length}
use Rattle.std.specs.Prelude.{None, Some, IsTrue}
use Rattle.sqlite.specs.Held.{Held, state}
use Rattle.sqlite.specs.State.{HasCleanDisk, State, Survives}
use Rattle.sqlite.specs.Tree.{Trees}
use Rattle.sqlite.proofs.StateLemmas.{survives_then}
use Rattle.sqlite_trees.specs.declared.store.Store.{Ghosts}
use Rattle.clr_journal.specs.Journal.{BeginsWith}
use Rattle.clr_chain.specs.declared.finding.Ahead.{Ahead}
use Rattle.clr_rules.specs.Fit.{IsFit}
use Rattle.clr_rules.specs.Good.{IsGood}
use Rattle.clr_rules.specs.Register.{Register}
use Rattle.clr_rules.specs.declared.place.Place.{Place}
use Rattle.clr_load.specs.Tables.{Tables}
use Rattle.clr_load.specs.Cause.{SqlHasCause}
use Rattle.clr_load.specs.Stored.{ArePlaced, HasTables}
use Rattle.clr_load.specs.declared.fault.StoreFault.{StoreFault}
use Rattle.clr_load.specs.declared.fault.StoreFault.TheVariants as store
use Rattle.clr_desk.specs.Kept.{Keeps}
use Rattle.clr_level.specs.Crash.{AreRolled}
use Rattle.clr_level.specs.Journaling.{HasText}
use Rattle.clr_level.specs.declared.keeper.Keeper.{Keeper}
use Rattle.clr_level.specs.declared.last.Last.TheVariants.{Settled}
use Rattle.clr_edge.proofs.Databases.{survives_on}
use Rattle.clr_edge.specs.Database.{IsOnlyRead}
use Rattle.clr_keeping.specs.Keeping.{IsNotReadAlone, IsReadFrom}
use Rattle.clr_keeping.specs.TakenUp.{HasPlace, IsGiven, IsKept, IsNotGiven, IsNotTakenUp, IsTakenUp, IsUnplaced, IsUnsuited, LacksPlace, Logs, MissesOne, StaysRead}
use Rattle.clr_keeping.specs.TakenUp.{LeavesFronts, OpensLevel, OpensSound, RollsForward, StopsForward, entries_of, store_place}
use Rattle.clr_keeping.specs.TakenUp.IsNotGiven.{apart as was_apart, unopened as was_unopened, unplaced as was_unplaced, without as was_without}
use Rattle.clr_keeping.specs.TakenUp.IsNotTakenUp.{apart, unopened, unplaced, without}
use Rattle.clr_edge.specs.declared.fault.Fault.{Fault}

-- `Sql` has a cause, over one more reading
cause_on : (s t u : State) (tables : Tables) (cause : StoreFault) → Survives s t (λ _. ⊥) → Survives t u (λ _. ⊥) → HasCleanDisk u
    → (HasCleanDisk t → IsTrue t.is_open → t.now ≡ s.now) → HasTables s.now tables → (HasTables t.now tables → SqlHasCause t u cause) → SqlHasCause s u cause
cause_on s t u tables store.Sql first later clean same has of = λ able.
    let between : HasCleanDisk t = omega (arith, later.clean, clean) in
    ⊎_elim
    (λ still.
    let more = of (subst (λ db. HasTables db tables) (sym (same between still)) has) (record { is_open = still; unlimited = first.limit ∙ able.unlimited }) in
    omega (arith, first.counts, more))
    (λ more. omega (arith, later.counts, more)) (first.closes between able.is_open)
cause_on s t u tables (store.WrongVersion n) first later clean same has of = tt
cause_on s t u tables (store.BadRow table) first later clean same has of = tt
cause_on s t u tables store.NoMemory first later clean same has of = tt
cause_on s t u tables store.OtherTables first later clean same has of = tt

-- what a crash leaves, over one more reading
left_on : (s t u : State) (Left : Trees → Type 0) → Survives s t (λ _. ⊥) → Survives t u Left → Survives s u Left
left_on s t u Left read left = survives_then s t u (λ _. ⊥) Left Left (λ clean trees none. absurd none) (λ clean trees is. is) read left

module _ {T : Type 0} (g : Ghosts T) (before desk after : Held T) (read : IsOnlyRead g before desk) (stays : StaysRead (state g desk) (state g after)) where
  -- a database that was only read, over one more reading
  pub read_on_stays : IsOnlyRead g before after
  read_on_stays = record {
    has_meta = read.has_meta;
    version = λ clean. read.version (stays.clean clean);
    alone = λ clean. read.alone (stays.clean clean);
    laid_out = λ clean. read.laid_out (stays.clean clean);
    there = λ clean. read.there (stays.clean clean);
    same = λ clean still. stays.same clean still ∙ read.same (stays.clean clean) (stays.was_saved clean still).0;
    committed = λ clean was_open still out.
        (stays.saved clean still).1
        ∙ (stays.same clean still ∙ (sym ((stays.was_saved clean still).1) ∙ read.committed (stays.clean clean) was_open (stays.was_saved clean still).0 out));
    survives = survives_on (state g before) (state g desk) (state g after) read.survives stays.survives;
  }

  -- the place that was read is that of the database
  pub place_on_stays : (place : Option Place) → HasPlace g desk after place → HasPlace g before after place
  place_on_stays place placed clean still t has row are =
      let same = read.same (stays.clean clean) (stays.was_saved clean still).0 in
      placed clean still t (subst (λ db. HasTables db t) (sym same) has) row (subst (λ db. ArePlaced db.trees row) (sym same) are)

  -- or it was not read there
  pub lacks_on_stays : (fault : Fault) → LacksPlace g desk fault after → LacksPlace g before fault after
  lacks_on_stays fault lacks = record {
    cause = lacks.cause;
    fault_is = lacks.fault_is;
    refused = λ clean still t has row are.
        let same = read.same (stays.clean clean) (stays.was_saved clean still).0 in
        lacks.refused clean still t (subst (λ db. HasTables db t) (sym same) has) row (subst (λ db. ArePlaced db.trees row) (sym same) are);
    has_cause = λ clean t has.
        cause_on (state g before) (state g desk) (state g after) t lacks.cause read.survives stays.survives clean read.same has
        (lacks.has_cause clean t);
  }

module _ {T : Type 0} (g : Ghosts T) (before desk : Held T) (R : Register) (is : IsReadFrom g before desk R) where
  -- the register was read from the database, over one more reading
  pub from_on_stays : (after : Held T) → StaysRead (state g desk) (state g after) → IsReadFrom g before after R
  from_on_stays after stays = record {
    read = read_on_stays g before desk after is.read stays;
    fit = is.fit;
    is_register = λ S known clean. is.is_register S known (stays.clean clean);
    reads = λ clean. is.reads (stays.clean clean);
  }

  pub unsuited_on : (after : Held T) (place : Option Place) → StaysRead (state g desk) (state g after) → HasPlace g desk after place → IsUnsuited g before place after
  unsuited_on after place stays placed = record {
    register = R;
    read = read_on_stays g before desk after is.read stays;
    reads = λ clean. is.reads (stays.clean clean);
    placed = place_on_stays g before desk after is.read stays place placed;
  }

  pub unplaced_on : (after : Held T) (fault : Fault) → StaysRead (state g desk) (state g after) → LacksPlace g desk fault after → IsUnplaced g before fault after
  unplaced_on after fault stays lacks = record {
    register = R;
    read = read_on_stays g before desk after is.read stays;
    reads = λ clean. is.reads (stays.clean clean);
    lacks = lacks_on_stays g before desk after is.read stays fault lacks;
  }

  -- it has a journal, or its place was not read
  pub misses_one : (after : Held T) (fault : Fault) → StaysRead (state g desk) (state g after) → MissesOne g desk fault after → IsNotReadAlone g before fault after
  misses_one after fault stays (inl lacks) = inr (inl (unplaced_on after fault stays lacks))
  misses_one after fault stays (inr one) =
      inr (inr (record { place = one.1; unsuited = unsuited_on after (Some one.1) stays one.2; fault_is = one.0 }))

  -- what a database has after it was opened, and the register that it had
  abbrev kept_on : (read after : Held T) (S : Register) → StaysRead (state g desk) (state g read) → Keeps (state g read) R (state g after) S → IsKept g before after S
  kept_on read after S stays keeps = record {
    opened = read;
    read = read_on_stays g before desk read is.read stays;
    first = R;
    good = is.fit.0;
    staffed = is.fit.1;
    is_register = λ X known clean. is.is_register X known (stays.clean clean);
    reads = λ clean. is.reads (stays.clean clean);
    keeps = keeps;
  }

  module _ {M J C : Type 0} (logs : Logs M J C) (path : List ℕ) (old new : M) where
    pub takes_up : (it : Keeper (Held T) J C) (S : Register) → IsGiven g logs path old new desk R it S → IsTakenUp g logs path old new before it S
    takes_up it S given = record {
      kept = kept_on given.read it.keeper S given.stays given.kept;
      place = given.place;
      placed = place_on_stays g before desk given.read is.read given.stays (Some given.place) given.placed;
      ahead = given.ahead;
      opened = given.opened;
      timed = given.timed;
      settled = given.settled;
      fit = given.fit is.fit;
      rolled = given.rolled is.fit.0;
      level = given.level;
      sound = given.sound;
      left = left_on (state g before) (state g desk) (state g it.keeper)
          (AreRolled store_place (state g given.read) R given.place (entries_of given.ahead)) is.read.survives given.left;
    }

    pub not_up : (fault : Fault) (after : Held T) → IsNotGiven g logs path old new desk R fault after → IsNotTakenUp g logs path before fault after old new
    not_up fault after (was_unplaced lacks stays same) = unplaced (unplaced_on after fault stays lacks) same
    not_up fault after (was_without placed stays of same) = without (unsuited_on after None stays placed) of same
    not_up fault after (was_unopened place placed stays of shuts) = unopened place (unsuited_on after (Some place) stays placed) of shuts
    not_up fault after (was_apart place read placed stays journal ahead middle opens gone stops) =
        let stopped = stops is.fit.0 in
        apart (record {
          place = place;
          journal = journal;
          ahead = ahead;
          middle = middle;
          opened = opens;
          gone = gone;
          register = stopped.register;
          kept = kept_on read after stopped.register stays stopped.kept;
          placed = place_on_stays g before desk read is.read stays (Some place) placed;
          cause = stopped.cause;
          fault_is = stopped.fault_is;
          of = stopped.of;
          stops = stopped.stops;
          unchanged = stopped.unchanged;
          left = left_on (state g before) (state g read) (state g after) (AreRolled store_place (state g read) R place (entries_of ahead))
              (survives_on (state g before) (state g desk) (state g read) is.read.survives stays.survives) stopped.left;
        })

-- ---- a desk over a register that was read

module _ {M J C T : Type 0} (g : Ghosts T) (logs : Logs M J C) (path : List ℕ) (old new : M) (desk read : Held T) (R X : Register) (same : X ≡ R) (place : Place)
    (stays : StaysRead (state g desk) (state g read)) (placed : HasPlace g desk read (Some place)) (opened : J) (ahead : Ahead) where
  -- it was given the journal that was opened at its place
  pub given_by : (clock : C) (it : Keeper (Held T) J C) (S : Register) → logs.steps.opens_journal old path place opened ahead new → logs.steps.has_time new clock
      → logs.log.found opened ≡ logs.log.text opened → it.journal ≡ opened → it.clock ≡ clock → it.last ≡ Settled
      → Keeps (state g read) X (state g it.keeper) S → (IsFit X → IsFit S) → (IsGood X → RollsForward g read X place (entries_of ahead) it S)
      → OpensLevel g logs.log.text read X place (entries_of ahead) it S
      → (HasText logs.log.text logs.log.found it.journal → OpensSound logs it)
      → LeavesFronts g read read X place (entries_of ahead) it.keeper
      → IsGiven g logs path old new desk R it S
  given_by clock it S opens timed whole journal_is clock_is settled kept fit rolled level sound left =
      let text : HasText logs.log.text logs.log.found opened =
      subst (λ bytes. BeginsWith (logs.log.text opened) bytes) (sym whole) (take-length (logs.log.text opened)) in
      subst (λ Y. IsGiven g logs path old new desk Y it S) same (record {
        place = place;
        read = read;
        stays = stays;
        placed = placed;
        ahead = ahead;
        opened = subst (λ (j : J). logs.steps.opens_journal old path place j ahead new) (sym journal_is) opens;
        timed = subst (λ (t : C). logs.steps.has_time new t) (sym clock_is) timed;
        settled = settled;
        kept = kept;
        fit = fit;
        rolled = rolled;
        level = level;
        sound = sound (subst (λ (j : J). HasText logs.log.text logs.log.found j) (sym journal_is) text);
        left = left_on (state g desk) (state g read) (state g it.keeper) (AreRolled store_place (state g read) X place (entries_of ahead))
            stays.survives left;
      })

  -- or a line stopped it, and the journal was let go as it was opened
  pub stopped_by : (middle : M) (back : J) (fault : Fault) (after : Held T) → logs.steps.opens_journal old path place opened ahead middle → back ≡ opened
      → logs.steps.lets_journal_go middle back new → (IsGood X → StopsForward g read X place (entries_of ahead) fault after)
      → IsNotGiven g logs path old new desk R fault after
  stopped_by middle back fault after opens unwritten gone stops =
      was_apart place read placed stays opened ahead middle opens (subst (λ (j : J). logs.steps.lets_journal_go middle j new) unwritten gone)
      (subst (λ Y. IsGood Y → StopsForward g read Y place (entries_of ahead) fault after) same stops)
