-- What an archive sends and takes out, by what a desk and the output say of it.
use Rattle.std.proofs.Common.{◌≡◌, Bool, Err, List, None, Ok, OnOk, inl, inr, map, refl, subst, ℕ}
use Rattle.std.specs.Prelude.{IfErr, IsErrAnd, IsTrue, OnErr}
use Rattle.std.proofs.lemmas.Result.{on_ok_weaker}
use Rattle.sqlite.specs.State.{HasCleanDisk, State, Survives}
use Rattle.sqlite.proofs.StateLemmas.{survives_weaker}
use Rattle.clr_journal.specs.declared.journal.Journal as append
use Rattle.clr_changes.specs.Archive.{archived, steps_that_go}
use Rattle.clr_changes.specs.Deeds.{Deed, archive}
use Rattle.clr_desk.proofs.Archived.{tables_archived}
use Rattle.clr_desk.specs.Archiving.{AreArchived}
use Rattle.clr_desk.specs.Faults.{IsOfKeeper}
use Rattle.clr_desk.specs.Placing.{Placing}
use Rattle.clr_desk.specs.Taking.{Came}
use Rattle.clr_desk.specs.declared.desk.Desk.{Desk}
use Rattle.clr_desk.specs.declared.desk_fault.DeskFault.{DeskFault}
use Rattle.clr_load.specs.Contract.{IsSaved}
use Rattle.clr_load.specs.Stored.{AreTables, HasTables}
use Rattle.clr_level.specs.Crash.{KeepsTables}
use Rattle.clr_level.specs.Placing.{StaysShown}
use Rattle.clr_level.specs.Renewing.{AreDoneSafely, RenewsAt}
use Rattle.clr_level.specs.declared.keeper.Keeper.{Keeper}
use Rattle.clr_rules.specs.Good.{IsGood}
use Rattle.clr_rules.specs.Register.{Register}
use Rattle.clr_rules.specs.StepKey.{step_key}
use Rattle.clr_store.specs.StepsTaken.{without_steps}
use Rattle.clr_store.specs.Transaction.{PlacesAs, Transacts}
use Rattle.clr_stream.specs.Streams.{IsCut, Stream}
use Rattle.clr_load.specs.Tables.{tables_of}
use Rattle.clr_edge.specs.Visit.{Done}
use Rattle.clr_edge.specs.declared.fault.Fault.TheVariants.{Memory, Output}
use Rattle.clr_commands.specs.Archive.{IsUnsent, TakesOut}
use Rattle.clr_commands.specs.DeedLines.{HasLine}
use Rattle.clr_commands.specs.Faults.{IsOfDesk, done_of}

-- what came of a call of a desk is no more
pub done_of-fault : (fails : DeskFault → Type 0) (came : Came) → IfErr came (IsOfKeeper fails) → IfErr (done_of came) (IsOfDesk fails)
done_of-fault fails (Ok value) of = tt
done_of-fault fails (Err cause) of = (cause, refl, of)

-- ---- what left the tables

taken_by : {K : Type 0} (kept : K → State) (before : ℕ) (R : Register) (read after : K) (came : Came)
    → (HasCleanDisk (kept after) → HasTables (kept read).now (tables_of R) → OnOk came (HasTables (kept after).now (tables_of (archived before R))))
    → (HasCleanDisk (kept after) → OnOk came (IsSaved (kept after)))
    → (HasCleanDisk (kept after) → IsTrue (kept after).is_open → OnErr came ((kept after).now ≡ (kept read).now))
    → Survives (kept read) (kept after) (AreArchived (kept read).now before R)
    → TakesOut kept before R (done_of came) read after
taken_by kept before R read after (Ok value) taken saved none crash = record { taken = taken; saved = saved; none = λ clean is_open. tt; crash = crash }
taken_by kept before R read after (Err cause) taken saved none crash = record { taken = λ clean has. tt; saved = λ clean. tt; none = none; crash = crash }

pub taken_out : {K : Type 0} {fails : State → State → DeskFault → Type 0} (kept : K → State) (before : ℕ) (R : Register) (read after : K) (came : Came)
    → Transacts (PlacesAs None) fails (kept read) (kept after) (without_steps (map step_key (steps_that_go before R))) came → TakesOut kept before R (done_of came) read after
taken_out kept before R read after came it =
    taken_by kept before R read after came
    (λ clean has. on_ok_weaker came (λ made. subst (HasTables (kept after).now) (tables_archived before R) (made (tables_of R) has).0) (it.made clean)) it.saved it.none
    (survives_weaker (kept read) (kept after) _ (AreArchived (kept read).now before R) (λ _ trees left has. subst (AreTables trees) (tables_archived before R) (left (tables_of R) has).0) it.crash)

-- the same at a desk with a journal, which renews its register
pub taken_with : {K J C : Type 0} (kept : K → State) (has_place : Placing) (fails : DeskFault → Type 0) (shows : C → ℕ → Type 0) (text found : J → List ℕ)
    (may_leave : J → List ℕ → Type 0) (is_usable : J → Bool) (before : ℕ) (old new : Desk (Keeper K J C)) (came : Came) → IsGood old.book.register
    → RenewsAt kept has_place fails shows text found may_leave is_usable old new (archive before) came
    → TakesOut (λ (it : Keeper K J C). kept it.keeper) before old.book.register (done_of came) old.store new.store
taken_with {K} {J} {C} kept has_place fails shows text found may_leave is_usable before old new came good renews =
    taken_by (λ (it : Keeper K J C). kept it.keeper) before old.book.register old.store new.store came
    (λ clean has. tables came renews.register renews.tables clean has) (λ clean. renews.saved clean tt)
    (λ clean is_open. stays came renews.stays clean is_open)
    (survives_weaker (kept old.store.keeper) (kept new.store.keeper)
    (AreDoneSafely kept has_place text may_leave old.book.register old.store (archive before) new.store)
    (AreArchived (kept old.store.keeper).now before old.book.register) (λ clean trees done has. (done.0 good has).0) renews.crash)
  where
    tables : (came : Came) → (IsGood old.book.register → OnOk came (new.book.register ≡ archived before old.book.register))
        → OnOk came (KeepsTables (λ (it : Keeper K J C). kept it.keeper) old new)
        → HasCleanDisk (kept new.store.keeper) → HasTables (kept old.store.keeper).now (tables_of old.book.register)
        → OnOk came (HasTables (kept new.store.keeper).now (tables_of (archived before old.book.register)))
    tables (Ok value) register keeps clean has =
        subst (λ (Q : Register). HasTables (kept new.store.keeper).now (tables_of Q)) (register good) (keeps clean good has)
    tables (Err cause) register keeps clean has = tt

    stays : (came : Came) → OnErr came (StaysShown (kept old.store.keeper) (kept new.store.keeper)) → HasCleanDisk (kept new.store.keeper)
        → IsTrue (kept new.store.keeper).is_open → OnErr came ((kept new.store.keeper).now ≡ (kept old.store.keeper).now)
    stays (Ok value) shown clean is_open = tt
    stays (Err cause) shown clean is_open = shown.now clean is_open

-- and its line was noted
pub line_reported : {K J C : Type 0} (kept : K → State) (has_place : Placing) (fails : DeskFault → Type 0) (shows : C → ℕ → Type 0) (log : append.Ghosts J)
    (old new : Desk (Keeper K J C)) (deed : Deed) (came : Came)
    → RenewsAt kept has_place fails shows log.text log.found log.may_leave log.is_usable old new deed came
    → HasLine kept has_place fails shows log old deed (done_of came) new
line_reported kept has_place fails shows log old new deed (Ok value) renews = record { came = Ok value; reports = tt; renews = renews }
line_reported kept has_place fails shows log old new deed (Err cause) renews = record { came = Err cause; reports = refl; renews = renews }

-- ---- what did not go out whole

pub unsent_by : (output output' : Stream) (text : List ℕ) (result : Done) → OnErr result (IsCut output output' text)
    → IfErr result (λ fault. fault ≡ Output) → IfErr result (IsUnsent output output' text)
unsent_by output output' text (Ok value) cut is = tt
unsent_by output output' text (Err fault) cut is = inl (is, cut)

pub memory_unsent : (output output' : Stream) (text : List ℕ) (result : Done) → IsErrAnd result (λ fault. fault ≡ Memory)
    → output' ≡ output → IfErr result (IsUnsent output output' text)
memory_unsent output output' text (Ok value) is same = tt
memory_unsent output output' text (Err fault) is same = inr (is, same)
