-- A journal that is begun, or not: the faults, and what was done then.
use Rattle.std.proofs.Common.{◌≡◌, ◌⊎◌, ap, Result, Ok, Err, List, [], ℕ, Some, inl, inr, refl, subst, sym}
use Rattle.std.specs.Prelude.{IfErr, IsErrAnd, IsTrue}
use Rattle.sqlite.specs.Held.{Held, state}
use Rattle.sqlite.specs.State.{HasCleanDisk}
use Rattle.sqlite_trees.specs.declared.store.Store.{Ghosts}
use Rattle.clr_rules.specs.Register.{Register}
use Rattle.clr_rules.specs.declared.place.Place.{Place}
use Rattle.clr_load.specs.TableEdits.{tables_edited}
use Rattle.clr_load.specs.Tables.{Tables, place_row, tables_of}
use Rattle.clr_load.specs.Stored.{ArePlaced, HasTables}
use Rattle.clr_store.specs.Transaction.{PlacesAs, TurnsInto}
use Rattle.clr_level.proofs.BegunLevel.{begun_level}
use Rattle.clr_level.specs.Placing.{ShowsAt}
use Rattle.clr_level.specs.declared.keeper.Keeper.{Keeper}
use Rattle.clr_level.specs.declared.last.Last.TheVariants.{Settled}
use Rattle.clr_chain.specs.declared.fault.NewFault.TheVariants as unbegun
use Rattle.clr_keeping.specs.Beginning.{BeginsLevel, GoesOnAt, IsOfBegun, IsPlacedOrNot, PlacedIsLevel, PlacesAt, begun_or, gives_number}
use Rattle.clr_edge.specs.Journals.{IsNew, IsOfBeginning}
use Rattle.clr_keeping.specs.TakenUp.{Logs, store_place}
use Rattle.clr_edge.specs.Visit.{Closed, Done, reported}
use Rattle.clr_edge.specs.declared.fault.Fault.{Fault}
use Rattle.clr_edge.specs.declared.fault.Fault.TheVariants.{Memory}

-- once a journal was begun, a fault says so
pub begun-fault : (outcome : Closed) (result : Done) → result ≡ begun_or outcome → IfErr result IsOfBegun
begun-fault outcome result is = let Q : Done → Type 0 = λ r. IfErr r IsOfBegun in subst Q (sym is) (of outcome)
  where
    of : (outcome : Closed) → IfErr (begun_or outcome) IsOfBegun
    of (Ok value) = tt
    of (Err fault) = inr refl

-- where it was not begun, the fault is of that
pub begun-memory : (fault : Fault) → fault ≡ Memory → IsOfBegun fault
begun-memory fault is = inl (inr (unbegun.NoMemory, is))

-- a fault that is passed on is the result
pub passed : {T : Type 0} (result : Result T Fault) (fault : Fault) → IsErrAnd result (λ cause. cause ≡ fault) → result ≡ Err fault
passed {T} (Ok value) fault is = absurd is
passed {T} (Err cause) fault is = let fails : Fault → Result T Fault = λ f. Err f in ap fails is

-- ---- the next part

-- the journal was let go, and the next one begun at the place that it had come to
pub goes-on : {M J C T : Type 0} (g : Ghosts T) (logs : Logs M J C) (next : List ℕ) (result : Result ℕ Fault) (old middle new : M)
    (it : Keeper (Held T) J C) (journal : J) (held after : Held T) (first : Place) (outcome : Done)
    → journal ≡ it.journal → held ≡ it.keeper → first ≡ it.at → it.last ≡ Settled → logs.steps.lets_journal_go old journal middle
    → gives_number first outcome result → PlacesAt g logs next first outcome middle new held after → GoesOnAt g logs next result old new it after
goes-on {M} {J} {C} {T} g logs next result old middle new it journal held after first outcome same kept at settled gone gives places = (
  middle,
  subst (λ (j : J). logs.steps.lets_journal_go old j middle) same gone,
  inr (
    outcome,
    subst (λ (p : Place). gives_number p outcome result) at gives,
    settled,
    subst (λ (h : Held T). PlacesAt g logs next it.at outcome middle new h after) kept
        (subst (λ (p : Place). PlacesAt g logs next p outcome middle new held after) at places),
  ),
)

-- the journal was let go, and memory ran out
pub goes-no-further : {M J C T : Type 0} (g : Ghosts T) (logs : Logs M J C) (next : List ℕ) (old new : M)
    (it : Keeper (Held T) J C) (journal : J) (after : Held T)
    → journal ≡ it.journal → after ≡ it.keeper → logs.steps.lets_journal_go old journal new → GoesOnAt g logs next (Err Memory) old new it after
goes-no-further {M} {J} {C} {T} g logs next old new it journal after same kept gone =
    (new, subst (λ (j : J). logs.steps.lets_journal_go old j new) same gone, inl (refl, refl, kept))

-- the number is that of the place, once the register went there
pub number-of : (first : Place) (outcome : Done) (value : Unit {0}) → outcome ≡ Ok value → gives_number first outcome (Ok first.number)
number-of first (Ok done) value is = (refl, refl)
number-of first (Err fault) value is = absurd (cc is)

-- a journal that was begun, and then the register given the place, or not
pub begun-places : {M J C T : Type 0} (g : Ghosts T) (logs : Logs M J C) (path : List ℕ) (first : Place) (result : Done) (old begun new : M) (journal : J)
    (read after : Held T) (outcome : Closed) → logs.steps.begins_journal old path first journal begun → logs.steps.lets_journal_go begun journal new
    → IsNew logs.log logs.steps.is_clean first journal → IsPlacedOrNot g read first (reported outcome) after → result ≡ begun_or outcome → PlacesAt g logs path first result old new read after
begun-places g logs path first result old begun new journal read after outcome begins gone line placed is = inr (record {
  journal = journal;
  begun = begun;
  middle = new;
  begins = begins;
  gone = gone;
  line = line;
  outcome = outcome;
  did = (refl, placed);
  result_is = is;
})

-- ---- level

-- a register whose tables were made with the place is level there
pub made-level : {S : Type 0} (g : Ghosts S) (R : Register) (start : Place) (after : Held S)
    → (HasCleanDisk (state g after) → HasTables (state g after).now (tables_of R) × ArePlaced (state g after).now.trees (Some (place_row start)))
    → BeginsLevel g R start after
made-level g R start after made = begun_level store_place (state g after) R start (λ clean is_open. (tables_of R, (made clean).0, (made clean).1))

-- so is one that was given the place
pub placed-level : {S : Type 0} (g : Ghosts S) (before : Held S) (start : Place) (after : Held S)
    → (HasCleanDisk (state g after) → IsTrue (state g after).is_open → IsTrue (state g before).is_open)
    → (HasCleanDisk (state g after) → TurnsInto (PlacesAs (Some start)) (tables_edited []) (state g before).now (state g after).now) → PlacedIsLevel g before start after
unfolding tables_edited
placed-level {S} g before start after was_open made R had = (
  begun_level store_place (state g after) R start (λ clean is_open. shown (had clean (was_open clean is_open)) (made clean)),
  λ clean t has. (made clean t has).0,
)
  where
    shown : (t : Tables) × HasTables (state g before).now t
        → ((t : Tables) → HasTables (state g before).now t → HasTables (state g after).now (tables_edited [] t) × ArePlaced (state g after).now.trees (Some (place_row start)))
        → ShowsAt store_place (state g after).now start
    shown (t, has) makes = (tables_edited [] t, (makes t has).0, (makes t has).1)
