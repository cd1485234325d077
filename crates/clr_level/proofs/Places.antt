-- Where a keeper is, after what came of a command.
use Rattle.std.proofs.Common.{◌≡◌, List, Result, Ok, Err, refl, subst, sym, arith}
use Rattle.std.specs.Prelude.{⊤}
use Rattle.sqlite.specs.Effect.{Database}
use Rattle.sqlite.specs.State.{State}
use Rattle.clr_rules.specs.declared.place.Place.{Place}
use Rattle.clr_rules.specs.declared.change.Edit.{Edit}
use Rattle.clr_load.specs.TableEdits.{tables_edited}
use Rattle.clr_load.specs.Tables.{Tables}
use Rattle.clr_desk.specs.Commit.{Stays, StaysSaved}
use Rattle.clr_desk.specs.declared.desk_fault.DeskFault.{DeskFault}
use Rattle.clr_desk.proofs.Staying.{stays_open}
use Rattle.clr_store.specs.Transaction.{Transacts}
use Rattle.clr_store.proofs.Ending.{transacts_as}
use Rattle.clr_desk.specs.Placing.{Placing, SetsPlace, StaysOpen}
use Rattle.clr_level.specs.Placing.{ComesTo, IsAt, ShowsAt, StaysShown}
use Rattle.clr_level.proofs.Crashes.{left_itself}

pub at_moves : (has_place : Placing) (old new : State) (place next : Place) → IsAt has_place old place → ComesTo has_place old new next
    → IsAt has_place new next
at_moves has_place old new place next at comes clean shown =
    let was = at (comes.clean clean) (comes.was_open clean shown) in
    comes.shown clean was.0 was.1

pub at_stays : (has_place : Placing) (old new : State) (place : Place) → IsAt has_place old place → StaysShown old new → IsAt has_place new place
at_stays has_place old new place at stays clean shown =
    subst (λ (db : Database). ShowsAt has_place db place) (sym (stays.now clean shown)) (at (stays.clean clean) (stays.was_open clean shown))

pub comes : (has_place : Placing) (old new : State) (edits : List Edit) (place : Place) → Transacts {X = Unit {0}} (SetsPlace has_place place) StaysOpen old new (tables_edited edits) (Ok tt)
    → ComesTo has_place old new place
comes has_place old new edits place is = record {
  clean = λ clean. omega (arith, is.crash.clean);
  was_open = is.was_open;
  shown = λ clean t has. let made = is.made clean t has in (tables_edited edits t, made.0, made.1);
}

pub shows_still : (has_place : Placing) (old new : State) (edits : List Edit) (place : Place) (fault : DeskFault)
    → Transacts {X = Unit {0}} (SetsPlace has_place place) StaysOpen old new (tables_edited edits) (Err fault) → StaysShown old new
shows_still has_place old new edits place fault is = record {
  clean = λ clean. omega (arith, is.crash.clean);
  was_open = is.was_open;
  now = λ clean shown. is.none clean shown;
}

pub stays_shown : (old new : State) → Stays old new → StaysShown old new
stays_shown old new stays = record {
  clean = λ clean. omega (arith, stays.crash.clean);
  was_open = λ clean shown. stays_open old new stays shown;
  now = λ clean shown. stays.now;
}

pub shown_itself : (s : State) → StaysShown s s
shown_itself s = record {
  clean = λ clean. clean;
  was_open = λ clean shown. shown;
  now = λ clean shown. refl;
}

-- where a call met a fault before anything was kept, the tables are as they were
pub nothing_kept : (s : State) (turned : Tables → Tables) (fault : DeskFault) (r : Result (Unit {0}) DeskFault) → r ≡ Err fault
    → Transacts (λ _ _. ⊤) StaysSaved s s turned r
nothing_kept s turned fault r is = subst (Transacts (λ _ _. ⊤) StaysSaved s s turned) (sym is) (record {
  made = λ clean. tt;
  saved = λ clean. tt;
  none = λ clean shown. refl;
  fault = λ clean shown saved. saved;
  was_open = λ clean shown. shown;
  crash = left_itself s _;
})

-- what a keeper does with a place, it does of the tables
pub of_tables : (has_place : Placing) (old new : State) (turned : Tables → Tables) (place : Place) (r : Result (Unit {0}) DeskFault)
    → Transacts (SetsPlace has_place place) StaysOpen old new turned r → Transacts (λ _ _. ⊤) StaysSaved old new turned r
of_tables has_place old new turned place (Ok done) it = transacts_as old new turned (Ok done) (Ok done) refl (λ _ _ _. tt) tt it
of_tables has_place old new turned place (Err fault) it = transacts_as old new turned (Err fault) (Err fault) refl (λ _ _ _. tt) it.fault.saved it
