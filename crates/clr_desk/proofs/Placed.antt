-- What a store keeps, as a desk sees it.
use Rattle.std.proofs.Common.{◌≡◌, Err, None, Ok, Option, Result, Some, option_map, refl, subst, sym}
use Rattle.std.specs.Prelude.{⊤}
use Rattle.sqlite.specs.State.{State}
use Rattle.sqlite.specs.Tree.{Trees}
use Rattle.clr_rules.specs.declared.place.Place.{Place}
use Rattle.clr_load.specs.Tables.{Tables, place_row}
use Rattle.clr_load.specs.Stored.{ArePlaced}
use Rattle.clr_load.specs.declared.fault.StoreFault.{StoreFault}
use Rattle.clr_load.specs.declared.fault.StoreFault.TheVariants.{BadRow, OtherTables, Sql, WrongVersion}
use Rattle.clr_load.specs.declared.fault.StoreFault.TheVariants.{NoMemory as NoMemoryThere}
use Rattle.clr_store.specs.Transaction.{FailsAs, PlacesAs, Transacts}
use Rattle.clr_store.proofs.Ending.{transacts_as}
use Rattle.clr_desk.specs.Faults.{of_store}
use Rattle.clr_desk.specs.Commit.{StaysSaved}
use Rattle.clr_desk.specs.Placing.{SetsPlace, StaysOpen}
use Rattle.clr_desk.specs.declared.desk_fault.DeskFault.{DeskFault}
use Rattle.clr_desk.specs.declared.desk_fault.DeskFault.TheVariants.{NoMemory}

abbrev pub has_store_place : Trees → Option Place → Type 0
has_store_place trees place = ArePlaced trees (option_map place_row place)

-- a fault that is want of memory was one of the store
wanted : (fault : StoreFault) → of_store fault ≡ NoMemory → fault ≡ NoMemoryThere
wanted Sql is = absurd cc
wanted (WrongVersion n) is = absurd cc
wanted (BadRow name) is = absurd cc
wanted OtherTables is = absurd cc
wanted NoMemoryThere is = refl

module _ (old new : State) (turned : Tables → Tables) where
  pub kept : Transacts {X = Unit {0}} (PlacesAs None) (FailsAs None) old new turned (Ok tt) → Transacts {X = Unit {0}} (λ _ _. ⊤) StaysSaved old new turned (Ok tt)
  kept it = transacts_as old new turned (Ok tt) (Ok tt) refl (λ _ _ _. tt) tt it

  pub not_kept : (fault : StoreFault) (r : Result (Unit {0}) DeskFault) → r ≡ Err (of_store fault)
      → Transacts {X = Unit {0}} (PlacesAs None) (FailsAs None) old new turned (Err fault) → Transacts (λ _ _. ⊤) StaysSaved old new turned r
  not_kept fault r is it =
      subst (Transacts (λ _ _. ⊤) StaysSaved old new turned) (sym is)
      (transacts_as old new turned (Err fault) (Err (of_store fault)) refl (λ _ _ _. tt) (λ clean shown _. it.fault.saved clean shown) it)

-- with a place
module _ (old new : State) (turned : Tables → Tables) (place : Place) where
  pub placed_at : Transacts {X = Unit {0}} (PlacesAs (Some place)) (FailsAs (Some place)) old new turned (Ok tt)
      → Transacts {X = Unit {0}} (SetsPlace has_store_place place) StaysOpen old new turned (Ok tt)
  placed_at it = transacts_as old new turned (Ok tt) (Ok tt) refl (λ before after is. is) tt it

  pub not_placed_at : (fault : StoreFault) (r : Result (Unit {0}) DeskFault) → r ≡ Err (of_store fault)
      → Transacts {X = Unit {0}} (PlacesAs (Some place)) (FailsAs (Some place)) old new turned (Err fault)
      → Transacts {X = Unit {0}} (SetsPlace has_store_place place) StaysOpen old new turned r
  not_placed_at fault r is it =
      subst (Transacts (SetsPlace has_store_place place) StaysOpen old new turned) (sym is)
      (transacts_as old new turned (Err fault) (Err (of_store fault)) refl (λ before after set. set)
      (record { saved = λ clean shown _. it.fault.saved clean shown; stays_open = λ clean no. it.fault.stays_open refl clean (wanted fault no) }) it)
