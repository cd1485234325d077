-- A desk that comes to another register, with a place.
use Rattle.std.proofs.Common.{◌≡◌, IsTrue, Err, Ok, Result, arith, ap, inl, refl, subst, sym}
use Rattle.sqlite.specs.State.{State, Survives}
use Rattle.sqlite.specs.Tree.{Trees}
use Rattle.sqlite.proofs.StateLemmas.{survives_weaker}
use Rattle.clr_rules.specs.declared.place.Place.{Place}
use Rattle.clr_rules.specs.Good.{IsGood}
use Rattle.clr_rules.specs.Register.{Register}
use Rattle.clr_load.specs.Contract.{IsSaved}
use Rattle.clr_load.specs.Stored.{AreTables, HasTables}
use Rattle.clr_load.specs.Tables.{Tables, tables_of}
use Rattle.clr_load.specs.TypedRows.{IsTyped}
use Rattle.clr_desk.specs.Faults.{IsOfKeeper}
use Rattle.clr_store.specs.Transaction.{Transacts}
use Rattle.clr_desk.specs.Placing.{Placing, SetsPlace, StaysOpen}
use Rattle.clr_desk.specs.Renewing.{AreComeTo, ComesTo}
use Rattle.clr_desk.specs.declared.desk.Desk.{Desk}
use Rattle.clr_desk.specs.declared.desk_fault.DeskFault.{DeskFault}
use Rattle.clr_desk.specs.declared.desk_fault.DeskFault.TheVariants.{NoMemory}

-- what is not touched stays
pub stays_so : (s : State) (P : Trees → Type 0) → Survives s s P
stays_so s P = record { clean = omega arith; shield = λ shielded. shielded; counts = omega arith; limit = refl; closes = λ _ is_open. inl is_open; crash = λ _ db left. inl left }

module _ {K : Type 0} (kept : K → State) (has_place : Placing) (fails : DeskFault → Type 0) (So : Type 0) (old new : Desk K) (S : Register) (place : Place) where
  abbrev left : Trees → Type 0
  left = AreComeTo has_place So (kept old.store).now old.book.register S place

  module _ (turned : Tables → Tables) (so : So) (same : turned (tables_of old.book.register) ≡ tables_of S) where
    -- its tables turn into those of the other, with the place
    left_so : (result : Result (Unit {0}) DeskFault) → Transacts (SetsPlace has_place place) StaysOpen (kept old.store) (kept new.store) turned result → Survives (kept old.store) (kept new.store) left
    left_so result it =
        survives_weaker (kept old.store) (kept new.store) _ left
        (λ _ trees may has. let both = may (tables_of old.book.register) has in (so, subst (AreTables trees) same both.0, both.1)) it.crash

    pub came_to : Transacts {X = Unit {0}} (SetsPlace has_place place) StaysOpen (kept old.store) (kept new.store) turned (Ok tt) → (IsGood old.book.register → new.book.register ≡ S) → (IsTyped old.book.register → IsTyped S)
        → ComesTo {X = Unit {0}} kept has_place fails So old new S place (Ok tt)
    came_to it register typed = record {
      register = register;
      typed = typed;
      unchanged = tt;
      cause = tt;
      tables = λ clean has. let both = it.made clean (tables_of old.book.register) has in (subst (HasTables (kept new.store).now) same both.0, both.1);
      shown = λ clean t has. let both = it.made clean t has in (turned t, both.0, both.1);
      none = λ clean shown. tt;
      was_open = it.was_open;
      stays_open = λ clean is was. absurd (cc is);
      saved = it.saved;
      still_saved = λ clean shown before. tt;
      survives = left_so (Ok tt) it;
    }

    pub not_come : (fault : DeskFault) → Transacts {X = Unit {0}} (SetsPlace has_place place) StaysOpen (kept old.store) (kept new.store) turned (Err fault) → new.book ≡ old.book → IsOfKeeper fails fault
        → ComesTo {X = Unit {0}} kept has_place fails So old new S place (Err fault)
    not_come fault it book cause = record {
      register = λ good. tt;
      typed = tt;
      unchanged = book;
      cause = cause;
      tables = λ clean has. tt;
      shown = λ clean t has. tt;
      none = it.none;
      was_open = it.was_open;
      stays_open = λ clean is was. it.fault.stays_open clean (cc is);
      saved = λ clean. tt;
      still_saved = it.fault.saved;
      survives = left_so (Err fault) it;
    }

  -- memory ran out before anything was written
  pub not_begun : new.book ≡ old.book → new.store ≡ old.store → ComesTo {X = Unit {0}} kept has_place fails So old new S place (Err NoMemory)
  not_begun book store = record {
    register = λ good. tt;
    typed = tt;
    unchanged = book;
    cause = tt;
    tables = λ clean has. tt;
    shown = λ clean t has. tt;
    none = λ clean shown. ap (λ k. (kept k).now) store;
    was_open = λ clean shown. subst (λ k. IsTrue (kept k).is_open) store shown;
    stays_open = λ clean is was. subst (λ k. IsTrue (kept k).is_open) (sym store) was;
    saved = λ clean. tt;
    still_saved = λ clean shown before. subst (λ k. IsSaved (kept k)) (sym store) before;
    survives = subst (λ k. Survives (kept old.store) (kept k) left) (sym store) (stays_so (kept old.store) left);
  }

-- what turned at one keeper turned at the same one
pub turned_from : {K X : Type 0} (kept : K → State) (has_place : Placing) (a b c d : K) (turned : Tables → Tables) (place : Place) (result : Result X DeskFault) → a ≡ c → b ≡ d
    → Transacts (SetsPlace has_place place) StaysOpen (kept a) (kept b) turned result → Transacts (SetsPlace has_place place) StaysOpen (kept c) (kept d) turned result
turned_from kept has_place a b c d turned place result first second it =
    subst (λ k. Transacts (SetsPlace has_place place) StaysOpen (kept k) (kept d) turned result) first (subst (λ k. Transacts (SetsPlace has_place place) StaysOpen (kept a) (kept k) turned result) second it)

pub one_desk : {K : Type 0} (a b : Desk K) → a.book ≡ b.book → a.store ≡ b.store → a.faults ≡ b.faults → a ≡ b
one_desk a b book store faults = λ i. record { book = book i; store = store i; faults = faults i }
