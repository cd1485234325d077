-- Calls that read tables, one after another.
use Rattle.std.proofs.Common.{◌≡◌, ◌∙◌, inl, inr, Bool, true, false, Result, Ok, Err, arith, subst, sym}
use Rattle.sqlite.specs.Effect.{Database}
use Rattle.sqlite.specs.Held.{Held, state}
use Rattle.sqlite.specs.State.{HasCleanDisk, IsRolledBack, IsUnchanged, State, Survives}
use Rattle.sqlite.specs.Store.{Ghosts}
use Rattle.sqlite.proofs.Callers.{unchanged_then}
use Rattle.clr_load.specs.Tables.{Tables}
use Rattle.clr_load.specs.declared.table_name.TableName.{TableName}
use Rattle.clr_load.specs.Cause.{SqlHasCause}
use Rattle.clr_load.specs.Fault.{IsOfDatabase}
use Rattle.clr_load.specs.Filling.{GivesInto}
use Rattle.clr_load.specs.Layout.{Layout}
use Rattle.clr_load.specs.Loads.{Loads, Stays}
use Rattle.clr_load.specs.Stored.{HasTablesIn}
use Rattle.clr_load.specs.declared.fault.StoreFault.{StoreFault}
use Rattle.clr_load.specs.declared.fault.StoreFault.TheVariants.{Sql, WrongVersion, BadRow, NoMemory, OtherTables}
use Rattle.clr_load.proofs.Causes.{then_cause}
use Rattle.clr_load.proofs.Inside.{both_survive}

pub unchanged_stays : (old new : State) → IsUnchanged old new → Stays old new
unchanged_stays old new h = record { was_open = λ _. h.0.was_open; same = λ _ saved. (h.0.now_is, h.0.committed_is ∙ sym saved) }

pub undone_stays : (old new : State) → IsRolledBack old new → Stays old new
undone_stays old new h = record { was_open = h.was_open; same = λ o saved. ((h.undone o).0 ∙ sym saved, (h.undone o).1 ∙ sym saved) }

pub then_stays : (a b c : State) → IsUnchanged a b → Stays b c → Stays a c
then_stays a b c first second = record {
  was_open = λ _. first.0.was_open;
  same = λ o saved.
      let here = second.same o (first.0.now_is ∙ saved ∙ sym first.0.committed_is) in
      (here.0 ∙ first.0.now_is, here.1 ∙ first.0.now_is);
}

-- a fault of the database is given whatever is read
pub gives_fault : {B Z : Type 0} (has : Z → B → Type 0) (read : Result B TableName) (fault : StoreFault) → IsOfDatabase fault → GivesInto has read (Err fault)
gives_fault has read Sql of = tt
gives_fault has read NoMemory of = tt
gives_fault has read (WrongVersion n) of = absurd of
gives_fault has read OtherTables of = absurd of
gives_fault has read (BadRow table) of = absurd of

module _ {S A X : Type 0} (g : Ghosts S) (a b : Held S) (fits : Layout → Bool) (f : Layout → Tables → Result A TableName) (shows : X → A → Type 0) where
  -- one call fails, and with it the whole
  pub none_loads : {C Z : Type 0} (k : Layout → Tables → Result C TableName) (has : Z → C → Type 0) (e : StoreFault) → Loads g a b fits f shows (Err e)
      → ((l : Layout) (t : Tables) (bad : TableName) → f l t ≡ Err bad → k l t ≡ Err bad) → Loads g a b fits k has (Err e)
  none_loads {C} {Z} k has e first fails = record {
    mode = first.mode;
    survives = first.survives;
    unchanged = first.unchanged;
    was_open = first.was_open;
    gives = λ clean l fit t there.
        let it = first.gives clean l fit t there in
        (given (f l t) (k l t) e (fails l t) it.0, it.1);
  }
    where
      given : (p : Result A TableName) (q : Result C TableName) (e : StoreFault) → ((bad : TableName) → p ≡ Err bad → q ≡ Err bad) → GivesInto shows p (Err e) → GivesInto has q (Err e)
      given p q Sql so h = tt
      given p q NoMemory so h = tt
      given p q (WrongVersion n) so h = absurd h
      given p q OtherTables so h = absurd h
      given p q (BadRow table) so h = so table h

  -- after one call the whole is given, or fails without the database
  pub loads_as : {C Z : Type 0} (k : Layout → Tables → Result C TableName) (has : Z → C → Type 0) (x : X) (z : Z) → Loads g a b fits f shows (Ok x)
      → ((l : Layout) (t : Tables) (v : A) → fits l ≡ true → f l t ≡ Ok v → shows x v → GivesInto has (k l t) (Ok z)) → Loads g a b fits k has (Ok z)
  loads_as k has x z first seen = record {
    mode = first.mode;
    survives = first.survives;
    unchanged = first.unchanged;
    was_open = λ clean. inl (first.unchanged clean).0.was_open;
    gives = λ clean l fit t there.
        let it = (first.gives clean l fit t there).0 in
        (seen l t it.0 fit it.1 it.2, tt);
  }

  pub loads_not : {C Z : Type 0} (k : Layout → Tables → Result C TableName) (has : Z → C → Type 0) (x : X) (e : StoreFault) → Loads g a b fits f shows (Ok x)
      → ((old new : State) → SqlHasCause old new e)
      → ((l : Layout) (t : Tables) (v : A) → fits l ≡ true → f l t ≡ Ok v → shows x v → GivesInto has (k l t) (Err e)) → Loads g a b fits k has (Err e)
  loads_not k has x e first cause seen = record {
    mode = first.mode;
    survives = first.survives;
    unchanged = λ clean. unchanged_stays (state g a) (state g b) (first.unchanged clean);
    was_open = λ clean. inl (first.unchanged clean).0.was_open;
    gives = λ clean l fit t there.
        let it = (first.gives clean l fit t there).0 in
        (seen l t it.0 fit it.1 it.2, cause (state g a) (state g b));
  }

  module _ {B Y : Type 0} (c : Held S) (h : Layout → Tables → Result B TableName) (others : Y → B → Type 0) where
    still : (b_is : IsUnchanged (state g a) (state g b)) (l : Layout) (t : Tables) → HasTablesIn l (state g a).now t → HasTablesIn l (state g b).now t
    still b_is l t there = subst (λ (db : Database). HasTablesIn l db t) (sym b_is.0.now_is) there

    -- one call gives something, and another something more
    pub then_loads : {C Z : Type 0} (k : Layout → Tables → Result C TableName) (has : Z → C → Type 0) (x : X) (y : Y) (z : Z)
        → Loads g a b fits f shows (Ok x) → Loads g b c fits h others (Ok y)
        → ((l : Layout) (t : Tables) (v : A) (w : B) → fits l ≡ true → f l t ≡ Ok v → shows x v → h l t ≡ Ok w → others y w → GivesInto has (k l t) (Ok z))
        → Loads g a c fits k has (Ok z)
    then_loads k has x y z first second joined = record {
      mode = λ out. second.mode (first.mode out);
      survives = both_survive (state g a) (state g b) (state g c) first.survives second.survives;
      unchanged = λ clean.
          let early : HasCleanDisk (state g b) = omega (arith, second.survives.clean) in
          unchanged_then (state g a) (state g b) (state g c) (first.unchanged early) (second.unchanged clean);
      was_open = λ clean.
          let early : HasCleanDisk (state g b) = omega (arith, second.survives.clean) in
          inl (first.unchanged early).0.was_open;
      gives = λ clean l fit t there.
          let early : HasCleanDisk (state g b) = omega (arith, second.survives.clean) in
          let p = (first.gives early l fit t there).0 in
          let q = (second.gives clean l fit t (still (first.unchanged early) l t there)).0 in
          (joined l t p.0 q.0 fit p.1 p.2 q.1 q.2, tt);
    }

    -- one call gives something, and another fails
    pub then_fails : {C Z : Type 0} (k : Layout → Tables → Result C TableName) (has : Z → C → Type 0) (x : X) (e : StoreFault)
        → Loads g a b fits f shows (Ok x) → Loads g b c fits h others (Err e)
        → ((l : Layout) (t : Tables) (v : A) (bad : TableName) → fits l ≡ true → f l t ≡ Ok v → shows x v → h l t ≡ Err bad → k l t ≡ Err bad)
        → Loads g a c fits k has (Err e)
    then_fails {C} {Z} k has x e first second fails = record {
      mode = λ out. second.mode (first.mode out);
      survives = both_survive (state g a) (state g b) (state g c) first.survives second.survives;
      unchanged = λ clean.
          let early : HasCleanDisk (state g b) = omega (arith, second.survives.clean) in
          then_stays (state g a) (state g b) (state g c) (first.unchanged early) (second.unchanged clean);
      was_open = λ clean.
          let early : HasCleanDisk (state g b) = omega (arith, second.survives.clean) in
          inl (first.unchanged early).0.was_open;
      gives = λ clean l fit t there.
          let early : HasCleanDisk (state g b) = omega (arith, second.survives.clean) in
          let p = (first.gives early l fit t there).0 in
          let q = second.gives clean l fit t (still (first.unchanged early) l t there) in (
            given (h l t) (k l t) e (λ bad is. fails l t p.0 bad fit p.1 p.2 is) q.0,
            then_cause (state g a) (state g b) (state g c) _ e first.survives early second.survives.counts q.1,
          );
    }
      where
        given : (p : Result B TableName) (q : Result C TableName) (e : StoreFault) → ((bad : TableName) → p ≡ Err bad → q ≡ Err bad) → GivesInto others p (Err e) → GivesInto has q (Err e)
        given p q Sql so h = tt
        given p q NoMemory so h = tt
        given p q (WrongVersion n) so h = absurd h
        given p q OtherTables so h = absurd h
        given p q (BadRow table) so h = so table h

-- a call that fails for the database has given nothing
pub stops : {S A X : Type 0} (g : Ghosts S) (a b : Held S) (fits : Layout → Bool) (read : Layout → Tables → Result A TableName) (has : X → A → Type 0) (e : StoreFault)
    → (a.in_transaction ≡ false → b.in_transaction ≡ false) → Survives (state g a) (state g b) (λ _. ⊥) → (HasCleanDisk (state g b) → Stays (state g a) (state g b)) → IsOfDatabase e
    → (HasCleanDisk (state g b) → (l : Layout) → fits l ≡ true → (t : Tables) → HasTablesIn l (state g a).now t → SqlHasCause (state g a) (state g b) e) → Loads g a b fits read has (Err e)
stops g a b fits read has e mode survives unchanged of cause = record {
  mode = mode;
  survives = survives;
  unchanged = unchanged;
  was_open = λ clean. inr of;
  gives = λ clean l fit t there. (gives_fault has (read l t) e of, cause clean l fit t there);
}

-- what is given in some layouts is given in fewer
pub loads_in : {S A X : Type 0} (g : Ghosts S) (a b : Held S) (fits fewer : Layout → Bool) → ((l : Layout) → fewer l ≡ true → fits l ≡ true)
    → (read : Layout → Tables → Result A TableName) (has : X → A → Type 0) (r : Result X StoreFault) → Loads g a b fits read has r → Loads g a b fewer read has r
loads_in g a b fits fewer within read has r it = record {
  mode = it.mode;
  survives = it.survives;
  unchanged = it.unchanged;
  was_open = it.was_open;
  gives = λ clean l fit t there. it.gives clean l (within l fit) t there;
}
