-- A desk that is rolled forward: by deeds, and then by a move of its place.
use Rattle.std.proofs.Common.{◌≡◌, ◌⊎◌, [], List, None, Ok, Err, inl, inr, arith, refl, ap, subst, sym}
use Rattle.sqlite.specs.Effect.{Database}
use Rattle.sqlite.specs.State.{State, Survives}
use Rattle.sqlite.proofs.StateLemmas.{survives_weaker}
use Rattle.clr_book.specs.Book.{Shelved}
use Rattle.clr_rules.specs.declared.place.Place.{Place}
use Rattle.clr_rules.specs.Register.{Register}
use Rattle.clr_journal.specs.Line.{Entry}
use Rattle.clr_load.specs.Tables.{tables_of}
use Rattle.clr_load.specs.TableEdits.{tables_edited}
use Rattle.clr_load.specs.Stored.{HasTables}
use Rattle.clr_desk.specs.Kept.{Keeps}
use Rattle.clr_store.specs.Transaction.{AreTurned, Transacts}
use Rattle.clr_desk.specs.Placing.{Placing, SetsPlace, StaysOpen}
use Rattle.clr_desk.specs.Taking.{Came, Taking}
use Rattle.clr_desk.specs.declared.desk.Desk.{Desk}
use Rattle.clr_desk.specs.declared.desk_fault.DeskFault.{DeskFault}
use Rattle.clr_desk.proofs.Keeping.{keeps_on}
use Rattle.clr_level.specs.Crash.{AreFurther}
use Rattle.clr_level.specs.Forward.{Arrives, GoesOn, HasCome, IsMoved, RollsTo}
use Rattle.clr_level.specs.declared.fault.OpeningFault.TheVariants.{Desk as Failed}
use Rattle.clr_level.proofs.Deeds.{goes_further, goes_itself, goes_keep}
use Rattle.clr_level.proofs.Forwarding.{moved_on, stayed, stopped}
use Rattle.clr_level.proofs.Fronts.{moved_further}
use Rattle.clr_level.proofs.Places.{comes, shows_still}

-- the tables stay, whether the place is kept or not
pub moved_keeps : (has_place : Placing) (s t : State) (R : Register) (place : Place) (came : Came) → Transacts {X = Unit {0}} (SetsPlace has_place place) StaysOpen s t (tables_edited []) came
    → Keeps s R t R
unfolding tables_edited
moved_keeps has_place s t R place (Ok done) moved = record {
  good = λ good. good;
  typed = λ good typed. typed;
  clean = λ clean. omega (arith, moved.crash.clean);
  was_open = moved.was_open;
  tables = λ clean shown good has. (moved.made clean (tables_of R) has).0;
  saved = λ clean shown saved. moved.saved clean;
  counts = moved.crash.counts;
  closes = moved.crash.closes;
}
moved_keeps has_place s t R place (Err fault) moved = record {
  good = λ good. good;
  typed = λ good typed. typed;
  clean = λ clean. omega (arith, moved.crash.clean);
  was_open = moved.was_open;
  tables = λ clean shown good has. subst (λ (db : Database). HasTables db (tables_of R)) (sym (moved.none clean shown)) has;
  saved = λ clean shown saved. moved.fault.saved clean shown saved;
  counts = moved.crash.counts;
  closes = moved.crash.closes;
}

module _ {K : Type 0} (kept : K → State) (takes : Taking K) (has_place : Placing) where
  pub rolls_by : (old new : Desk K) → GoesOn kept takes has_place old new → RollsTo kept takes has_place old new
  rolls_by old new led = record { before = new; led = led; book = refl; store = inl refl }

  pub rolls_itself : (d : Desk K) → RollsTo kept takes has_place d d
  rolls_itself d = rolls_by d d (goes_itself kept takes has_place d)

  pub rolls_on : (old between new : Desk K) → GoesOn kept takes has_place old between → RollsTo kept takes has_place between new
      → RollsTo kept takes has_place old new
  rolls_on old between new led rolls = record {
    before = rolls.before;
    led = goes_further kept takes has_place old between rolls.before led rolls.led;
    book = rolls.book;
    store = rolls.store;
  }

  store_keeps : (R : Register) (before after : K) → (after ≡ before) ⊎ IsMoved kept has_place before after → (s : State) (S : Register)
      → Keeps s S (kept before) R → Keeps s S (kept after) R
  store_keeps R before after (inl same) s S keeps = subst (λ (k : K). Keeps s S (kept k) R) (sym same) keeps
  store_keeps R before after (inr (place, came, moved)) s S keeps =
      keeps_on s (kept before) (kept after) S R R keeps (moved_keeps has_place (kept before) (kept after) R place came moved)

  -- what deeds keep is kept
  pub rolls_keep : (old new : Desk K) → RollsTo kept takes has_place old new
      → Keeps (kept old.store) old.book.register (kept new.store) new.book.register
  rolls_keep old new rolls =
      subst (λ (b : Shelved). Keeps (kept old.store) old.book.register (kept new.store) b.register) (sym rolls.book)
      (store_keeps rolls.before.book.register rolls.before.store new.store rolls.store (kept old.store) old.book.register
      (goes_keep kept takes has_place old rolls.before rolls.led))

-- ---- a desk whose keeper was called to move its place

module _ {K : Type 0} (kept : K → State) (has_place : Placing) (old new : Desk K) (before after : K) (at : Place) (book : new.book ≡ old.book)
    (store : before ≡ old.store) (store' : new.store ≡ after) where
  moved_there : (came : Came) → Transacts {X = Unit {0}} (SetsPlace has_place at) StaysOpen (kept before) (kept after) (tables_edited []) came
      → Transacts {X = Unit {0}} (SetsPlace has_place at) StaysOpen (kept old.store) (kept new.store) (tables_edited []) came
  moved_there came moved =
      subst (λ (k : K). Transacts {X = Unit {0}} (SetsPlace has_place at) StaysOpen (kept old.store) (kept k) (tables_edited []) came) (sym store')
      (subst (λ (k : K). Transacts {X = Unit {0}} (SetsPlace has_place at) StaysOpen (kept k) (kept after) (tables_edited []) came) store moved)

  same : new.book.register ≡ old.book.register
  same = ap (λ (b : Shelved). b.register) book

  pub move_arrives : (came : Came) (done : Unit {0}) → came ≡ Ok done → Transacts {X = Unit {0}} (SetsPlace has_place at) StaysOpen (kept before) (kept after) (tables_edited []) came
      → (R : Register) (place : Place) (lines : List Entry) → HasCome has_place R place lines old.book.register (kept old.store) at None []
      → Arrives kept has_place R place lines (Ok tt) new at []
  move_arrives came done is moved R place lines come =
      moved_on has_place R place lines old.book.register new.book.register (kept old.store) (kept new.store) at come same
      (comes has_place (kept old.store) (kept new.store) [] at
      (subst (Transacts {X = Unit {0}} (SetsPlace has_place at) StaysOpen (kept old.store) (kept new.store) (tables_edited [])) is (moved_there came moved)))

  pub move_stops : (came : Came) (fault : DeskFault) → came ≡ Err fault → Transacts {X = Unit {0}} (SetsPlace has_place at) StaysOpen (kept before) (kept after) (tables_edited []) came
      → (R : Register) (place : Place) (lines : List Entry) → HasCome has_place R place lines old.book.register (kept old.store) at None []
      → Arrives kept has_place R place lines (Err (Failed fault)) new at []
  move_stops came fault is moved R place lines come =
      stopped has_place R place lines new.book.register (kept new.store) at None []
      (stayed has_place R place lines old.book.register new.book.register (kept old.store) (kept new.store) at None [] come same
      (shows_still has_place (kept old.store) (kept new.store) [] at fault
      (subst (Transacts {X = Unit {0}} (SetsPlace has_place at) StaysOpen (kept old.store) (kept new.store) (tables_edited [])) is (moved_there came moved))))

  pub move_rolls : (takes : Taking K) (came : Came) → Transacts {X = Unit {0}} (SetsPlace has_place at) StaysOpen (kept before) (kept after) (tables_edited []) came
      → RollsTo kept takes has_place old new
  move_rolls takes came moved = record {
    before = old;
    led = goes_itself kept takes has_place old;
    book = book;
    store = inr (at, came, moved_there came moved);
  }

  -- a crash leaves what was left, or the place
  pub move_left : (came : Came) → Transacts {X = Unit {0}} (SetsPlace has_place at) StaysOpen (kept before) (kept after) (tables_edited []) came
      → Survives (kept old.store) (kept new.store) (AreFurther has_place old.book.register (kept old.store) at None [])
  move_left came moved =
      survives_weaker (kept old.store) (kept new.store) (AreTurned (SetsPlace has_place at) (tables_edited []) (kept old.store).now)
      (AreFurther has_place old.book.register (kept old.store) at None [])
      (λ clean trees edited. moved_further has_place old.book.register (kept old.store) at trees edited) (moved_there came moved).crash
