-- How a version that was read is refused.
use Rattle.std.proofs.Common.{◌≡◌, ◌∙◌, ◌≤◌, ◌⊎◌, Bool, false, inl, inr, not, true, ℕ, zero, suc, arith, ℤ, pos, [], ◌∷◌, Err, IfErr, Ok, Result, refl, subst, sym}
use Rattle.std.proofs.lemmas.Bool.{true≢false}
use Rattle.clr_load.specs.RowsRead.{read_version}
use Rattle.clr_load.specs.Tables.{Tables, version_row}
use Rattle.clr_load.specs.declared.table_name.TableName.{TableName}
use Rattle.sqlite.specs.Effect.{Database}
use Rattle.sqlite.specs.declared.error.Error.{Error}
use Rattle.clr_load.specs.Layout.{is_two, version_of}
use Rattle.clr_load.specs.declared.layout.Layout.{Layout}
use Rattle.clr_load.specs.declared.layout.Layout.TheVariants.{AsMade, AsMadeLogged, AsMoved, AsMovedLogged, OfOne}
use Rattle.clr_load.specs.Stored.{HasOldTables, HasTables, HasVersion}
use Rattle.clr_load.specs.Cause.{fault_of}
use Rattle.clr_load.specs.Contract.{RefusesPoints, TellsVersion, old_points}
use Rattle.clr_load.specs.Fault.{IsOfDatabase, IsOfExpected, IsOfPoints}
use Rattle.clr_store.specs.Contract.{IsOfOpening, RefusesOpening, RefusesVersion}
use Rattle.clr_store.specs.Moving.{IsOfMove, RefusesMove, RefusesToMove}
use Rattle.clr_load.specs.declared.fault.StoreFault.{StoreFault}
use Rattle.clr_load.proofs.Causes.{told_of_database}
use Rattle.clr_load.specs.declared.fault.StoreFault.TheVariants.{Sql, WrongVersion, BadRow, NoMemory, OtherTables}

pub refuses : (read : Result ℤ TableName) (fault : StoreFault) → TellsVersion 2 read (Err fault) → RefusesVersion read fault
refuses read Sql h = tt
refuses read NoMemory h = tt
refuses read (BadRow table) h = h
refuses read (WrongVersion n) h = absurd h
refuses read OtherTables h = let two : h.0 ≡ 2 = omega (arith, h.2, h.3) in subst (λ n. read ≡ Ok (pos n)) two h.1

pub refuses_opening : (t : Tables) (fault : StoreFault) → (fault ≡ OtherTables → t.meta ≡ version_row 2 ∷ [] → ⊥) → TellsVersion 2 (read_version t.meta) (Err fault) → RefusesOpening t fault
refuses_opening t Sql other h = tt
refuses_opening t NoMemory other h = tt
refuses_opening t (BadRow table) other h = h
refuses_opening t (WrongVersion n) other h = absurd h
refuses_opening t OtherTables other h = other refl

-- tables that are there, of which `meta` has its row alone, have their version
pub two_has : (db : Database) (t : Tables) → HasTables db t → t.meta ≡ version_row 2 ∷ [] → HasVersion 2 db
two_has db t has told = record { layout = has.layout; version_is = two_is has.layout has.two; tables = t; here = has.here; told = told }
  where
    two_is : (l : Layout) → is_two l ≡ true → version_of l ≡ 2
    two_is OfOne two = absurd cc
    two_is AsMade two = refl
    two_is AsMoved two = refl
    two_is AsMadeLogged two = refl
    two_is AsMovedLogged two = refl

pub one_has : (db : Database) (t : Tables) → HasOldTables db t → t.meta ≡ version_row 1 ∷ [] → HasVersion 1 db
one_has db t has told = record { layout = OfOne; version_is = refl; tables = t; here = has; told = told }

pub of_opening : (fault : StoreFault) → IsOfExpected fault → IsOfOpening fault
of_opening Sql h = tt
of_opening NoMemory h = tt
of_opening (BadRow table) h = h
of_opening (WrongVersion n) h = absurd h
of_opening OtherTables h = tt

-- ---- how a move is refused
-- by the version
-- a version that was found from 1 on is one of two
one_or_two : (P : ℕ → Type 0) (n : ℕ) → 1 ≤ n → n ≤ 2 → P n → P 1 ⊎ P 2
one_or_two P zero low high here = absurd (omega (arith, low))
one_or_two P (suc zero) low high here = inl here
one_or_two P (suc (suc zero)) low high here = inr here
one_or_two P (suc (suc (suc n))) low high here = absurd (omega (arith, high))

pub move_unread : (read : Result ℤ TableName) (fault : StoreFault) → IsOfExpected fault → TellsVersion 1 read (Err fault) → RefusesToMove read fault
move_unread read OtherTables is h = one_or_two (λ n. read ≡ Ok (pos n)) h.0 h.2 h.3 h.1
move_unread read Sql is h = tt
move_unread read NoMemory is h = tt
move_unread read (BadRow table) is h = subst (λ t. RefusesToMove read (BadRow t)) (sym is) (subst (λ t. read ≡ Err t) is h)
move_unread read (WrongVersion n) is h = absurd h

pub old_unread : (t : Tables) (fault : StoreFault) → IsOfExpected fault → (fault ≡ OtherTables → t.meta ≡ version_row 1 ∷ [] → ⊥) → TellsVersion 1 (read_version t.meta) (Err fault) → RefusesMove t fault
old_unread t OtherTables is other h = λ told. other refl told
old_unread t Sql is other h = tt
old_unread t NoMemory is other h = tt
old_unread t (BadRow table) is other h = subst (λ name. RefusesMove t (BadRow name)) (sym is) (subst (λ name. read_version t.meta ≡ Err name) is h)
old_unread t (WrongVersion n) is other h = absurd h

pub old_stopped : (t : Tables) (fault : StoreFault) → IsOfPoints fault → read_version t.meta ≡ Ok (pos 1) → RefusesPoints (old_points t) fault → RefusesMove t fault
old_stopped t Sql is one h = tt
old_stopped t NoMemory is one h = tt
old_stopped t (BadRow table) is one h = subst (λ name. RefusesMove t (BadRow name)) (sym is) (one, subst (λ name. old_points t ≡ Err name) is h)
old_stopped t (WrongVersion n) is one h = absurd is
old_stopped t OtherTables is one h = absurd is

pub old_failed : (t : Tables) (fault : StoreFault) → IsOfDatabase fault → RefusesMove t fault
old_failed t Sql h = tt
old_failed t NoMemory h = tt
old_failed t (BadRow table) h = absurd h
old_failed t (WrongVersion n) h = absurd h
old_failed t OtherTables h = absurd h

-- a fault of the database stops a move with no word on the points
pub database_stops : (t : Tables) (fault : StoreFault) → IsOfDatabase fault → RefusesPoints (old_points t) fault
database_stops t Sql h = tt
database_stops t NoMemory h = tt
database_stops t (BadRow table) h = absurd h
database_stops t (WrongVersion n) h = absurd h
database_stops t OtherTables h = absurd h

pub database_of_points : (fault : StoreFault) → IsOfDatabase fault → IsOfPoints fault
database_of_points Sql h = tt
database_of_points NoMemory h = tt
database_of_points (BadRow table) h = absurd h
database_of_points (WrongVersion n) h = absurd h
database_of_points OtherTables h = absurd h

pub points_of_error : (e : Error) (fault : StoreFault) → fault ≡ fault_of e → IsOfPoints fault
points_of_error e fault is = database_of_points fault (told_of_database e fault is)

pub last_stops : {X : Type 0} (t : Tables) (r : Result X StoreFault) → IfErr r IsOfDatabase → IfErr r (RefusesPoints (old_points t))
last_stops t (Ok x) h = h
last_stops t (Err fault) h = database_stops t fault h

pub last_of_points : {X : Type 0} (r : Result X StoreFault) → IfErr r IsOfDatabase → IfErr r IsOfPoints
last_of_points (Ok x) h = h
last_of_points (Err fault) h = database_of_points fault h

-- the tables of a register have their version
pub one_is_told : read_version (version_row 1 ∷ []) ≡ Ok (pos 1)
unfolding read_version
one_is_told = refl

-- a point that does not read is no other table
pub points_not_other : (fault : StoreFault) → IsOfPoints fault → fault ≡ OtherTables → ⊥
points_not_other Sql of is = absurd cc
points_not_other NoMemory of is = absurd cc
points_not_other (BadRow table) of is = absurd cc
points_not_other (WrongVersion n) of is = absurd of
points_not_other OtherTables of is = of

-- ---- how a connection is outside a transaction
pub outside : (b : Bool) → true ≡ not b → b ≡ false
outside false is = refl
outside true is = absurd cc

pub never_inside : (b : Bool) → true ≡ not b → b ≡ true → ⊥
never_inside b is inside = true≢false (sym inside ∙ outside b is)

-- ---- faults of a move
pub expected_moves : (fault : StoreFault) → IsOfExpected fault → IsOfMove fault
expected_moves Sql h = tt
expected_moves NoMemory h = tt
expected_moves (BadRow table) h = subst (λ name. IsOfMove (BadRow name)) (sym h) tt
expected_moves (WrongVersion n) h = absurd h
expected_moves OtherTables h = tt

pub points_move : (fault : StoreFault) → IsOfPoints fault → IsOfMove fault
points_move Sql h = tt
points_move NoMemory h = tt
points_move (BadRow table) h = subst (λ name. IsOfMove (BadRow name)) (sym h) tt
points_move (WrongVersion n) h = absurd h
points_move OtherTables h = absurd h

pub points_unread : (read : Result ℤ TableName) (fault : StoreFault) → IsOfPoints fault → read ≡ Ok (pos 1) → RefusesToMove read fault
points_unread read Sql h one = tt
points_unread read NoMemory h one = tt
points_unread read (BadRow table) h one = subst (λ name. RefusesToMove read (BadRow name)) (sym h) one
points_unread read (WrongVersion n) h one = absurd h
points_unread read OtherTables h one = absurd h
