-- What the statements of a move from version 1 make of the tables.
use Rattle.std.specs.Prelude.{false, ℤ, pos, ◌≡◌, ◌≢◌, ◌⊎◌, ⊤, List, [], ◌∷◌, ◌++◌, map, Result, Ok, Err}
use Rattle.std.specs.Prelude.{IsTrue, is_ok}
use Rattle.sqlite.specs.Effect.{Database}
use Rattle.sqlite.specs.Held.{state}
use Rattle.sqlite.specs.Order.{Row}
use Rattle.sqlite.specs.State.{KeepsCommit}
use Rattle.sqlite.specs.Store.{Ghosts}
use Rattle.sqlite.specs.Tree.{Trees}
use Rattle.sqlite.specs.declared.transaction.Transaction.{Transaction}
use Rattle.clr_load.specs.RowsRead.{read_version}
use Rattle.clr_load.specs.TableEdits.{tables_moved}
use Rattle.clr_load.specs.Tables.{Tables, flag_value, version_row}
use Rattle.clr_load.specs.declared.table_name.TableName.{TableName}
use Rattle.clr_load.specs.declared.table_name.TableName.TheVariants.{Meta, Section, Point, Staff}
use Rattle.clr_load.specs.declared.table_name.TableName.TheVariants.{Clearance, Step, Hold}
use Rattle.clr_load.specs.declared.table_name.TableName.TheVariants.{NetworkPoint, Journal}
use Rattle.clr_store.specs.Change.{Makes}
use Rattle.clr_load.specs.Contract.{old_points}
use Rattle.clr_load.specs.Inside.{RunsInside}
use Rattle.clr_load.specs.declared.layout.Layout.TheVariants.{AsMoved}
use Rattle.clr_load.specs.Stored.{AreTables, HasMeta, HasOldTables, HasTables, Keeps}
use Rattle.clr_load.specs.declared.fault.StoreFault.{StoreFault}
use Rattle.clr_load.specs.declared.fault.StoreFault.TheVariants.{Sql, WrongVersion, BadRow}
use Rattle.clr_load.specs.declared.fault.StoreFault.TheVariants.{NoMemory, OtherTables}

-- the rows of points as they are in version 2
abbrev pub moved_points : List Row → List Row
moved_points rows = map (λ row. row ++ flag_value false ∷ []) rows

-- the rows while points are moved: these are in `point`, and these in `network_point`
abbrev pub rows_moving : List Row → List Row → Tables → TableName → List Row
rows_moving olds news t Meta = t.meta
rows_moving olds news t Section = t.sections
rows_moving olds news t Point = olds
rows_moving olds news t Staff = t.staff
rows_moving olds news t Clearance = t.clearances
rows_moving olds news t Step = t.steps
rows_moving olds news t Hold = t.holds
rows_moving olds news t NetworkPoint = news
rows_moving olds news t Journal = []

abbrev pub IsMoving : List Row → List Row → Tables → Database → Type 0
IsMoving olds news t db = Keeps AsMoved db (rows_moving olds news t)

-- a call inside a transaction takes whatever tables there are from one thing to another, or fails
abbrev pub Moves : {S X : Type 0} → Ghosts S → Transaction S → Transaction S
    → (StoreFault → Type 0) → (Tables → Database → Type 0) → (Tables → Database → Type 0)
    → Result X StoreFault → Type 0
Moves g old new IsFault From To result =
    RunsInside g old new IsFault
    (λ _. (t : Tables) → Makes (state g old.conn.now) (state g new.conn.now) (From t) (To t))
    (λ _. KeepsCommit (state g old.conn.now) (state g new.conn.now)) result

-- whatever tables of version 1 there were, each of their points reads, and they are now moved
abbrev pub MovesTables : Database → Database → Type 0
MovesTables before after = (t : Tables) → HasOldTables before t
    → IsTrue (is_ok (old_points t)) × HasTables after (tables_moved t)

-- the trees have the tables that were moved, of which each point reads
abbrev pub AreMoved : Database → Trees → Type 0
AreMoved before trees = (t : Tables) → HasOldTables before t
    → IsTrue (is_ok (old_points t)) × AreTables trees (tables_moved t)

-- A MOVE LEAVES OTHER TREES only of tables of version 1 and of which each point reads, and
-- then with all of them moved
pub record LeavesMoved (before : Database) (trees : Trees) : Type 0 where
  pub told : (meta : List Row) → HasMeta before meta → read_version meta ≡ Ok (pos 1)
  pub moved : AreMoved before trees

-- why tables of version 1 are not moved: the database refused or failed, memory ran out, the
-- version does not read or is neither 1 nor 2, the tables are not those of a register of the version,
-- or a point does not read
abbrev pub RefusesMove : Tables → StoreFault → Type 0
RefusesMove t Sql = ⊤
RefusesMove t NoMemory = ⊤
RefusesMove t (BadRow Meta) = read_version t.meta ≡ Err Meta
RefusesMove t (BadRow Point) = (read_version t.meta ≡ Ok (pos 1)) × (old_points t ≡ Err Point)
RefusesMove t (BadRow _) = ⊥
RefusesMove t (WrongVersion n) = (read_version t.meta ≡ Ok n) × (n ≢ pos 1) × (n ≢ pos 2)
RefusesMove t OtherTables = t.meta ≢ version_row 1 ∷ []

-- the same, of any tables that have a version
abbrev pub RefusesToMove : Result ℤ TableName → StoreFault → Type 0
RefusesToMove read Sql = ⊤
RefusesToMove read NoMemory = ⊤
RefusesToMove read (BadRow Meta) = read ≡ Err Meta
RefusesToMove read (BadRow Point) = read ≡ Ok (pos 1)
RefusesToMove read (BadRow _) = ⊥
RefusesToMove read (WrongVersion n) = (read ≡ Ok n) × (n ≢ pos 1) × (n ≢ pos 2)
RefusesToMove read OtherTables = (read ≡ Ok (pos 1)) ⊎ (read ≡ Ok (pos 2))

-- why a database is not moved, whatever it has
abbrev pub IsOfMove : StoreFault → Type 0
IsOfMove Sql = ⊤
IsOfMove NoMemory = ⊤
IsOfMove (BadRow Meta) = ⊤
IsOfMove (BadRow Point) = ⊤
IsOfMove (BadRow _) = ⊥
IsOfMove (WrongVersion n) = (n ≢ pos 1) × (n ≢ pos 2)
IsOfMove OtherTables = ⊤
