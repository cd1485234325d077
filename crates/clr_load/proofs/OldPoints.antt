-- The points of version 1, read row by row.
use Rattle.std.proofs.Common.{◌≡◌, ◌∙◌, true, List, Err, Ok, ap, refl, sym}
use Rattle.std.specs.Prelude.{is_ok}
use Rattle.sqlite.specs.Order.{Row}
use Rattle.sqlite.specs.State.{State}
use Rattle.clr_load.specs.RowsRead.{all_read, read_placed}
use Rattle.clr_load.specs.Tables.{Tables}
use Rattle.clr_load.specs.declared.table_name.TableName.TheVariants.{Point}
use Rattle.clr_load.specs.Cause.{SqlHasCause}
use Rattle.clr_load.specs.Contract.{RefusesPoints, Yields, old_points}
use Rattle.clr_load.specs.Fault.{IsOfDatabase, IsOfPoints}
use Rattle.clr_load.specs.Found.{Fails, Finds}
use Rattle.clr_load.specs.Layout.{AsMade, AsMadeLogged, AsMoved, AsMovedLogged, Layout, OfOne, has_rows, is_one}
use Rattle.clr_load.specs.Reading.{old_point, old_values}
use Rattle.clr_load.specs.Stored.{Holds, IsInOrder, rows_in}
use Rattle.clr_load.specs.declared.fault.StoreFault.{StoreFault}
use Rattle.clr_load.specs.declared.fault.StoreFault.TheVariants.{Sql, WrongVersion, BadRow, NoMemory, OtherTables}
use Rattle.clr_load.specs.declared.table_row.OldPoint.{OldPoint}
use Rattle.clr_load.proofs.AllGiven.{rows_fail, rows_give}
use Rattle.clr_load.proofs.Blamed.{placed_blame}

abbrev pub Listed : State → State → List Row → Type 0
Listed old new rows = Finds old new (λ l. has_rows l Point) (λ l t. rows_in l Point t) rows

pub one_has_points : (l : Layout) → is_one l ≡ true → has_rows l Point ≡ true
one_has_points OfOne one = refl
one_has_points AsMade one = absurd cc
one_has_points AsMoved one = absurd cc
one_has_points AsMadeLogged one = absurd cc
one_has_points AsMovedLogged one = absurd cc

-- the rows that were listed are those of `point`
listed_are : (old new : State) (rows : List Row) → Listed old new rows → (l : Layout) → is_one l ≡ true → (t : Tables)
    → Holds l old.now t → IsInOrder l t → (rows ≡ t.points) × Holds l new.now t
listed_are old new rows found OfOne one t has ordered = found.found_is OfOne refl t has ordered
listed_are old new rows found AsMade one t has ordered = absurd cc
listed_are old new rows found AsMoved one t has ordered = absurd cc
listed_are old new rows found AsMadeLogged one t has ordered = absurd cc
listed_are old new rows found AsMovedLogged one t has ordered = absurd cc

pub old_read : (old new : State) (rows : List Row) (xs : List OldPoint) → Listed old new rows → all_read old_values rows ≡ Ok xs
    → Finds old new is_one (λ l t. is_ok (old_points t)) true
old_read old new rows xs found read = record {
  was_open = found.was_open;
  inside = found.inside;
  kept = found.kept;
  found_is = λ l one t has ordered.
      let it = listed_are old new rows found l one t has ordered in
      (sym (rows_give old_point (read_placed Point) rows xs read) ∙ ap (λ r. is_ok (all_read (read_placed Point) r)) it.0, it.1);
}

module _ (old new : State) (rows given : List Row) (same : given ≡ rows) (found : Listed old new rows) where
  -- a row that does not read stops the call, which commits nothing
  pub old_fails : (fault : StoreFault) → Yields (λ (xs : List OldPoint). xs) (all_read old_values given) (Err fault) → Fails old new is_one fault
  old_fails fault yields = record { kept = found.kept; cause = λ l one t has ordered. caused fault yields }
    where
      caused : (fault : StoreFault) → Yields (λ (xs : List OldPoint). xs) (all_read old_values given) (Err fault) → SqlHasCause old new fault
      caused Sql yields = absurd yields
      caused NoMemory yields = tt
      caused (BadRow t) yields = tt
      caused (WrongVersion n) yields = tt
      caused OtherTables yields = tt

  pub old_refused : (fault : StoreFault) → Yields (λ (xs : List OldPoint). xs) (all_read old_values given) (Err fault) → (t : Tables) → Holds OfOne old.now t → IsInOrder OfOne t
      → RefusesPoints (old_points t) fault
  old_refused Sql yields t has ordered = absurd yields
  old_refused NoMemory yields t has ordered = tt
  old_refused (BadRow table) yields t has ordered =
      ap (all_read (read_placed Point)) (sym (same ∙ (listed_are old new rows found OfOne refl t has ordered).0)) ∙ rows_fail old_point (read_placed Point) given table yields
  old_refused (WrongVersion n) yields t has ordered = absurd yields
  old_refused OtherTables yields t has ordered = absurd yields

-- the table is `point`
pub old_blame : (given : List Row) (fault : StoreFault) → Yields (λ (xs : List OldPoint). xs) (all_read old_values given) (Err fault) → IsOfPoints fault
old_blame given Sql yields = tt
old_blame given NoMemory yields = tt
old_blame given (BadRow table) yields = placed_blame Point given table (rows_fail old_point (read_placed Point) given table yields)
old_blame given (WrongVersion n) yields = absurd yields
old_blame given OtherTables yields = absurd yields

pub early_blame : (fault : StoreFault) → IsOfDatabase fault → IsOfPoints fault
early_blame Sql h = tt
early_blame NoMemory h = tt
early_blame (BadRow table) h = absurd h
early_blame (WrongVersion n) h = absurd h
early_blame OtherTables h = absurd h

pub refused_early : (t : Tables) (fault : StoreFault) → IsOfDatabase fault → RefusesPoints (old_points t) fault
refused_early t Sql h = tt
refused_early t NoMemory h = tt
refused_early t (BadRow table) h = absurd h
refused_early t (WrongVersion n) h = absurd h
refused_early t OtherTables h = absurd h
