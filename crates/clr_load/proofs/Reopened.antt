-- What trees that have the tables of a register open as.
use Rattle.std.proofs.Common.{◌≡◌, Option, subst, sym}
use Rattle.sqlite.specs.Effect.{Database}
use Rattle.sqlite.specs.State.{IsLive, Opens, State}
use Rattle.sqlite.specs.Tree.{Trees}
use Rattle.sqlite_catalog.specs.Listing.{IsSound, Lists}
use Rattle.sqlite_catalog.proofs.ReadLemmas.{lists_once}
use Rattle.sqlite_trees.specs.Objects.{catalog_tree}
use Rattle.clr_load.specs.Tables.{Tables}
use Rattle.clr_load.specs.Contract.{IsSaved}
use Rattle.sqlite.specs.Order.{Row}
use Rattle.clr_load.specs.Layout.{Layout}
use Rattle.clr_load.specs.Schema.{schema_in}
use Rattle.clr_load.proofs.Versioned.{one_layout}
use Rattle.clr_load.specs.Stored.{ArePlaced, AreTables, HasEachRow, HasPlaceIn, HasTables, IsPlaced, TablesOpenAgain, rows_in}

-- the trees list one schema alone
pub opened_with : TablesOpenAgain
opened_with trees t db are sound is =
    let there : Lists (trees catalog_tree) db.schema = subst (λ (all : Trees). Lists (all catalog_tree) db.schema) is sound.lists in
    let schema = schema_in are.layout in
    record {
      layout = are.layout;
      two = are.two;
      here = record {
        holds = record {
          schema = lists_once (trees catalog_tree) db.schema schema there are.listed.lists;
          listed = subst (IsSound schema) (sym is) are.listed;
          rows = subst (λ (all : Trees). HasEachRow are.layout all (λ name. rows_in are.layout name t)) (sym is) are.rows;
        };
        in_order = are.in_order;
        placed = subst (IsPlaced are.layout) (sym is) are.placed;
      };
    }

-- and so the state of a connection that is opened on them has the tables, and is saved
pub opened_again : (trees : Trees) (t : Tables) (s : State) → AreTables trees t → Opens s → IsLive s → s.now.trees ≡ trees → HasTables s.now t × IsSaved s
opened_again trees t s are opens live is =
    (opened_with trees t s.now are (live opens.is_open).0 is, (opens.is_open, sym opens.clean))

-- however the tables are looked at, the place is that of their layout
pub placed_as : (trees : Trees) (l : Layout) → IsSound (schema_in l) trees → (place : Option Row) → ArePlaced trees place → HasPlaceIn l trees place
placed_as trees l listed place are =
    let same = one_layout are.layout l (lists_once (trees catalog_tree) (schema_in are.layout) (schema_in l) are.listed.lists listed.lists) in
    subst (λ k. HasPlaceIn k trees place) same are.placed

-- the trees of a database that has the tables
pub left_of : (db : Database) (t : Tables) → HasTables db t → AreTables db.trees t
left_of db t has = record { layout = has.layout; two = has.two; listed = has.here.holds.listed; rows = has.here.holds.rows; in_order = has.here.in_order; placed = has.here.placed }
