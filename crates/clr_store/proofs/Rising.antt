-- In files the rows of a table have numbers that rise.
use Rattle.std.proofs.Common.{◌≡◌, List, [], ◌∷◌, subst, sym}
use Rattle.std.specs.Prelude.{IsTrue}
use Rattle.std.specs.List.{AllByRecursion}
use Rattle.std.proofs.Math.Logic.{∥∥₁_elim}
use Rattle.sqlite.specs.Effect.{Database}
use Rattle.sqlite.specs.Files.{file_state}
use Rattle.sqlite_catalog.proofs.LayoutLemmas.{laid_out}
use Rattle.sqlite.specs.Schema.{Schema}
use Rattle.sqlite_disk.specs.declared.Disk as disk
use Rattle.sqlite_pool.specs.File.{version_in}
use Rattle.sqlite_schema.specs.declared.schema.Table.{Table as Declared}
use Rattle.sqlite_store.specs.FileStore.{state, view}
use Rattle.sqlite_store.specs.Listed.{catalog_rows, is_listed}
use Rattle.sqlite_store.specs.Listing.{all_reals, all_shapes}
use Rattle.sqlite_store.specs.Saved.{kept_schema}
use Rattle.sqlite_store.specs.declared.catalog.Wanted.{Wanted}
use Rattle.sqlite_store.specs.declared.store.FileStore.{FileStore}
use Rattle.sqlite_store.proofs.ListingLemmas.{all_ordered}
use Rattle.sqlite_trees.specs.Objects.{IsListed, catalog_tree}
use Rattle.sqlite_trees.specs.Props.{IsOrdered-prop}
use Rattle.sqlite_trees.specs.Tree.{Trees}
use Rattle.sqlite_trees.specs.View.{IsOrdered, IsShaped}
use Rattle.sqlite_trees.specs.declared.store.Shape.TheVariants.{Table}
use Rattle.sqlite_wal.proofs.StateLemmas.{clean_of}
use Rattle.clr_load.specs.Layout.{place_in}
use Rattle.clr_load.specs.Schema.{schema_in, table_in}
use Rattle.clr_store.specs.There.{FilesAreNumbered, FilesRise}
use Rattle.clr_store.proofs.Layouts.{all_at, at_place}

module _ {D : Type 0} {g : disk.Ghosts D} (it : FileStore D g) (is_open : IsTrue (view it).is_open) where
  abbrev wanted : List Wanted
  wanted = kept_schema it.saved it.schema.items

  rises : IsOrdered (all_shapes wanted) (view it).committed
  rises = rw (clean_of (state it) is_open) (∥∥₁_elim (it.stored is_open) (IsOrdered-prop _ _) (λ stored. all_ordered stored.ours.file.db (version_in (state it).committed)))

  lists : IsListed ((view it).committed catalog_tree) (all_shapes wanted) (all_reals wanted)
  lists = rw (clean_of (state it) is_open, catalog_rows (state it).page_size wanted _) (is_listed wanted)

tables_rise : (shapes : _) (trees : Trees) (tables : List Declared) → IsOrdered shapes trees → AllByRecursion (λ t. shapes t.tree ≡ Table) tables → AllByRecursion (λ t. IsShaped Table (trees t.tree)) tables
tables_rise shapes trees [] ordered all = tt
tables_rise shapes trees (t ∷ tables) ordered all = (subst (λ s. IsShaped s (trees t.tree)) all.0 (ordered t.tree), tables_rise shapes trees tables ordered all.1)

pub files_rise : {D : Type 0} (g : disk.Ghosts D) → FilesRise g
files_rise g c opened =
    let ordered = rises c.store opened.0.is_open in
    let listed = lists c.store opened.0.is_open in
    let sound = (opened.1 opened.0.is_open).1 in
    let rising = subst (λ s. IsShaped s ((view c.store).committed catalog_tree)) listed.itself.0 (ordered catalog_tree) in
    let laid = laid_out listed rising sound.lists.listed in
    let all = tables_rise _ _ (file_state c).committed.schema.tables ordered laid.tables in
    subst (λ (db : Database). AllByRecursion (λ t. IsShaped Table (db.trees t.tree)) db.schema.tables) (sym opened.0.clean) all

pub files_are_numbered : {D : Type 0} (g : disk.Ghosts D) → FilesAreNumbered g
files_are_numbered g c opened l is name there =
    let own = subst (λ (s : Schema). AllByRecursion (λ t. IsShaped Table ((file_state c).now.trees t.tree)) s.tables) is (files_rise g c opened) in
    all_at _ (schema_in l).tables (place_in l name) (table_in l name) (at_place l name there) own
