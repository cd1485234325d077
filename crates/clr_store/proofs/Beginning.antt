-- What it makes of a register that has no table of the journal to give it one.
use Rattle.std.proofs.Common.{◌≡◌, ◌∙◌, ◌++◌, ◌↔◌, ℕ, Bool, List, [], ◌∷◌, IsTrue, true, false, None, Option, Some, Ok, Err, Result, ap, refl, subst, sym}
use Rattle.std.specs.Prelude.{MatchResult, take}
use Rattle.sqlite.specs.Change.{created, next_tree, KeepsRows}
use Rattle.sqlite.specs.Command.TheVariants.{CreateTable}
use Rattle.sqlite.specs.Does.{Tally, lacks_sequence}
use Rattle.sqlite.specs.Effect.{Database}
use Rattle.sqlite.specs.Held.{state}
use Rattle.sqlite.specs.Order.{Row, row_cmp}
use Rattle.sqlite.specs.Schema.{Schema}
use Rattle.sqlite.specs.State.{ExecutesInside, KeepsCommit, State, Writes}
use Rattle.sqlite.specs.Store.{Ghosts}
use Rattle.sqlite.specs.declared.transaction.Transaction.{Transaction}
use Rattle.sqlite.proofs.Callers.{runs_as}
use Rattle.sqlite_catalog.specs.Listing.{IsSound}
use Rattle.sqlite_schema.specs.Names.{same_name, table_named}
use Rattle.clr_shelf.specs.Rows.{in_key_order}
use Rattle.clr_load.specs.TableEdits.{tables_edited}
use Rattle.clr_load.specs.TableText.{table_text}
use Rattle.clr_load.specs.Tables.{Tables}
use Rattle.clr_load.specs.declared.table_name.TableName.{TableName}
use Rattle.clr_load.specs.declared.table_name.TableName.TheVariants.{Meta, Section, Point, Staff, Clearance, Step, Hold, NetworkPoint, Journal}
use Rattle.clr_load.specs.Fault.{IsOfDatabase}
use Rattle.clr_load.specs.Layout.{has_rows, has_table, is_two, names_before, place_in, tree_in}
use Rattle.clr_load.specs.Schema.{columns_in, keys_in, schema_in, schema_of, table_at, table_in}
use Rattle.clr_load.specs.Sql.{create_sql}
use Rattle.clr_load.specs.Stored.{ArePlaced, HasRows, HasTables, Holds, IsInOrder, rows_in}
use Rattle.clr_load.specs.declared.fault.StoreFault.{StoreFault}
use Rattle.clr_load.specs.declared.layout.Layout.{Layout}
use Rattle.clr_load.specs.declared.layout.Layout.TheVariants.{AsMade, AsMadeLogged, AsMoved, AsMovedLogged, OfOne}
use Rattle.clr_load.proofs.AllRead.{same_value}
use Rattle.clr_load.proofs.Inside.{then_runs}
use Rattle.clr_load.proofs.Loading.{in_layout, then_kept}
use Rattle.clr_load.proofs.Texts.{create_is, create_text, created_is, defines}
use Rattle.clr_store.proofs.Creating.{empty_rows, lacks, next_is}
use Rattle.clr_store.proofs.Effects.{went}
use Rattle.clr_store.proofs.Layouts.{all_at, at_place, two_rows}
use Rattle.clr_store.specs.Change.{AddsJournal, ChangesPlace, PutsJournal, PutsPlace, with_journal}

-- ---- the layout with the table of the journal beside the others
-- a layout and that one: the other tables are the same, and lie in the same trees
record IsBeside (l m : Layout) : Type 0 where
  two : is_two m ≡ true
  there : has_table m Journal ≡ true
  before : schema_of m (names_before m Journal) ≡ schema_in l
  after : schema_of m (names_before m Journal ++ Journal ∷ []) ≡ schema_in m
  same : (name : TableName) → has_rows m name ≡ true → (has_rows l name ≡ true) × (tree_in m name ≡ tree_in l name)

made_same : (name : TableName) → has_rows AsMadeLogged name ≡ true → (has_rows AsMade name ≡ true) × (tree_in AsMadeLogged name ≡ tree_in AsMade name)
made_same Meta has = (refl, refl)
made_same Section has = (refl, refl)
made_same Point has = absurd cc
made_same Staff has = (refl, refl)
made_same Clearance has = (refl, refl)
made_same Step has = (refl, refl)
made_same Hold has = (refl, refl)
made_same NetworkPoint has = (refl, refl)
made_same Journal has = absurd cc

moved_same : (name : TableName) → has_rows AsMovedLogged name ≡ true → (has_rows AsMoved name ≡ true) × (tree_in AsMovedLogged name ≡ tree_in AsMoved name)
moved_same Meta has = (refl, refl)
moved_same Section has = (refl, refl)
moved_same Point has = (refl, refl)
moved_same Staff has = (refl, refl)
moved_same Clearance has = (refl, refl)
moved_same Step has = (refl, refl)
moved_same Hold has = (refl, refl)
moved_same NetworkPoint has = (refl, refl)
moved_same Journal has = absurd cc

beside : (l : Layout) → is_two l ≡ true → has_table l Journal ≡ false → IsBeside l (with_journal l)
beside OfOne two none = absurd cc
beside AsMade two none = record { two = refl; there = refl; before = refl; after = refl; same = made_same }
beside AsMoved two none = record { two = refl; there = refl; before = refl; after = refl; same = moved_same }
beside AsMadeLogged two none = absurd cc
beside AsMovedLogged two none = absurd cc

-- ---- CREATE TABLE journal
-- it comes without a row, and the tables of the register stay
comes_beside : (l m : Layout) (old new : State) (t : Tables) (count : ℕ) → is_two l ≡ true → IsBeside l m → ExecutesInside 0 (create_sql Journal) [] old new (Ok count) → Holds l old.now t
    → Holds m new.now t × HasRows (columns_in Journal) (new.now.trees (tree_in m Journal)) []
comes_beside l m old new t count two is ran before =
    let had : old.now.schema ≡ schema_of m (names_before m Journal) = before.schema ∙ sym is.before in
    let read = create_is m Journal is.there in
    let w : Writes old new None CreateTable (create_sql Journal) [] count = subst (λ text. Writes old new None CreateTable text [] count) (create_text m Journal is.there)
    (runs_as (create_sql Journal) [] old new (schema_of m (names_before m Journal)) had CreateTable read.is read.plain count ran.0) in
    let all = went w.changed in
    let first = went all.1 in
    let made = first.1 in
    let both : Ok made.table ≡ Ok (table_at 0 Journal) = sym made.defined ∙ defines Journal in
    let same : made.table ≡ table_at 0 Journal = same_value both in
    let more : first.0.schema ≡ schema_of m (names_before m Journal ++ Journal ∷ []) =
    made.is ∙ ap (λ s. created s made.table) had ∙ ap (created (schema_of m (names_before m Journal))) same ∙ created_is m Journal is.there in
    let plain : lacks_sequence first.0.schema ≡ false = ap lacks_sequence more ∙ lacks m Journal is.there in
    let now : new.now ≡ first.0 = ap (λ (p : Tally × Database). p.1) (same_value all.2) ∙ same_value (rw plain at first.2) in
    let others = subst (λ s. KeepsRows s.tables old.now.trees first.0.trees) before.schema made.others in
    let empty : first.0.trees (tree_in m Journal) ≡ [] = subst (λ tree. first.0.trees tree ≡ []) (ap next_tree had ∙ next_is m Journal is.there) made.empty in
    let listing : new.now.schema ≡ schema_in m = ap (λ (d : Database). d.schema) now ∙ more ∙ is.after in
    let stays : (name : TableName) → has_table l name ≡ true → new.now.trees (tree_in l name) ≡ old.now.trees (tree_in l name) = λ name there.
    ap (λ (d : Database). d.trees (tree_in l name)) now
    ∙ all_at (λ it. first.0.trees it.tree ≡ old.now.trees it.tree) (schema_in l).tables (place_in l name) (table_in l name) (at_place l name there) others in (
      record {
        schema = listing;
        listed = subst (λ s. IsSound s new.now.trees) listing w.sound;
        rows = λ name there.
            let its = is.same name there in
            let tree : new.now.trees (tree_in m name) ≡ old.now.trees (tree_in l name) = ap new.now.trees its.1 ∙ stays name (in_layout l name its.0) in
            subst (HasRows (columns_in name) (new.now.trees (tree_in m name))) (two_rows l two name t ∙ sym (two_rows m is.two name t))
            (subst (λ it. HasRows (columns_in name) it (rows_in l name t)) (sym tree) (before.rows name its.0));
      },
      empty_rows (columns_in Journal) (new.now.trees (tree_in m Journal)) (ap (λ (d : Database). d.trees (tree_in m Journal)) now ∙ empty),
    )

pub adds_table : (old new : State) (count : ℕ) → ExecutesInside 0 (create_sql Journal) [] old new (Ok count) → AddsJournal old new []
adds_table old new count ran = record {
  inside = ran.1.mode;
  kept = record { was_open = λ _. ran.1.was_open; committed = λ _. ran.1.committed_is };
  added = λ l two none t has. comes_beside l (with_journal l) old new t count two (beside l two none) ran has;
}

-- ---- and then the place
put_step : {X : Type 0} (a b c : State) (change : List Row → List Row) (rows : List Row) (r : Result X StoreFault) → AddsJournal a b rows
    → MatchResult r (λ _. ChangesPlace b c change) (λ _. KeepsCommit b c) → MatchResult r (λ _. AddsJournal a c (change rows)) (λ _. KeepsCommit a c)
put_step a b c change rows (Ok x) p q = record {
  inside = q.inside;
  kept = then_kept a b c p.kept q.kept;
  added = λ l two none t has.
      let is = beside l two none in
      let it = p.added l two none t has in
      q.places (with_journal l) is.two t it.0 is.there rows it.1;
}
put_step a b c change rows (Err e) p q = then_kept a b c p.kept q

pub then_puts : {S X Y : Type 0} (g : Ghosts S) (a b c : Transaction S) (change : List Row → List Row) (rows : List Row) (x : X) (r : Result Y StoreFault)
    → PutsJournal g a b rows (Ok x) → PutsPlace g b c change r → PutsJournal g a c (change rows) r
then_puts g a b c change rows x r first second =
    then_runs g a b c IsOfDatabase IsOfDatabase IsOfDatabase _ _ _ _ _ _ x r first second (λ done. done.inside)
    (λ early done next. put_step (state g a.conn.now) (state g b.conn.now) (state g c.conn.now) change rows r done next) (λ fault. fault)

-- ---- a transaction
-- a register with no table of that name is without the table of the journal
journal_none : (l : Layout) → is_two l ≡ true → (db : Database) → db.schema ≡ schema_in l → table_named db.schema (table_text Journal) ≡ None → has_table l Journal ≡ false
unfolding same_name
journal_none OfOne two db is named = absurd cc
journal_none AsMade two db is named = refl
journal_none AsMoved two db is named = refl
journal_none AsMadeLogged two db is named = let some = ap (λ (s : Schema). table_named s (table_text Journal)) (sym is) ∙ named in absurd cc
journal_none AsMovedLogged two db is named = let some = ap (λ (s : Schema). table_named s (table_text Journal)) (sym is) ∙ named in absurd cc

-- one that was looked for and is not there
pub is_none : {X : Type 0} (found : Bool) (it : Option X) → found ≡ false → IsTrue found ↔ (it ≡ None → ⊥) → it ≡ None
is_none found None unfound says = refl
is_none found (Some x) unfound says = absurd (let there = says.1 (λ e. absurd cc) in cc)

pub begun_at : (old new : State) (place : Row) (t : Tables) (has : HasTables old.now t) → table_named old.now.schema (table_text Journal) ≡ None → AddsJournal old new (place ∷ [])
    → HasTables new.now (tables_edited [] t) × ArePlaced new.now.trees (Some place)
unfolding tables_edited
begun_at old new place t has named adds =
    let l = HasTables.layout has in
    let here = HasTables.here has in
    let none = journal_none l has.two old.now here.holds.schema named in
    let is = beside l has.two none in
    let it = adds.added l has.two none t here.holds in
    let ordered : IsInOrder (with_journal l) t = λ name.
    subst (λ rows. in_key_order row_cmp (take (keys_in name)) rows ≡ true) (two_rows l has.two name t ∙ sym (two_rows (with_journal l) is.two name t)) (here.in_order name) in (
      record { layout = with_journal l; two = is.two; here = record { holds = it.0; in_order = ordered; placed = (Some place, (is.there, it.1)) } },
      record { layout = with_journal l; two = is.two; listed = it.0.listed; placed = (is.there, it.1) },
    )
