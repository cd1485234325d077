-- A table that is read row by row.
use Rattle.std.proofs.Common.{◌≡◌, ◌∙◌, inl, true, false, List, [], ◌∷◌, ◌++◌, Some, None, Result, Ok, Err, ap, arith, refl, subst, sym}
use Rattle.sqlite.specs.Effect.{Database}
use Rattle.sqlite.specs.Given.{Advances, FailsToAdvance, HasBegun, HasGiven}
use Rattle.sqlite.specs.Held.{Held, state}
use Rattle.sqlite.specs.Listing.{understood}
use Rattle.sqlite.specs.Order.{Row}
use Rattle.sqlite.specs.Clock.{timed}
use Rattle.sqlite.specs.State.{CommitsShowing, HasCleanDisk, IsStatement, IsUnchanged, State, Survives}
use Rattle.sqlite.specs.Store.{Ghosts}
use Rattle.sqlite.specs.declared.error.Error.{Error}
use Rattle.sqlite.proofs.Callers.{EndsIn, begins_shown, given_begin, unchanged_then}
use Rattle.sqlite_resolve.specs.declared.compiled.Compiled.{Compiled}
use Rattle.clr_load.specs.RowsRead.{all_read}
use Rattle.clr_load.specs.Tables.{Tables}
use Rattle.clr_load.specs.declared.table_name.TableName.{TableName}
use Rattle.clr_load.specs.Cause.{fault_of}
use Rattle.clr_load.specs.Layout.{Layout, has_rows}
use Rattle.clr_load.specs.Loads.{Loads}
use Rattle.clr_load.specs.Sql.{select_sql}
use Rattle.clr_load.specs.Stored.{HasTablesIn, rows_in}
use Rattle.clr_load.specs.declared.fault.StoreFault.{StoreFault}
use Rattle.clr_load.specs.declared.fault.StoreFault.TheVariants.{BadRow, NoMemory}
use Rattle.clr_load.proofs.AllRead.{read_append, read_none, read_stops}
use Rattle.clr_load.proofs.Causes.{read_cause, then_cause, told_of_database}
use Rattle.clr_load.proofs.Loading.{in_layout, lists}
use Rattle.clr_load.proofs.Selecting.{begun_listing, failed_rests, survives_listed}
use Rattle.clr_load.proofs.Inside.{both_survive}
use Rattle.clr_load.proofs.Staying.{stops, then_stays, unchanged_stays}
use Rattle.clr_load.proofs.Texts.{all_of, select_known, selecting}

-- some rows of a table were given, and each was read into this
pub record HasReadInto {S A X : Type 0} (g : Ghosts S) (name : TableName) (read : Row → Result A TableName) (has : X → List A → Type 0) (start now : Held S) (into : X) : Type 0 where
  pub mode : start.in_transaction ≡ false → now.in_transaction ≡ false
  pub survives : Survives (state g start) (state g now) (λ _. ⊥)
  pub items : List A
  pub has_items : has into items
  pub so_far : HasCleanDisk (state g now) → (rows : List Row) × HasGiven g (select_sql name) [] now rows × IsUnchanged (state g start) (state g now) × (all_read read rows ≡ Ok items)

module _ {S A X : Type 0} (g : Ghosts S) (name : TableName) (read : Row → Result A TableName) (has : X → List A → Type 0) where
  abbrev pub Reads : Held S → Held S → Result X StoreFault → Type 0
  Reads start new result = Loads g start new (λ l. has_rows l name) (λ l t. all_read read (rows_in l name t)) has result

  pub begins : (start now : Held S) (into : X) → has into [] → (start.in_transaction ≡ false → now.in_transaction ≡ false)
      → Survives (state g start) (state g now) (CommitsShowing (select_sql name) [] (state g start))
      → (HasCleanDisk (state g now) → HasBegun g (select_sql name) [] start now) → HasReadInto g name read has start now into
  begins start now into none mode survives begun = record {
    mode = mode;
    survives = survives_listed name (state g start) (state g now) survives;
    items = [];
    has_items = none;
    so_far = λ clean.
        let it = begun_listing name g start now (begun clean) in
        ([], it.0, it.1, read_none read);
  }

  module _ (start now new : Held S) (into : X) (was : HasReadInto g name read has start now into) (mode : now.in_transaction ≡ false → new.in_transaction ≡ false)
      (survives : Survives (state g now) (state g new) (λ _. ⊥)) where
    early : HasCleanDisk (state g new) → HasCleanDisk (state g now)
    early clean = omega (arith, survives.clean)

    still : HasCleanDisk (state g now) → (l : Layout) (t : Tables) → HasTablesIn l (state g start).now t → HasTablesIn l (state g now).now t
    still clean l t there = subst (λ (db : Database). HasTablesIn l db t) (sym (was.so_far clean).2.0.now_is) there

    module _ (same : HasCleanDisk (state g new) → IsUnchanged (state g now) (state g new)) where
      unchanged : HasCleanDisk (state g new) → IsUnchanged (state g start) (state g new)
      unchanged clean = unchanged_then (state g start) (state g now) (state g new) (was.so_far (early clean)).2 (same clean)

      -- one row more
      pub goes_on : (row : Row) (item : A) (more : X) → (HasCleanDisk (state g new) → Advances g now new (Some row)) → read row ≡ Ok item
          → ((items : List A) → has into items → has more (items ++ item ∷ [])) → HasReadInto g name read has start new more
      goes_on row item more advances is filled = record {
        mode = λ out. mode (was.mode out);
        survives = both_survive (state g start) (state g now) (state g new) was.survives survives;
        items = was.items ++ item ∷ [];
        has_items = filled was.items was.has_items;
        so_far = λ clean.
            let it = was.so_far (early clean) in
            (it.0 ++ row ∷ [], advances clean (select_sql name) [] it.0 it.1, unchanged clean, read_append read it.0 row was.items item is it.3);
      }

      -- the last row was read
      pub ends : (HasCleanDisk (state g new) → Advances g now new None) → Reads start new (Ok into)
      ends advances = record {
        mode = λ out. mode (was.mode out);
        survives = both_survive (state g start) (state g now) (state g new) was.survives survives;
        unchanged = unchanged;
        was_open = λ clean. inl (unchanged clean).0.was_open;
        gives = λ clean l there t tables.
            let it = was.so_far (early clean) in
            let here = still (early clean) l t tables in
            let all = lists l (state g now) (state g new) name t it.0 there here.holds here.in_order (advances clean (select_sql name) [] it.0 it.1) in
            ((was.items, ap (all_read read) (sym all) ∙ it.3, was.has_items), tt);
      }

      -- memory ran out
      pub runs_out : Reads start new (Err NoMemory)
      runs_out = stops g start new _ _ has NoMemory (λ out. mode (was.mode out)) (both_survive (state g start) (state g now) (state g new) was.survives survives)
          (λ clean. unchanged_stays (state g start) (state g new) (unchanged clean)) tt (λ clean l there t tables. tt)

      -- a row does not read, whatever comes after it
      pub reads_not : (row : Row) (bad : TableName) → (HasCleanDisk (state g new) → Advances g now new (Some row)) → read row ≡ Err bad → Reads start new (Err (BadRow bad))
      reads_not row bad advances is = record {
        mode = λ out. mode (was.mode out);
        survives = both_survive (state g start) (state g now) (state g new) was.survives survives;
        unchanged = λ clean. unchanged_stays (state g start) (state g new) (unchanged clean);
        was_open = λ clean. inl (unchanged clean).0.was_open;
        gives = λ clean l there t tables.
            let it = was.so_far (early clean) in
            let given = advances clean (select_sql name) [] it.0 it.1 in
            let whole = unchanged clean in
            let here : HasTablesIn l (state g new).now t = subst (λ (db : Database). HasTablesIn l db t) (sym whole.0.now_is) tables in
            let s = state g new in
            let open_now : IsUnchanged s s = (record { was_open = whole.0.is_open; is_open = whole.0.is_open; now_is = refl; committed_is = refl; mode = refl }, record { changes = refl; last_rowid = refl }, refl) in
            let tail = begins_shown (select_sql name) [] s s (it.0 ++ row ∷ []) (given_begin g (select_sql name) [] new (it.0 ++ row ∷ []) given) open_now (λ c db h source. ended l there s here c db h) in
            let all = lists l s s name t ((it.0 ++ row ∷ []) ++ tail.0) there here.holds here.in_order tail.1 in
            (ap (all_read read) (sym all) ∙ read_stops read it.0 row tail.0 was.items bad is it.3, tt);
      }
        where
          ended : (l : Layout) (there : has_rows l name ≡ true) (s : State) {t : Tables} (here : HasTablesIn l s.now t) (c : Compiled) (db : Database) (h : IsStatement s (select_sql name) [] c)
              → EndsIn c.command db (timed [] c.formats h.now)
          ended l there s here c db h =
              let both = sym h.is ∙ ap (λ x. understood x (select_sql name)) here.holds.schema ∙ select_known l name (in_layout l name there) in
              let is : c ≡ all_of (select_sql name) 0 (selecting l name) = cc in
              rw is tt

    -- the next row cannot be had
    pub advances_not : (e : Error) → (HasCleanDisk (state g new) → FailsToAdvance g now new e) → Reads start new (Err (fault_of e))
    advances_not e fails = stops g start new _ _ has (fault_of e) (λ out. mode (was.mode out)) (both_survive (state g start) (state g now) (state g new) was.survives survives)
        (λ clean.
        let it = was.so_far (early clean) in
        then_stays (state g start) (state g now) (state g new) it.2 (failed_rests name (state g now) (state g new) e (fails clean (select_sql name) [] it.0 it.1)))
        (told_of_database e (fault_of e) refl)
        (λ clean l there t tables.
        let it = was.so_far (early clean) in
        then_cause (state g start) (state g now) (state g new) _ (fault_of e) was.survives (early clean) survives.counts
        (read_cause l name (in_layout l name there) (state g now) (state g new) e (fault_of e) (still (early clean) l t tables).holds.schema refl (fails clean (select_sql name) [] it.0 it.1)))
