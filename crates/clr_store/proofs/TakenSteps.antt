-- Steps that are taken out of the tables, one after the other, in one transaction.
use Rattle.std.proofs.Common.{◌≡◌, ◌∙◌, ◌++◌, ◌∷◌, ◌+◌, ◌<◌, ℕ, List, [], true, take, length, get_or, IsTrue, refl, sym, ap, subst}
use Rattle.std.proofs.lemmas.List.{take_more}
use Rattle.sqlite.specs.Effect.{Database}
use Rattle.sqlite.specs.Order.{row_cmp}
use Rattle.sqlite.specs.State.{State}
use Rattle.sqlite_value.proofs.OrderLemmas.{row_cmp_total}
use Rattle.clr_shelf.proofs.KeyOrder.{in_key_order-without_row}
use Rattle.clr_shelf.specs.Rows.{in_key_order}
use Rattle.clr_rules.specs.declared.step_row.StepKey.{StepKey}
use Rattle.clr_load.specs.TableEdits.{without_table_row}
use Rattle.clr_load.specs.Tables.{Tables}
use Rattle.clr_load.specs.declared.table_name.TableName.TheVariants.{Step}
use Rattle.clr_load.specs.Layout.{is_two}
use Rattle.clr_load.specs.Schema.{keys_in}
use Rattle.clr_load.specs.Stored.{HasTables, Holds, IsInOrder, IsPlaced}
use Rattle.clr_load.specs.declared.layout.Layout.{Layout}
use Rattle.clr_store.proofs.Layouts.{each_changed}
use Rattle.clr_store.specs.Change.{Changes}
use Rattle.clr_store.proofs.Turned.{Lands}
use Rattle.clr_store.specs.StepsTaken.{step_key_values, without_step, without_steps}

pub no_keys : (s : State) → IsTrue s.in_transaction → Changes s s (without_steps [])
unfolding without_steps
no_keys s inside = record { inside = inside; kept = record { was_open = λ open_now. open_now; committed = λ _. refl }; tables = λ l two t has. has; place = λ l two t has there. refl }

without_more : (keys : List StepKey) (key : StepKey) (t : Tables) → without_steps (keys ++ key ∷ []) t ≡ without_step key (without_steps keys t)
unfolding without_steps
without_more [] key t = refl
without_more (k ∷ keys) key t = without_more keys key (without_step k t)

pub one_key_more : (old new : State) (keys : List StepKey) (n : ℕ) (key : StepKey) → n < length keys → key ≡ get_or keys n key → Changes old new (λ t. without_step key (without_steps (take n keys) t))
    → Changes old new (without_steps (take (n + 1) keys))
one_key_more old new keys n key within is both = record {
  inside = both.inside;
  kept = both.kept;
  tables = λ l two t has.
      let more : without_steps (take (n + 1) keys) t ≡ without_step key (without_steps (take n keys) t) =
      ap (λ l. without_steps l t) (take_more keys n key within ∙ ap (λ x. take n keys ++ x ∷ []) (sym is)) ∙ without_more (take n keys) key t in
      subst (Holds l new.now) (sym more) (both.tables l two t has);
  place = both.place;
}

-- the order of keys is kept
step_in_order : (l : Layout) → is_two l ≡ true → (key : StepKey) (t : Tables) → IsInOrder l t → IsInOrder l (without_step key t)
step_in_order l two key t ordered =
    each_changed Step refl l two (λ other rows. in_key_order row_cmp (take (keys_in other)) rows ≡ true) (without_table_row 4 (step_key_values key)) t
    (in_key_order-without_row row_cmp (take 4) row_cmp_total (step_key_values key) t.steps (ordered Step)) (λ other _. ordered other)

steps_in_order : (l : Layout) → is_two l ≡ true → (keys : List StepKey) (t : Tables) → IsInOrder l t → IsInOrder l (without_steps keys t)
unfolding without_steps
steps_in_order l two [] t ordered = ordered
steps_in_order l two (key ∷ keys) t ordered = steps_in_order l two keys (without_step key t) (step_in_order l two key t ordered)

taken_tables : (l : Layout) → is_two l ≡ true → (db : Database) (keys : List StepKey) (t : Tables) → IsInOrder l t → Holds l db (without_steps keys t) → IsPlaced l db.trees
    → HasTables db (without_steps keys t)
taken_tables l two db keys t ordered has placed = record { layout = l; two = two; here = record { holds = has; in_order = steps_in_order l two keys t ordered; placed = placed } }

pub steps_land : (keys : List StepKey) → Lands (without_steps keys) (without_steps keys)
steps_land keys l two db t ordered has placed = taken_tables l two db keys t ordered has placed
