-- Rows of tables are in the order of the rows of the register, and are put and taken at the same places.
use Rattle.std.proofs.Common.{◌≡◌, ℕ, Bool, true, false, cond, not, List, [], ◌∷◌, ◌++◌, map, filter, take, refl, ◌∙◌, ap, arith, int_cmp}
use Rattle.std.specs.Ordering.{is_eq, is_gt, is_lt, nat_cmp, ordering_then}
use Rattle.std.specs.declared.cmp.Ordering.{Ordering}
use Rattle.std.specs.declared.cmp.Ordering.TheVariants.{Less, Equal, Greater}
use Rattle.std.specs.Prelude.{pos}
use Rattle.std.proofs.lemmas.Int.{ints}
use Rattle.std.proofs.lemmas.List.{map-append}
use Rattle.sqlite.specs.Order.{row_cmp, value_cmp}
use Rattle.sqlite.specs.declared.types.Value.TheVariants.{Text}
use Rattle.sqlite_value.proofs.OrderLemmas.{value_cmp-Int, value_cmp-Text}
use Rattle.clr_net.specs.Additions.{with_named}
use Rattle.clr_net.specs.Name.{name_cmp}
use Rattle.clr_net.specs.declared.section.SectionRow.{SectionRow}
use Rattle.clr_shelf.specs.Rows.{with_row, without_row}
use Rattle.clr_rules.specs.Hold.{hold_cmp}
use Rattle.clr_rules.specs.HoldKind.{hold_kind_text}
use Rattle.clr_rules.specs.Holds.{hold_key}
use Rattle.clr_rules.specs.Id.{Id, id_cmp}
use Rattle.clr_rules.specs.Records.{record_key}
use Rattle.clr_rules.specs.StepKey.{step_key, step_key_cmp}
use Rattle.clr_rules.specs.declared.hold.Hold.{Hold}
use Rattle.clr_rules.specs.declared.record.Record.{Record}
use Rattle.clr_rules.specs.declared.step_row.StepRow.{StepRow}
use Rattle.clr_rules.proofs.edits.Growing.{named_is_put}
use Rattle.clr_load.specs.TableEdits.{with_table_row, without_table_row}
use Rattle.clr_load.specs.Tables.{clearance_row, hold_row, number_value, section_row, step_row}

-- ---- rows mapped

module _ {A B : Type 0} (f : A → B) where
  -- a filter of what was mapped
  pub map-filtered : (p : A → Bool) (q : B → Bool) → ((x : A) → q (f x) ≡ p x) → (xs : List A) → map f (filter p xs) ≡ filter q (map f xs)
  map-filtered p q same [] = refl
  map-filtered p q same (x ∷ xs) = at (p x) (same x) (map-filtered p q same xs)
    where
      at : (b : Bool) → q (f x) ≡ b → map f (filter p xs) ≡ filter q (map f xs) → map f (cond b (x ∷ filter p xs) (filter p xs)) ≡ filter q (map f (x ∷ xs))
      at true is more = rw is (ap (λ ys. f x ∷ ys) more)
      at false is more = rw is more

module _ {Key Row Key2 Row2 : Type 0} (compare : Key → Key → Ordering) (key_of : Row → Key) (compare2 : Key2 → Key2 → Ordering) (key2_of : Row2 → Key2) (f : Row → Row2) where
  -- a row is put at the same place
  pub map-with_row : (row : Row) → ((other : Row) → compare2 (key2_of (f other)) (key2_of (f row)) ≡ compare (key_of other) (key_of row))
      → (rows : List Row) → map f (with_row compare key_of row rows) ≡ with_row compare2 key2_of (f row) (map f rows)
  unfolding with_row
  map-with_row row same rows =
      map-append f (filter (λ other. is_lt (compare (key_of other) (key_of row))) rows) (row ∷ filter (λ other. is_gt (compare (key_of other) (key_of row))) rows)
      ∙ (λ i. below i ++ f row ∷ above i)
    where
      below : map f (filter (λ other. is_lt (compare (key_of other) (key_of row))) rows)
          ≡ filter (λ other. is_lt (compare2 (key2_of other) (key2_of (f row)))) (map f rows)
      below = map-filtered f (λ other. is_lt (compare (key_of other) (key_of row))) (λ other. is_lt (compare2 (key2_of other) (key2_of (f row)))) (λ other. ap is_lt (same other)) rows

      above : map f (filter (λ other. is_gt (compare (key_of other) (key_of row))) rows)
          ≡ filter (λ other. is_gt (compare2 (key2_of other) (key2_of (f row)))) (map f rows)
      above = map-filtered f (λ other. is_gt (compare (key_of other) (key_of row))) (λ other. is_gt (compare2 (key2_of other) (key2_of (f row)))) (λ other. ap is_gt (same other)) rows

  -- and taken there
  pub map-without_row : (key : Key) (key2 : Key2) → ((other : Row) → compare2 (key2_of (f other)) key2 ≡ compare (key_of other) key)
      → (rows : List Row) → map f (without_row compare key_of key rows) ≡ without_row compare2 key2_of key2 (map f rows)
  unfolding without_row
  map-without_row key key2 same rows =
      map-filtered f (λ row. not (is_eq (compare (key_of row) key))) (λ row. not (is_eq (compare2 (key2_of row) key2))) (λ other. ap (λ o. not (is_eq o)) (same other)) rows

-- ---- keys as values

then_ends : (a : Ordering) → ordering_then a Equal ≡ a
then_ends Less = refl
then_ends Equal = refl
then_ends Greater = refl

then_together : (a b c : Ordering) → ordering_then a (ordering_then b c) ≡ ordering_then (ordering_then a b) c
then_together Less b c = refl
then_together Equal b c = refl
then_together Greater b c = refl

number_cmp : (m n : ℕ) → value_cmp (number_value m) (number_value n) ≡ nat_cmp m n
number_cmp m n = let same : int_cmp (pos m) (pos n) ≡ nat_cmp m n = grind (arith, ints) in value_cmp-Int (pos m) (pos n) ∙ same

-- a name alone
pub name_row_cmp : (a b : List ℕ) → row_cmp (Text a ∷ []) (Text b ∷ []) ≡ name_cmp a b
name_row_cmp a b = then_ends (value_cmp (Text a) (Text b)) ∙ value_cmp-Text a b

-- a clearance, and what follows it
id_then : (a b : Id) (rest : Ordering)
    → ordering_then (value_cmp (Text a.requester) (Text b.requester)) (ordering_then (value_cmp (number_value a.number) (number_value b.number)) rest) ≡ ordering_then (id_cmp a b) rest
id_then a b rest =
    (λ i. ordering_then (value_cmp-Text a.requester b.requester i) (ordering_then (number_cmp a.number b.number i) rest))
    ∙ then_together (name_cmp a.requester b.requester) (nat_cmp a.number b.number) rest

pub clearance_key_cmp : (a b : Record) → row_cmp (take 2 (clearance_row a)) (take 2 (clearance_row b)) ≡ id_cmp (record_key a) (record_key b)
clearance_key_cmp a b = id_then a.id b.id Equal ∙ then_ends (id_cmp a.id b.id)

pub step_row_cmp : (a b : StepRow) → row_cmp (take 4 (step_row a)) (take 4 (step_row b)) ≡ step_key_cmp (step_key a) (step_key b)
step_row_cmp a b =
    id_then a.id b.id (ordering_then (value_cmp (number_value a.round) (number_value b.round)) (ordering_then (value_cmp (number_value a.ordinal) (number_value b.ordinal)) Equal))
    ∙ (λ i. ordering_then (id_cmp a.id b.id) (ordering_then (number_cmp a.round b.round i) ((then_ends (value_cmp (number_value a.ordinal) (number_value b.ordinal)) ∙ number_cmp a.ordinal b.ordinal) i)))

pub hold_row_cmp : (a b : Hold) → row_cmp (take 4 (hold_row a)) (hold_row b) ≡ hold_cmp a b
hold_row_cmp a b =
    (λ i. ordering_then (value_cmp-Text (hold_kind_text a.kind) (hold_kind_text b.kind) i) (ordering_then (value_cmp-Text a.place b.place i) ((id_then a.id b.id Equal ∙ then_ends (id_cmp a.id b.id)) i)))

-- ---- rows put and taken

pub clearance_put : (r : Record) (records : List Record) → map clearance_row (with_row id_cmp record_key r records) ≡ with_table_row 2 (clearance_row r) (map clearance_row records)
clearance_put r records = map-with_row id_cmp record_key row_cmp (take 2) clearance_row r (λ other. clearance_key_cmp other r) records

pub step_put : (row : StepRow) (steps : List StepRow) → map step_row (with_row step_key_cmp step_key row steps) ≡ with_table_row 4 (step_row row) (map step_row steps)
step_put row steps = map-with_row step_key_cmp step_key row_cmp (take 4) step_row row (λ other. step_row_cmp other row) steps

pub hold_put : (h : Hold) (holds : List Hold) → map hold_row (with_row hold_cmp hold_key h holds) ≡ with_table_row 4 (hold_row h) (map hold_row holds)
hold_put h holds = map-with_row hold_cmp hold_key row_cmp (take 4) hold_row h (λ other. hold_row_cmp other h) holds

pub hold_taken : (h : Hold) (holds : List Hold) → map hold_row (without_row hold_cmp hold_key h holds) ≡ without_table_row 4 (hold_row h) (map hold_row holds)
hold_taken h holds = map-without_row hold_cmp hold_key row_cmp (take 4) hold_row h (hold_row h) (λ other. hold_row_cmp other h) holds

pub section_put : (row : SectionRow) (sections : List SectionRow) → map section_row (with_named (λ other. other.name) row sections) ≡ with_table_row 1 (section_row row) (map section_row sections)
section_put row sections =
    let name_of = λ (other : SectionRow). other.name in
    ap (map section_row) (named_is_put name_of row sections) ∙ map-with_row name_cmp name_of row_cmp (take 1) section_row row (λ other. name_row_cmp other.name row.name) sections
