-- The tables without the steps that go are those of the register after an archive.
use Rattle.std.proofs.Common.{◌≡◌, ◌∙◌, ℕ, Bool, true, false, not, ◌&&◌, ◌||◌, List, [], ◌∷◌, map, filter, take, Contains, cond, refl, sym, ap}
use Rattle.std.specs.List.{list_any}
use Rattle.std.specs.Ordering.{is_eq}
use Rattle.std.proofs.lemmas.Bool.{both_ways, false_from_ne_true}
use Rattle.std.proofs.lemmas.Cmp.{tied_itself}
use Rattle.sqlite.specs.Order.{row_cmp}
use Rattle.clr_net.proofs.KeptRows.{Contains-filter, kept_there}
use Rattle.clr_net.proofs.Walks.{any_from, some_from}
use Rattle.clr_rules.proofs.lists.RoundSteps.{filter-twice}
use Rattle.clr_rules.specs.Register.{Register}
use Rattle.clr_rules.specs.StepKey.{same_step_key, step_key, step_key_cmp, step_key_cmp_total}
use Rattle.clr_rules.specs.declared.step_row.StepKey.{StepKey}
use Rattle.clr_rules.specs.declared.step_row.StepRow.{StepRow}
use Rattle.clr_shelf.proofs.Keys.{equal}
use Rattle.clr_shelf.proofs.Lists.{Contains-here, Contains-later, list_all-filter}
use Rattle.clr_shelf.specs.Rows.{without_row}
use Rattle.clr_load.proofs.TableKeys.{map-without_row, step_row_cmp}
use Rattle.clr_load.specs.Tables.{step_row, tables_of}
use Rattle.clr_changes.specs.Archive.{archived, gives_up, steps_that_go}
use Rattle.clr_load.specs.TypedRows.{IsTyped, is_typed_step}
use Rattle.clr_store.specs.StepsTaken.{step_key_values, without_step, without_steps}

-- ---- steps taken one after the other

abbrev taken : List StepRow → List StepRow → List StepRow
taken [] steps = steps
taken (row ∷ rows) steps = taken rows (without_row step_key_cmp step_key (step_key row) steps)

one_taken : (row : StepRow) (R : Register) → without_step (step_key row) (tables_of R) ≡ tables_of (record R { steps = without_row step_key_cmp step_key (step_key row) R.steps })
one_taken row R = λ i. record (tables_of R) {
  steps = sym (map-without_row step_key_cmp step_key row_cmp (take 4) step_row (step_key row) (step_key_values (step_key row)) (λ other. step_row_cmp other row) R.steps) i;
}

tables_taken : (rows : List StepRow) (R : Register) → without_steps (map step_key rows) (tables_of R) ≡ tables_of (record R { steps = taken rows R.steps })
unfolding without_steps
tables_taken [] R = refl
tables_taken (row ∷ rows) R =
    ap (without_steps (map step_key rows)) (one_taken row R) ∙ tables_taken rows (record R { steps = without_row step_key_cmp step_key (step_key row) R.steps })

-- ---- they are those of other keys

abbrev is_among : List StepRow → StepRow → Bool
is_among rows row = list_any (λ (other : StepRow). is_eq (step_key_cmp (step_key row) (step_key other))) rows

all_kept : (steps : List StepRow) → filter (λ (row : StepRow). true) steps ≡ steps
all_kept [] = refl
all_kept (row ∷ steps) = ap (λ rest. row ∷ rest) (all_kept steps)

neither : (a b : Bool) → (not a && not b) ≡ not (a || b)
neither true b = refl
neither false b = refl

taken_is : (rows steps : List StepRow) → taken rows steps ≡ filter (λ row. not (is_among rows row)) steps
unfolding without_row
taken_is [] steps = sym (all_kept steps)
taken_is (row ∷ rows) steps =
    taken_is rows (without_row step_key_cmp step_key (step_key row) steps)
    ∙ filter-twice (λ (other : StepRow). not (is_among rows other)) (λ other. not (is_eq (step_key_cmp (step_key other) (step_key row)))) steps
    ∙ (λ i. filter (λ (other : StepRow). neither (is_eq (step_key_cmp (step_key other) (step_key row))) (is_among rows other) i) steps)

-- a filter by tests that say the same of each element
filter_alike : (p q : StepRow → Bool) (xs : List StepRow) → ((x : StepRow) → Contains xs x → p x ≡ q x) → filter p xs ≡ filter q xs
filter_alike p q [] alike = refl
filter_alike p q (x ∷ xs) alike =
    let first = alike x (Contains-here x xs) in
    let more = filter_alike p q xs (λ y there. alike y (Contains-later x y xs there)) in
    λ i. cond (first i) (x ∷ more i) (more i)

module _ (before : ℕ) (R : Register) where
  among_is : (row : StepRow) → Contains R.steps row → (b : Bool) → gives_up before R row.id ≡ b → is_among (steps_that_go before R) row ≡ b
  among_is row there true is =
      any_from (λ (other : StepRow). is_eq (step_key_cmp (step_key row) (step_key other))) (steps_that_go before R) row
      (Contains-filter (λ (x : StepRow). gives_up before R x.id) R.steps row there is) (ap is_eq (tied_itself step_key_cmp_total (step_key row)))
  among_is row there false is = false_from_ne_true (is_among (steps_that_go before R) row) (λ some.
      let (other, among, tied) = some_from (λ (other : StepRow). is_eq (step_key_cmp (step_key row) (step_key other))) (steps_that_go before R) some in
      let same = same_step_key (step_key row) (step_key other) (equal (step_key_cmp (step_key row) (step_key other)) tied) in
      both_ways (gives_up before R row.id) is
      (ap (λ (key : StepKey). gives_up before R key.id) same ∙ (kept_there (λ (x : StepRow). gives_up before R x.id) R.steps other among).1))

  steps_left : taken (steps_that_go before R) R.steps ≡ filter (λ row. not (gives_up before R row.id)) R.steps
  steps_left = taken_is (steps_that_go before R) R.steps
      ∙ filter_alike (λ row. not (is_among (steps_that_go before R) row)) (λ row. not (gives_up before R row.id)) R.steps
      (λ row there. ap not (among_is row there (gives_up before R row.id) refl))

  pub tables_archived : without_steps (map step_key (steps_that_go before R)) (tables_of R) ≡ tables_of (archived before R)
  tables_archived = tables_taken (steps_that_go before R) R ∙ (λ i. tables_of (record R { steps = steps_left i }))

pub typed_archived : (before : ℕ) (R : Register) → IsTyped R → IsTyped (archived before R)
typed_archived before R typed = record {
  sections = typed.sections;
  points = typed.points;
  states = typed.states;
  staff = typed.staff;
  records = typed.records;
  steps = list_all-filter is_typed_step (λ (row : StepRow). not (gives_up before R row.id)) R.steps typed.steps;
  holds = typed.holds;
}
