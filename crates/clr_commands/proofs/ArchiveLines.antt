-- The lines of records that give up their steps: they have no number that is no whole number.
use Rattle.std.proofs.Common.{◌≡◌, ◌++◌, ◌∷◌, [], ℕ, Bool, List, Option, None, Some, false, ap, flat_map, map, refl}
use Rattle.std.specs.Prelude.{◌||◌}
use Rattle.serde_json.specs.Data.{Data}
use Rattle.serde_json.specs.View.{items_of}
use Rattle.serde_json.specs.Written.{has_float, items_have_float}
use Rattle.clr_rules.specs.declared.record.Record.{Record}
use Rattle.clr_rules.specs.declared.step_row.StepRow.{StepRow}
use Rattle.clr_text.specs.Json.{name_data, optional_data}
use Rattle.clr_commands.specs.ArchiveText.{record_data, step_row_data}

neither : (a b : Bool) → a ≡ false → b ≡ false → (a || b) ≡ false
neither a b first second = rw (first, second) refl

in_name : (name : Option (List ℕ)) → has_float (optional_data name_data name) ≡ false
in_name None = refl
in_name (Some name) = refl

in_step_row : (row : StepRow) → has_float (step_row_data row) ≡ false
in_step_row row = let reader = in_name row.step.reader in rw reader refl

in_steps : (rows : List StepRow) → items_have_float (items_of (map step_row_data rows)) ≡ false
in_steps [] = refl
in_steps (row ∷ rows) = neither _ _ (in_step_row row) (in_steps rows)

pub in_record : (r : Record) (steps : List StepRow) → has_float (record_data r steps) ≡ false
in_record r steps =
    let rows = in_steps steps in
    let work = in_name r.work in
    rw (rows, work) refl

-- lines of what is shown
pub lines_shown : {X : Type 0} (line : Record → List ℕ) (shows : X → Record) (xs : List X) → flat_map (λ x. line (shows x)) xs ≡ flat_map line (map shows xs)
lines_shown line shows [] = refl
lines_shown line shows (x ∷ xs) = ap (λ rest. line (shows x) ++ rest) (lines_shown line shows xs)
