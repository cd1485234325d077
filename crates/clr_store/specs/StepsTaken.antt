-- STEPS TAKEN OUT OF THE TABLES, by their keys.
use Rattle.std.specs.Prelude.{List, [], ◌∷◌, ◌++◌}
use Rattle.sqlite.specs.Order.{Row}
use Rattle.clr_rules.specs.declared.step_row.StepKey.{StepKey}
use Rattle.clr_load.specs.TableEdits.{without_table_row}
use Rattle.clr_load.specs.Tables.{Tables, id_values, number_value}

-- the key of a step, in four columns
abbrev pub step_key_values : StepKey → Row
step_key_values key = id_values key.id ++ number_value key.round ∷ number_value key.ordinal ∷ []

abbrev pub without_step : StepKey → Tables → Tables
without_step key t = record t { steps = without_table_row 4 (step_key_values key) t.steps }

-- the tables without the steps of these keys
unfoldable pub without_steps : List StepKey → Tables → Tables
without_steps [] t = t
without_steps (key ∷ keys) t = without_steps keys (without_step key t)
