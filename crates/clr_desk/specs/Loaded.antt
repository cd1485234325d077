-- WHAT A STORE HAS LOADED, as a book takes it: clearances, steps and holds are on shelves.
use Rattle.std.specs.Prelude.{◌≡◌, List}
use Rattle.clr_rules.specs.Hold.{hold_cmp}
use Rattle.clr_rules.specs.Holds.{hold_key}
use Rattle.clr_rules.specs.Id.{id_cmp}
use Rattle.clr_rules.specs.Records.{record_key}
use Rattle.clr_rules.specs.StepKey.{step_key, step_key_cmp}
use Rattle.clr_rules.specs.declared.hold.Hold.{Hold}
use Rattle.clr_rules.specs.declared.record.Record.{Record}
use Rattle.clr_rules.specs.declared.step_row.StepRow.{StepRow}
use Rattle.clr_load.specs.Filling.{IsLoaded}
use Rattle.clr_desk.specs.Shelving.{shelved}
use Rattle.clr_load.specs.declared.rows.Loaded.{Loaded}
use Rattle.clr_load.specs.RowsRead.{Rows}

-- these are the rows that were loaded: each was put on its shelf, one after another
abbrev pub HasRows : Loaded (List Record) (List StepRow) (List Hold) → Rows → Type 0
HasRows loaded rows = IsLoaded
    (λ shelf records. shelf ≡ shelved id_cmp record_key records)
    (λ shelf steps. shelf ≡ shelved step_key_cmp step_key steps)
    (λ shelf holds. shelf ≡ shelved hold_cmp hold_key holds) loaded rows
