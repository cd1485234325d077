-- WHAT IS PRINTED OF THE RECORDS THAT GIVE UP THEIR STEPS: a line of JSON each, the keys of each
-- object in the order of their bytes.
use Rattle.std.specs.Prelude.{ℕ, List, [], ◌∷◌, ◌++◌, codes}
use Rattle.std.specs.List.{flat_map}
use Rattle.serde_json.specs.Data.{Data, member, no_members, object, string}
use Rattle.serde_json.specs.Written.{compact_text}
use Rattle.clr_order.specs.Step.{state_text, task}
use Rattle.clr_order.specs.Texts.{step_text}
use Rattle.clr_rules.specs.Register.{Register}
use Rattle.clr_rules.specs.Steps.{steps_of}
use Rattle.clr_rules.specs.declared.record.Record.{Record}
use Rattle.clr_rules.specs.declared.step_row.StepRow.{StepRow}
use Rattle.clr_changes.specs.Archive.{printed_records}
use Rattle.clr_text.specs.Json.{id_data, list_data, name_data, optional_data, whole_data}

-- a step with its round and its number
abbrev pub step_row_data : StepRow → Data
step_row_data row =
    object (member (codes "number") (whole_data row.ordinal)
    (member (codes "reader") (optional_data name_data row.step.reader)
    (member (codes "round") (whole_data row.round)
    (member (codes "state") (string (state_text row.step.state))
    (member (codes "text") (string (step_text (task row.step))) no_members)))))

-- the record, with the moment of the last command about it
abbrev pub record_data : Record → List StepRow → Data
record_data r steps =
    object (member (codes "clearance") (id_data r.id)
    (member (codes "holder") (name_data r.holder)
    (member (codes "last") (whole_data r.last)
    (member (codes "steps") (list_data step_row_data steps)
    (member (codes "work") (optional_data name_data r.work) no_members)))))

abbrev pub record_line : Record → List StepRow → List ℕ
record_line r steps = compact_text (record_data r steps) ++ 10 ∷ []

-- those of a register that are past this moment
abbrev pub archive_text : ℕ → Register → List ℕ
archive_text before R =
    flat_map (λ r. record_line r (steps_of R.steps r.id)) (printed_records before R)
