-- AN ARCHIVE: records that were closed before a moment give up their steps. Which records these
-- are, and the register after it. Records stay, so numbers go on.
use Rattle.std.specs.Prelude.{ℕ, Bool, false, ◌&&◌, nat_lt, List, filter, Option, None, Some}
use Rattle.clr_rules.specs.Prelude.{Id, Register, is_some_step, record_of, steps_of}
use Rattle.clr_rules.specs.Records.{is_closed}
use Rattle.clr_rules.specs.laws.ClosedSteps.{without_steps_of}
use Rattle.clr_rules.specs.declared.record.Record.{Record}
use Rattle.clr_rules.specs.declared.step_row.StepRow.{StepRow}

-- A RECORD IS PAST: it is Closed, and its last moment is before this one
abbrev pub is_past : ℕ → Record → Bool
is_past before r = is_closed r.phase && nat_lt r.last before

abbrev pub is_past_record : ℕ → Option Record → Bool
is_past_record before None = false
is_past_record before (Some r) = is_past before r

-- whether a clearance gives up its steps
abbrev pub gives_up : ℕ → Register → Id → Bool
gives_up before R c = is_past_record before (record_of R.records c)

-- THE REGISTER AFTER IT: the steps of these records are gone, and all else stays
abbrev pub archived : ℕ → Register → Register
archived before R = without_steps_of (gives_up before R) R

-- THE RECORDS THAT ARE PRINTED, each with its steps: those that are past and have any, in the order
-- of their clearances
abbrev pub is_printed : ℕ → Register → Record → Bool
is_printed before R r = is_past before r && is_some_step (steps_of R.steps r.id)

abbrev pub printed_records : ℕ → Register → List Record
printed_records before R = filter (is_printed before R) R.records

-- THE STEPS THAT GO
abbrev pub steps_that_go : ℕ → Register → List StepRow
steps_that_go before R = filter (λ row. gives_up before R row.id) R.steps
