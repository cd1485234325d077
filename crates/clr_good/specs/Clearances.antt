-- THE LIST OF CLEARANCES FITS: a requester's clearances are numbered 1, 2, 3 and so on; the work
-- section of an open record is one of the network's; an open record has none exactly where its
-- requester is an operator; and the Switching records are the open ones without a work section.
use Rattle.std.specs.Prelude.{ℕ, ◌+◌, Bool, true, not, ◌&&◌, ◌||◌, ◌==◌, if◌then◌else◌, List, [], ◌∷◌}
use Rattle.std.specs.Prelude.{Option, None, Some}
use Rattle.clr_rules.specs.Prelude.{list_all, Grid, section_names, same_name, Id, Register}
use Rattle.clr_rules.specs.Good.{is_known_work, is_operators}
use Rattle.clr_rules.specs.Records.{is_closed, is_switch_order, lacks_work}
use Rattle.clr_rules.specs.declared.phase.Phase.{Phase}
use Rattle.clr_rules.specs.declared.record.Record.{Record}
use Rattle.clr_rules.specs.declared.phase.Phase.TheVariants.{Requested, Ordered, Granted, Released}
use Rattle.clr_rules.specs.declared.phase.Phase.TheVariants.{Restoring, Switching, Closed}

-- whether a record of this phase may have this work section, or none
abbrev pub work_fits : Phase → Option (List ℕ) → Bool
work_fits Requested work = not (lacks_work work)
work_fits Ordered work = not (lacks_work work)
work_fits Granted work = not (lacks_work work)
work_fits Released work = not (lacks_work work)
work_fits Restoring work = not (lacks_work work)
work_fits Switching work = lacks_work work
work_fits Closed work = true

-- two tests answer the same
abbrev pub answers_alike : Bool → Bool → Bool
answers_alike a b = if a then b else not b

-- whether the network has the work section of a record, and the staff has its requester's role
abbrev pub names_fit : Register → Record → Bool
names_fit R r = is_known_work (section_names (Grid.sections R.net)) r.work
    && answers_alike (is_switch_order r) (is_operators R r.id.requester)

-- a closed record binds neither network nor staff
abbrev pub record_fits : Register → Record → Bool
record_fits R r = work_fits r.phase r.work && (is_closed r.phase || names_fit R r)

-- the number that comes after a clearance, for a clearance of this requester
abbrev pub number_after : Option Id → List ℕ → ℕ
number_after None requester = 1
number_after (Some c) requester = if same_name requester c.requester then c.number + 1 else 1

-- records in the order of their clearances, from one on, are numbered without gaps
abbrev pub numbers_fit : Option Id → List Record → Bool
numbers_fit before [] = true
numbers_fit before (r ∷ records) = (r.id.number == number_after before r.id.requester)
    && numbers_fit (Some r.id) records

abbrev pub clearances_fit : Register → Bool
clearances_fit R = numbers_fit None R.records && list_all (record_fits R) R.records
