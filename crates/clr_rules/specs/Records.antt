-- The records of clearances, and their numbers.
use Rattle.std.specs.Prelude.{ℕ, Bool, true, false, nat_le, if◌then◌else◌, List, map, filter}
use Rattle.std.specs.Prelude.{Option, None, Some, fold}
use Rattle.clr_net.specs.Prelude.{same_name}
use Rattle.clr_shelf.specs.Rows.{row_of}
use Rattle.clr_rules.specs.Id.{Id, id_cmp}
use Rattle.clr_rules.specs.declared.phase.Phase.{Phase}
use Rattle.clr_rules.specs.declared.phase.Phase.TheVariants.{Requested, Ordered, Granted, Released}
use Rattle.clr_rules.specs.declared.phase.Phase.TheVariants.{Restoring, Switching, Closed}
use Rattle.clr_rules.specs.declared.record.Record.{Record}

abbrev pub record_key : Record → Id
record_key r = r.id

abbrev pub record_of : List Record → Id → Option Record
record_of records c = row_of id_cmp record_key c records

-- the numbers of a requester's clearances, in rising order
abbrev pub numbers_of : List Record → List ℕ → List ℕ
numbers_of records requester =
    map (λ r. r.id.number) (filter (λ r. same_name requester r.id.requester) records)

abbrev pub greater_of : ℕ → ℕ → ℕ
greater_of a b = if nat_le a b then b else a

-- the greatest number of a requester's clearances, 0 where there is none
unfoldable pub greatest_number : List Record → List ℕ → ℕ
greatest_number records requester = fold greater_of 0 (numbers_of records requester)

abbrev pub lacks_work : Option (List ℕ) → Bool
lacks_work None = true
lacks_work (Some work) = false

-- a switch order is a record without a work section
abbrev pub is_switch_order : Record → Bool
is_switch_order r = lacks_work r.work

-- phases in which steps are given out, repeated and reported
abbrev pub is_running : Phase → Bool
is_running Ordered = true
is_running Restoring = true
is_running Switching = true
is_running _ = false

-- phases in which the fence of a work section is looked for; a switch order is in the midst of its
-- steps too, and has no work section
abbrev pub is_fenced : Phase → Bool
is_fenced Requested = false
is_fenced Closed = false
is_fenced _ = true

-- phases in which an isolating order is in force
abbrev pub is_standing : Phase → Bool
is_standing Ordered = true
is_standing Granted = true
is_standing Released = true
is_standing Restoring = true
is_standing _ = false

-- phases that end with the last step of their order
abbrev pub ends_with_steps : Phase → Bool
ends_with_steps Restoring = true
ends_with_steps Switching = true
ends_with_steps _ = false

-- phases in which a holder may hand the clearance on: it is asked for, and not yet released
abbrev pub is_transferable : Phase → Bool
is_transferable Requested = true
is_transferable Ordered = true
is_transferable Granted = true
is_transferable _ = false

-- phases in which it may be cancelled: it was not granted
abbrev pub is_cancellable : Phase → Bool
is_cancellable Requested = true
is_cancellable Ordered = true
is_cancellable Switching = true
is_cancellable Granted = false
is_cancellable Released = false
is_cancellable Restoring = false
is_cancellable Closed = false

abbrev pub is_requested : Phase → Bool
is_requested Requested = true
is_requested _ = false

abbrev pub is_ordered : Phase → Bool
is_ordered Ordered = true
is_ordered _ = false

abbrev pub is_granted : Phase → Bool
is_granted Granted = true
is_granted _ = false

abbrev pub is_released : Phase → Bool
is_released Released = true
is_released _ = false

abbrev pub is_restoring : Phase → Bool
is_restoring Restoring = true
is_restoring _ = false

abbrev pub is_closed : Phase → Bool
is_closed Closed = true
is_closed _ = false

-- what is not Closed is open
abbrev pub is_open : Phase → Bool
is_open Closed = false
is_open _ = true

abbrev pub is_in_switching : Phase → Bool
is_in_switching Switching = true
is_in_switching _ = false
