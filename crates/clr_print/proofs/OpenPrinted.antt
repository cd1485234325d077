-- The records on the board are the open ones of a book.
use Rattle.std.proofs.Common.{◌≡◌, Bool, List, filter, refl, ap, not}
use Rattle.clr_rules.specs.Records.{is_closed, is_open as is_open_phase}
use Rattle.clr_rules.specs.declared.phase.Phase.{Phase}
use Rattle.clr_rules.specs.declared.phase.Phase.TheVariants.{Requested, Ordered, Granted, Released, Restoring, Switching, Closed}
use Rattle.clr_rules.specs.declared.record.Record.{Record}
use Rattle.clr_book.specs.Book.{open_in}
use Rattle.clr_print.specs.Printed.{is_open}

not_closed : (phase : Phase) → is_open_phase phase ≡ not (is_closed phase)
not_closed Requested = refl
not_closed Ordered = refl
not_closed Granted = refl
not_closed Released = refl
not_closed Restoring = refl
not_closed Switching = refl
not_closed Closed = refl

pub open_printed : (records : List Record) → open_in records ≡ filter is_open records
open_printed records = ap (λ (test : Record → Bool). filter test records) (λ i r. not_closed r.phase i)
