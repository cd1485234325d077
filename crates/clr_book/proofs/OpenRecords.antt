-- The open records: a record that is put, and those whose fences a jumper would cross.
use Rattle.std.proofs.Common.{◌≡◌, true, false, List, refl, sym, ◌∙◌, true≢false}
use Rattle.clr_net.specs.Grid.{Grid}
use Rattle.clr_shelf.proofs.Groups.{filter-with_inside, filter-with_outside}
use Rattle.clr_shelf.proofs.Lists.{find-filter_wider}
use Rattle.clr_shelf.specs.Rows.{in_key_order, with_row, without_row}
use Rattle.clr_rules.specs.Fences.{crossed_record, crosses, record_fence}
use Rattle.clr_rules.specs.Id.{id_cmp, id_cmp_total}
use Rattle.clr_rules.specs.Records.{is_open, record_key}
use Rattle.clr_rules.specs.declared.phase.Phase.{Phase}
use Rattle.clr_rules.specs.declared.phase.Phase.TheVariants.{Closed}
use Rattle.clr_rules.specs.declared.record.Record.{Record}
use Rattle.clr_rules.specs.declared.step_row.StepRow.{StepRow}
use Rattle.clr_book.specs.Book.{open_in}

-- an open record is put among the open ones
pub open_put : (r : Record) (records : List Record) → is_open r.phase ≡ true
    → with_row id_cmp record_key r (open_in records) ≡ open_in (with_row id_cmp record_key r records)
open_put r records unclosed =
    sym (filter-with_inside id_cmp record_key id_cmp_total (λ (other : Record). is_open other.phase) r records unclosed)

-- and a closed one is none of them
pub closed_put : (r : Record) (records : List Record) → in_key_order id_cmp record_key records ≡ true → is_open r.phase ≡ false
    → without_row id_cmp record_key r.id (open_in records) ≡ open_in (with_row id_cmp record_key r records)
closed_put r records ordered closed =
    sym (filter-with_outside id_cmp record_key id_cmp_total (λ (other : Record). is_open other.phase) r records ordered closed)

-- a record whose fence is crossed is open
crossed_open : (g : Grid) (steps : List StepRow) (from to : List _) (r : Record) → crosses (record_fence g steps r) from to ≡ true → is_open r.phase ≡ true
crossed_open g steps from to r across = at r.phase refl
  where
    at : (phase : Phase) → r.phase ≡ phase → is_open r.phase ≡ true
    at Closed is = absurd (true≢false (sym across ∙ rw is refl))
    at _ is = rw is refl

-- so the first one is found among those
pub crossed_among_open : (g : Grid) (steps : List StepRow) (records : List Record) (from to : List _)
    → crossed_record g steps (open_in records) from to ≡ crossed_record g steps records from to
unfolding crossed_record
crossed_among_open g steps records from to =
    find-filter_wider (λ (r : Record). crosses (record_fence g steps r) from to) (λ (r : Record). is_open r.phase) (λ r across. crossed_open g steps from to r across) records
