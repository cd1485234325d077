use Rattle.std.proofs.Common.{◌≡◌, drop, filter, map, not}
use Rattle.std.specs.List.{flat_map}
use Rattle.clr_rules.specs.Checks.{employee, has_role, is_field}
use Rattle.clr_rules.specs.Steps.{is_active}
use Rattle.clr_update.specs.Update.{names_in}
use Rattle.clr_changes.specs.Touched.{first_of}
use Rattle.clr_changes.proofs.staffing.its_reader.Given as goal

abbrev pub invariant-loop-row : goal.invariant-loop-row
invariant-loop-row l =
    first_of (filter (λ name. not (has_role is_field (employee l.fn.staff name))) (flat_map (λ row. names_in row.step.reader) (filter (λ row. is_active row.step.state) (map (λ row. row.now) (drop l.row-index l.fn.steps)))))
    ≡ first_of (filter (λ name. not (has_role is_field (employee l.fn.staff name))) (flat_map (λ row. names_in row.step.reader) (filter (λ row. is_active row.step.state) (map (λ row. row.now) l.fn.steps))))
