use Rattle.std.proofs.Common.{◌≡◌, ◌++◌, drop, string_bytes}
use Rattle.std.specs.List.{flat_map}
use Rattle.clr_changes.specs.Lines.{changed_line, namesake}
use Rattle.clr_changes.proofs.print.push_gone.Given as goal

-- the lines so far, and those that are left, are all
abbrev pub invariant-loop-row : goal.invariant-loop-row
invariant-loop-row g l =
    string_bytes l.text ++ flat_map (λ row. changed_line g.R.Printed.said row (namesake g.R.Printed.said l.fn.come row)) (drop l.row-index l.fn.go)
    ≡ string_bytes l.initial.text ++ flat_map (λ row. changed_line g.R.Printed.said row (namesake g.R.Printed.said l.fn.come row)) l.fn.go
