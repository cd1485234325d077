use Rattle.std.proofs.Common.{◌≡◌, ◌++◌, drop, string_bytes}
use Rattle.clr_csv.specs.WarningText.{warning_lines}
use Rattle.clr_csv.proofs.warning_lines.print_warnings.Given as goal

-- the lines so far, and those that are left, are all
abbrev pub invariant-loop-warning : goal.invariant-loop-warning
invariant-loop-warning l = string_bytes l.text ++ warning_lines (drop l.warning-index l.fn.warnings) ≡ warning_lines l.fn.warnings
