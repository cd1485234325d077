-- WHAT IS SAID OF AN UPDATE: what is in its way, or the lines of what changes.
use Rattle.std.specs.Prelude.{◌≡◌, None, Some, string_bytes}
use Rattle.clr_rules.specs.Register.{Register}
use Rattle.clr_update.specs.Changes.{changes}
use Rattle.clr_update.specs.Update.{Update, in_the_way, updated}
use Rattle.clr_changes.specs.Lines.{change_lines}
use Rattle.clr_changes.specs.declared.report.Report.{Report}
use Rattle.clr_changes.specs.declared.report.Report.TheVariants.{Changes, InTheWay}

abbrev pub IsReport : Register → Update → Report → Type 0
IsReport R u (InTheWay obstacle) = in_the_way R u ≡ Some obstacle
IsReport R u (Changes text) = (in_the_way R u ≡ None)
    × (string_bytes text ≡ change_lines (changes R (updated R u)))
