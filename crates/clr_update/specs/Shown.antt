-- What changes, as the definitions have it.
use Rattle.clr_update.specs.Changes.{Changes}
use Rattle.clr_update.specs.declared.changes.Changes.{Changes as ChangedRows}

abbrev pub as_changes : ChangedRows → Changes
as_changes of = record {
  sections_go = of.sections_go.items;
  sections_come = of.sections_come.items;
  points_go = of.points_go.items;
  points_come = of.points_come.items;
  staff_goes = of.staff_goes.items;
  staff_comes = of.staff_comes.items;
}
