use Rattle.std.proofs.Common.{Ok, map, take}
use Rattle.clr_load.specs.declared.table_name.TableName.TheVariants.{Section}
use Rattle.clr_load.specs.Tables.{section_row}
use Rattle.clr_store.specs.Change.{Does, added, with_rows}
use Rattle.clr_store.proofs.create.add_sections.Given as goal

abbrev pub invariant-loop-section : goal.invariant-loop-section
invariant-loop-section g l =
    Does {X = Unit {0}} g.S.Store l.fn.tx l.tx (with_rows Section (added (take l.section-index (map section_row l.sections)))) (Ok tt)
