use Rattle.std.proofs.Common.{Ok, take}
use Rattle.clr_load.specs.TableEdits.{tables_edited}
use Rattle.clr_store.specs.Change.{Does}
use Rattle.clr_store.proofs.edits.make_each.Given as goal

abbrev pub invariant-loop-edit : goal.invariant-loop-edit
invariant-loop-edit g l = Does {X = Unit {0}} g.S.Store l.fn.tx l.tx (tables_edited (take l.edit-index l.edits)) (Ok tt)
