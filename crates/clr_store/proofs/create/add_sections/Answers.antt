use Rattle.std.proofs.Common.{arith, refl}
use Rattle.clr_load.specs.declared.table_name.TableName.TheVariants.{Section}
use Rattle.clr_load.specs.Tables.{section_row}
use Rattle.clr_store.proofs.Creating.{adds_all, adds_more, adds_none}
use Rattle.clr_store.proofs.create.add_sections.Goals as goal

pub loop-section-init : goal.loop-section-init
loop-section-init g c = adds_none g.S.Store c.args.tx.now Section

pub loop-section-preserved : goal.loop-section-preserved
loop-section-preserved g c =
    adds_more g.S.Store c.args.tx.now c.loop-section.tx c.add_section.new.tx Section section_row c.args.sections.now c.loop-section.section-index c.section-item.result _ refl c.loop-section-test.true c.section-item.is
    c.loop-section.invariant c.in_ok-add_section.ensures

pub returns : goal.returns
returns g c = adds_all g.S.Store c.args.tx.now c.loop-section.tx Section section_row c.args.sections.now c.loop-section.section-index (omega arith) c.loop-section.invariant
