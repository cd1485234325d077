use Rattle.std.proofs.Common.{Result, Ok, subst}
use Rattle.clr_changes.specs.Shown.{as_update}
use Rattle.clr_changes.specs.declared.report.Report.{Report}
use Rattle.clr_desk.specs.Renewing.{IsUpdatedAt}
use Rattle.clr_desk.specs.declared.desk_fault.DeskFault.{DeskFault}
use Rattle.clr_level.proofs.Deeds.{update_done, update_in_the_way, update_missed}
use Rattle.clr_level.proofs.deed.make_at.Goals as goal

pub returns-in-Ok-Changes : goal.returns-in-Ok-Changes
returns-in-Ok-Changes g c of whole said =
    let new = c.update_at-came.result.1 in
    let u = as_update c.args.update in
    update_done g.K.Commit.kept g.K.Commit.takes g.K.CommitAt.has_place g.K.Commit.fails c.args.desk new of u c.args.place.now whole said
    c.in-Ok-Changes._text
    (subst (λ (report : Report). IsUpdatedAt g.K.Commit.kept g.K.CommitAt.has_place g.K.Commit.fails c.args.desk new u c.args.place.now (Ok report))
    c.in-Ok-Changes.field-0-is
    (subst (λ (r : Result Report DeskFault). IsUpdatedAt g.K.Commit.kept g.K.CommitAt.has_place g.K.Commit.fails c.args.desk new u c.args.place.now r)
    c.in-Ok-Changes.is c.update_at-came.ensures.updated))

pub returns-in-Ok-InTheWay : goal.returns-in-Ok-InTheWay
returns-in-Ok-InTheWay g c of whole said =
    let new = c.update_at-came.result.1 in
    let u = as_update c.args.update in
    update_in_the_way g.K.Commit.kept g.K.Commit.takes g.K.CommitAt.has_place g.K.Commit.fails c.args.desk new of u c.args.place.now whole said
    c.in-Ok-InTheWay._obstacle
    (subst (λ (report : Report). IsUpdatedAt g.K.Commit.kept g.K.CommitAt.has_place g.K.Commit.fails c.args.desk new u c.args.place.now (Ok report))
    c.in-Ok-InTheWay.field-0-is
    (subst (λ (r : Result Report DeskFault). IsUpdatedAt g.K.Commit.kept g.K.CommitAt.has_place g.K.Commit.fails c.args.desk new u c.args.place.now r)
    c.in-Ok-InTheWay.is c.update_at-came.ensures.updated))

pub returns-in-Err : goal.returns-in-Err
returns-in-Err g c of whole said =
    let new = c.update_at-came.result.1 in
    let u = as_update c.args.update in
    update_missed g.K.Commit.kept g.K.Commit.takes g.K.CommitAt.has_place g.K.Commit.fails c.args.desk new of u c.args.place.now whole said
    c.in-Err.fault
    (subst (λ (r : Result Report DeskFault). IsUpdatedAt g.K.Commit.kept g.K.CommitAt.has_place g.K.Commit.fails c.args.desk new u c.args.place.now r)
    c.in-Err.is c.update_at-came.ensures.updated)
