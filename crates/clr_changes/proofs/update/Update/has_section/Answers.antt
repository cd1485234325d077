use Rattle.std.proofs.Common.{◌∙◌, ap, is_some}
use Rattle.clr_net.specs.Grid.{Grid}
use Rattle.clr_net.specs.declared.section.SectionRow.{SectionRow}
use Rattle.clr_changes.proofs.LookedUp.{found_named, is_there}
use Rattle.clr_changes.proofs.update.Update.has_section.Goals as goal

pub returns : goal.returns
returns c =
    c.is_some.ensures ∙ is_there c.section.result ∙ ap is_some c.section.ensures
    ∙ found_named (λ (row : SectionRow). row.name) (Grid.sections c.args.self.now.network) c.args.section
