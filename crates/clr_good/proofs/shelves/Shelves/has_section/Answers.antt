use Rattle.std.proofs.Common.{◌∙◌, ap, is_some}
use Rattle.clr_rules.proofs.Common.{Grid, section_names, has_name, SectionRow, Register}
use Rattle.clr_good.proofs.CodeFacts.{found_named, is_there}
use Rattle.clr_good.proofs.shelves.Shelves.has_section.Goals as goal

pub returns : goal.returns
returns g c =
    let name = c.args.name in
    c.is_some.ensures ∙ is_there c.section.result ∙ ap is_some c.section.ensures
    ∙ found_named (λ (row : SectionRow). row.name) (Grid.sections c.self.inside.network.now) name
    ∙ ap (λ (R : Register). has_name (section_names (Grid.sections R.net)) name) c.self.view_is
