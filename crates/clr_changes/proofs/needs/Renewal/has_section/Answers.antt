use Rattle.std.proofs.Common.{◌∙◌, ap}
use Rattle.clr_net.specs.Grid.{Grid, section_names}
use Rattle.clr_net.specs.Names.{has_name}
use Rattle.clr_rules.specs.Register.{Register}
use Rattle.clr_changes.specs.Needs.{Renewal}
use Rattle.clr_changes.proofs.needs.Renewal.has_section.Goals as goal

pub returns : goal.returns
returns g c =
    c.has_section.ensures ∙ ap (λ (V : Renewal). has_name (section_names (Grid.sections (Register.net V.after))) c.args.name) c.self.view_is
