use Rattle.std.proofs.Common.{◌∙◌, ap, is_some}
use Rattle.clr_net.specs.Prelude.{same_name, section_names}
use Rattle.clr_net.proofs.Places.{is_some-position}
use Rattle.clr_net.proofs.network.has_section.Goals as goal

pub returns : goal.returns
returns c = c.is_some.ensures ∙ ap is_some c.place_of.ensures ∙ is_some-position (same_name c.args.name) (section_names c.args.sections.now)
