use Rattle.std.proofs.Common.{◌∙◌, sym}
use Rattle.clr_net.specs.Grid.{has_ends, section_names}
use Rattle.clr_net.proofs.Places.{none_fail}
use Rattle.clr_net.proofs.network.unknown_end.Goals as goal

pub returns-then-all_known : goal.returns-then-all_known
returns-then-all_known c =
    sym (none_fail (has_ends (section_names c.args.sections.now)) c.args.points.now (sym c.requires.all ∙ c.if-all_known.true))
