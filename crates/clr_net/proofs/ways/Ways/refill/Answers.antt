use Rattle.std.proofs.Common.{◌∙◌}
use Rattle.std.proofs.lemmas.List.Sums.{list_all-from_AllPass}
use Rattle.clr_net.specs.Grid.{has_ends, section_names}
use Rattle.clr_net.proofs.ways.Ways.refill.Goals as goal

-- all ends are known, so the index was filled
pub returns-clause-index : goal.returns-clause-index
returns-clause-index c =
    c.in-Ok.ensures.index (c.in-Ok.ensures.known
    ∙ list_all-from_AllPass (has_ends (section_names c.args.sections.now)) c.args.points.now c.requires.network.ends_known)
