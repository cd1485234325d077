use Rattle.std.proofs.Common.{◌∙◌, not, sym}
use Rattle.std.proofs.lemmas.Bool.{not-false}
use Rattle.clr_net.specs.Grid.{has_ends, has_one_section, section_names}
use Rattle.clr_net.specs.declared.point.PointRow.{PointRow}
use Rattle.clr_net.proofs.Places.{all_fail}
use Rattle.clr_net.proofs.network.check_ends.Goals as goal

pub returns-clause-known : goal.returns-clause-known
returns-clause-known c k d inside =
    let names = section_names c.args.sections.now in
    not-false _ (all_fail (λ (p : PointRow). not (has_ends names p)) c.args.points.now (sym c.unknown_end.ensures ∙ c.in_default.is) k d inside)

pub returns-clause-differ : goal.returns-clause-differ
returns-clause-differ c = all_fail has_one_section c.args.points.now (sym c.same_ends.ensures ∙ c.in_default-same_ends.is)
