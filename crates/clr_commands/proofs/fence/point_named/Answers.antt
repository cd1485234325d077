use Rattle.std.proofs.Common.{◌≡◌, ◌∙◌, sym, ap, refl, true, false}
use Rattle.std.specs.Prelude.{is_some}
use Rattle.clr_net.specs.Names.{has_name}
use Rattle.clr_net.specs.Grid.{point_names}
use Rattle.clr_commands.proofs.Found.{is_some-find}
use Rattle.clr_commands.proofs.fence.point_named.Goals as goal

pub returns-in-Some-clause-answer : goal.returns-in-Some-clause-answer
returns-in-Some-clause-answer c =
    let is_known : has_name (point_names c.args.network.now.points) c.in_ok-name.name ≡ true =
    sym (is_some-find (λ row. row.name) c.in_ok-name.name c.args.network.now.points) ∙ ap is_some (sym c.in-Some.ensures) in
    rw (← c.in_ok-name.ensures.reads, is_known) refl

pub returns-in-None-clause-answer : goal.returns-in-None-clause-answer
returns-in-None-clause-answer c =
    let is_unknown : has_name (point_names c.args.network.now.points) c.in_ok-name.name ≡ false =
    sym (is_some-find (λ row. row.name) c.in_ok-name.name c.args.network.now.points) ∙ ap is_some (sym c.in-None.ensures) in
    rw (← c.in_ok-name.ensures.reads, is_unknown) refl
