use Rattle.std.proofs.Common.{◌∙◌, ap, filter}
use Rattle.clr_rules.specs.declared.point_state.PointState.{PointState}
use Rattle.clr_book.specs.Book.{Shelved}
use Rattle.clr_net.specs.Names.{has_name}
use Rattle.clr_book.proofs.NearGroups.{has_name-back}
use Rattle.clr_book.proofs.book.Book.states_near.Goals as goal

pub returns : goal.returns
returns g c =
    let beside = c.args.beside.now in
    c.in_ok-found.ensures
    ∙ (λ i. filter (λ (state : PointState). has_name-back beside state.point i) (g.P.Shelf.rows c.self.inside.states))
    ∙ ap (λ (v : Shelved). filter (λ state. has_name beside state.point) v.register.states) c.self.view_is
