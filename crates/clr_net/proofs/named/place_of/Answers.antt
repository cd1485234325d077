use Rattle.std.proofs.Common.{rules, ◌∙◌}
use Rattle.std.proofs.lemmas.Fn.{always_returns_same}
use Rattle.clr_net.specs.Name.{name_cmp}
use Rattle.clr_net.proofs.Places.{place_from_search}
use Rattle.clr_net.proofs.named.place_of.Goals as goal

pub returns : goal.returns
returns g c =
    let search_ensures = c.binary_search_by.ensures in
    c.ok.ensures.value ∙ place_from_search g.R.Named.name_of c.args.rows.now c.args.name c.binary_search_by.result c.requires search_ensures.bound
    (search_ensures.position (λ row. name_cmp (g.R.Named.name_of row) c.args.name) (always_returns_same _ _ _ (λ a r f' h. search rules)))
