use Rattle.std.proofs.Common.{◌≡◌, ◌∙◌, ◌++◌, ◌∷◌, [], List, ℕ, ap, rules}
use Rattle.clr_net.specs.Names.{has_name}
use Rattle.clr_book.proofs.NearGroups.{asked_listed}
use Rattle.clr_book.proofs.near.rows.with_section.Goals as goal

pub returns-clause-same : goal.returns-clause-same
returns-clause-same c s =
    let fence = c.args.fence.now in
    let section = c.args.section in
    let copied : c.in_ok-names.names.items ≡ fence = search rules in
    c.in_order.ensures.same s ∙ ap (λ (names : List (List ℕ)). has_name names s) (c.in_ok-push.ensures.items ∙ ap (λ (names : List (List ℕ)). names ++ section ∷ []) copied)
    ∙ asked_listed fence section s
