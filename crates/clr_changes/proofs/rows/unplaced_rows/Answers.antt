use Rattle.std.proofs.Common.{◌∙◌, ap, List, ℕ, subst, sym}
use Rattle.std.specs.List.Sorted.{IsStrictlySortedBy}
use Rattle.clr_net.specs.Grid.{point_names}
use Rattle.clr_net.specs.Name.{name_cmp}
use Rattle.clr_rules.proofs.good.Opening.{unplaced_names}
use Rattle.clr_changes.proofs.rows.unplaced_rows.Goals as goal

pub returns-clause-rising : goal.returns-clause-rising
returns-clause-rising c =
    subst (λ (names : List (List ℕ)). IsStrictlySortedBy name_cmp names) (sym (ap point_names c.in_ok-found.ensures ∙ unplaced_names c.args.points.now)) c.requires
