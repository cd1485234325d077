use Rattle.std.proofs.Common.{◌∙◌, ap, filter, List}
use Rattle.std.specs.List.{list_any}
use Rattle.clr_rules.specs.Hold.{is_in_hold_group}
use Rattle.clr_rules.specs.declared.hold.Hold.{Hold}
use Rattle.clr_rules.specs.declared.hold.HoldGroup.{HoldGroup}
use Rattle.clr_book.proofs.own.holds_at.Goals as goal

pub returns : goal.returns
returns g c =
    c.in_ok-found.ensures
    ∙ ap (λ (groups : List HoldGroup). filter (λ (hold : Hold). list_any (λ group. is_in_hold_group group hold) groups) (g.H.Shelf.rows c.args.shelf.now)) c.deref.ensures.value
    ∙ (λ i. filter (λ (hold : Hold). c.in_ok-groups.ensures.same hold i) (g.H.Shelf.rows c.args.shelf.now))
