use Rattle.std.proofs.Common.{◌≡◌, ◌∙◌, ℕ, Bool, List, Option, ap, filter, refl}
use Rattle.clr_net.specs.Names.{has_name}
use Rattle.clr_rules.specs.Holds.{is_near_hold}
use Rattle.clr_rules.specs.Id.{Id}
use Rattle.clr_rules.specs.declared.command.Kind.{Kind}
use Rattle.clr_rules.specs.declared.command.Kind.TheVariants.{Release}
use Rattle.clr_rules.specs.declared.hold.Hold.{Hold}
use Rattle.clr_book.specs.Own.{crews_at, looks_by}
use Rattle.clr_book.proofs.own.looked_holds.Goals as goal

-- only a release looks at holds elsewhere
looks_near : (inside beside : List ℕ → Bool) (c : Id) (kind : Kind) → ((d : Id) (notified clear : Bool) → kind ≡ Release d notified clear → ⊥)
    → is_near_hold inside beside (crews_at kind) ≡ looks_by inside beside c kind
looks_near inside beside c (Release d notified clear) other = absurd (other d notified clear refl)
looks_near inside beside c kind other = refl

pub returns-in_ok-found-in_default : goal.returns-in_ok-found-in_default
returns-in_ok-found-in_default g c =
    let inside = has_name c.args.sections.now in
    let beside = has_name c.args.points.now in
    let kind = c.args.kind.now in
    let rows = g.H.Shelf.rows c.args.shelf.now in
    c.in_ok-found-in_default.ensures
    ∙ ap (λ (crews : Option Id). filter (is_near_hold inside beside crews) rows) c.crews_at.ensures
    ∙ ap (λ (looks : Hold → Bool). filter looks rows) (looks_near inside beside c.args.id kind c.in_default.not-Release)
