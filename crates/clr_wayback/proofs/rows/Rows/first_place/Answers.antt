use Rattle.std.proofs.Common.{◌≡◌, ◌∙◌, Bor, ap, sym, map, option_copied, option_map, rules, Some, None}
use Rattle.clr_rules.specs.declared.hold.Hold.{Hold}
use Rattle.clr_wayback.proofs.Found.{first_of_places}
use Rattle.clr_wayback.proofs.rows.Rows.first_place.Goals as goal

pub returns-in-Some : goal.returns-in-Some
returns-in-Some g c =
    let lent : map (λ (h : Bor Hold). h.now) c.deref.result.now ≡ c.args.self.now.holds = search rules in
    let found : c.first_hold.result ≡ Some c.in-Some.hold = search rules in
    ap (λ o. option_map (λ h. h.place) (option_copied o)) (sym found) ∙ first_of_places c.args.id c.args.kind c.deref.result.now c.args.self.now.holds c.first_hold.result c.first_hold.ensures lent

pub returns : goal.returns
returns g c =
    let lent : map (λ (h : Bor Hold). h.now) c.deref.result.now ≡ c.args.self.now.holds = search rules in
    let found : c.first_hold.result ≡ None = search rules in
    ap (λ o. option_map (λ h. h.place) (option_copied o)) (sym found) ∙ first_of_places c.args.id c.args.kind c.deref.result.now c.args.self.now.holds c.first_hold.result c.first_hold.ensures lent
