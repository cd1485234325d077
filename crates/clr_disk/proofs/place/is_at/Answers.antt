use Rattle.std.proofs.Common.{◌≡◌, ◌++◌, ℕ, List, rules, subst}
use Rattle.clr_disk.specs.Place.{IsElsewhere, IsHere}
use Rattle.clr_disk.proofs.place.is_at.Goals as goal

pub returns-clause-here : goal.returns-clause-here
returns-clause-here g c e =
    let name : c.as_str.result.now ≡ c.args.home.now ++ c.args.ending.now = search rules in
    subst (λ (n : List ℕ). IsHere g.Y.System.is_place n c.args.place.now) name (c.is_here.ensures.here e)

pub returns-clause-elsewhere : goal.returns-clause-elsewhere
returns-clause-elsewhere g c e =
    let name : c.as_str.result.now ≡ c.args.home.now ++ c.args.ending.now = search rules in
    subst (λ (n : List ℕ). IsElsewhere g.Y.System.is_place g.Y.System.lacks_place n c.args.place.now) name (c.is_here.ensures.elsewhere e)
