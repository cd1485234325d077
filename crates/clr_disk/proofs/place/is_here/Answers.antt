use Rattle.std.proofs.Common.{◌≡◌, ◌≢◌, Some, inr, rules, sym, ◌∙◌}
use Rattle.clr_disk.proofs.place.is_here.Goals as goal

pub returns-in-Some-2-clause-here : goal.returns-in-Some-2-clause-here
returns-in-Some-2-clause-here g c e =
    let is : c.args.place.now.node ≡ Some c.in-Some.node = c.in-Some.is in
    let same : c.in-Some-2.there.node ≡ Some c.in-Some.node = c.is_node.ensures.same (cc e) in
    let leads : g.Y.System.is_place c.args.name.now c.in-Some-2.there = c.in_ok-there.ensures.leads c.in-Some-2.there (cc c.in-Some-2.is) in
    inr (c.in-Some-2.there, leads, λ none. cc (sym is ∙ none), same ∙ sym is)

pub returns-in-Some-2-clause-elsewhere : goal.returns-in-Some-2-clause-elsewhere
returns-in-Some-2-clause-elsewhere g c e =
    let is : c.args.place.now.node ≡ Some c.in-Some.node = c.in-Some.is in
    let other : c.in-Some-2.there.node ≢ Some c.in-Some.node = c.is_node.ensures.other (cc e) in
    let leads : g.Y.System.is_place c.args.name.now c.in-Some-2.there = c.in_ok-there.ensures.leads c.in-Some-2.there (cc c.in-Some-2.is) in
    (search rules, inr (inr (c.in-Some-2.there, leads, λ same. other (same ∙ is))))
