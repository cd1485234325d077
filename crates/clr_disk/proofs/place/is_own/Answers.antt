use Rattle.std.proofs.Common.{◌≡◌, ◌++◌, ℕ, List, inr, rules, subst}
use Rattle.std.specs.Prelude.{string_bytes}
use Rattle.clr_disk.specs.Place.{AreElsewhere, IsHere}
use Rattle.clr_disk.proofs.place.is_own.Goals as goal

pub returns-clause-own : goal.returns-clause-own
returns-clause-own g c e =
    let at : g.Y.System.is_place c.args.database.now c.in-Some.home = c.in_ok-home.ensures.leads c.in-Some.home (cc c.in-Some.is) in
    let to : g.Y.System.is_place c.args.path.now c.in-Some-2.place = c.in_ok-place.ensures.leads c.in-Some-2.place (cc c.in-Some-2.is) in
    let name : c.as_str.result.now ≡ string_bytes c.in-Some.home.path = search rules in
    let (ending, own, here) = c.is_of.ensures.own e in
    record {
      home = c.in-Some.home;
      at = at;
      place = c.in-Some-2.place;
      to = to;
      ending = ending;
      own = own;
      here = subst (λ (n : List ℕ). IsHere g.Y.System.is_place (n ++ ending) c.in-Some-2.place) name here;
    }

pub returns-clause-other : goal.returns-clause-other
returns-clause-other g c e =
    let at : g.Y.System.is_place c.args.database.now c.in-Some.home = c.in_ok-home.ensures.leads c.in-Some.home (cc c.in-Some.is) in
    let to : g.Y.System.is_place c.args.path.now c.in-Some-2.place = c.in_ok-place.ensures.leads c.in-Some-2.place (cc c.in-Some-2.is) in
    let name : c.as_str.result.now ≡ string_bytes c.in-Some.home.path = search rules in
    inr (inr (record {
      home = c.in-Some.home;
      at = at;
      place = c.in-Some-2.place;
      to = to;
      elsewhere = subst (λ (n : List ℕ). AreElsewhere g.Y.System.is_place g.Y.System.lacks_place n c.in-Some-2.place) name (c.is_of.ensures.other e);
    }))
