-- Marks that spread link by link.
use Rattle.std.proofs.Common.{◌≡◌, ◌∙◌, ◌<◌, ◌≤◌, ◌+◌, ◌||◌, ℕ, Bool, true, false, List, [], ◌∷◌, ◌++◌, take, length, get_or, refl, ap, sym, subst, arith}
use Rattle.std.proofs.lemmas.List.{take_more}
use Rattle.std.proofs.lemmas.List.Elements.{All-push}
use Rattle.clr_view.specs.Spread.{Carries, NoneLeaves, Spreads, is_marked, unmarked}
use Rattle.clr_view.specs.declared.spread.Link.{Link}

-- the marks have spread over the links before a place
pub record Spreading (links : List Link) (i : ℕ) (old new : List Bool) (more : Bool) : Type 0 where
  pub spreads : Spreads links old new
  pub ended : more ≡ false → NoneLeaves (take i links) (is_marked new)
  pub same : more ≡ false → new ≡ old
  pub fewer : more ≡ true → unmarked new < unmarked old

pub spread_then : (links : List Link) (old between new : List Bool) → Spreads links old between → Spreads links between new → Spreads links old new
spread_then links old between new first second = record {
  size = second.size ∙ first.size;
  kept = λ place h. second.kept place (first.kept place h);
  least = λ test none within. second.least test none (first.least test none within);
}

either_false : (a b : Bool) → (a || b) ≡ false → (a ≡ false) × (b ≡ false)
either_false true b h = cc h
either_false false b h = (refl, h)

both_ways : (a b : Bool) → (a ≡ true → b ≡ true) → (b ≡ true → a ≡ true) → a ≡ b
both_ways true true f g = refl
both_ways true false f g = sym (f refl)
both_ways false true f g = g refl
both_ways false false f g = refl

-- both ends of a link
carried : (links : List Link) (link : Link) (m n o : List Bool) (there back : Bool)
    → ((test : ℕ → Bool) → NoneLeaves links test → test link.from ≡ test link.to)
    → Carries link.from link.to m n there → Carries link.to link.from n o back → Spreads links m o
carried links link m n o there back alike first second = record {
  size = second.size ∙ first.size;
  kept = λ place h. second.kept place (first.kept place h);
  least = λ test none within.
      let same = alike test none in
      second.caused test (λ to. same ∙ to) (first.caused test (λ from. sym same ∙ from) within);
}

pub spread_on : (links : List Link) (i : ℕ) (old m n o : List Bool) (d : Link) (more there back : Bool)
    → i < length links → Spreading links i old m more
    → Carries (get_or links i d).from (get_or links i d).to m n there → Carries (get_or links i d).to (get_or links i d).from n o back
    → Spreading links (i + 1) old o ((more || there) || back)
spread_on links i old m n o d more there back lt before first second = record {
  spreads = spread_then links old m o before.spreads (carried links link m n o there back alike first second);
  ended = λ none.
      let (neither, not_back) = either_false (more || there) back none in
      let (no_more, not_there) = either_false more there neither in
      let still : o ≡ m = second.same not_back ∙ first.same not_there in
      let unchanged : o ≡ n = second.same not_back in
      let here : is_marked o link.from ≡ is_marked o link.to =
      both_ways (is_marked o link.from) (is_marked o link.to)
      (λ from. ap (λ marks. is_marked marks link.to) unchanged ∙ first.led (ap (λ marks. is_marked marks link.from) (sym unchanged) ∙ from))
      second.led in
      let earlier : NoneLeaves (take i links) (is_marked o) =
      subst (λ (marks : List Bool). NoneLeaves (take i links) (is_marked marks)) (sym still) (before.ended no_more) in
      let all : take (i + 1) links ≡ take i links ++ link ∷ [] = take_more links i d lt in
      subst (λ (ls : List Link). NoneLeaves ls (is_marked o)) (sym all)
      (All-push (λ (l : Link). is_marked o l.from ≡ is_marked o l.to) (take i links) link earlier here);
  same = λ none.
      let (neither, not_back) = either_false (more || there) back none in
      let (no_more, not_there) = either_false more there neither in
      second.same not_back ∙ first.same not_there ∙ before.same no_more;
  fewer = at more there back refl refl refl;
}
  where
    link : Link
    link = get_or links i d

    alike : (test : ℕ → Bool) → NoneLeaves links test → test link.from ≡ test link.to
    alike test none = none i d lt

    -- what a carry leaves unmarked
    no_more_left : (from to : ℕ) (old new : List Bool) (is_new : Bool) → Carries from to old new is_new → unmarked new ≤ unmarked old
    no_more_left from to old new true c = let fewer = c.fewer refl in omega (arith, fewer)
    no_more_left from to old new false c = let same = ap unmarked (c.same refl) in omega (arith, same)

    at : (a b c : Bool) → more ≡ a → there ≡ b → back ≡ c → ((a || b) || c) ≡ true → unmarked o < unmarked old
    at true b c e f g h =
        let begun = before.fewer e in
        let one = no_more_left link.from link.to m n there first in
        let two = no_more_left link.to link.from n o back second in
        omega (arith, begun, one, two)
    at false true c e f g h =
        let begun = ap unmarked (before.same e) in
        let one = first.fewer f in
        let two = no_more_left link.to link.from n o back second in
        omega (arith, begun, one, two)
    at false false true e f g h =
        let begun = ap unmarked (before.same e) in
        let one = ap unmarked (first.same f) in
        let two = second.fewer g in
        omega (arith, begun, one, two)
    at false false false e f g h = cc h
