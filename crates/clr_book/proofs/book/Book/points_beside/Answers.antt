use Rattle.std.proofs.Common.{◌≡◌, ◌==◌, ◌∙◌, ◌||◌, Bool, true, false, [], ◌∷◌, ap, sym, refl, length, List, ℕ, rules, arith}
use Rattle.std.proofs.lemmas.Bool.Decides.{nat_tests}
use Rattle.clr_net.specs.Names.{has_name}
use Rattle.clr_rules.specs.Near.{switched_points, touches_fence}
use Rattle.clr_book.proofs.book.Book.points_beside.Goals as goal

or_none : (b : Bool) → b ≡ (b || false)
or_none true = refl
or_none false = refl

-- a list without items
no_items : (names : List (List ℕ)) (n : ℕ) → n ≡ length names → (n == 0) ≡ true → names ≡ []
no_items [] n counts none = refl
no_items (name ∷ names) n counts none = absurd (grind (arith, nat_tests))

pub returns-then-is_empty-clause-same : goal.returns-then-is_empty-clause-same
returns-then-is_empty-clause-same g c p =
    let R = c.args.self.now.register in
    let inside = has_name c.args.fence.now.sections.items in
    let none : c.in_ok-switched.switched.items ≡ [] =
    no_items c.in_ok-switched.switched.items c.in_ok-switched.switched.len (omega (arith, c.in_ok-switched.switched.ok.0)) (sym c.is_empty.ensures ∙ c.if-is_empty.true) in
    ap (λ (names : List (List ℕ)). has_name names p) c.in_ok-beside.ensures.same ∙ or_none (touches_fence R.net inside p)
    ∙ ap (λ (more : List (List ℕ)). touches_fence R.net inside p || has_name more p) (sym none ∙ c.in_ok-switched.ensures)

pub returns-clause-same : goal.returns-clause-same
returns-clause-same g c p =
    let R = c.args.self.now.register in
    let inside = has_name c.args.fence.now.sections.items in
    c.in_ok-beside-2.ensures.same p
    ∙ ap (λ (more : List (List ℕ)). touches_fence R.net inside p || has_name more p) (c.deref.ensures.value ∙ c.in_ok-switched.ensures)
