-- The first check that applies of checks of which the last is the first of others.
use Rattle.std.proofs.Common.{◌≡◌, List, [], ◌∷◌, ◌++◌, Option, Some, None, refl}
use Rattle.clr_rules.specs.Answer.{first_refusal}
use Rattle.clr_rules.specs.declared.refusal.Refusal.{Refusal}

pub first_inside : (early own : List (Option Refusal)) → first_refusal (early ++ first_refusal own ∷ []) ≡ first_refusal (early ++ own)
first_inside [] own = alone (first_refusal own)
  where
    alone : (last : Option Refusal) → first_refusal (last ∷ []) ≡ last
    alone None = refl
    alone (Some refusal) = refl
first_inside (None ∷ early) own = first_inside early own
first_inside (Some refusal ∷ early) own = refl
