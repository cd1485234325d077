-- What is in the way of an update, by the parts in which it is looked for.
use Rattle.std.proofs.Common.{◌≡◌, ◌∙◌, true, false, not, List, [], ◌∷◌, ◌++◌, Option, None, Some, is_some, refl, sym, ap}
use Rattle.std.proofs.lemmas.Bool.{false≢true}
use Rattle.clr_rules.specs.Edits.{fit}
use Rattle.clr_rules.specs.Register.{Register}
use Rattle.clr_update.specs.Changes.{changes}
use Rattle.clr_update.specs.Update.{Update, first_obstacle, in_the_way, jumpers, kept, obstacles, updated, where_so}
use Rattle.clr_update.specs.declared.obstacle.Obstacle.{Obstacle}
use Rattle.clr_update.specs.declared.obstacle.Obstacle.TheVariants as in_way
use Rattle.clr_changes.specs.Needs.{Renewal}
use Rattle.clr_changes.specs.Outcome.{IsAfter, renewal}
use Rattle.clr_changes.specs.Parts.{name_obstacles, row_obstacles}
use Rattle.clr_changes.specs.declared.outcome.After.{After}

-- the first obstacle of two lists
pub none_then : (first rest : List (Option Obstacle)) → first_obstacle first ≡ None → first_obstacle (first ++ rest) ≡ first_obstacle rest
none_then [] rest none = refl
none_then (None ∷ first) rest none = none_then first rest none
none_then (Some obstacle ∷ first) rest none = absurd cc

pub some_first : (first rest : List (Option Obstacle)) (found : Obstacle) → first_obstacle first ≡ Some found → first_obstacle (first ++ rest) ≡ Some found
some_first [] rest found some = absurd cc
some_first (None ∷ first) rest found some = some_first first rest found some
some_first (Some obstacle ∷ first) rest found some = some

-- the same, of what is found, if it is something
pub some_then : (first rest : List (Option Obstacle)) (found : Option Obstacle) → found ≡ first_obstacle first → is_some found ≡ true
    → first_obstacle (first ++ rest) ≡ first_obstacle first
some_then first rest None is some = absurd (false≢true some)
some_then first rest (Some obstacle) is some = some_first first rest obstacle (sym is) ∙ is

pub is_none_of : (found : Option Obstacle) → is_some found ≡ false → found ≡ None
is_none_of None none = refl
is_none_of (Some obstacle) none = absurd (false≢true (sym none))

pub some_or_none : (found : Option Obstacle) (first : List (Option Obstacle)) → found ≡ first_obstacle first → is_some found ≡ false → first_obstacle first ≡ None
some_or_none found first is none = sym is ∙ is_none_of found none

module _ (R : Register) (u : Update) where
  abbrev S : Register
  S = updated R u

  abbrev whole : Renewal
  whole = record { before = R; after = S; changes = changes R S }

  in_parts : in_the_way R u
      ≡ first_obstacle (name_obstacles u (jumpers R) ++ where_so (not (fit u.net (kept R u))) in_way.TooLarge ∷ row_obstacles whole)
  unfolding obstacles
  in_parts = refl

  -- a name is in the way
  pub name_in_way : (found : Obstacle) → first_obstacle (name_obstacles u (jumpers R)) ≡ Some found → in_the_way R u ≡ Some found
  name_in_way found some = in_parts ∙ some_first (name_obstacles u (jumpers R)) _ found some

  -- no name is, and it does not fit
  pub too_large : first_obstacle (name_obstacles u (jumpers R)) ≡ None → fit u.net (kept R u) ≡ false → in_the_way R u ≡ Some in_way.TooLarge
  too_large none large =
      in_parts ∙ none_then (name_obstacles u (jumpers R)) _ none
      ∙ ap (λ fits. first_obstacle (where_so (not fits) in_way.TooLarge ∷ row_obstacles whole)) large

  -- it fits, and the rest is looked for in what is after the update
  pub rows_in_way : (after : After) → first_obstacle (name_obstacles u (jumpers R)) ≡ None → fit u.net (kept R u) ≡ true → IsAfter R u after
      → in_the_way R u ≡ first_obstacle (row_obstacles (renewal R after))
  rows_in_way after none fits it =
      in_parts ∙ none_then (name_obstacles u (jumpers R)) _ none
      ∙ ap (λ fits. first_obstacle (where_so (not fits) in_way.TooLarge ∷ row_obstacles whole)) fits
      ∙ sym (ap (λ (V : Renewal). first_obstacle (row_obstacles V)) is)
    where
      is : renewal R after ≡ whole
      is = λ i. record { before = R; after = it.register i; changes = it.changes i }
