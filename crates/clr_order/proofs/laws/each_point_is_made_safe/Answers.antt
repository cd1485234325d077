use Rattle.std.proofs.Common.{◌≡◌, Bool, true, false, ◌∷◌, [], refl}
use Rattle.clr_net.specs.Prelude.{list_any}
use Rattle.clr_order.specs.Action.{same_action}
use Rattle.clr_order.specs.Needed.{step_if}
use Rattle.clr_order.specs.declared.action.Action.{Action}
use Rattle.clr_order.specs.declared.action.Action.TheVariants.{Open, Block, Control, Tag}
use Rattle.clr_order.proofs.laws.each_point_is_made_safe.Goals as goal

-- by a point's design: what it permits, and whether it is controlled from afar
abbrev has : Bool → Bool → Action → Bool
has lockable remote action = list_any (same_action action) (Open ∷ step_if lockable Block (step_if remote Control (Tag ∷ [])))

by_design : (lockable remote : Bool) → (has lockable remote Open ≡ true) × (has lockable remote Tag ≡ true)
    × (has lockable remote Block ≡ lockable) × (has lockable remote Control ≡ remote)
by_design true true = (refl, refl, refl, refl)
by_design true false = (refl, refl, refl, refl)
by_design false true = (refl, refl, refl, refl)
by_design false false = (refl, refl, refl, refl)

pub returns : goal.returns
returns c = λ point. by_design point.lockable point.remote
