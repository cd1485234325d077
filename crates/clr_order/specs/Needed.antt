-- The steps that an isolating order needs at a point, and those that undo them.
use Rattle.std.specs.Prelude.{◌≡◌, ◌⊎◌, Bool, false, not, ◌&&◌, ◌||◌, if◌then◌else◌, List, [], ◌∷◌}
use Rattle.clr_net.specs.declared.point.PointRow.{PointRow}
use Rattle.clr_order.specs.declared.action.Action.{Action}
use Rattle.clr_order.specs.declared.action.Action.TheVariants.{Open, Block, Control, Tag, Untag}
use Rattle.clr_order.specs.declared.action.Action.TheVariants.{Uncontrol, Unblock, Close, Leave}
use Rattle.clr_order.specs.declared.held.Held.{Held}

-- an action that comes before the others only where it is asked for
abbrev pub step_if : Bool → Action → List Action → List Action
step_if asked action others = if asked then action ∷ others else others

-- a point is opened, made inoperable where its design permits that, tagged at its control where it
-- is controlled from afar, and then tagged itself
abbrev pub needed : PointRow → List Action
needed point = Open ∷ step_if point.lockable Block (step_if point.remote Control (Tag ∷ []))

-- the holds at a point are taken off in this order, and then it is closed, or left open
abbrev pub undoing : Held → Action → List Action
undoing held last = step_if held.tag Untag
    (step_if held.control Uncontrol (step_if held.block Unblock (last ∷ [])))

-- the actions undo the holds at a point
abbrev pub Undoes : Held → List Action → Type 0
Undoes held actions = (actions ≡ undoing held Close) ⊎ (actions ≡ undoing held Leave)

-- the same as a test that reads the actions one by one, over the holds that are still there, the
-- point being held open the last of them
abbrev pub undoes : Bool → Bool → Bool → Bool → List Action → Bool
undoes tag control block held [] = not (tag || (control || (block || held)))
undoes tag control block held (Untag ∷ actions) = tag && undoes false control block held actions
undoes tag control block held (Uncontrol ∷ actions) = (not tag && control)
    && undoes tag false block held actions
undoes tag control block held (Unblock ∷ actions) = (not (tag || control) && block)
    && undoes tag control false held actions
undoes tag control block held (Close ∷ actions) = (not (tag || (control || block)) && held)
    && undoes tag control block false actions
undoes tag control block held (Leave ∷ actions) = (not (tag || (control || block)) && held)
    && undoes tag control block false actions
undoes tag control block held (Open ∷ actions) = false
undoes tag control block held (Block ∷ actions) = false
undoes tag control block held (Control ∷ actions) = false
undoes tag control block held (Tag ∷ actions) = false
