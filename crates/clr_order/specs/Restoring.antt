-- A restoring order undoes what is at each point that the clearance holds open.
use Rattle.std.specs.Prelude.{◌<◌, ◌≤◌, ℕ, Bool, true, not, ◌==◌, nat_lt, IsTrue, List, length, map}
use Rattle.std.specs.Prelude.{find, All, Option, None, option_map}
use Rattle.clr_net.specs.Prelude.{has_name}
use Rattle.clr_order.specs.Needed.{Undoes, undoes}
use Rattle.clr_order.specs.OrderFault.{fault_if, name_fault}
use Rattle.clr_order.specs.Step.{Task, actions_at, stray_point}
use Rattle.clr_order.specs.declared.held.Held.{Held}
use Rattle.clr_order.specs.declared.order_fault.OrderFault.{OrderFault}
use Rattle.clr_order.specs.declared.order_fault.OrderFault.TheVariants.{EmptyOrder, LongOrder}
use Rattle.clr_order.specs.declared.order_fault.OrderFault.TheVariants.{StepsWrong}

-- the points that are held open
abbrev pub held_points : List Held → List (List ℕ)
held_points held = map (λ h. h.point) held

-- the order restores these points: 1 to 256 steps, which undo the holds at each of them, and none
-- elsewhere
pub record IsRestoring (held : List Held) (tasks : List Task) : Type 0 where
  pub some_step : 0 < length tasks
  pub steps_fit : length tasks ≤ 256
  pub undone : All (λ h. Undoes h (actions_at tasks h.point)) held
  pub nowhere_else : All (λ t. IsTrue (has_name (held_points held) t.point)) tasks

-- whether the steps at a held point undo its holds
abbrev pub is_undone : List Task → Held → Bool
is_undone tasks h = undoes h.tag h.control h.block true (actions_at tasks h.point)

-- the first of the held points whose steps are not the undoing ones
abbrev pub wrong_held : List Held → List Task → Option (List ℕ)
wrong_held held tasks = option_map (λ h. h.point) (find (λ h. not (is_undone tasks h)) held)

-- the first refusal of a restoring order
abbrev pub restoring_fault : List Held → List Task → Option OrderFault
restoring_fault held tasks =
    fault_if (length tasks == 0) EmptyOrder
    (fault_if (nat_lt 256 (length tasks)) LongOrder
    (name_fault StepsWrong (wrong_held held tasks)
    (name_fault StepsWrong (stray_point (held_points held) tasks) None)))
