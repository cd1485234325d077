-- A switching order opens and closes points that are known, and holds none of them.
use Rattle.std.specs.Prelude.{◌<◌, ◌≤◌, ℕ, not, ◌==◌, nat_lt, IsTrue, List, length, find, All}
use Rattle.std.specs.Prelude.{Option, None, option_map}
use Rattle.clr_net.specs.Prelude.{has_name}
use Rattle.clr_order.specs.Action.{is_switching}
use Rattle.clr_order.specs.OrderFault.{fault_if, name_fault}
use Rattle.clr_order.specs.Step.{Task, stray_point}
use Rattle.clr_order.specs.declared.order_fault.OrderFault.{OrderFault}
use Rattle.clr_order.specs.declared.order_fault.OrderFault.TheVariants.{EmptyOrder, LongOrder}
use Rattle.clr_order.specs.declared.order_fault.OrderFault.TheVariants.{StepsWrong, UnknownPoint}

-- the order switches points among those that were found: 1 to 256 steps, each an Open or a Close at
-- one of them
pub record IsSwitching (found : List (List ℕ)) (tasks : List Task) : Type 0 where
  pub some_step : 0 < length tasks
  pub steps_fit : length tasks ≤ 256
  pub switching : All (λ t. IsTrue (is_switching t.action)) tasks
  pub known : All (λ t. IsTrue (has_name found t.point)) tasks

-- the point of the first step that neither opens nor closes
abbrev pub unswitching_point : List Task → Option (List ℕ)
unswitching_point tasks = option_map (λ t. t.point) (find (λ t. not (is_switching t.action)) tasks)

-- the first refusal of a switching order
abbrev pub switching_fault : List (List ℕ) → List Task → Option OrderFault
switching_fault found tasks =
    fault_if (length tasks == 0) EmptyOrder
    (fault_if (nat_lt 256 (length tasks)) LongOrder
    (name_fault StepsWrong (unswitching_point tasks)
    (name_fault UnknownPoint (stray_point found tasks) None)))
