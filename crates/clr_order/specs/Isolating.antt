-- An isolating order is sound: all means through which known sources may supply the section are
-- opened, made inoperable where their design permits it, and tagged.
use Rattle.std.specs.Prelude.{◌≡◌, ◌<◌, ◌≤◌, ℕ, Bool, false, not, ◌||◌, ◌==◌, nat_lt, IsTrue, List}
use Rattle.std.specs.Prelude.{[], ◌∷◌, length, find, All, Option, Some, None, option_map}
use Rattle.std.specs.List.{IsDistinct}
use Rattle.clr_net.specs.Prelude.{same_name, has_name, Grid}
use Rattle.clr_net.specs.Fence.{FenceRows, fence_of, is_on_border}
use Rattle.clr_order.specs.Needed.{needed}
use Rattle.clr_order.specs.OrderFault.{fault_if, name_fault}
use Rattle.clr_order.specs.Step.{Task, actions_at, same_actions, stray_point}
use Rattle.clr_order.specs.declared.action.Action.{Action}
use Rattle.clr_order.specs.declared.order_fault.OrderFault.{OrderFault}
use Rattle.clr_order.specs.declared.order_fault.OrderFault.TheVariants.{EmptyOrder, LongOrder}
use Rattle.clr_order.specs.declared.order_fault.OrderFault.TheVariants.{PointTwice, SourceInside}
use Rattle.clr_order.specs.declared.order_fault.OrderFault.TheVariants.{NotOnFence, StepsWrong}
use Rattle.clr_net.specs.declared.point.PointRow.{PointRow}

-- the row of the point of this name, where it touches the fence
abbrev pub touching_row : FenceRows → List ℕ → Option PointRow
touching_row fence p = find (λ row. same_name p row.name) fence.touching

-- whether a point that touches the fence has exactly one end inside
abbrev pub is_border_row : FenceRows → Option PointRow → Bool
is_border_row fence None = false
is_border_row fence (Some row) = is_on_border fence row

-- whether the point of this name is on the border of the fence
abbrev pub is_border_point : FenceRows → List ℕ → Bool
is_border_point fence p = is_border_row fence (touching_row fence p)

-- the steps that are needed at a point that touches the fence; of others nothing is asked, since
-- they are refused before
abbrev pub needed_at_row : Option PointRow → List Action
needed_at_row None = []
needed_at_row (Some row) = needed row

-- the steps that are needed at the point of this name
abbrev pub needed_at : FenceRows → List ℕ → List Action
needed_at fence p = needed_at_row (touching_row fence p)

-- the order isolates the sections of this fence at these points
pub record IsSoundWithin (fence : FenceRows) (points : List (List ℕ)) (tasks : List Task) :
    Type 0 where
  -- 1 to 64 points without a repeat, and at most 256 steps
  pub some_point : 0 < length points
  pub points_fit : length points ≤ 64
  pub steps_fit : length tasks ≤ 256
  pub once : IsDistinct same_name points
  -- no known source may supply the section but through these points
  pub no_source : All (λ section. section.source ≡ false) fence.sections
  -- each of them is such a means: it has one end inside and one outside
  pub on_border : All (λ p. IsTrue (is_border_point fence p)) points
  -- each is opened, made inoperable where its design permits it, and tagged, and no more is done
  -- there
  pub isolated : All (λ p. actions_at tasks p ≡ needed_at fence p) points
  -- and nothing is done elsewhere
  pub nowhere_else : All (λ t. IsTrue (has_name points t.point)) tasks

-- the order isolates the work section: its fence is what the network leaves of it when it is cut at
-- these points
abbrev pub IsSoundOrder : Grid → List ℕ → List (List ℕ) → List Task → Type 0
IsSoundOrder g work points tasks = IsSoundWithin (fence_of g work points) points tasks

-- whether a point comes twice
abbrev pub has_repeat : List (List ℕ) → Bool
has_repeat [] = false
has_repeat (p ∷ points) = has_name points p || has_repeat points

-- the source inside a fence; the sections are in the order of their names, so it is the least
abbrev pub source_inside : FenceRows → Option (List ℕ)
source_inside fence = option_map (λ section. section.name)
    (find (λ section. section.source) fence.sections)

-- the first of the points that is not on the border: it is unknown, elsewhere or inside
abbrev pub off_border : FenceRows → List (List ℕ) → Option (List ℕ)
off_border fence points = find (λ p. not (is_border_point fence p)) points

-- the first of the points whose steps are not the needed ones
abbrev pub wrong_point : FenceRows → List (List ℕ) → List Task → Option (List ℕ)
wrong_point fence points tasks =
    find (λ p. not (same_actions (actions_at tasks p) (needed_at fence p))) points

-- the first refusal of an isolating order
abbrev pub isolating_fault : FenceRows → List (List ℕ) → List Task → Option OrderFault
isolating_fault fence points tasks =
    fault_if (length points == 0) EmptyOrder
    (fault_if (nat_lt 64 (length points) || nat_lt 256 (length tasks)) LongOrder
    (fault_if (has_repeat points) PointTwice
    (name_fault SourceInside (source_inside fence)
    (name_fault NotOnFence (off_border fence points)
    (name_fault StepsWrong (wrong_point fence points tasks)
    (name_fault StepsWrong (stray_point points tasks) None))))))
