-- The fences of clearances, and what lies in a fence or touches it.
use Rattle.std.specs.Prelude.{◌≡◌, ℕ, Bool, not, if◌then◌else◌, List, [], filter, find, Option}
use Rattle.std.specs.Prelude.{None, Some, option_map}
use Rattle.clr_rules.specs.Prelude.{FenceRows, fence_of, touches, Grid, point_names, section_names}
use Rattle.clr_rules.specs.Prelude.{has_name, Record, StepRow, Id, Register, record_of, points_of}
use Rattle.clr_rules.specs.Prelude.{steps_in}
use Rattle.clr_rules.specs.Records.{is_fenced}

-- the sections of the fence of a work section that is cut at these points; a switch order has no
-- work section, and no fence
abbrev pub work_fence : Grid → Option (List ℕ) → List (List ℕ) → List (List ℕ)
work_fence g None cut = []
work_fence g (Some work) cut = section_names (FenceRows.sections (fence_of g work cut))

-- the sections of a record's fence: it is cut at the points of the first round. A record that is
-- Requested or Closed has none
abbrev pub record_fence : Grid → List StepRow → Record → List (List ℕ)
record_fence g steps r =
    if is_fenced r.phase then work_fence g r.work (points_of (steps_in steps r.id 1)) else []

abbrev pub found_fence : Grid → List StepRow → Option Record → List (List ℕ)
found_fence g steps None = []
found_fence g steps (Some r) = record_fence g steps r

-- THE FENCE OF A CLEARANCE
abbrev pub clearance_fence : Register → Id → List (List ℕ)
clearance_fence R c = found_fence R.net R.steps (record_of R.records c)

abbrev pub found_order_fence : Grid → List (List ℕ) → Option Record → List (List ℕ)
found_order_fence g points None = []
found_order_fence g points (Some r) = work_fence g r.work points

-- the fence that an order would make, which cuts at these points
abbrev pub order_fence : Register → Id → List (List ℕ) → List (List ℕ)
order_fence R c points = found_order_fence R.net points (record_of R.records c)

-- WHETHER A POINT BETWEEN TWO SECTIONS WOULD CROSS A FENCE: exactly one of them is inside. A
-- section that the network does not have is in none
abbrev pub crosses : List (List ℕ) → List ℕ → List ℕ → Bool
crosses fence from to = if has_name fence from then not (has_name fence to) else has_name fence to

-- the first of the records whose fence it would cross: they are in the order of clearances
unfoldable pub crossed_record : Grid → List StepRow → List Record → List ℕ → List ℕ
    → Option Record
crossed_record g steps records from to =
    find (λ r. crosses (record_fence g steps r) from to) records

-- the least clearance whose fence it would cross
abbrev pub crossed_by : Register → List ℕ → List ℕ → Option Id
crossed_by R from to =
    option_map (λ r. r.id) (crossed_record R.net R.steps R.records from to)

-- it would cross none: of each clearance's fence both ends are inside, or neither
abbrev pub CrossesNoFence : Register → List ℕ → List ℕ → Type 0
CrossesNoFence R from to =
    (c : Id) → has_name (clearance_fence R c) from ≡ has_name (clearance_fence R c) to

-- the points with an end among these sections
unfoldable pub touching_names : Grid → (List ℕ → Bool) → List (List ℕ)
touching_names g inside = point_names (filter (touches inside) g.points)

-- the rows of the sections of these names, and of the points that touch them
abbrev pub rows_of_fence : Grid → List (List ℕ) → FenceRows
rows_of_fence g fence = record {
  sections = filter (λ row. has_name fence row.name) g.sections;
  touching = filter (touches (has_name fence)) g.points;
}
