-- The states of points that are in the order of their names are in key order; an opening register is reached.
use Rattle.std.proofs.Common.{◌≡◌, ℕ, true, List, [], ◌∷◌, map, refl, All}
use Rattle.std.specs.List.{list_all}
use Rattle.std.specs.List.Sorted.{IsStrictlySortedBy}
use Rattle.std.specs.Ordering.{is_lt}
use Rattle.std.specs.declared.cmp.Ordering.TheVariants.{Less}
use Rattle.std.proofs.lemmas.List.Elements.{All-head, All-tail}
use Rattle.std.proofs.lemmas.Map.Keys.{sorted_tail}
use Rattle.std.proofs.lemmas.Map.Views.{All-after_first}
use Rattle.clr_staff.specs.Staff.{IsStaff}
use Rattle.clr_staff.specs.declared.employee.StaffRow.{StaffRow}
use Rattle.clr_net.specs.Grid.{Grid, IsNetwork, point_names}
use Rattle.clr_net.specs.Name.{name_cmp}
use Rattle.clr_net.specs.declared.point.PointRow.{PointRow}
use Rattle.clr_shelf.specs.Rows.{in_key_order}
use Rattle.clr_rules.specs.Register.{Register, first_state, opening}
use Rattle.clr_rules.specs.States.{state_key}
use Rattle.clr_rules.specs.Run.{IsReached, after_all}

above_all : (name : List ℕ) (points : List PointRow) → All (λ other. name_cmp name other ≡ Less) (point_names points)
    → list_all (λ next. is_lt (name_cmp name (state_key next))) (map first_state points) ≡ true
above_all name [] above = refl
above_all name (point ∷ points) above =
    rw (All-head (λ other. name_cmp name other ≡ Less) point.name (point_names points) above)
    (above_all name points (All-tail (λ other. name_cmp name other ≡ Less) point.name (point_names points) above))

pub states_in_order : (points : List PointRow) → IsStrictlySortedBy name_cmp (point_names points) → in_key_order name_cmp state_key (map first_state points) ≡ true
states_in_order [] rising = refl
states_in_order (point ∷ points) rising =
    rw (above_all point.name points (All-after_first name_cmp point.name (point_names points) rising)) (states_in_order points (sorted_tail name_cmp point.name (point_names points) rising))

-- an opening register is reached before the first command
pub reached_at_once : (R : Register) (g : Grid) (staff : List StaffRow) → IsNetwork g → IsStaff staff → R ≡ opening g staff → IsReached R
unfolding after_all
reached_at_once R g staff net known is = record { net = g; staff = staff; commands = []; is_network = net; is_staff = known; reached = is }
