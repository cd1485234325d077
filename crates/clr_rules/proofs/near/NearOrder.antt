-- The near part keeps the order of the lists; a point of a network has one row.
use Rattle.std.proofs.Common.{◌≡◌, ℕ, ◌<◌, Bool, true, false, cond, ◌==◌, refl, [], length, get_or, sym, ◌∙◌, ap, arith, Contains}
use Rattle.clr_rules.proofs.Common.{nat_list_cmp_total, Grid, IsNetwork, point_names, name_cmp, PointRow, has_name, in_key_order-filter, Known, known_of, is_jumper, named_clearance, ListsAreInOrder}
use Rattle.clr_rules.proofs.Common.{Command, PointState, Record, StepRow, id_cmp, id_cmp_total, Register, state_key, record_key, step_key, step_key_cmp, step_key_cmp_total, hold_cmp, hold_cmp_total}
use Rattle.clr_rules.proofs.Common.{hold_key, is_near_hold, is_own}
use Rattle.std.proofs.lemmas.List.{get_or-map, get_or_default, length-map}
use Rattle.clr_net.specs.Index.{place_in}
use Rattle.clr_net.proofs.FencePlaces.{place_at}
use Rattle.clr_rules.specs.Near.{is_beside, near_part, network_part, part_beside}

beside_in_order : (R : Register) (q : Command) → ListsAreInOrder R → ListsAreInOrder (part_beside R q)
beside_in_order R q ordered = record {
  states = in_key_order-filter name_cmp state_key nat_list_cmp_total (λ (state : PointState). is_beside R (known_of R q) q.kind state.point) R.states ordered.states;
  records = in_key_order-filter id_cmp record_key id_cmp_total (λ (r : Record). is_own (named_clearance q.kind) r.id) R.records ordered.records;
  steps = in_key_order-filter step_key_cmp step_key step_key_cmp_total (λ (row : StepRow). is_own (named_clearance q.kind) row.id) R.steps ordered.steps;
  holds = in_key_order-filter hold_cmp hold_key hold_cmp_total
      (is_near_hold (has_name (Known.fence (known_of R q))) (is_beside R (known_of R q) q.kind) (named_clearance q.kind)) R.holds ordered.holds;
}

network_in_order : (R : Register) → ListsAreInOrder R → ListsAreInOrder (network_part R)
network_in_order R ordered = record {
  states = refl;
  records = ordered.records;
  steps = in_key_order-filter step_key_cmp step_key step_key_cmp_total (λ (row : StepRow). row.round == 1) R.steps ordered.steps;
  holds = refl;
}

pub near_in_order : (R : Register) (q : Command) → ListsAreInOrder R → ListsAreInOrder (near_part R q)
near_in_order R q ordered = at (is_jumper q.kind)
  where
    at : (b : Bool) → ListsAreInOrder (cond b (network_part R) (part_beside R q))
    at true = network_in_order R ordered
    at false = beside_in_order R q ordered

-- the place of a row of a network by its name
place_of_row : (g : Grid) → IsNetwork g → (p : PointRow) (k : ℕ) → k < length g.points → get_or g.points k p ≡ p → place_in (point_names g.points) p.name ≡ k
place_of_row g net p k within here =
    let size : length (point_names g.points) ≡ length g.points = length-map g.points (λ (row : PointRow). row.name) in
    let named : get_or (point_names g.points) k [] ≡ p.name =
    get_or-map (λ (row : PointRow). row.name) g.points k p [] within ∙ ap (λ (row : PointRow). row.name) here in
    ap (place_in (point_names g.points)) (sym named) ∙ place_at (point_names g.points) k net.points_rise (omega arith)

pub one_row : (g : Grid) → IsNetwork g → (p q : PointRow) → Contains g.points p → Contains g.points q → p.name ≡ q.name → p ≡ q
one_row g net p q (i, i_within, i_here) (j, j_within, j_here) same =
    let places : i ≡ j = sym (place_of_row g net p i i_within i_here) ∙ ap (place_in (point_names g.points)) same ∙ place_of_row g net q j j_within j_here in
    sym i_here ∙ get_or_default g.points i p q i_within ∙ ap (λ (k : ℕ). get_or g.points k q) places ∙ j_here
