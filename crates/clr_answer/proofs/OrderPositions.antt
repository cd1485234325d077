-- The check of an isolating order does not look at positions.
use Rattle.std.proofs.Common.{◌≡◌, ◌∙◌, ℕ, Bool, true, false, not, List, [], ◌∷◌, map, filter, find, Option, None, Some, refl, sym, ap}
use Rattle.std.specs.Option.{option_map}
use Rattle.clr_net.specs.Fence.{FenceRows, touches}
use Rattle.clr_net.specs.Grid.{Grid, unplaced}
use Rattle.clr_net.specs.Name.{same_name}
use Rattle.clr_net.specs.Names.{has_name}
use Rattle.clr_net.specs.declared.point.PointRow.{PointRow}
use Rattle.clr_net.specs.declared.section.SectionRow.{SectionRow}
use Rattle.clr_order.specs.Isolating.{is_border_point, is_border_row, isolating_fault, needed_at, needed_at_row, touching_row}
use Rattle.clr_order.specs.OrderFault.{answer_of}
use Rattle.clr_order.specs.Step.{Task, actions_at, same_actions}
use Rattle.clr_order.specs.declared.action.Action.{Action}
use Rattle.clr_order.specs.declared.order_fault.OrderFault.{OrderFault}
use Rattle.clr_rules.specs.Fences.{rows_of_fence}
use Rattle.clr_rules.specs.Refusals.{order_refusal}
use Rattle.clr_answer.specs.Orders.{refusal_of}

-- what is reported of a first refusal is that refusal
pub refusal_of_answer : (fault : Option OrderFault) → refusal_of (answer_of fault) ≡ order_refusal fault
refusal_of_answer None = refl
refusal_of_answer (Some fault) = refl

-- which points pass a test does not hang on positions, if the test does not
pub unplaced_kept : (q : PointRow → Bool) → ((p : PointRow) → q (unplaced p) ≡ q p) → (points : List PointRow) → filter q (map unplaced points) ≡ map unplaced (filter q points)
unplaced_kept q same [] = refl
unplaced_kept q same (p ∷ points) = at (q p) refl (unplaced_kept q same points)
  where
    at : (b : Bool) → q p ≡ b → filter q (map unplaced points) ≡ map unplaced (filter q points) → filter q (map unplaced (p ∷ points)) ≡ map unplaced (filter q (p ∷ points))
    at true e more = rw (same p, e) (ap (λ rest. unplaced p ∷ rest) more)
    at false e more = rw (same p, e) more

pub touching_unplaced : (inside : List ℕ → Bool) (points : List PointRow) → filter (touches inside) (map unplaced points) ≡ map unplaced (filter (touches inside) points)
touching_unplaced inside = unplaced_kept (touches inside) (λ p. refl)

pub unplaced_shown : {X : Type 0} (shows : X → PointRow) (items : List X) → map (λ item. unplaced (shows item)) items ≡ map unplaced (map shows items)
unplaced_shown shows [] = refl
unplaced_shown shows (item ∷ items) = ap (λ points. unplaced (shows item) ∷ points) (unplaced_shown shows items)

abbrev rows : List SectionRow → List PointRow → FenceRows
rows sections touching = record { sections = sections; touching = touching }

found_unplaced : (sections : List SectionRow) (touching : List PointRow) (p : List ℕ)
    → touching_row (rows sections (map unplaced touching)) p ≡ option_map unplaced (touching_row (rows sections touching) p)
found_unplaced sections [] p = refl
found_unplaced sections (row ∷ touching) p = at (same_name p row.name) refl (found_unplaced sections touching p)
  where
    at : (b : Bool) → same_name p row.name ≡ b
        → touching_row (rows sections (map unplaced touching)) p ≡ option_map unplaced (touching_row (rows sections touching) p)
        → touching_row (rows sections (map unplaced (row ∷ touching))) p ≡ option_map unplaced (touching_row (rows sections (row ∷ touching)) p)
    at true e more = rw e refl
    at false e more = rw (e, more) refl

module _ (sections : List SectionRow) (touching : List PointRow) where
  border_row : (found : Option PointRow) → is_border_row (rows sections (map unplaced touching)) (option_map unplaced found) ≡ is_border_row (rows sections touching) found
  border_row None = refl
  border_row (Some row) = refl

  border : (p : List ℕ) → is_border_point (rows sections (map unplaced touching)) p ≡ is_border_point (rows sections touching) p
  border p = ap (is_border_row (rows sections (map unplaced touching))) (found_unplaced sections touching p) ∙ border_row (touching_row (rows sections touching) p)

  needed_row : (found : Option PointRow) → needed_at_row (option_map unplaced found) ≡ needed_at_row found
  needed_row None = refl
  needed_row (Some row) = refl

  needs : (p : List ℕ) → needed_at (rows sections (map unplaced touching)) p ≡ needed_at (rows sections touching) p
  needs p = ap needed_at_row (found_unplaced sections touching p) ∙ needed_row (touching_row (rows sections touching) p)

  -- the first refusal of an order does not hang on positions
  pub fault_unplaced : (points : List (List ℕ)) (tasks : List Task)
      → isolating_fault (rows sections touching) points tasks ≡ isolating_fault (rows sections (map unplaced touching)) points tasks
  fault_unplaced points tasks =
      let off : find (λ p. not (is_border_point (rows sections touching) p)) points ≡ find (λ p. not (is_border_point (rows sections (map unplaced touching)) p)) points =
      ap (λ (test : List ℕ → Bool). find (λ p. not (test p)) points) (λ i p. sym (border p) i) in
      let wrong : find (λ p. not (same_actions (actions_at tasks p) (needed_at (rows sections touching) p))) points
      ≡ find (λ p. not (same_actions (actions_at tasks p) (needed_at (rows sections (map unplaced touching)) p))) points =
      ap (λ (need : List ℕ → List Action). find (λ p. not (same_actions (actions_at tasks p) (need p))) points) (λ i p. sym (needs p) i) in
      rw (off, wrong) refl

rows_path : (S S' : List SectionRow) (T T' : List PointRow) → S ≡ S' → T ≡ T' → rows S T ≡ rows S' T'
rows_path S S' T T' sections touching i = record { sections = sections i; touching = touching i }

-- the check over rows that were given is that over the register's network
pub order_told : (S : List SectionRow) (T : List PointRow) (names : List (List ℕ)) (fence : FenceRows) (g : Grid) (points : List (List ℕ)) (tasks : List Task)
    → FenceRows.sections fence ≡ filter (λ row. has_name names row.name) S → FenceRows.touching fence ≡ filter (touches (has_name names)) T
    → S ≡ Grid.sections g → map unplaced T ≡ Grid.points g
    → isolating_fault fence points tasks ≡ isolating_fault (rows_of_fence g names) points tasks
order_told S T names fence g points tasks sections touching same_sections same_points =
    let inside = has_name names in
    let lent : isolating_fault fence points tasks ≡ isolating_fault (rows (filter (λ row. inside row.name) S) (filter (touches inside) T)) points tasks =
    ap (λ f. isolating_fault f points tasks) (rows_path (FenceRows.sections fence) (filter (λ row. inside row.name) S) (FenceRows.touching fence) (filter (touches inside) T) sections touching) in
    lent ∙ fault_unplaced (filter (λ row. inside row.name) S) (filter (touches inside) T) points tasks
    ∙ ap (λ f. isolating_fault f points tasks)
    (rows_path (filter (λ row. inside row.name) S) (filter (λ row. inside row.name) (Grid.sections g)) (map unplaced (filter (touches inside) T)) (filter (touches inside) (Grid.points g))
    (ap (filter (λ row. inside row.name)) same_sections) (sym (touching_unplaced inside T) ∙ ap (filter (touches inside)) same_points))
