-- No refusal of a restoring or a switching order applies exactly where the order is what it has to be.
use Rattle.std.proofs.Common.{◌≡◌, ℕ, ◌<◌, false, not, ◌==◌, IsTrue, None, List, length, refl, ap, arith, option_map}
use Rattle.std.proofs.lemmas.Bool.{not-false, not_from_true, eqb-false, ltb-false, le-ltb, ne_eqb}
use Rattle.std.proofs.lemmas.List.Elements.{All-weaker}
use Rattle.clr_order.specs.Action.{is_switching}
use Rattle.clr_order.specs.Needed.{Undoes}
use Rattle.clr_order.specs.Restoring.{IsRestoring, restoring_fault, is_undone, held_points}
use Rattle.clr_order.specs.Step.{Task, actions_at}
use Rattle.clr_order.specs.Switching.{IsSwitching, switching_fault}
use Rattle.clr_order.specs.declared.held.Held.{Held}
use Rattle.clr_order.proofs.Faults.{fault_if-none, name_fault-none, none-fault_if, none-name_fault}
use Rattle.clr_order.proofs.Finds.{all_fail, find-none, option_map-none}
use Rattle.clr_order.proofs.Steps.{no_stray, stray_point-none}
use Rattle.clr_order.proofs.Undoing.{undoes_rule, rule_undoes}

some_steps : (tasks : List Task) → (length tasks == 0) ≡ false → 0 < length tasks
some_steps tasks h = let nonempty : length tasks ≡ 0 → ⊥ = eqb-false (length tasks) 0 h in omega arith

no_steps : (tasks : List Task) → 0 < length tasks → (length tasks == 0) ≡ false
no_steps tasks h = ne_eqb (length tasks) 0 (λ e. omega arith)

pub restoring_from_no_fault : (held : List Held) (tasks : List Task) → restoring_fault held tasks ≡ None → IsRestoring held tasks
restoring_from_no_fault held tasks h =
    let some = fault_if-none _ _ _ h in
    let short = fault_if-none _ _ _ some.1 in
    let undone = name_fault-none _ _ _ short.1 in
    let inside = name_fault-none _ _ _ undone.1 in
    record {
      some_step = some_steps tasks some.0;
      steps_fit = ltb-false 256 (length tasks) short.0;
      undone = All-weaker (λ h. not (is_undone tasks h) ≡ false) (λ h. Undoes h (actions_at tasks h.point)) (λ h e. undoes_rule h (actions_at tasks h.point) (not-false (is_undone tasks h) e)) held (all_fail (λ h. not (is_undone tasks h)) held (option_map-none (λ (h : Held). h.point) _ undone.0));
      nowhere_else = no_stray (held_points held) tasks inside.0;
    }

pub no_fault_from_restoring : (held : List Held) (tasks : List Task) → IsRestoring held tasks → restoring_fault held tasks ≡ None
no_fault_from_restoring held tasks r =
    none-fault_if _ _ _ (no_steps tasks r.some_step)
    (none-fault_if _ _ _ (le-ltb 256 (length tasks) r.steps_fit)
    (none-name_fault _ _ _ (ap (option_map (λ (h : Held). h.point)) (find-none (λ h. not (is_undone tasks h)) held (All-weaker (λ h. Undoes h (actions_at tasks h.point)) (λ h. not (is_undone tasks h) ≡ false) (λ h e. not_from_true (is_undone tasks h) (rule_undoes h (actions_at tasks h.point) e)) held r.undone)))
    (none-name_fault _ _ _ (stray_point-none (held_points held) tasks r.nowhere_else) refl)))

pub switching_from_no_fault : (found : List (List ℕ)) (tasks : List Task) → switching_fault found tasks ≡ None → IsSwitching found tasks
switching_from_no_fault found tasks h =
    let some = fault_if-none _ _ _ h in
    let short = fault_if-none _ _ _ some.1 in
    let switching = name_fault-none _ _ _ short.1 in
    let known = name_fault-none _ _ _ switching.1 in
    record {
      some_step = some_steps tasks some.0;
      steps_fit = ltb-false 256 (length tasks) short.0;
      switching = All-weaker (λ t. not (is_switching t.action) ≡ false) (λ t. IsTrue (is_switching t.action)) (λ t e. not-false (is_switching t.action) e) tasks (all_fail (λ t. not (is_switching t.action)) tasks (option_map-none (λ (t : Task). t.point) _ switching.0));
      known = no_stray found tasks known.0;
    }

pub no_fault_from_switching : (found : List (List ℕ)) (tasks : List Task) → IsSwitching found tasks → switching_fault found tasks ≡ None
no_fault_from_switching found tasks s =
    none-fault_if _ _ _ (no_steps tasks s.some_step)
    (none-fault_if _ _ _ (le-ltb 256 (length tasks) s.steps_fit)
    (none-name_fault _ _ _ (ap (option_map (λ (t : Task). t.point)) (find-none (λ t. not (is_switching t.action)) tasks (All-weaker (λ t. IsTrue (is_switching t.action)) (λ t. not (is_switching t.action) ≡ false) (λ t e. not_from_true (is_switching t.action) e) tasks s.switching)))
    (none-name_fault _ _ _ (stray_point-none found tasks s.known) refl)))
