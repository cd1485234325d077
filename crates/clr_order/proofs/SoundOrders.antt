-- No refusal of an isolating order applies exactly where the order is sound.
use Rattle.std.proofs.Common.{◌≡◌, ℕ, false, not, nat_lt, IsTrue, None, List, length, refl, ap, arith, option_map}
use Rattle.std.proofs.lemmas.Bool.{not-false, not_from_true, or_parts, or_from, eqb-false, ltb-false, le-ltb, ne_eqb}
use Rattle.std.proofs.lemmas.List.Elements.{All-weaker}
use Rattle.clr_net.specs.Prelude.{FenceRows}
use Rattle.clr_order.specs.Step.{Task, same_actions, actions_at}
use Rattle.clr_order.specs.Isolating.{IsSoundWithin, isolating_fault, is_border_point, needed_at}
use Rattle.clr_order.proofs.Actions.{same_actions-Decides}
use Rattle.clr_order.proofs.Faults.{fault_if-none, name_fault-none, none-fault_if, none-name_fault}
use Rattle.clr_order.proofs.Finds.{all_fail, find-none, option_map-none}
use Rattle.clr_order.proofs.Steps.{no_stray, stray_point-none, once_from, has_repeat-once}
use Rattle.clr_net.specs.declared.section.SectionRow.{SectionRow}

pub sound_from_no_fault : (fence : FenceRows) (points : List (List ℕ)) (tasks : List Task) → isolating_fault fence points tasks ≡ None → IsSoundWithin fence points tasks
sound_from_no_fault fence points tasks h =
    let some = fault_if-none _ _ _ h in
    let short = fault_if-none _ _ _ some.1 in
    let once = fault_if-none _ _ _ short.1 in
    let dead = name_fault-none _ _ _ once.1 in
    let border = name_fault-none _ _ _ dead.1 in
    let needed = name_fault-none _ _ _ border.1 in
    let inside = name_fault-none _ _ _ needed.1 in
    let sizes = or_parts (nat_lt 64 (length points)) (nat_lt 256 (length tasks)) short.0 in
    let nonempty : length points ≡ 0 → ⊥ = eqb-false (length points) 0 some.0 in
    record {
      some_point = omega arith;
      points_fit = ltb-false 64 (length points) sizes.0;
      steps_fit = ltb-false 256 (length tasks) sizes.1;
      once = once_from points once.0;
      no_source = all_fail (λ (section : SectionRow). section.source) fence.sections (option_map-none (λ (section : SectionRow). section.name) _ dead.0);
      on_border = All-weaker (λ p. not (is_border_point fence p) ≡ false) (λ p. IsTrue (is_border_point fence p)) (λ p e. not-false (is_border_point fence p) e) points (all_fail _ points border.0);
      isolated = All-weaker (λ p. not (same_actions (actions_at tasks p) (needed_at fence p)) ≡ false) (λ p. actions_at tasks p ≡ needed_at fence p) (λ p e. (same_actions-Decides (actions_at tasks p) (needed_at fence p)).0 (not-false _ e)) points (all_fail _ points needed.0);
      nowhere_else = no_stray points tasks inside.0;
    }

pub no_fault_from_sound : (fence : FenceRows) (points : List (List ℕ)) (tasks : List Task) → IsSoundWithin fence points tasks → isolating_fault fence points tasks ≡ None
no_fault_from_sound fence points tasks s =
    let some = s.some_point in
    let nonempty : length points ≡ 0 → ⊥ = λ e. omega arith in
    none-fault_if _ _ _ (ne_eqb (length points) 0 nonempty)
    (none-fault_if _ _ _ (or_from (nat_lt 64 (length points)) (nat_lt 256 (length tasks)) (le-ltb 64 (length points) s.points_fit) (le-ltb 256 (length tasks) s.steps_fit))
    (none-fault_if _ _ _ (has_repeat-once points s.once)
    (none-name_fault _ _ _ (ap (option_map (λ (section : SectionRow). section.name)) (find-none (λ (section : SectionRow). section.source) fence.sections s.no_source))
    (none-name_fault _ _ _ (find-none (λ p. not (is_border_point fence p)) points (All-weaker (λ p. IsTrue (is_border_point fence p)) (λ p. not (is_border_point fence p) ≡ false) (λ p e. not_from_true _ e) points s.on_border))
    (none-name_fault _ _ _ (find-none (λ p. not (same_actions (actions_at tasks p) (needed_at fence p))) points (All-weaker (λ p. actions_at tasks p ≡ needed_at fence p) (λ p. not (same_actions (actions_at tasks p) (needed_at fence p)) ≡ false) (λ p e. not_from_true _ ((same_actions-Decides (actions_at tasks p) (needed_at fence p)).1 e)) points s.isolated))
    (none-name_fault _ _ _ (stray_point-none points tasks s.nowhere_else) refl))))))
