-- New steps are numbered in rising order, so they are in key order.
use Rattle.std.proofs.Common.{◌≡◌, ◌<◌, ℕ, ◌+◌, true, None, List, [], ◌∷◌, arith, refl, sym}
use Rattle.std.specs.Cmp.{IsTotalOrder, nat_cmp_is}
use Rattle.std.specs.List.{list_all}
use Rattle.std.specs.Ordering.{is_lt, nat_cmp, ordering_reverse}
use Rattle.std.specs.declared.cmp.Ordering.{Ordering}
use Rattle.std.specs.declared.cmp.Ordering.TheVariants.{Less, Equal, Greater}
use Rattle.std.proofs.lemmas.Cmp.{nat_cmp_total}
use Rattle.clr_order.specs.Step.{Task}
use Rattle.clr_order.specs.declared.step.StepState.TheVariants.{Waiting}
use Rattle.clr_rules.specs.Changes.{new_steps}
use Rattle.clr_rules.specs.Id.{Id, id_cmp_total}
use Rattle.clr_rules.specs.StepKey.{step_key, step_key_cmp}
use Rattle.clr_rules.specs.declared.step_row.StepRow.{StepRow}
use Rattle.clr_shelf.specs.Rows.{in_key_order}

abbrev numbered : Id → ℕ → ℕ → Task → StepRow
numbered c round n t = record { id = c; round = round; ordinal = n; step = record { action = t.action; point = t.point; state = Waiting; reader = None } }

tied : (o : Ordering) → o ≡ ordering_reverse o → o ≡ Equal
tied Less h = cc
tied Equal h = refl
tied Greater h = cc

itself : {K : Type 0} {compare : K → K → Ordering} → IsTotalOrder compare → (k : K) → compare k k ≡ Equal
itself {K} {compare} order k = tied (compare k k) (order.antisymm k k)

-- a step of a lower number comes before one of the same round
below : (c : Id) (round n m : ℕ) (t u : Task) → n < m → step_key_cmp (step_key (numbered c round n t)) (step_key (numbered c round m u)) ≡ Less
below c round n m t u lower =
    let less : nat_cmp n m ≡ Less = sym (nat_cmp_is n m Less lower) in
    rw (itself id_cmp_total c, itself nat_cmp_total round) less

all_above : (c : Id) (round n m : ℕ) (t : Task) (tasks : List Task) → n < m
    → list_all (λ next. is_lt (step_key_cmp (step_key (numbered c round n t)) (step_key next))) (new_steps c round m tasks) ≡ true
unfolding new_steps
all_above c round n m t [] lower = refl
all_above c round n m t (u ∷ tasks) lower = rw (below c round n m t u lower) (all_above c round n (m + 1) t tasks (omega arith))

pub new_steps_rise : (c : Id) (round n : ℕ) (tasks : List Task) → in_key_order step_key_cmp step_key (new_steps c round n tasks) ≡ true
unfolding new_steps
new_steps_rise c round n [] = refl
new_steps_rise c round n (t ∷ tasks) = rw (all_above c round n (n + 1) t tasks (omega arith)) (new_steps_rise c round (n + 1) tasks)
