-- The key of a step row: the clearance, the round, the place in the round. Its order is that of
-- these in turn.
use Rattle.std.specs.Prelude.{◌≡◌}
use Rattle.std.specs.Cmp.{IsTotalOrder}
use Rattle.std.specs.Ordering.{nat_cmp, ordering_then}
use Rattle.std.specs.declared.cmp.Ordering.{Ordering}
use Rattle.std.specs.declared.cmp.Ordering.TheVariants.{Equal}
use Rattle.std.proofs.lemmas.Cmp.{then_total, on_total, nat_cmp_total}
use Rattle.clr_shelf.specs.Ties.{first_ties, second_ties, same_number}
use Rattle.clr_rules.specs.Id.{id_cmp, id_cmp_total, same_id_from_tie}
use Rattle.clr_rules.specs.declared.step_row.StepKey.{StepKey}
use Rattle.clr_rules.specs.declared.step_row.StepRow.{StepRow}

abbrev pub step_key : StepRow → StepKey
step_key row = record { id = row.id; round = row.round; ordinal = row.ordinal }

abbrev pub step_key_cmp : StepKey → StepKey → Ordering
step_key_cmp a b =
    ordering_then (id_cmp a.id b.id)
    (ordering_then (nat_cmp a.round b.round) (nat_cmp a.ordinal b.ordinal))

pub step_key_cmp_total : IsTotalOrder step_key_cmp
step_key_cmp_total =
    then_total (on_total (λ (k : StepKey). k.id) id_cmp_total)
    (then_total (on_total (λ (k : StepKey). k.round) nat_cmp_total)
    (on_total (λ (k : StepKey). k.ordinal) nat_cmp_total))

-- keys that tie are one
pub same_step_key : (a b : StepKey) → step_key_cmp a b ≡ Equal → a ≡ b
same_step_key a b ties =
    let by_id = id_cmp a.id b.id in
    let by_round = nat_cmp a.round b.round in
    let by_ordinal = nat_cmp a.ordinal b.ordinal in
    let within = second_ties by_id (ordering_then by_round by_ordinal) ties in
    λ i. record {
      id = same_id_from_tie a.id b.id (first_ties by_id (ordering_then by_round by_ordinal) ties) i;
      round = same_number a.round b.round (first_ties by_round by_ordinal within) i;
      ordinal = same_number a.ordinal b.ordinal (second_ties by_round by_ordinal within) i;
    }
