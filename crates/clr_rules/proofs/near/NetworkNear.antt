-- The near part of a jumper has exactly the rows that the words say, and no near part has another row.
use Rattle.std.proofs.Common.{◌≡◌, ◌==◌, ℕ, Bool, true, false, cond, List, [], ◌∷◌, refl, sym, ap, filter, find, option_map, eqb-true, eq-eqb}
use Rattle.clr_rules.proofs.Common.{and_parts, Grid, filter-filter_wider, is_jumper, Command, Record, StepRow, Id, same_id, Register, points_of, steps_in, is_fenced, is_of_round, Jumper}
use Rattle.clr_rules.specs.Fences.{crossed_by, crossed_record, crosses, record_fence, work_fence}
use Rattle.clr_rules.specs.Near.{near_of, near_part, network_part, part_beside}
use Rattle.clr_rules.specs.laws.Near.{HasNetworkRows, HasNoOtherRows, IsPartOf}
use Rattle.clr_rules.proofs.lists.Filters.{filter-nothing, is_kept}

-- ---- the fences that a jumper could cross

-- a first round is among the first rounds
first_rounds : (steps : List StepRow) (c : Id) → steps_in (filter (λ (row : StepRow). row.round == 1) steps) c 1 ≡ steps_in steps c 1
unfolding steps_in
first_rounds steps c = filter-filter_wider (is_of_round c 1) (λ (row : StepRow). row.round == 1)
    (λ row both. (and_parts (same_id c row.id) (row.round == 1) both).1) steps

fence_by_first_round : (g : Grid) (steps : List StepRow) (r : Record) → record_fence g (filter (λ (row : StepRow). row.round == 1) steps) r ≡ record_fence g steps r
fence_by_first_round g steps r = ap (λ (rows : List StepRow). cond (is_fenced r.phase) (work_fence g r.work (points_of rows)) []) (first_rounds steps r.id)

pub crossing_by_first_rounds : (R : Register) (from to : List ℕ) → crossed_by R from to ≡ crossed_by (network_part R) from to
unfolding crossed_record
crossing_by_first_rounds R from to i = option_map (λ (r : Record). r.id)
    (find (λ (r : Record). crosses (sym (fence_by_first_round R.net R.steps r) i) from to) R.records)

pub jumper_near : (R : Register) (by : List ℕ) (at : ℕ) (point from to : List ℕ) (lockable remote : Bool)
    → HasNetworkRows R by from to (near_of R (record { caller = by; moment = at; kind = Jumper point from to lockable remote }))
jumper_near R by at point from to lockable remote = record {
  staff = refl;
  net = refl;
  no_state = refl;
  records = refl;
  steps = is_kept (λ (row : StepRow). row.round == 1) R.steps (λ row. row.round ≡ 1) (λ row. (eqb-true row.round 1, eq-eqb row.round 1));
  no_hold = refl;
  no_fence = refl;
  greatest = refl;
  crossed = crossing_by_first_rounds R from to;
}

-- ---- no row more

whole_part : {X : Type 0} (xs : List X) → IsPartOf xs xs
whole_part xs = (λ x. true, all_kept xs)
  where
    all_kept : {X : Type 0} (xs : List X) → xs ≡ filter (λ (x : X). true) xs
    all_kept [] = refl
    all_kept (x ∷ xs) = ap (λ l. x ∷ l) (all_kept xs)

no_part : {X : Type 0} (xs : List X) → IsPartOf [] xs
no_part {X} xs = (λ x. false, sym (filter-nothing (λ (x : X). false) xs (λ x. refl)))

filtered : {X : Type 0} (test : X → Bool) (xs : List X) → IsPartOf (filter test xs) xs
filtered test xs = (test, refl)

network_rows : (R : Register) → HasNoOtherRows R (network_part R)
network_rows R = record {
  staff = refl;
  sections = whole_part (Grid.sections R.net);
  points = whole_part (Grid.points R.net);
  states = no_part R.states;
  records = whole_part R.records;
  steps = filtered (λ (row : StepRow). row.round == 1) R.steps;
  holds = no_part R.holds;
}

rows_beside : (R : Register) (q : Command) → HasNoOtherRows R (part_beside R q)
rows_beside R q = record {
  staff = refl;
  sections = (_, refl);
  points = (_, refl);
  states = (_, refl);
  records = (_, refl);
  steps = (_, refl);
  holds = (_, refl);
}

pub no_other_rows : (R : Register) (q : Command) → HasNoOtherRows R (near_part R q)
no_other_rows R q = at (is_jumper q.kind)
  where
    at : (b : Bool) → HasNoOtherRows R (cond b (network_part R) (part_beside R q))
    at true = network_rows R
    at false = rows_beside R q
