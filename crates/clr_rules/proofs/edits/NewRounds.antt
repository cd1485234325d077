-- The steps of a new round are put: what the register has of steps after it.
use Rattle.std.proofs.Common.{◌≡◌, ℕ, ◌+◌, ◌<◌, Bool, true, false, ◌&&◌, nat_eq, List, [], ◌∷◌, ◌++◌, IsTrue, All, Contains, refl, sym, ◌∙◌, ap, subst, arith, append_assoc, nat_cmp, Less, Equal}
use Rattle.std.proofs.Common.{eq-eqb, eqb-true, append-nil}
use Rattle.std.specs.Cmp.{nat_cmp_is}
use Rattle.clr_rules.proofs.Common.{AreAtPoints, and_from, both_ways, Grid, point_names, same_name, has_name, Task, in_key_order-with_row, equal, Contains-here, Contains-later, in_key_order, with_row, new_steps}
use Rattle.clr_rules.proofs.Common.{put_steps, PutRecord, Record, StepRow, Id, id_cmp, id_cmp_total, same_id, Register, record_key, step_key, step_key_cmp, step_key_cmp_total, is_active, steps_in}
use Rattle.clr_rules.proofs.Common.{steps_of, tasks_of, after_edits, is_closing_at, ActiveInRound, InPhase, IsGoodByPhase, active_at, all_waiting, go_in_turn, of_round, is_of_round}
use Rattle.std.proofs.lemmas.Cmp.{nat_cmp_total, tied_itself}
use Rattle.std.proofs.lemmas.List.Elements.{All-append, All-cons, All-head, All-nil, All-tail, All-weaker, All-contains}
use Rattle.std.proofs.lemmas.List.Folds.{list_any_none}
use Rattle.clr_order.specs.Texts.{waiting_step}
use Rattle.clr_shelf.proofs.FirstRow.{with_row-after}
use Rattle.clr_shelf.proofs.Groups.{All-with_row, filter-with_far, filter-with_inside}
use Rattle.clr_rules.specs.StepKey.{same_step_key}
use Rattle.clr_rules.specs.declared.step_row.StepKey.{StepKey}
use Rattle.clr_rules.proofs.edits.PutRecords.{Moved, outlook_with, quiet}
use Rattle.clr_rules.proofs.edits.PutSteps.{closes_at, closing_by, own_steps, put_step}
use Rattle.clr_rules.proofs.lists.RoundSteps.{All-from_each, of_round_is, of_the_round, own_id}
use Rattle.clr_rules.proofs.isolation.Sparing.{steps_of-others}
use Rattle.clr_rules.proofs.lists.StepSplits.{waiting_in_turn}

-- the steps with these put, one after the other
abbrev pub put_all : List StepRow → List StepRow → List StepRow
put_all [] steps = steps
put_all (row ∷ rows) steps = put_all rows (put_step row steps)

-- only steps are put
pub steps_put : (rows : List StepRow) (S : Register) → after_edits (put_steps rows) S ≡ record S { steps = put_all rows S.steps }
unfolding after_edits
steps_put [] S = refl
steps_put (row ∷ rows) S = steps_put rows (record S { steps = put_step row S.steps })

-- a step after all others is put at the end
put_at_end : (row : StepRow) (rows : List StepRow) → All (λ first. step_key_cmp (step_key first) (step_key row) ≡ Less) rows → put_step row rows ≡ rows ++ row ∷ []
unfolding with_row
put_at_end row [] lower = refl
put_at_end row (first ∷ rows) lower =
    with_row-after step_key_cmp step_key step_key_cmp_total row first rows (All-head (λ (first : StepRow). step_key_cmp (step_key first) (step_key row) ≡ Less) first rows lower)
    ∙ ap (λ (rows : List StepRow). first ∷ rows) (put_at_end row rows (All-tail (λ (first : StepRow). step_key_cmp (step_key first) (step_key row) ≡ Less) first rows lower))

module _ (c : Id) (round : ℕ) where
  abbrev new_step : ℕ → Task → StepRow
  new_step n t = record { id = c; round = round; ordinal = n; step = waiting_step t }

  -- what holds of each new step, and of all before, holds of all
  pub All-put : (P : StepRow → Type 0) (n : ℕ) (tasks : List Task) (steps : List StepRow)
      → ((m : ℕ) (t : Task) → Contains tasks t → P (record { id = c; round = round; ordinal = m; step = waiting_step t }))
      → All P steps → All P (put_all (new_steps c round n tasks) steps)
  unfolding new_steps
  All-put P n [] steps each all = all
  All-put P n (t ∷ tasks) steps each all =
      All-put P (n + 1) tasks (put_step (new_step n t) steps) (λ m u there. each m u (Contains-later t u tasks there))
      (All-with_row step_key_cmp step_key step_key_cmp_total P (new_step n t) steps (each n t (Contains-here t tasks)) all)

  -- they are the clearance's own
  pub own_put : (n : ℕ) (tasks : List Task) (steps : List StepRow) → steps_of (put_all (new_steps c round n tasks) steps) c ≡ put_all (new_steps c round n tasks) (steps_of steps c)
  unfolding new_steps
  own_put n [] steps = refl
  own_put n (t ∷ tasks) steps =
      own_put (n + 1) tasks (put_step (new_step n t) steps) ∙ ap (put_all (new_steps c round (n + 1) tasks)) (own_steps c (new_step n t) steps (own_id c))

  -- and nobody else's
  pub others_stay : (d : Id) → same_id d c ≡ false → (n : ℕ) (tasks : List Task) (steps : List StepRow) → in_key_order step_key_cmp step_key steps ≡ true
      → steps_of (put_all (new_steps c round n tasks) steps) d ≡ steps_of steps d
  unfolding new_steps
  others_stay d differs n [] steps ordered = refl
  others_stay d differs n (t ∷ tasks) steps ordered =
      others_stay d differs (n + 1) tasks (put_step (new_step n t) steps) (in_key_order-with_row step_key_cmp step_key step_key_cmp_total (new_step n t) steps ordered)
      ∙ steps_of-others d (new_step n t) steps ordered differs

  -- other rounds stay
  pub other_rounds : (k : ℕ) → nat_eq round k ≡ false → (n : ℕ) (tasks : List Task) (steps : List StepRow) → in_key_order step_key_cmp step_key steps ≡ true
      → steps_in (put_all (new_steps c round n tasks) steps) c k ≡ steps_in steps c k
  unfolding new_steps steps_in
  other_rounds k far n [] steps ordered = refl
  other_rounds k far n (t ∷ tasks) steps ordered =
      other_rounds k far (n + 1) tasks (put_step (new_step n t) steps) (in_key_order-with_row step_key_cmp step_key step_key_cmp_total (new_step n t) steps ordered)
      ∙ filter-with_far step_key_cmp step_key step_key_cmp_total (is_of_round c k) (new_step n t) steps ordered (λ other tied.
      let same : step_key other ≡ step_key (new_step n t) = same_step_key (step_key other) (step_key (new_step n t)) (equal (step_key_cmp (step_key other) (step_key (new_step n t))) tied) in
      rw (ap (λ (k : StepKey). k.id) same, ap (λ (k : StepKey). k.round) same, own_id c, far) refl)

  lower_key : (n : ℕ) (t : Task) (row : StepRow) → row.id ≡ c → row.round ≡ round → row.ordinal < n → step_key_cmp (step_key row) (step_key (new_step n t)) ≡ Less
  lower_key n t row own of lower =
      let by_id : id_cmp c c ≡ Equal = tied_itself id_cmp_total c in
      let by_round : nat_cmp round round ≡ Equal = tied_itself nat_cmp_total round in
      let less : nat_cmp row.ordinal n ≡ Less = sym (nat_cmp_is row.ordinal n Less lower) in
      rw (own, of, by_id, by_round, less) refl

  among_round : (n : ℕ) (t : Task) (steps : List StepRow) → steps_in (put_step (new_step n t) steps) c round ≡ put_step (new_step n t) (steps_in steps c round)
  unfolding steps_in
  among_round n t steps = filter-with_inside step_key_cmp step_key step_key_cmp_total (is_of_round c round) (new_step n t) steps
      (and_from (same_id c c) (nat_eq round round) (own_id c) (eq-eqb round round refl))

  put_in_round : (n : ℕ) (t : Task) (steps : List StepRow) → All (λ row. row.ordinal < n) (steps_in steps c round) → steps_in (put_step (new_step n t) steps) c round ≡ steps_in steps c round ++ new_step n t ∷ []
  put_in_round n t steps lower = among_round n t steps ∙ put_at_end (new_step n t) (steps_in steps c round) (All-from_each (λ (first : StepRow). step_key_cmp (step_key first) (step_key (new_step n t)) ≡ Less) (steps_in steps c round) (λ first there.
      let own = All-contains (λ (row : StepRow). (row.id ≡ c) × (row.round ≡ round)) (steps_in steps c round) first (of_the_round steps c round) there in
      lower_key n t first own.0 own.1 (All-contains (λ (row : StepRow). row.ordinal < n) (steps_in steps c round) first lower there)))

  -- the new steps come after those of the round, which have lower numbers
  pub in_new_round : (n : ℕ) (tasks : List Task) (steps : List StepRow) → All (λ row. row.ordinal < n) (steps_in steps c round)
      → steps_in (put_all (new_steps c round n tasks) steps) c round ≡ steps_in steps c round ++ new_steps c round n tasks
  unfolding new_steps
  in_new_round n [] steps lower = sym (append-nil (steps_in steps c round))
  in_new_round n (t ∷ tasks) steps lower =
      let put = put_in_round n t steps lower in
      in_new_round (n + 1) tasks (put_step (new_step n t) steps)
      (subst (λ (rows : List StepRow). All (λ row. row.ordinal < n + 1) rows) (sym put)
      (All-append (λ (row : StepRow). row.ordinal < n + 1) (steps_in steps c round) (new_step n t ∷ [])
      (All-weaker (λ (row : StepRow). row.ordinal < n) (λ (row : StepRow). row.ordinal < n + 1) (λ row less. omega arith) (steps_in steps c round) lower)
      (All-cons (λ (row : StepRow). row.ordinal < n + 1) (new_step n t) [] (omega arith) (All-nil (λ (row : StepRow). row.ordinal < n + 1)))))
      ∙ ap (λ (rows : List StepRow). rows ++ new_steps c round (n + 1) tasks) put
      ∙ append_assoc (steps_in steps c round) (new_step n t ∷ []) (new_steps c round (n + 1) tasks)

  -- all of them wait
  pub new_wait : (n : ℕ) (tasks : List Task) → all_waiting (new_steps c round n tasks) ≡ true
  unfolding new_steps
  new_wait n [] = refl
  new_wait n (t ∷ tasks) = new_wait (n + 1) tasks

  -- and do what was ordered
  pub new_tasks : (n : ℕ) (tasks : List Task) → tasks_of (new_steps c round n tasks) ≡ tasks
  unfolding new_steps
  new_tasks n [] = refl
  new_tasks n (t ∷ tasks) = ap (λ (tasks : List Task). t ∷ tasks) (new_tasks (n + 1) tasks)

-- ---- at the register

-- the register with a record put, and the steps of a new round
abbrev pub with_round : Register → Record → ℕ → List Task → Register
with_round R new round tasks = record R {
  records = with_row id_cmp record_key new R.records;
  steps = put_all (new_steps new.id round 1 tasks) R.steps;
}

pub round_put : (R : Register) (new : Record) (round : ℕ) (tasks : List Task)
    → after_edits (PutRecord new ∷ put_steps (new_steps new.id round 1 tasks)) R ≡ with_round R new round tasks
unfolding after_edits
round_put R new round tasks = steps_put (new_steps new.id round 1 tasks) (record R { records = with_row id_cmp record_key new R.records })

-- a clearance of which no step is given out, and of whose new round there is none
pub record IsReady (R : Register) (c : Id) (round : ℕ) (tasks : List Task) : Type 0 where
  pub rests : All (λ row. is_active row.step.state ≡ false) (steps_of R.steps c)
  pub none_yet : steps_in R.steps c round ≡ []
  pub known : All (λ t. IsTrue (has_name (point_names (Grid.points R.net)) t.point)) tasks
  pub at_points : AreAtPoints R.net (steps_of R.steps c)

module _ (R : Register) (good : IsGoodByPhase R) (new : Record) (round : ℕ) (tasks : List Task) (ready : IsReady R new.id round tasks) where
  -- the new round is what was ordered
  pub round_is : of_round (steps_of (put_all (new_steps new.id round 1 tasks) R.steps) new.id) round ≡ new_steps new.id round 1 tasks
  round_is =
      of_round_is (put_all (new_steps new.id round 1 tasks) R.steps) new.id round
      ∙ in_new_round new.id round 1 tasks R.steps (subst (λ (rows : List StepRow). All (λ row. row.ordinal < 1) rows) (sym ready.none_yet) (All-nil (λ (row : StepRow). row.ordinal < 1)))
      ∙ ap (λ (rows : List StepRow). rows ++ new_steps new.id round 1 tasks) ready.none_yet

  -- and the others stay
  pub others_are : (k : ℕ) → nat_eq round k ≡ false → of_round (steps_of (put_all (new_steps new.id round 1 tasks) R.steps) new.id) k ≡ of_round (steps_of R.steps new.id) k
  others_are k far =
      of_round_is (put_all (new_steps new.id round 1 tasks) R.steps) new.id k
      ∙ other_rounds new.id round k far 1 tasks R.steps good.in_order.steps
      ∙ sym (of_round_is R.steps new.id k)

  -- what holds of each new step, and of the clearance's before, holds of all of them
  pub All-own : (P : StepRow → Type 0) → ((m : ℕ) (t : Task) → Contains tasks t → P (record { id = new.id; round = round; ordinal = m; step = waiting_step t }))
      → All P (steps_of R.steps new.id) → All P (steps_of (put_all (new_steps new.id round 1 tasks) R.steps) new.id)
  All-own P each all = subst (All P) (sym (own_put new.id round 1 tasks R.steps)) (All-put new.id round P 1 tasks (steps_of R.steps new.id) each all)

  -- none is given out
  pub all_rest : All (λ row. is_active row.step.state ≡ false) (steps_of (put_all (new_steps new.id round 1 tasks) R.steps) new.id)
  all_rest = All-own (λ (row : StepRow). is_active row.step.state ≡ false) (λ m t there. refl) ready.rests

  pub none_in_round : (k : ℕ) → ActiveInRound (steps_of (put_all (new_steps new.id round 1 tasks) R.steps) new.id) k
  none_in_round k = All-weaker (λ (row : StepRow). is_active row.step.state ≡ false) (λ (row : StepRow). is_active row.step.state ≡ true → row.round ≡ k)
      (λ row rests active. absurd (both_ways (is_active row.step.state) rests active)) (steps_of (put_all (new_steps new.id round 1 tasks) R.steps) new.id) all_rest

  none_at : (p : List ℕ) (steps : List StepRow) → All (λ row. is_active row.step.state ≡ false) steps → active_at steps p ≡ false
  none_at p steps rests = list_any_none (λ (row : StepRow). is_active row.step.state && same_name p row.step.point) steps
      (All-weaker (λ (row : StepRow). is_active row.step.state ≡ false) (λ (row : StepRow). (is_active row.step.state && same_name p row.step.point) ≡ false) (λ row rests. rw rests refl) steps rests)

  none_closing : (p : List ℕ) → is_closing_at (put_all (new_steps new.id round 1 tasks) R.steps) new.id p ≡ false
  none_closing p =
      closing_by (put_all (new_steps new.id round 1 tasks) R.steps) new.id p (steps_of (put_all (new_steps new.id round 1 tasks) R.steps) new.id) refl
      ∙ list_any_none (closes_at p) (steps_of (put_all (new_steps new.id round 1 tasks) R.steps) new.id)
      (All-weaker (λ (row : StepRow). is_active row.step.state ≡ false) (λ (row : StepRow). closes_at p row ≡ false) (λ row rests. rw rests refl)
      (steps_of (put_all (new_steps new.id round 1 tasks) R.steps) new.id) all_rest)

  turns : (k : ℕ) (b : Bool) → nat_eq round k ≡ b → go_in_turn (of_round (steps_of (put_all (new_steps new.id round 1 tasks) R.steps) new.id) k) ≡ true
  turns k true is = subst (λ k. go_in_turn (of_round (steps_of (put_all (new_steps new.id round 1 tasks) R.steps) new.id) k) ≡ true) (eqb-true round k is)
      (ap go_in_turn round_is ∙ waiting_in_turn (new_steps new.id round 1 tasks) (new_wait new.id round 1 tasks))
  turns k false far = ap go_in_turn (others_are k far) ∙ (good.in_place new.id).in_turn k

  -- THE NEW ROUND IS PUT where the clearance is in its new phase with it
  pub round_moved : InPhase R.net new.phase new.work (outlook_with (with_round R new round tasks) new.id new) → Moved R (with_round R new round tasks) new.id new
  round_moved phase = quiet R (with_round R new round tasks) new.id new good (record {
    same_states = refl;
    point_holds = λ d kind p at_point has. has;
    other_holds = λ d differs kind place. refl;
    other_steps = λ d differs. others_stay new.id round d differs 1 tasks R.steps good.in_order.steps;
    own_closing = λ p closing. absurd (both_ways (is_closing_at (put_all (new_steps new.id round 1 tasks) R.steps) new.id p) (none_closing p) closing);
    steps_known = subst (AreAtPoints R.net) (sym (own_put new.id round 1 tasks R.steps))
        (All-put new.id round (λ (row : StepRow). has_name (point_names (Grid.points R.net)) row.step.point ≡ true) 1 tasks (steps_of R.steps new.id)
        (λ m t there. All-contains (λ (t : Task). has_name (point_names (Grid.points R.net)) t.point ≡ true) tasks t ready.known there) ready.at_points);
  }) (record {
    in_turn = λ k. turns k (nat_eq round k) refl;
    hands = λ p. (good.in_place new.id).hands p ∙ none_at p (steps_of R.steps new.id) ready.rests ∙ sym (none_at p (steps_of (put_all (new_steps new.id round 1 tasks) R.steps) new.id) all_rest);
    phase = phase;
  })
