-- An isolating order that is not refused: it is sound at the points of its steps, each taken once.
use Rattle.std.proofs.Common.{◌≡◌, ◌⊎◌, inl, inr, ℕ, ◌<◌, ◌≤◌, Bool, true, false, not, ◌||◌, ◌==◌, nat_lt, List, [], ◌∷◌, filter, length, Option, Some, None, IsTrue, All, Contains, refl, sym, ◌∙◌, ap}
use Rattle.std.proofs.Common.{subst, arith}
use Rattle.clr_rules.proofs.Common.{and_from, false≢true, false_from_ne_true, or_cases, or_left, or_right, All-contains, All-head, All-nil, All-tail, All-weaker, FenceRows, fence_of, in_fence, Grid}
use Rattle.clr_rules.proofs.Common.{IsNetwork, point_names, same_name, has_name, PointRow, SectionRow, Action, new_steps, put_steps, put_by, All-from_each, of_round_is, record_id, is_open}
use Rattle.clr_net.proofs.Walks.{any_from, one_name, same_itself, some_from, same_tests}
use Rattle.clr_order.specs.Isolating.{IsSoundOrder, IsSoundWithin, has_repeat, is_border_point, isolating_fault, needed_at, off_border, source_inside, touching_row, wrong_point}
use Rattle.clr_order.specs.Step.{Task, actions_at, stray_point, task_points}
use Rattle.clr_order.specs.declared.order_fault.OrderFault.TheVariants.{EmptyOrder, LongOrder, NotOnFence, PointTwice, SourceInside, StepsWrong}
use Rattle.clr_order.proofs.SoundOrders.{sound_from_no_fault}
use Rattle.clr_order.proofs.Steps.{once_from}
use Rattle.clr_rules.proofs.lists.OpenPhases.{open_where}
use Rattle.clr_rules.proofs.edits.PlainEdits.{steps_plain}
use Rattle.clr_rules.specs.Checks.{unsound_order}
use Rattle.clr_rules.specs.Prelude.{PutRecord, Phase, Requested, Ordered, Record, StepRow, Id, Register, record_of, is_active, points_of, steps_of, tasks_of, first_of_each, after_edits, Order}
use Rattle.clr_rules.specs.Fences.{found_order_fence, order_fence, rows_of_fence, work_fence}
use Rattle.clr_rules.specs.GoodByPhase.{InOrdered, InPhase, IsBare, IsGoodByPhase, Outlook, of_round, outlook_of}
use Rattle.clr_rules.specs.Records.{is_requested}
use Rattle.clr_rules.proofs.good.Keeping.{KeepsGood, Changed, commands_keep, keeps}
use Rattle.clr_rules.proofs.live.FenceCuts.{has_name-once, in_fence_alike, in_fence_from_named, named_from_in_fence}
use Rattle.clr_rules.proofs.keeps.OneRecord.{found_edits, in_phase_of}
use Rattle.clr_rules.proofs.lists.NamedRows.{has_name-filter, has_name-row}
use Rattle.clr_rules.proofs.edits.PassedOrders.{by_name, by_test, no_refusal}
use Rattle.clr_rules.proofs.edits.NewRounds.{IsReady, new_tasks, new_wait, none_in_round, others_are, round_is, round_moved, round_put, with_round}
use Rattle.clr_rules.proofs.edits.Passing.{role_begun}
use Rattle.clr_rules.proofs.good.PhaseFacts.{none_of_round}
use Rattle.clr_rules.proofs.good.PutHolds.{needed_there, waiting_put_nothing}
use Rattle.clr_rules.proofs.edits.PutRecords.{put_changes, outlook_with}

-- ---- names, each once

no_repeat_kept : (q : List ℕ → Bool) (names : List (List ℕ)) → has_repeat names ≡ false → has_repeat (filter q names) ≡ false
no_repeat_kept q [] h = refl
no_repeat_kept q (name ∷ names) h = at (q name) refl (has_name names name) refl h (no_repeat_kept q names)
  where
    at : (b : Bool) → q name ≡ b → (r : Bool) → has_name names name ≡ r → (has_name names name || has_repeat names) ≡ false
        → (has_repeat names ≡ false → has_repeat (filter q names) ≡ false) → has_repeat (filter q (name ∷ names)) ≡ false
    at true e false f h more = rw (e, has_name-filter q names name, e, f) (more (rw f at h))
    at true e true f h more = absurd (false≢true (sym h ∙ or_left (has_name names name) (has_repeat names) f))
    at false e false f h more = rw e (more (rw f at h))
    at false e true f h more = absurd (false≢true (sym h ∙ or_left (has_name names name) (has_repeat names) f))

once_no_repeat : (names : List (List ℕ)) → has_repeat (first_of_each names) ≡ false
unfolding first_of_each
once_no_repeat [] = refl
once_no_repeat (name ∷ names) =
    rw (has_name-filter (λ q. not (same_name name q)) (first_of_each names) name, same_itself name) (no_repeat_kept (λ q. not (same_name name q)) (first_of_each names) (once_no_repeat names))

filter_short : (q : List ℕ → Bool) (names : List (List ℕ)) → length (filter q names) ≤ length names
filter_short q [] = omega arith
filter_short q (name ∷ names) = at (q name) refl (filter_short q names)
  where
    at : (b : Bool) → q name ≡ b → length (filter q names) ≤ length names → length (filter q (name ∷ names)) ≤ length (name ∷ names)
    at true e more = rw e (omega arith)
    at false e more = rw e (omega arith)

shorter : (p : List ℕ) (names : List (List ℕ)) → has_name names p ≡ true → length (filter (λ q. not (same_name p q)) names) < length names
shorter p [] known = absurd (false≢true known)
shorter p (name ∷ names) known = at (same_name p name) refl (shorter p names) (filter_short (λ q. not (same_name p q)) names)
  where
    at : (b : Bool) → same_name p name ≡ b → (has_name names p ≡ true → length (filter (λ q. not (same_name p q)) names) < length names)
        → length (filter (λ q. not (same_name p q)) names) ≤ length names → length (filter (λ q. not (same_name p q)) (name ∷ names)) < length (name ∷ names)
    at true e more short = rw e (omega arith)
    at false e more short = let less = more (rw e at known) in rw e (omega arith)

-- names without a repeat that are all among others are no more than those
no_more : (xs ys : List (List ℕ)) → has_repeat xs ≡ false → ((p : List ℕ) → has_name xs p ≡ true → has_name ys p ≡ true) → length xs ≤ length ys
no_more [] ys single among = omega arith
no_more (x ∷ xs) ys single among =
    let fewer = shorter x ys (among x (or_left (same_name x x) (has_name xs x) (same_itself x))) in
    let rest = no_more xs (filter (λ q. not (same_name x q)) ys) (single_rest (has_name xs x) refl)
    (λ p known. has_name-filter (λ q. not (same_name x q)) ys p
    ∙ and_from (not (same_name x p)) (has_name ys p) (ap not (apart p known)) (among p (or_right (same_name p x) (has_name xs p) known))) in
    omega arith
  where
    single_rest : (b : Bool) → has_name xs x ≡ b → has_repeat xs ≡ false
    single_rest true e = absurd (false≢true (sym single ∙ or_left (has_name xs x) (has_repeat xs) e))
    single_rest false e = rw e at single

    apart : (p : List ℕ) → has_name xs p ≡ true → same_name x p ≡ false
    apart p known = false_from_ne_true (same_name x p) (λ same.
        false≢true (sym single ∙ or_left (has_name xs x) (has_repeat xs) (ap (has_name xs) (one_name x p same) ∙ known)))

-- the point of a task is where the tasks are
named_inside : (points : List (List ℕ)) (tasks : List Task) (p : List ℕ) → All (λ t. IsTrue (has_name points t.point)) tasks → has_name (task_points tasks) p ≡ true → has_name points p ≡ true
named_inside points [] p inside known = absurd (false≢true known)
named_inside points (t ∷ tasks) p inside known =
    by (or_cases (same_name p t.point) (has_name (task_points tasks) p) known)
    (named_inside points tasks p (All-tail (λ (t : Task). has_name points t.point ≡ true) t tasks inside))
  where
    by : (same_name p t.point ≡ true) ⊎ (has_name (task_points tasks) p ≡ true) → (has_name (task_points tasks) p ≡ true → has_name points p ≡ true) → has_name points p ≡ true
    by (inl here) more = ap (has_name points) (one_name p t.point here) ∙ All-head (λ (t : Task). has_name points t.point ≡ true) t tasks inside
    by (inr later) more = more later

-- ---- the fence

module _ (g : Grid) (net : IsNetwork g) (work : List ℕ) (points : List (List ℕ)) (tasks : List Task)
    (sound : IsSoundWithin (rows_of_fence g (work_fence g (Some work) points)) points tasks) where
  abbrev given : FenceRows
  given = rows_of_fence g (work_fence g (Some work) points)

  -- the points at which something is done are the points of the order
  has_action : (p : List ℕ) → has_name points p ≡ true → has_name (task_points tasks) p ≡ true
  has_action p known =
      let (q, there, same) = some_from (same_name p) points known in
      let among : Contains points p = rw (one_name p q same) there in
      at (touching_row given p) refl (All-contains (λ p. IsTrue (is_border_point given p)) points p sound.on_border among)
      (All-contains (λ p. actions_at tasks p ≡ needed_at given p) points p sound.isolated among)
    where
      some_task : (tasks : List Task) (first : Action) (more : List Action) → actions_at tasks p ≡ first ∷ more → has_name (task_points tasks) p ≡ true
      some_task [] first more is = absurd (cc)
      some_task (t ∷ tasks) first more is = by (same_name p t.point) refl (some_task tasks first more)
        where
          by : (b : Bool) → same_name p t.point ≡ b → (actions_at tasks p ≡ first ∷ more → has_name (task_points tasks) p ≡ true) → has_name (task_points (t ∷ tasks)) p ≡ true
          by true e later = or_left (same_name p t.point) (has_name (task_points tasks) p) e
          by false e later = or_right (same_name p t.point) (has_name (task_points tasks) p) (later (rw e at is))

      at : (o : Option PointRow) → touching_row (rows_of_fence g (work_fence g (Some work) points)) p ≡ o
          → is_border_point (rows_of_fence g (work_fence g (Some work) points)) p ≡ true
          → actions_at tasks p ≡ needed_at (rows_of_fence g (work_fence g (Some work) points)) p → has_name (task_points tasks) p ≡ true
      at None e border acts = absurd (false≢true (rw e at border))
      at (Some row) e border acts = some_task tasks _ _ (rw e at acts)

  is_point : (p : List ℕ) → has_name (task_points tasks) p ≡ true → has_name points p ≡ true
  is_point p known = named_inside points tasks p sound.nowhere_else known

  same_points : (p : List ℕ) → has_name points p ≡ has_name (first_of_each (task_points tasks)) p
  same_points p = same_tests (has_name points p) (has_name (task_points tasks) p) (has_action p) (is_point p) ∙ sym (has_name-once (task_points tasks) p)

  -- the fence that was known is the one that is cut there
  same_inside : (s : List ℕ) → has_name (work_fence g (Some work) points) s ≡ in_fence g work (first_of_each (task_points tasks)) s
  same_inside s =
      same_tests (has_name (work_fence g (Some work) points) s) (in_fence g work points s) (in_fence_from_named g work points s) (named_from_in_fence g work net points s)
      ∙ in_fence_alike g work points (first_of_each (task_points tasks)) same_points s

  same_fence : given ≡ fence_of g work (first_of_each (task_points tasks))
  same_fence i = record {
    sections = filter (λ (row : SectionRow). same_inside row.name i) g.sections;
    touching = filter (λ (p : PointRow). same_inside p.from_end i || same_inside p.to_end i) g.points;
  }

  -- what holds of each point of the order holds at the points of its steps
  at_each : (P : List ℕ → Type 0) → All P points → All P (first_of_each (task_points tasks))
  at_each P all = All-from_each P (first_of_each (task_points tasks)) (λ p there.
      let (q, among, same) = some_from (same_name p) points (same_points p ∙ any_from (same_name p) (first_of_each (task_points tasks)) p there (same_itself p)) in
      subst P (sym (one_name p q same)) (All-contains P points q all among))

  pub sound_once : IsSoundOrder g work (first_of_each (task_points tasks)) tasks
  sound_once = subst (λ (fence : FenceRows). IsSoundWithin fence (first_of_each (task_points tasks)) tasks) same_fence (record {
    some_point = some points sound.some_point same_points;
    points_fit = (let fewer = no_more (first_of_each (task_points tasks)) points (once_no_repeat (task_points tasks)) (λ p known. same_points p ∙ known) in let fits = sound.points_fit in omega arith);
    steps_fit = sound.steps_fit;
    once = once_from (first_of_each (task_points tasks)) (once_no_repeat (task_points tasks));
    no_source = sound.no_source;
    on_border = at_each (λ p. IsTrue (is_border_point given p)) sound.on_border;
    isolated = at_each (λ p. actions_at tasks p ≡ needed_at given p) sound.isolated;
    nowhere_else = All-weaker (λ (t : Task). has_name points t.point ≡ true) (λ (t : Task). has_name (first_of_each (task_points tasks)) t.point ≡ true)
        (λ t known. sym (same_points t.point) ∙ known) tasks sound.nowhere_else;
  })
    where
      some : (points : List (List ℕ)) → 0 < length points → ((p : List ℕ) → has_name points p ≡ has_name (first_of_each (task_points tasks)) p) → 0 < length (first_of_each (task_points tasks))
      some [] none same = absurd (omega arith)
      some (p ∷ points) more same = at (first_of_each (task_points tasks)) (sym (same p) ∙ or_left (same_name p p) (has_name points p) (same_itself p))
        where
          at : (names : List (List ℕ)) → has_name names p ≡ true → 0 < length names
          at [] known = absurd (false≢true known)
          at (name ∷ names) known = omega arith

-- an isolating order that is not refused is sound
order_passed : (R : Register) (net : IsNetwork R.net) (work : List ℕ) (points : List (List ℕ)) (tasks : List Task)
    → unsound_order R (work_fence R.net (Some work) points) points tasks ≡ None → IsSoundOrder R.net work (first_of_each (task_points tasks)) tasks
order_passed R net work points tasks passed =
    let fence = rows_of_fence R.net (work_fence R.net (Some work) points) in
    sound_once R.net net work points tasks
    (sound_from_no_fault fence points tasks (no_refusal (isolating_fault fence points tasks)
    (by_test (length points == 0) EmptyOrder _ refl
    (by_test (nat_lt 64 (length points) || nat_lt 256 (length tasks)) LongOrder _ refl
    (by_test (has_repeat points) PointTwice _ refl
    (by_name SourceInside (source_inside fence) _ (λ name. refl)
    (by_name NotOnFence (off_border fence points) _ (λ name. refl)
    (by_name StepsWrong (wrong_point fence points tasks) _ (λ name. refl)
    (by_name StepsWrong (stray_point points tasks) None (λ name. refl) refl))))))) passed))

-- ---- the command

module _ (R : Register) (good : IsGoodByPhase R) (r : Record) (found : record_of R.records r.id ≡ Some r) (at : ℕ) (work : List ℕ) (has_work : r.work ≡ Some work)
    (bare : IsBare (outlook_of R r.id)) (unclosed : is_open r.phase ≡ true) (tasks : List Task) (sound : IsSoundOrder R.net work (first_of_each (task_points tasks)) tasks) where
  abbrev next : Record
  next = record r { phase = Ordered; last = at }

  abbrev rows : List StepRow
  rows = new_steps r.id 1 1 tasks

  sound_rows : IsSoundOrder R.net work (first_of_each (points_of rows)) (tasks_of rows)
  sound_rows = subst (λ (tasks : List Task). IsSoundOrder R.net work (first_of_each (task_points tasks)) tasks) (sym (new_tasks r.id 1 1 tasks)) sound

  -- each step is at a point of the network
  known : All (λ t. IsTrue (has_name (point_names (Grid.points R.net)) t.point)) tasks
  known = All-from_each (λ (t : Task). has_name (point_names (Grid.points R.net)) t.point ≡ true) tasks (λ t there.
      let named : has_name (points_of rows) t.point ≡ true = ap (λ ts. has_name (task_points ts) t.point) (new_tasks r.id 1 1 tasks) ∙ has_name-row (λ (t : Task). t.point) tasks t there in
      let (row, row_there, same, steps) = needed_there R.net work rows sound_rows t.point named in
      ap (has_name (point_names (Grid.points R.net))) same ∙ has_name-row (λ (p : PointRow). p.name) (Grid.points R.net) row row_there)

  none_of : (k : ℕ) → of_round (steps_of R.steps r.id) k ≡ []
  none_of k = ap (λ (steps : List StepRow). of_round steps k) bare.no_step ∙ none_of_round k

  ready : IsReady R r.id 1 tasks
  ready = record {
    rests = rw bare.no_step (All-nil (λ (row : StepRow). is_active row.step.state ≡ false));
    none_yet = sym (of_round_is R.steps r.id 1) ∙ none_of 1;
    known = known;
    at_points = rw bare.no_step (All-nil (λ (row : StepRow). IsTrue (has_name (point_names (Grid.points R.net)) row.step.point)));
  }

  in_ordered : InOrdered R.net work (outlook_with (with_round R next 1 tasks) r.id next)
  in_ordered = record {
    isolates = subst (λ (rows : List StepRow). IsSoundOrder R.net work (first_of_each (points_of rows)) (tasks_of rows)) (sym (round_is R good next 1 tasks ready)) sound_rows;
    one_round = others_are R good next 1 tasks ready 2 refl ∙ none_of 2;
    given_out = none_in_round R good next 1 tasks ready 1;
    as_put = λ kind p at_point. bare.no_hold kind p
        ∙ sym (ap (λ rows. put_by rows kind p) (round_is R good next 1 tasks ready) ∙ waiting_put_nothing kind p rows (new_wait r.id 1 1 tasks));
    no_work = λ kind place off_point. bare.no_hold kind place;
  }

  order_keeps : IsGoodByPhase (after_edits (PutRecord next ∷ put_steps (new_steps r.id 1 1 tasks)) R)
  order_keeps = keeps R (PutRecord next ∷ put_steps (new_steps r.id 1 1 tasks)) r.id (steps_plain (new_steps r.id 1 1 tasks)) good
      (subst (λ (S : Register). Changed R S r.id) (sym (round_put R next 1 tasks))
      (put_changes R good r.id r next found unclosed refl refl (with_round R next 1 tasks) refl
      (round_moved R good next 1 tasks ready
      (subst (λ (o : Option (List ℕ)). InPhase R.net Ordered o (outlook_with (with_round R next 1 tasks) r.id next)) (sym has_work) in_ordered))))

-- a clearance that is asked for has a work section, and nothing else
requested_bare : (g : Grid) (phase : Phase) (work : Option (List ℕ)) (v : Outlook) → is_requested phase ≡ true → InPhase g phase work v → (w : List ℕ) × (work ≡ Some w) × IsBare v
requested_bare g Requested (Some w) v is h = (w, refl, h)
requested_bare g Requested None v is h = absurd h
requested_bare g _ work v is h = absurd (false≢true is)

pub orders_keep : (c : Id) (points : List (List ℕ)) (tasks : List Task) → KeepsGood (Order c points tasks)
orders_keep c points tasks = commands_keep (Order c points tasks) (λ R by at good passed.
    let (r, found, fits, rest) = role_begun R c is_requested passed in
    let id : r.id ≡ c = record_id R.records c r found in
    let (work, has_work, bare) = requested_bare R.net r.phase r.work (outlook_of R c) fits (in_phase_of R c r good found) in
    let fence : order_fence R c points ≡ work_fence R.net (Some work) points =
    ap (found_order_fence R.net points) found ∙ ap (λ (o : Option (List ℕ)). work_fence R.net o points) has_work in
    let sound = order_passed R good.network work points tasks (ap (λ fence. unsound_order R fence points tasks) (sym fence) ∙ (search rest)) in
    found_edits R c r (λ r. PutRecord (record r { phase = Ordered; last = at }) ∷ put_steps (new_steps c 1 1 tasks)) found
    (subst (λ (d : Id). IsGoodByPhase (after_edits (PutRecord (record r { phase = Ordered; last = at }) ∷ put_steps (new_steps d 1 1 tasks)) R)) id
    (order_keeps R good r (ap (record_of R.records) id ∙ found) at work has_work (subst (λ (d : Id). IsBare (outlook_of R d)) (sym id) bare) (open_where is_requested refl r.phase fits) tasks sound)))
