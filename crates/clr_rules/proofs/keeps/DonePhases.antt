-- A step is Done, and its hold is put or taken: the clearance is as its phase wants it.
use Rattle.std.proofs.Common.{◌≡◌, ℕ, Bool, true, false, not, ◌&&◌, ◌||◌, List, [], ◌∷◌, ◌++◌, Option, refl, sym, ◌∙◌, ap, subst}
use Rattle.clr_rules.proofs.Common.{and_from, and_parts, both_ways, false≢true, false_from_ne_true, nat_list_eq_equiv, All-head, Grid, same_name, one_name, same_itself, is_switching, Task, actions_at}
use Rattle.clr_rules.proofs.Common.{task, Action, steps_left_of, put_by, puts, HoldKind, HeldOpen, Block, Control, Tag, Tested, Ground, Crew, Record, StepRow, all_done, is_active, is_done, tasks_of}
use Rattle.clr_rules.proofs.Common.{is_point_kind, same_kind}
use Rattle.clr_order.specs.Needed.{undoes}
use Rattle.clr_rules.specs.GoodByPhase.{ActiveInRound, HoldsNothing, InClosed, InOrdered, InRestoring, InSwitching, of_round, present_of}
use Rattle.clr_rules.proofs.lists.HoldChanges.{is_there, one_kind}
use Rattle.clr_rules.proofs.good.PhaseFacts.{first_present}
use Rattle.clr_rules.proofs.edits.StepMoves.{InMidst, given_out_again, isolates_again, one_round_again, own_round, own_round_was, present_again, same_points, second_again, some_active_is}
use Rattle.clr_rules.proofs.lists.StepSplits.{All-before, All-swap, any-more, left_after_done, left_waiting}
use Rattle.clr_order.specs.declared.action.Action.TheVariants as actions

-- ---- what undoes, one action after the other

-- the hold that an action takes
abbrev pub undone_kind : Action → HoldKind
undone_kind actions.Untag = Tag
undone_kind actions.Uncontrol = Control
undone_kind actions.Unblock = Block
undone_kind _ = HeldOpen

-- after the first action the rest undo what is left
undoes_rest : (a : Action) (t c b h : Bool) (rest : List Action) → undoes t c b h (a ∷ rest) ≡ true
    → undoes (not (same_kind (undone_kind a) Tag) && t) (not (same_kind (undone_kind a) Control) && c) (not (same_kind (undone_kind a) Block) && b)
    (not (same_kind (undone_kind a) HeldOpen) && h) rest ≡ true
undoes_rest actions.Untag t c b h rest is = (and_parts t (undoes false c b h rest) is).1
undoes_rest actions.Uncontrol t c b h rest is = (and_parts (not t && c) (undoes t false b h rest) is).1
undoes_rest actions.Unblock t c b h rest is = (and_parts (not (t || c) && b) (undoes t c false h rest) is).1
undoes_rest actions.Close t c b h rest is = (and_parts (not (t || (c || b)) && h) (undoes t c b false rest) is).1
undoes_rest actions.Leave t c b h rest is = (and_parts (not (t || (c || b)) && h) (undoes t c b false rest) is).1
undoes_rest actions.Open t c b h rest is = absurd (false≢true is)
undoes_rest _ t c b h rest is = absurd (false≢true is)

-- the last hold is the only one
last_alone : (a : Action) (t c b h : Bool) (rest : List Action) → undoes t c b h (a ∷ rest) ≡ true → same_kind (undone_kind a) HeldOpen ≡ true → not (t || (c || b)) ≡ true
last_alone actions.Untag t c b h rest is last = absurd (false≢true last)
last_alone actions.Uncontrol t c b h rest is last = absurd (false≢true last)
last_alone actions.Unblock t c b h rest is last = absurd (false≢true last)
last_alone actions.Close t c b h rest is last = (and_parts (not (t || (c || b))) h (and_parts (not (t || (c || b)) && h) (undoes t c b false rest) is).0).0
last_alone actions.Leave t c b h rest is last = (and_parts (not (t || (c || b))) h (and_parts (not (t || (c || b)) && h) (undoes t c b false rest) is).0).0
last_alone actions.Open t c b h rest is last = absurd (false≢true is)
last_alone _ t c b h rest is last = absurd (false≢true is)

-- where nothing is left to undo, nothing is held
none_of_four : (t c b h : Bool) → not (t || (c || (b || h))) ≡ true → (t ≡ false) × (c ≡ false) × (b ≡ false) × (h ≡ false)
none_of_four false false false false is = (refl, refl, refl, refl)
none_of_four true c b h is = absurd (false≢true is)
none_of_four false true b h is = absurd (false≢true is)
none_of_four false false true h is = absurd (false≢true is)
none_of_four false false false true is = absurd (false≢true is)

none_of_three : (t c b : Bool) → not (t || (c || b)) ≡ true → (t ≡ false) × (c ≡ false) × (b ≡ false)
none_of_three false false false is = (refl, refl, refl)
none_of_three true c b is = absurd (false≢true is)
none_of_three false true b is = absurd (false≢true is)
none_of_three false false true is = absurd (false≢true is)

left_all_done : (rows : List StepRow) → all_done rows ≡ true → steps_left_of rows ≡ []
left_all_done [] done = refl
left_all_done (row ∷ rows) done = let parts = and_parts (is_done row.step.state) (all_done rows) done in rw parts.0 (left_all_done rows parts.1)

point_kind_differs : (of kind : HoldKind) → is_point_kind of ≡ true → is_point_kind kind ≡ false → same_kind of kind ≡ false
point_kind_differs of kind at_point off_point = false_from_ne_true (same_kind of kind) (λ same.
    both_ways (is_point_kind kind) off_point (ap is_point_kind (sym (one_kind of kind same)) ∙ at_point))

-- no hold of a record that holds nothing is left after a take
pub none_taken : (b has : Bool) → has ≡ false → (not b && has) ≡ false
none_taken true has none = refl
none_taken false has none = none

module _ (g : Grid) (before after : List StepRow) (row new : StepRow) (k : ℕ) (mid : InMidst before after row k) (new_round : new.round ≡ k)
    (same_task : task new.step ≡ task row.step) (was_left : is_done row.step.state ≡ false) (is_now : is_done new.step.state ≡ true) (rests : is_active new.step.state ≡ false)
    (now : k ≡ present_of (before ++ row ∷ after)) (o q : Option Record) (had has : HoldKind → List ℕ → Bool) (hand given : List ℕ → Bool) where
  abbrev p : List ℕ
  p = row.step.point

  -- what the steps have put, with this one
  put_more : (kind : HoldKind) (place : List ℕ) → put_by (of_round (before ++ new ∷ after) k) kind place
      ≡ ((puts row.step.action kind && same_name place row.step.point) || put_by (of_round (before ++ row ∷ after) k) kind place)
  put_more kind place =
      ap (λ rows. put_by rows kind place) (own_round before after row new k mid new_round)
      ∙ any-more (λ (row : StepRow). (is_done row.step.state && puts row.step.action kind) && same_name place row.step.point) (of_round before k) row new (of_round after k) (rw was_left refl)
      ∙ ap (λ b. b || put_by (of_round before k ++ row ∷ of_round after k) kind place)
      (ap (λ d. (d && puts new.step.action kind) && same_name place new.step.point) is_now
      ∙ ap (λ (t : Task). puts t.action kind && same_name place t.point) same_task)
      ∙ ap (λ rows. (puts row.step.action kind && same_name place row.step.point) || put_by rows kind place) (sym (own_round_was before after row new k mid new_round))

  -- ORDERED, and a hold is put
  pub ordered_done : (work : List ℕ) (of : HoldKind) → is_point_kind of ≡ true → ((kind : HoldKind) → puts row.step.action kind ≡ same_kind of kind)
      → ((kind : HoldKind) (place : List ℕ) → has kind place ≡ (is_there of row.step.point kind place || had kind place))
      → InOrdered g work (record { clearance = o; steps = before ++ row ∷ after; has = had; hand = hand })
      → InOrdered g work (record { clearance = q; steps = before ++ new ∷ after; has = has; hand = given })
  ordered_done work of at_point puts_it own h = record {
    isolates = isolates_again before after row new k mid new_round same_task g work h.isolates;
    one_round = one_round_again before after row new k mid new_round h.one_round;
    given_out = subst (ActiveInRound (before ++ new ∷ after)) first (given_out_again before after row new k mid new_round);
    as_put = λ kind place is_point.
        own kind place
        ∙ (λ i. (sym (puts_it kind) i && nat_list_eq_equiv.symm row.step.point place i) || h.as_put kind place is_point i)
        ∙ subst (λ n. ((puts row.step.action kind && same_name place row.step.point) || put_by (of_round (before ++ row ∷ after) n) kind place) ≡ put_by (of_round (before ++ new ∷ after) n) kind place)
        first (sym (put_more kind place));
    no_work = λ kind place off_point. own kind place ∙ rw (point_kind_differs of kind at_point off_point) (h.no_work kind place off_point);
  }
    where
      first : k ≡ 1
      first = now ∙ first_present g work (record { clearance = o; steps = before ++ row ∷ after; has = had; hand = hand }) h.isolates h.one_round

  -- SWITCHING, and none is held
  pub switching_done : ((kind : HoldKind) (place : List ℕ) → has kind place ≡ false)
      → InSwitching (record { clearance = o; steps = before ++ row ∷ after; has = had; hand = hand })
      → InSwitching (record { clearance = q; steps = before ++ new ∷ after; has = has; hand = given })
  switching_done none h = record {
    only_switching = All-swap (λ (row : StepRow). is_switching row.step.action ≡ true) before row new after
        (ap (λ (t : Task). is_switching t.action) same_task
        ∙ All-head (λ (row : StepRow). is_switching row.step.action ≡ true) row after (All-before (λ (row : StepRow). is_switching row.step.action ≡ true) before (row ∷ after) h.only_switching).1)
        h.only_switching;
    one_round = one_round_again before after row new k mid new_round h.one_round;
    given_out = subst (ActiveInRound (before ++ new ∷ after)) (now ∙ sym (present_again before after row new k mid new_round)) (given_out_again before after row new k mid new_round);
    no_hold = none;
  }

  pub closed_done : ((kind : HoldKind) (place : List ℕ) → has kind place ≡ false) → InClosed (record { clearance = q; steps = before ++ new ∷ after; has = has; hand = given })
  closed_done none = record { none_active = some_active_is before after row new k mid new_round ∙ rests; no_hold = none }

  -- RESTORING, and a hold is taken
  module _ (work : List ℕ) (h : InRestoring g work (record { clearance = o; steps = before ++ row ∷ after; has = had; hand = hand }))
      (own : (kind : HoldKind) (place : List ℕ) → has kind place ≡ (not (is_there (undone_kind row.step.action) row.step.point kind place) && had kind place)) where
    second : k ≡ 2
    second = now ∙ rw h.second_round refl

    rest : List Task
    rest = tasks_of (of_round after k)

    left_was : tasks_of (steps_left_of (of_round (before ++ row ∷ after) 2)) ≡ task row.step ∷ tasks_of (of_round after k)
    left_was = subst (λ n. tasks_of (steps_left_of (of_round (before ++ row ∷ after) n)) ≡ task row.step ∷ tasks_of (of_round after k)) second
        (ap (λ rows. tasks_of (steps_left_of rows)) (own_round_was before after row new k mid new_round)
        ∙ ap tasks_of (left_after_done (of_round before k) (row ∷ of_round after k) mid.done)
        ∙ rw (was_left, left_waiting (of_round after k) mid.waits) refl)

    left_is : tasks_of (steps_left_of (of_round (before ++ new ∷ after) 2)) ≡ tasks_of (of_round after k)
    left_is = subst (λ n. tasks_of (steps_left_of (of_round (before ++ new ∷ after) n)) ≡ tasks_of (of_round after k)) second
        (ap (λ rows. tasks_of (steps_left_of rows)) (own_round before after row new k mid new_round)
        ∙ ap tasks_of (left_after_done (of_round before k) (new ∷ of_round after k) mid.done)
        ∙ rw (is_now, left_waiting (of_round after k) mid.waits) refl)

    -- what is had still was had before
    was : (kind : HoldKind) (place : List ℕ) → has kind place ≡ true
        → (is_there (undone_kind row.step.action) row.step.point kind place ≡ false) × (had kind place ≡ true)
    was kind place is =
        let parts = and_parts (not (is_there (undone_kind row.step.action) row.step.point kind place)) (had kind place) (sym (own kind place) ∙ is) in
        (turned (is_there (undone_kind row.step.action) row.step.point kind place) parts.0, parts.1)
      where
        turned : (b : Bool) → not b ≡ true → b ≡ false
        turned false h = refl
        turned true h = absurd (false≢true h)

    -- at the step's point its action comes first
    pub undone_here : undoes (had Tag p) (had Control p) (had Block p) (had HeldOpen p) (row.step.action ∷ actions_at (tasks_of (of_round after k)) p) ≡ true
    undone_here =
        let first : undoes (had Tag p) (had Control p) (had Block p) (had HeldOpen p) (actions_at (task row.step ∷ tasks_of (of_round after k)) p) ≡ true =
        rw left_was at (h.undone p) in
        rw (same_itself p) at first

    -- what is had at the point, and elsewhere
    has_here : (kind : HoldKind) → has kind p ≡ (not (same_kind (undone_kind row.step.action) kind) && had kind p)
    has_here kind = own kind p ∙ ap (λ b. not (same_kind (undone_kind row.step.action) kind && b) && had kind p) (same_itself p)
        ∙ at (same_kind (undone_kind row.step.action) kind)
      where
        at : (a : Bool) → (not (a && true) && had kind p) ≡ (not a && had kind p)
        at true = refl
        at false = refl

    has_there : (kind : HoldKind) (place : List ℕ) → same_name p place ≡ false → has kind place ≡ had kind place
    has_there kind place differs = own kind place ∙ ap (λ b. not (same_kind (undone_kind row.step.action) kind && b) && had kind place) differs
        ∙ at (same_kind (undone_kind row.step.action) kind)
      where
        at : (a : Bool) → (not (a && false) && had kind place) ≡ had kind place
        at true = refl
        at false = refl

    undone_elsewhere : (place : List ℕ) → same_name p place ≡ false
        → undoes (had Tag place) (had Control place) (had Block place) (had HeldOpen place) (actions_at (tasks_of (of_round after k)) place) ≡ true
    undone_elsewhere place differs =
        let far : same_name place p ≡ false = nat_list_eq_equiv.symm place p ∙ differs in
        let before_it : undoes (had Tag place) (had Control place) (had Block place) (had HeldOpen place) (actions_at (task row.step ∷ tasks_of (of_round after k)) place) ≡ true =
        rw left_was at (h.undone place) in
        rw far at before_it

    still_undone : (place : List ℕ)
        → undoes (has Tag place) (has Control place) (has Block place) (has HeldOpen place) (actions_at (tasks_of (of_round after k)) place) ≡ true
    still_undone place = at (same_name p place) refl
      where
        here : undoes (has Tag p) (has Control p) (has Block p) (has HeldOpen p) (actions_at (tasks_of (of_round after k)) p) ≡ true
        here =
            (λ i. undoes (has_here Tag i) (has_here Control i) (has_here Block i) (has_here HeldOpen i) (actions_at (tasks_of (of_round after k)) p))
            ∙ undoes_rest row.step.action (had Tag p) (had Control p) (had Block p) (had HeldOpen p) (actions_at (tasks_of (of_round after k)) p) undone_here

        at : (b : Bool) → same_name p place ≡ b
            → undoes (has Tag place) (has Control place) (has Block place) (has HeldOpen place) (actions_at (tasks_of (of_round after k)) place) ≡ true
        at true is = subst (λ place. undoes (has Tag place) (has Control place) (has Block place) (has HeldOpen place) (actions_at (tasks_of (of_round after k)) place) ≡ true)
            (one_name p place is) here
        at false differs =
            (λ i. undoes (has_there Tag place differs i) (has_there Control place differs i) (has_there Block place differs i) (has_there HeldOpen place differs i)
            (actions_at (tasks_of (of_round after k)) place))
            ∙ undone_elsewhere place differs

    -- beside a hold that is had still a HeldOpen is
    beside : (kind : HoldKind) (place : List ℕ) → is_point_kind kind ≡ true → has kind place ≡ true → has HeldOpen place ≡ true
    beside kind place at_point is = own HeldOpen place
        ∙ and_from (not (is_there (undone_kind row.step.action) p HeldOpen place)) (had HeldOpen place)
        (ap not (false_from_ne_true (is_there (undone_kind row.step.action) p HeldOpen place) other))
        (h.beside_held_open kind place at_point (was kind place is).1)
      where
        other : is_there (undone_kind row.step.action) p HeldOpen place ≡ true → ⊥
        other taken =
            let (last, point) = and_parts (same_kind (undone_kind row.step.action) HeldOpen) (same_name p place) taken in
            let alone = none_of_three (had Tag p) (had Control p) (had Block p)
            (last_alone row.step.action (had Tag p) (had Control p) (had Block p) (had HeldOpen p) (actions_at (tasks_of (of_round after k)) p) undone_here last) in
            by_kind kind at_point (was kind place is).0 (ap (had kind) (one_name p place point) ∙ (was kind place is).1) alone taken
          where
            by_kind : (kind : HoldKind) → is_point_kind kind ≡ true → is_there (undone_kind row.step.action) p kind place ≡ false → had kind p ≡ true
                → (had Tag p ≡ false) × (had Control p ≡ false) × (had Block p ≡ false) → is_there (undone_kind row.step.action) p HeldOpen place ≡ true → ⊥
            by_kind HeldOpen at_point free here alone taken = both_ways (is_there (undone_kind row.step.action) p HeldOpen place) free taken
            by_kind Tag at_point free here alone taken = both_ways (had Tag p) alone.0 here
            by_kind Control at_point free here alone taken = both_ways (had Control p) alone.1 here
            by_kind Block at_point free here alone taken = both_ways (had Block p) alone.2 here
            by_kind Tested at_point free here alone taken = false≢true at_point
            by_kind Ground at_point free here alone taken = false≢true at_point
            by_kind Crew at_point free here alone taken = false≢true at_point

    pub restoring_done : InRestoring g work (record { clearance = q; steps = before ++ new ∷ after; has = has; hand = given })
    restoring_done = record {
      isolates = isolates_again before after row new k mid new_round same_task g work h.isolates;
      second_round = second_again before after row new k mid new_round h.second_round;
      given_out = subst (ActiveInRound (before ++ new ∷ after)) second (given_out_again before after row new k mid new_round);
      at_points = λ place held. rw (same_points before after row new k mid new_round same_task 1) (h.at_points place (was HeldOpen place held).1);
      beside_held_open = beside;
      undone = λ place. rw left_is (still_undone place);
      no_work = λ kind place off_point. own kind place
          ∙ none_taken (is_there (undone_kind row.step.action) p kind place) (had kind place) (h.no_work kind place off_point);
    }

    -- after the last step nothing is held
    pub restored : all_done (of_round (before ++ new ∷ after) 2) ≡ true → HoldsNothing (record { clearance = q; steps = before ++ new ∷ after; has = has; hand = given })
    restored done kind place = by_kind kind
      where
        none : (has Tag place ≡ false) × (has Control place ≡ false) × (has Block place ≡ false) × (has HeldOpen place ≡ false)
        none = none_of_four (has Tag place) (has Control place) (has Block place) (has HeldOpen place)
            (subst (λ (tasks : List Task). undoes (has Tag place) (has Control place) (has Block place) (has HeldOpen place) (actions_at tasks place) ≡ true)
            (sym left_is ∙ ap tasks_of (left_all_done (of_round (before ++ new ∷ after) 2) done)) (still_undone place))

        by_kind : (kind : HoldKind) → has kind place ≡ false
        by_kind Tag = none.0
        by_kind Control = none.1
        by_kind Block = none.2
        by_kind HeldOpen = none.3
        by_kind Tested = restoring_done.no_work Tested place refl
        by_kind Ground = restoring_done.no_work Ground place refl
        by_kind Crew = restoring_done.no_work Crew place refl
