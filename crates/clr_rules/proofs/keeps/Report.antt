-- Reports: a step is Done, by its action and the clearance's phase; or it is not done.
use Rattle.std.proofs.Common.{◌≡◌, ℕ, Bool, true, false, cond, not, ◌&&◌, List, [], ◌∷◌, ◌++◌, Option, Some, None, Contains, refl, sym, ◌∙◌, ap, subst}
use Rattle.clr_rules.proofs.Common.{false≢true, All-head, same_itself, is_switching, Action, Waiting, Done, with_row, without_row, puts}
use Rattle.clr_net.specs.declared.point.Position.TheVariants.{Opened, Closed as Shut}
use Rattle.clr_order.specs.Needed.{undoes}
use Rattle.clr_rules.specs.Changes.{done_edits, step_moved, phase_after, point_edits, undone_edits}
use Rattle.clr_rules.specs.Prelude.{Edit, PutRecord, PutStep, Hold, HoldKind, HeldOpen, Block, Control, Tag, Phase, Ordered, Restoring, Switching, Closed, PointState, Record, StepRow, Id, Register}
use Rattle.clr_rules.specs.Prelude.{hand_of, has_in_hand, position_of, record_of, is_running, all_done, is_active, is_done, is_some_step, present_steps, steps_in, steps_of, hold_cmp, is_point_kind}
use Rattle.clr_rules.specs.Prelude.{has_hold, hold_key, hold_of, same_kind, after_edits, Report}
use Rattle.clr_rules.specs.GoodByPhase.{InOrdered, InPhase, InRestoring, InSwitching, IsGoodByPhase, Outlook, of_round, present_of}
use Rattle.clr_rules.specs.Records.{ends_with_steps, is_switch_order, lacks_work}
use Rattle.clr_rules.specs.Steps.{is_close, is_repeated}
use Rattle.clr_rules.proofs.good.Keeping.{KeepsGood, commands_keep}
use Rattle.clr_rules.proofs.lists.StateFacts.{with_hand, with_position}
use Rattle.clr_rules.proofs.lists.HoldChanges.{is_there, own_put, own_taken}
use Rattle.clr_rules.proofs.keeps.DoneMoves.{close_keeps, done_midst, done_put, in_own_hand, open_keeps, put_keeps, switch_open_keeps, take_keeps}
use Rattle.clr_rules.proofs.keeps.DonePhases.{closed_done, none_taken, ordered_done, restored, restoring_done, switching_done, undone_here, undone_kind}
use Rattle.clr_rules.proofs.keeps.HandedStep.{handed_keeps}
use Rattle.clr_rules.proofs.good.IsolatingSteps.{is_isolating, isolating_step, puts_kind}
use Rattle.clr_rules.proofs.keeps.OneRecord.{in_phase_of}
use Rattle.clr_rules.proofs.keeps.Repeat.{state_fits, turns_split}
use Rattle.clr_rules.proofs.edits.Passing.{role_begun}
use Rattle.clr_rules.proofs.good.PhaseFacts.{first_present, hold_facts}
use Rattle.clr_rules.proofs.good.PlaceFacts.{in_round}
use Rattle.clr_rules.proofs.edits.PresentSteps.{IsPresent, active_midst, active_moves, found_step_edits, step_there}
use Rattle.clr_rules.proofs.edits.PutSteps.{one_hand, phase_by, put_step}
use Rattle.clr_rules.proofs.lists.RoundSteps.{among_own, of_round_is, record_id}
use Rattle.clr_rules.proofs.edits.StepMoves.{second_again, turns_again}
use Rattle.clr_rules.proofs.lists.StepSplits.{All-before, repeated_is_active}
use Rattle.clr_order.specs.declared.action.Action.TheVariants as actions

-- ---- a step that is done

-- the edits by clearance, action, work section and phase
abbrev edits_as : ℕ → Record → StepRow → Id → Action → Bool → Phase → List Edit
edits_as at r row d action switching phase =
    point_edits switching d action row.step.point
    ++ PutRecord (record r { phase = phase; last = at }) ∷ PutStep (step_moved Done row.step.reader row) ∷ []

module _ (R : Register) (good : IsGoodByPhase R) (c : Id) (r : Record) (found : record_of R.records c ≡ Some r) (row : StepRow) (p : IsPresent R c row)
    (active : is_active row.step.state ≡ true) (at : ℕ) (ph : Phase) where
  abbrev done : StepRow
  done = step_moved Done row.step.reader row

  abbrev next : Record
  next = record r { phase = ph; last = at }

  pub own : r.id ≡ c
  own = record_id R.records c r found

  abbrev before : List StepRow
  before = (done_put R good c r found row p active next own refl).before

  abbrev after : List StepRow
  after = (done_put R good c r found row p active next own refl).after

  abbrev split : Outlook
  split = record { clearance = record_of R.records c; steps = before ++ row ∷ after; has = has_hold R.holds c; hand = has_in_hand R.states c }

  abbrev then : List PointState → List Hold → Outlook
  then states holds = record { clearance = Some next; steps = before ++ done ∷ after; has = has_hold holds c; hand = has_in_hand states c }

  pub phase_split : InPhase R.net r.phase r.work split
  phase_split = phase_by R c r (before ++ row ∷ after) (done_put R good c r found row p active next own refl).was (in_phase_of R c r good found)

  -- as it is in each phase
  phase_at : (phase : Phase) (work : Option (List ℕ)) → r.phase ≡ phase → r.work ≡ work → InPhase R.net phase work split
  phase_at phase work is has_work = subst (λ (o : Option (List ℕ)). InPhase R.net phase o split) has_work (subst (λ (x : Phase). InPhase R.net x r.work split) is phase_split)

  now_is : row.round ≡ present_of (before ++ row ∷ after)
  now_is = p.now ∙ ap present_of (done_put R good c r found row p active next own refl).was

  was_left : is_done row.step.state ≡ false
  was_left = (active_moves row.step.state active).1

  -- ---- ordered

  module _ (work : List ℕ) (has_work : r.work ≡ Some work) (h : InOrdered R.net work split) where
    ordered_is : ph ≡ Ordered → (v : Outlook) → InOrdered R.net work v → InPhase R.net ph r.work v
    ordered_is is v in_ordered = subst (λ (o : Option (List ℕ)). InPhase R.net ph o v) (sym has_work) (subst (λ (phase : Phase). InPhase R.net phase (Some work) v) (sym is) in_ordered)

    put_ordered : (of : HoldKind) → is_point_kind of ≡ true → ((kind : HoldKind) → puts row.step.action kind ≡ same_kind of kind) → (states : List PointState)
        → InOrdered R.net work (then states (with_row hold_cmp hold_key (hold_of c of row.step.point) R.holds))
    put_ordered of at_point puts_it states = ordered_done R.net before after row done row.round (done_midst R good c r found row p active next own refl) refl refl was_left refl refl now_is
        (record_of R.records c) (Some next) (has_hold R.holds c) (has_hold (with_row hold_cmp hold_key (hold_of c of row.step.point) R.holds) c)
        (has_in_hand R.states c) (has_in_hand states c) work of at_point puts_it (own_put c of row.step.point R.holds) h

    -- where another hold is put than HeldOpen, a HeldOpen is there already
    stands_open : (of : HoldKind) → is_point_kind of ≡ true → same_kind of HeldOpen ≡ false → same_kind of of ≡ true → ((kind : HoldKind) → puts row.step.action kind ≡ same_kind of kind)
        → position_of R.states row.step.point ≡ Some Opened
    stands_open of at_point other itself puts_it =
        let states = with_hand R.states row.step.point None in
        let w = then states (with_row hold_cmp hold_key (hold_of c of row.step.point) R.holds) in
        let facts = hold_facts R.net Ordered (Some work) w
        (turns_again before after row done row.round (done_midst R good c r found row p active next own refl) refl
        (turns_split R c (before ++ row ∷ after) good (done_put R good c r found row p active next own refl).was).in_turn 1)
        (put_ordered of at_point puts_it states) in
        let here : has_hold (with_row hold_cmp hold_key (hold_of c of row.step.point) R.holds) c of row.step.point ≡ true =
        own_put c of row.step.point R.holds of row.step.point ∙ rw (itself, same_itself row.step.point) refl in
        let held = facts.beside of row.step.point at_point here in
        good.held_open c HeldOpen row.step.point refl
        (sym (own_put c of row.step.point R.holds HeldOpen row.step.point ∙ rw other refl) ∙ held)

    ordered_keeps : ph ≡ Ordered → (a : Action) → row.step.action ≡ a → is_isolating a ≡ true → IsGoodByPhase (after_edits (edits_as at r row c a false ph) R)
    ordered_keeps is actions.Open e puts_one = open_keeps R good c r found row p active next own refl
        (ordered_is is _ (put_ordered HeldOpen refl (λ kind. ap (λ a. puts a kind) e ∙ puts_kind actions.Open refl kind) (with_hand (with_position R.states row.step.point Opened) row.step.point None)))
    ordered_keeps is actions.Block e puts_one =
        let puts_it = λ (kind : HoldKind). ap (λ a. puts a kind) e ∙ puts_kind actions.Block refl kind in
        put_keeps R good c r found row p active next own refl Block (stands_open Block refl refl refl puts_it)
        (ordered_is is _ (put_ordered Block refl puts_it (with_hand R.states row.step.point None)))
    ordered_keeps is actions.Control e puts_one =
        let puts_it = λ (kind : HoldKind). ap (λ a. puts a kind) e ∙ puts_kind actions.Control refl kind in
        put_keeps R good c r found row p active next own refl Control (stands_open Control refl refl refl puts_it)
        (ordered_is is _ (put_ordered Control refl puts_it (with_hand R.states row.step.point None)))
    ordered_keeps is actions.Tag e puts_one =
        let puts_it = λ (kind : HoldKind). ap (λ a. puts a kind) e ∙ puts_kind actions.Tag refl kind in
        put_keeps R good c r found row p active next own refl Tag (stands_open Tag refl refl refl puts_it)
        (ordered_is is _ (put_ordered Tag refl puts_it (with_hand R.states row.step.point None)))
    ordered_keeps is actions.Untag e puts_one = absurd (false≢true puts_one)
    ordered_keeps is _ e puts_one = absurd (false≢true puts_one)

    -- its action is one of an isolating order
    isolates_here : is_isolating row.step.action ≡ true
    isolates_here =
        let first : row.round ≡ 1 = now_is ∙ first_present R.net work split h.isolates h.one_round in
        let among : Contains (before ++ row ∷ after) row =
        subst (λ (rows : List StepRow). Contains rows row) (done_put R good c r found row p active next own refl).was
        (subst (λ (d : Id). Contains (steps_of R.steps d) row) p.own (among_own R.steps row p.there)) in
        isolating_step R.net work (of_round (before ++ row ∷ after) 1) row h.isolates (in_round (before ++ row ∷ after) 1 row among first)

  -- ---- restoring

  module _ (work : List ℕ) (has_work : r.work ≡ Some work) (h : InRestoring R.net work split) where
    -- the phase by whether all is done
    restoring_is : ph ≡ cond (all_done (of_round (before ++ done ∷ after) 2)) Closed Restoring → (states : List PointState) (holds : List Hold)
        → ((kind : HoldKind) (place : List ℕ) → has_hold holds c kind place ≡ (not (is_there (undone_kind row.step.action) row.step.point kind place) && has_hold R.holds c kind place))
        → InPhase R.net ph r.work (then states holds)
    restoring_is is states holds takes =
        subst (λ (phase : Phase). InPhase R.net phase r.work (then states holds)) (sym is) (at_end (all_done (of_round (before ++ done ∷ after) 2)) refl)
      where
        at_end : (b : Bool) → all_done (of_round (before ++ done ∷ after) 2) ≡ b → InPhase R.net (cond b Closed Restoring) r.work (then states holds)
        at_end true e = closed_done R.net before after row done row.round (done_midst R good c r found row p active next own refl) refl refl was_left refl refl now_is
            (record_of R.records c) (Some next) (has_hold R.holds c) (has_hold holds c) (has_in_hand R.states c) (has_in_hand states c)
            (restored R.net before after row done row.round (done_midst R good c r found row p active next own refl) refl refl was_left refl refl now_is
            (record_of R.records c) (Some next) (has_hold R.holds c) (has_hold holds c) (has_in_hand R.states c) (has_in_hand states c) work h takes e)
        at_end false e = subst (λ (o : Option (List ℕ)). InPhase R.net Restoring o (then states holds)) (sym has_work)
            (restoring_done R.net before after row done row.round (done_midst R good c r found row p active next own refl) refl refl was_left refl refl now_is
            (record_of R.records c) (Some next) (has_hold R.holds c) (has_hold holds c) (has_in_hand R.states c) (has_in_hand states c) work h takes)

    -- at the point the action undoes what comes next
    undoes_here : (rest : List Action) × (undoes (has_hold R.holds c Tag row.step.point) (has_hold R.holds c Control row.step.point) (has_hold R.holds c Block row.step.point)
        (has_hold R.holds c HeldOpen row.step.point) (row.step.action ∷ rest) ≡ true)
    undoes_here = (
      _,
      undone_here R.net before after row done row.round (done_midst R good c r found row p active next own refl) refl refl was_left refl refl now_is
          (record_of R.records c) (Some next) (has_hold R.holds c)
          (λ kind place. not (is_there (undone_kind row.step.action) row.step.point kind place) && has_hold R.holds c kind place)
          (has_in_hand R.states c) (has_in_hand R.states c) work h (λ kind place. refl),
    )

    taking : (a : Action) (of : HoldKind) → row.step.action ≡ a → undone_kind a ≡ of → (kind : HoldKind) (place : List ℕ)
        → has_hold (without_row hold_cmp hold_key (hold_of c of row.step.point) R.holds) c kind place
        ≡ (not (is_there (undone_kind row.step.action) row.step.point kind place) && has_hold R.holds c kind place)
    taking a of e is kind place = own_taken c of row.step.point R.holds kind place
        ∙ ap (λ k. not (is_there k row.step.point kind place) && has_hold R.holds c kind place) (sym (ap undone_kind e ∙ is))

    restoring_keeps : (switching : Bool) → ph ≡ cond (all_done (of_round (before ++ done ∷ after) 2)) Closed Restoring → (a : Action) → row.step.action ≡ a
        → (t o b d : Bool) (rest : List Action) → undoes t o b d (a ∷ rest) ≡ true → IsGoodByPhase (after_edits (edits_as at r row c a switching ph) R)
    restoring_keeps switching is actions.Untag e t o b d rest u = take_keeps R good c r found row p active next own refl Tag
        (restoring_is is (with_hand R.states row.step.point None) _ (taking actions.Untag Tag e refl))
    restoring_keeps switching is actions.Uncontrol e t o b d rest u = take_keeps R good c r found row p active next own refl Control
        (restoring_is is (with_hand R.states row.step.point None) _ (taking actions.Uncontrol Control e refl))
    restoring_keeps switching is actions.Unblock e t o b d rest u = take_keeps R good c r found row p active next own refl Block
        (restoring_is is (with_hand R.states row.step.point None) _ (taking actions.Unblock Block e refl))
    restoring_keeps switching is actions.Leave e t o b d rest u = take_keeps R good c r found row p active next own refl HeldOpen
        (restoring_is is (with_hand R.states row.step.point None) _ (taking actions.Leave HeldOpen e refl))
    restoring_keeps switching is actions.Close e t o b d rest u = close_keeps R good c r found row p active next own refl (ap is_close e)
        (restoring_is is (with_hand (with_position R.states row.step.point Shut) row.step.point None) _ (taking actions.Close HeldOpen e refl))
    restoring_keeps switching is actions.Open e t o b d rest u = absurd (false≢true u)
    restoring_keeps switching is _ e t o b d rest u = absurd (false≢true u)

    -- all steps of the second round are those of the present one
    present_is : present_steps (put_step done R.steps) c ≡ of_round (before ++ done ∷ after) 2
    present_is =
        let second : steps_in (put_step done R.steps) c 2 ≡ of_round (before ++ done ∷ after) 2 =
        sym (of_round_is (put_step done R.steps) c 2) ∙ ap (λ (rows : List StepRow). of_round rows 2) (done_put R good c r found row p active next own refl).is in
        let some : is_some_step (steps_in (put_step done R.steps) c 2) ≡ true =
        ap is_some_step second ∙ second_again before after row done row.round (done_midst R good c r found row p active next own refl) refl h.second_round in
        rw some second

  -- ---- switching

  module _ (has_none : r.work ≡ None) (h : InSwitching split) where
    switching_is : (b : Bool) → ph ≡ cond b Closed Switching → (states : List PointState) (holds : List Hold)
        → ((kind : HoldKind) (place : List ℕ) → has_hold holds c kind place ≡ false) → InPhase R.net ph r.work (then states holds)
    switching_is b is states holds none = subst (λ (phase : Phase). InPhase R.net phase r.work (then states holds)) (sym is) (at_end b)
      where
        at_end : (b : Bool) → InPhase R.net (cond b Closed Switching) r.work (then states holds)
        at_end true = closed_done R.net before after row done row.round (done_midst R good c r found row p active next own refl) refl refl was_left refl refl now_is
            (record_of R.records c) (Some next) (has_hold R.holds c) (has_hold holds c) (has_in_hand R.states c) (has_in_hand states c) none
        at_end false = subst (λ (o : Option (List ℕ)). InPhase R.net Switching o (then states holds)) (sym has_none)
            (switching_done R.net before after row done row.round (done_midst R good c r found row p active next own refl) refl refl was_left refl refl now_is
            (record_of R.records c) (Some next) (has_hold R.holds c) (has_hold holds c) (has_in_hand R.states c) (has_in_hand states c) none h)

    switching_keeps : (b : Bool) → ph ≡ cond b Closed Switching → (a : Action) → row.step.action ≡ a → is_switching a ≡ true
        → IsGoodByPhase (after_edits (edits_as at r row c a true ph) R)
    switching_keeps b is actions.Open e switches = switch_open_keeps R good c r found row p active next own refl
        (switching_is b is (with_hand (with_position R.states row.step.point Opened) row.step.point None) R.holds h.no_hold)
    switching_keeps b is actions.Close e switches = close_keeps R good c r found row p active next own refl (ap is_close e)
        (switching_is b is (with_hand (with_position R.states row.step.point Shut) row.step.point None) _
        (λ kind place. own_taken c HeldOpen row.step.point R.holds kind place ∙ none_taken (is_there HeldOpen row.step.point kind place) (has_hold R.holds c kind place) (h.no_hold kind place)))
    switching_keeps b is actions.Block e switches = absurd (false≢true switches)
    switching_keeps b is _ e switches = absurd (false≢true switches)

-- ---- reports

done_report : (R : Register) → IsGoodByPhase R → (c : Id) (r : Record) → record_of R.records c ≡ Some r → (row : StepRow) → IsPresent R c row → is_active row.step.state ≡ true
    → is_running r.phase ≡ true → (at : ℕ) → IsGoodByPhase (after_edits (done_edits R at r row) R)
done_report R good c r found row p active runs at = by_phase r.phase r.work refl refl runs
  where
    now : StepRow
    now = step_moved Done row.step.reader row

    id_is : r.id ≡ c
    id_is = record_id R.records c r found

    -- the edits, from their parts
    settle : (ph : Phase) → phase_after R.steps r (step_moved Done row.step.reader row) ≡ ph → (switching : Bool) → is_switch_order r ≡ switching
        → IsGoodByPhase (after_edits (edits_as at r row c row.step.action switching ph) R) → IsGoodByPhase (after_edits (done_edits R at r row) R)
    settle ph ends switching switches h =
        subst (λ (edits : List Edit). IsGoodByPhase (after_edits edits R)) (λ i. edits_as at r row (sym id_is i) row.step.action (sym switches i) (sym ends i)) h

    by_phase : (phase : Phase) (work : Option (List ℕ)) → r.phase ≡ phase → r.work ≡ work → is_running phase ≡ true → IsGoodByPhase (after_edits (done_edits R at r row) R)
    by_phase Ordered (Some work) is has_work running =
        let h : InOrdered R.net work (split R good c r found row p active at Ordered) = phase_at R good c r found row p active at Ordered Ordered (Some work) is has_work in
        settle Ordered (rw is refl) false (ap lacks_work has_work)
        (ordered_keeps R good c r found row p active at Ordered work has_work h refl row.step.action refl (isolates_here R good c r found row p active at Ordered work has_work h))
    by_phase Restoring (Some work) is has_work running =
        let ph = phase_after R.steps r (step_moved Done row.step.reader row) in
        let h : InRestoring R.net work (split R good c r found row p active at ph) = phase_at R good c r found row p active at ph Restoring (Some work) is has_work in
        let (rest, u) = undoes_here R good c r found row p active at ph work has_work h in
        settle ph refl (is_switch_order r) refl
        (restoring_keeps R good c r found row p active at ph work has_work h (is_switch_order r)
        ((λ i. cond (ends_with_steps (is i) && all_done (present_steps (put_step (step_moved Done row.step.reader row) R.steps) (id_is i))) Closed (is i))
        ∙ ap (λ rows. cond (all_done rows) Closed Restoring) (present_is R good c r found row p active at ph work has_work h))
        row.step.action refl (has_hold R.holds c Tag row.step.point) (has_hold R.holds c Control row.step.point) (has_hold R.holds c Block row.step.point)
        (has_hold R.holds c HeldOpen row.step.point) rest u)
    by_phase Switching None is has_none running =
        let ph = phase_after R.steps r (step_moved Done row.step.reader row) in
        let h : InSwitching (split R good c r found row p active at ph) = phase_at R good c r found row p active at ph Switching None is has_none in
        let all = All-before (λ (row : StepRow). is_switching row.step.action ≡ true) (before R good c r found row p active at ph) (row ∷ after R good c r found row p active at ph) h.only_switching in
        settle ph refl true (ap lacks_work has_none)
        (switching_keeps R good c r found row p active at ph has_none h (all_done (present_steps (put_step (step_moved Done row.step.reader row) R.steps) r.id))
        (λ i. cond (ends_with_steps (is i) && all_done (present_steps (put_step (step_moved Done row.step.reader row) R.steps) r.id)) Closed (is i))
        row.step.action refl (All-head (λ (row : StepRow). is_switching row.step.action ≡ true) row (after R good c r found row p active at ph) all.1))
    by_phase Ordered None is none running = absurd (phase_at R good c r found row p active at Ordered Ordered None is none)
    by_phase Restoring None is none running = absurd (phase_at R good c r found row p active at Ordered Restoring None is none)
    by_phase Switching (Some work) is has_work running = absurd (phase_at R good c r found row p active at Ordered Switching (Some work) is has_work)
    by_phase _ work is has_work running = absurd (false≢true running)

undone_report : (R : Register) → IsGoodByPhase R → (c : Id) (r : Record) → record_of R.records c ≡ Some r → (row : StepRow) → IsPresent R c row → is_active row.step.state ≡ true
    → is_running r.phase ≡ true → (at : ℕ) → IsGoodByPhase (after_edits (undone_edits at r row) R)
undone_report R good c r found row p active runs at =
    handed_keeps R good c r found runs row (step_moved Waiting None row) p refl refl (active_moves row.step.state active).1 refl
    (λ q. active_midst R good c r found row p q.before q.after q.was active) at None
    (λ d differs. (refl, one_hand (hand_of R.states row.step.point) c d (in_own_hand R good c r found row p active r (record_id R.records c r found) refl) differs))
    refl (λ given. absurd (false≢true given))

pub reports_keep : (c : Id) (n : ℕ) (done : Bool) → KeepsGood (Report c n done)
reports_keep c n done = commands_keep (Report c n done) (λ R by at good passed.
    let (r, found, runs, rest) = role_begun R c is_running passed in
    let s = step_there R c n (search rest) in
    let active = repeated_is_active s.row.step.state (state_fits R c n s is_repeated (search rest)) in
    found_step_edits R c n r s.row (λ r row. cond done (done_edits R at r row) (undone_edits at r row)) found s.found
    (by_report R good c r found s.row s.is_present active runs at done))
  where
    by_report : (R : Register) → IsGoodByPhase R → (c : Id) (r : Record) → record_of R.records c ≡ Some r → (row : StepRow) → IsPresent R c row → is_active row.step.state ≡ true
        → is_running r.phase ≡ true → (at : ℕ) (done : Bool) → IsGoodByPhase (after_edits (cond done (done_edits R at r row) (undone_edits at r row)) R)
    by_report R good c r found row p active runs at true = done_report R good c r found row p active runs at
    by_report R good c r found row p active runs at false = undone_report R good c r found row p active runs at
