-- A step is Done, and the register is edited by its action: what it takes that it stays good.
use Rattle.std.proofs.Common.{◌≡◌, ◌⊎◌, inl, inr, ⊎_elim, ℕ, Bool, true, false, cond, not, ◌&&◌, List, [], ◌∷◌, ◌++◌, Option, Some, None, is_some, Contains, refl, sym, ◌∙◌, ap, subst, option_map}
use Rattle.clr_rules.proofs.Common.{and_from, and_parts, both_ways, false≢true, nat_list_eq_equiv, same_name, Position, any_from, one_name, same_itself, some_from, Done, with_row, without_row}
use Rattle.clr_rules.proofs.Common.{step_moved, SetPosition, SetHand, PutHold, TakeHold, PutRecord, PutStep, Hold, HoldKind, HeldOpen, PointState, Record, StepRow, Id, id_cmp, same_id, Register}
use Rattle.clr_rules.proofs.Common.{has_in_hand, position_of, state_of, record_key, record_of, is_active, steps_of, hold_cmp, is_point_kind, has_hold, hold_key, hold_of, same_kind, after_edits}
use Rattle.clr_rules.proofs.Common.{is_closing_at, InPhase, IsGoodByPhase, Outlook, active_at, is_hand, is_close, outlook_of, is_open, AreAtPoints, is_running, All-contains, present_of}
use Rattle.clr_net.specs.declared.point.Position.TheVariants.{Opened, Closed as Shut}
use Rattle.clr_rules.specs.Id.{same_id_equiv}
use Rattle.clr_rules.proofs.lists.StateFacts.{hand_of-placed, with_hand, with_position, position_of-handed, position_of-placed, position_of-placed_other, state_of-changed}
use Rattle.clr_rules.proofs.lists.HoldChanges.{kind_itself, others_hold_put, others_hold_taken, own_taken, was_or_put, was_there}
use Rattle.clr_rules.proofs.good.Keeping.{keeps}
use Rattle.clr_rules.proofs.good.PhaseFacts.{step_facts}
use Rattle.clr_rules.proofs.keeps.OneRecord.{in_phase_of}
use Rattle.clr_rules.proofs.keeps.Repeat.{turns_split}
use Rattle.clr_rules.proofs.lists.OpenPhases.{open_where}
use Rattle.clr_rules.proofs.edits.PresentSteps.{IsPresent, active_midst}
use Rattle.clr_rules.proofs.edits.PutRecords.{Moved, put_changes, same_closing}
use Rattle.clr_rules.proofs.edits.PutSteps.{StepPut, closes_at, closing_by, hand_read, known_put, one_hand, others_put, place_by, put_step, state_known, step_put}
use Rattle.clr_rules.proofs.lists.RoundSteps.{among_own, one_id}
use Rattle.clr_rules.proofs.edits.StepMoves.{InMidst, active-only, active_is, turns_again}

-- a step that is closing is given out
closing_active : (R : Register) (b : Id) (q : List ℕ) → is_closing_at R.steps b q ≡ true → active_at (steps_of R.steps b) q ≡ true
unfolding is_closing_at
closing_active R b q closing =
    let (row, there, closes) = some_from (closes_at q) (steps_of R.steps b) closing in
    let parts = and_parts (is_active row.step.state && is_close row.step.action) (same_name q row.step.point) closes in
    any_from (λ (row : StepRow). is_active row.step.state && same_name q row.step.point) (steps_of R.steps b) row there
    (and_from (is_active row.step.state) (same_name q row.step.point) (and_parts (is_active row.step.state) (is_close row.step.action) parts.0).0 parts.1)

-- the hand after a point is put in a position and let go
let_go : (states : List PointState) (p : List ℕ) → is_some (state_of states p) ≡ true → (d : Id) (q : List ℕ)
    → has_in_hand (with_hand states p None) d q ≡ cond (same_name p q) false (has_in_hand states d q)
let_go states p there d q = hand_read states p q None d there

still_there : (states : List PointState) (p : List ℕ) (position : Position) → is_some (state_of states p) ≡ true → is_some (state_of (with_position states p position) p) ≡ true
still_there states p position there =
    ap is_some (state_of-changed (λ state. record state { position = position }) (λ state. refl) states p) ∙ kept (state_of states p) there
  where
    kept : (found : Option PointState) → is_some found ≡ true → is_some (option_map (λ (state : PointState). record state { position = position }) found) ≡ true
    kept None h = h
    kept (Some state) h = refl

placed_let_go : (states : List PointState) (p : List ℕ) (position : Position) → is_some (state_of states p) ≡ true → (d : Id) (q : List ℕ)
    → has_in_hand (with_hand (with_position states p position) p None) d q ≡ cond (same_name p q) false (has_in_hand states d q)
placed_let_go states p position there d q =
    let_go (with_position states p position) p (still_there states p position there) d q
    ∙ ap (λ hand. cond (same_name p q) false (is_hand d hand)) (hand_of-placed states p position q)

module _ (R : Register) (good : IsGoodByPhase R) (c : Id) (r : Record) (found : record_of R.records c ≡ Some r) (row : StepRow) (p : IsPresent R c row)
    (active : is_active row.step.state ≡ true) (next : Record) (own : next.id ≡ c) (same_work : next.work ≡ r.work) where
  abbrev pub new : StepRow
  new = step_moved Done row.step.reader row

  abbrev point : List ℕ
  point = row.step.point

  pub done_put : StepPut R c row (step_moved Done row.step.reader row)
  done_put = step_put R good c row (step_moved Done row.step.reader row) p refl

  pub done_midst : InMidst done_put.before done_put.after row row.round
  done_midst = active_midst R good c r found row p done_put.before done_put.after done_put.was active

  -- a step that is given out is of a running record
  unclosed : is_open r.phase ≡ true
  unclosed = open_where is_running refl r.phase
      (All-contains (λ (row : StepRow). is_active row.step.state ≡ true → (is_running r.phase ≡ true) × (row.round ≡ present_of (steps_of R.steps c))) (steps_of R.steps c) row
      (step_facts R.net r.phase r.work (outlook_of R c) (in_phase_of R c r good found)).active
      (subst (λ (d : Id). Contains (steps_of R.steps d) row) p.own (among_own R.steps row p.there)) active).0

  at_points : AreAtPoints R.net (steps_of R.steps c)
  at_points = good.points_known.steps c r found unclosed

  point_there : is_some (state_of R.states row.step.point) ≡ true
  point_there = state_known R good c row new p refl at_points

  -- the point is in the clearance's hand
  pub in_own_hand : has_in_hand R.states c row.step.point ≡ true
  in_own_hand =
      (good.in_place c).hands point
      ∙ any_from (λ (other : StepRow). is_active other.step.state && same_name point other.step.point) (steps_of R.steps c) row
      (subst (λ (d : Id). Contains (steps_of R.steps d) row) p.own (among_own R.steps row p.there))
      (and_from (is_active row.step.state) (same_name point row.step.point) active (same_itself point))

  -- and it has no other
  no_other_hand : (q : List ℕ) → same_name row.step.point q ≡ false → has_in_hand R.states c q ≡ false
  no_other_hand q differs =
      (good.in_place c).hands q ∙ ap (λ (rows : List StepRow). active_at rows q) done_put.was
      ∙ active_is done_put.before done_put.after row row row.round done_midst refl q
      ∙ ap (λ b. is_active row.step.state && b) (nat_list_eq_equiv.symm q point ∙ differs) ∙ none (is_active row.step.state)
    where
      none : (a : Bool) → (a && false) ≡ false
      none true = refl
      none false = refl

  -- the register with other states and holds
  abbrev pub done_register : List PointState → List Hold → Register
  done_register states holds = record R { states = states; records = with_row id_cmp record_key next R.records; steps = put_step (step_moved Done row.step.reader row) R.steps; holds = holds }

  -- the clearance's outlook then
  abbrev pub done_outlook : List PointState → List Hold → Outlook
  done_outlook states holds = record { clearance = Some next; steps = done_put.before ++ step_moved Done row.step.reader row ∷ done_put.after; has = has_hold holds c; hand = has_in_hand states c }

  -- what the states and holds have to be
  pub record Fits (states : List PointState) (holds : List Hold) : Type 0 where
    pub hands : (d : Id) (q : List ℕ) → has_in_hand states d q ≡ cond (same_name row.step.point q) false (has_in_hand R.states d q)
    pub others : (d : Id) → same_id c d ≡ false → (kind : HoldKind) (q : List ℕ) → has_hold holds d kind q ≡ has_hold R.holds d kind q
    pub grown : (d : Id) (kind : HoldKind) (q : List ℕ) → has_hold holds d kind q ≡ true → (has_hold R.holds d kind q ≡ true) ⊎ ((d ≡ c) × (q ≡ row.step.point))
    pub held_open : (d : Id) (kind : HoldKind) (q : List ℕ) → is_point_kind kind ≡ true → has_hold holds d kind q ≡ true → position_of states q ≡ Some Opened

  closing_free : (states : List PointState) (holds : List Hold) → Fits states holds → (b : Id) (q : List ℕ) → is_closing_at (put_step (step_moved Done row.step.reader row) R.steps) b q ≡ true
      → (d : Id) (kind : HoldKind) → is_point_kind kind ≡ true → has_hold holds d kind q ≡ true → (d ≡ b) × (kind ≡ HeldOpen)
  closing_free states holds fits b q closing d kind at_point has = at (same_id b c) refl
    where
      at : (e : Bool) → same_id b c ≡ e → (d ≡ b) × (kind ≡ HeldOpen)
      at true is =
          let now : is_closing_at (put_step (step_moved Done row.step.reader row) R.steps) c q ≡ true = rw (one_id b c is) at closing in
          absurd (false≢true
          (sym (active-only done_put.before done_put.after row new row.round done_midst refl (closes_at q) (λ other rests. rw rests refl))
          ∙ sym (closing_by (put_step new R.steps) c q (done_put.before ++ new ∷ done_put.after) done_put.is) ∙ now))
      at false differs =
          let was : is_closing_at R.steps b q ≡ true = same_closing R (record R { steps = put_step new R.steps }) b q (others_put R good c row new p refl b differs) ∙ closing in
          by (fits.grown d kind q has) was
        where
          by : (has_hold R.holds d kind q ≡ true) ⊎ ((d ≡ c) × (q ≡ row.step.point)) → is_closing_at R.steps b q ≡ true → (d ≡ b) × (kind ≡ HeldOpen)
          by (inl before) was = good.closing_free b q was d kind at_point before
          by (inr here) was =
              let hand : has_in_hand R.states b row.step.point ≡ true = rw here.1 at ((good.in_place b).hands q ∙ closing_active R b q was) in
              absurd (both_ways (has_in_hand R.states b row.step.point) (one_hand _ c b in_own_hand differs) hand)

  pub done_moved : (states : List PointState) (holds : List Hold) → Fits states holds → InPhase R.net next.phase next.work (done_outlook states holds)
      → Moved R (done_register states holds) c next
  done_moved states holds fits phase = record {
    other_steps = others_put R good c row new p refl;
    other_holds = λ d differs. fits.others d (same_id_equiv.symm c d ∙ differs);
    other_hands = λ d differs q. fits.hands d q ∙ other d differs q (same_name point q) refl;
    own_place = place_by R c (Some next) (steps_of (put_step new R.steps) c) (done_put.before ++ new ∷ done_put.after) (has_hold holds c) (has_in_hand states c) done_put.is (record {
      in_turn = turns_again done_put.before done_put.after row new row.round done_midst refl (turns_split R c (done_put.before ++ row ∷ done_put.after) good done_put.was).in_turn;
      hands = λ q. fits.hands c q ∙ none q (same_name point q) refl ∙ sym (active_is done_put.before done_put.after row new row.round done_midst refl q);
      phase = phase;
    });
    held_open = fits.held_open;
    closing_free = closing_free states holds fits;
    steps_known = known_put R good c row new p refl at_points refl;
  }
    where
      other : (d : Id) → same_id d c ≡ false → (q : List ℕ) (b : Bool) → same_name row.step.point q ≡ b → cond b false (has_in_hand R.states d q) ≡ has_in_hand R.states d q
      other d differs q true is = sym (ap (λ q. has_in_hand R.states d q) (sym (one_name point q is)) ∙ one_hand _ c d in_own_hand differs)
      other d differs q false is = refl

      none : (q : List ℕ) (b : Bool) → same_name row.step.point q ≡ b → cond b false (has_in_hand R.states c q) ≡ false
      none q true is = refl
      none q false differs = no_other_hand q differs

  -- ---- the edits

  -- a hold is put, the point being open
  pub put_keeps : (of : HoldKind) → position_of R.states row.step.point ≡ Some Opened
      → InPhase R.net next.phase next.work (done_outlook (with_hand R.states row.step.point None) (with_row hold_cmp hold_key (hold_of c of row.step.point) R.holds))
      → IsGoodByPhase (after_edits (SetHand row.step.point None ∷ PutHold (hold_of c of row.step.point) ∷ PutRecord next ∷ PutStep (step_moved Done row.step.reader row) ∷ []) R)
  unfolding after_edits
  put_keeps of stands phase =
      keeps R (SetHand point None ∷ PutHold (hold_of c of point) ∷ PutRecord next ∷ PutStep new ∷ []) c refl good
      (put_changes R good c r next found unclosed own same_work (done_register (with_hand R.states point None) (with_row hold_cmp hold_key (hold_of c of point) R.holds)) refl
      (done_moved (with_hand R.states point None) (with_row hold_cmp hold_key (hold_of c of point) R.holds) (record {
        hands = let_go R.states point point_there;
        others = others_hold_put c of point R.holds;
        grown = λ d kind q has. ⊎_elim (λ before. inl before) (λ here. inr (here.0, here.2)) (was_or_put c of point R.holds d kind q has);
        held_open = λ d kind q at_point has. position_of-handed R.states point None q
            ∙ ⊎_elim (λ before. good.held_open d kind q at_point before) (λ here. ap (position_of R.states) here.2 ∙ stands) (was_or_put c of point R.holds d kind q has);
      }) phase))

  -- a hold is taken
  pub take_keeps : (of : HoldKind)
      → InPhase R.net next.phase next.work (done_outlook (with_hand R.states row.step.point None) (without_row hold_cmp hold_key (hold_of c of row.step.point) R.holds))
      → IsGoodByPhase (after_edits (SetHand row.step.point None ∷ TakeHold (hold_of c of row.step.point) ∷ PutRecord next ∷ PutStep (step_moved Done row.step.reader row) ∷ []) R)
  unfolding after_edits
  take_keeps of phase =
      keeps R (SetHand point None ∷ TakeHold (hold_of c of point) ∷ PutRecord next ∷ PutStep new ∷ []) c refl good
      (put_changes R good c r next found unclosed own same_work (done_register (with_hand R.states point None) (without_row hold_cmp hold_key (hold_of c of point) R.holds)) refl
      (done_moved (with_hand R.states point None) (without_row hold_cmp hold_key (hold_of c of point) R.holds) (record {
        hands = let_go R.states point point_there;
        others = others_hold_taken c of point R.holds;
        grown = λ d kind q has. inl (was_there c of point R.holds d kind q has);
        held_open = λ d kind q at_point has. position_of-handed R.states point None q ∙ good.held_open d kind q at_point (was_there c of point R.holds d kind q has);
      }) phase))

  -- the position after the point is opened
  opened : (q : List ℕ) → (same_name row.step.point q ≡ false → position_of R.states q ≡ Some Opened)
      → position_of (with_hand (with_position R.states row.step.point Opened) row.step.point None) q ≡ Some Opened
  opened q elsewhere = position_of-handed (with_position R.states point Opened) point None q ∙ at (same_name point q) refl
    where
      at : (b : Bool) → same_name row.step.point q ≡ b → position_of (with_position R.states row.step.point Opened) q ≡ Some Opened
      at true is = ap (position_of (with_position R.states point Opened)) (one_name q point (nat_list_eq_equiv.symm q point ∙ is)) ∙ position_of-placed R.states point Opened point_there
      at false differs = position_of-placed_other R.states point Opened q differs ∙ elsewhere differs

  -- the point is opened, and held open
  pub open_keeps : InPhase R.net next.phase next.work
      (done_outlook (with_hand (with_position R.states row.step.point Opened) row.step.point None) (with_row hold_cmp hold_key (hold_of c HeldOpen row.step.point) R.holds))
      → IsGoodByPhase (after_edits (SetPosition row.step.point Opened ∷ SetHand row.step.point None ∷ PutHold (hold_of c HeldOpen row.step.point) ∷ PutRecord next
      ∷ PutStep (step_moved Done row.step.reader row) ∷ []) R)
  unfolding after_edits
  open_keeps phase =
      keeps R (SetPosition point Opened ∷ SetHand point None ∷ PutHold (hold_of c HeldOpen point) ∷ PutRecord next ∷ PutStep new ∷ []) c refl good
      (put_changes R good c r next found unclosed own same_work
      (done_register (with_hand (with_position R.states point Opened) point None) (with_row hold_cmp hold_key (hold_of c HeldOpen point) R.holds)) refl
      (done_moved (with_hand (with_position R.states point Opened) point None) (with_row hold_cmp hold_key (hold_of c HeldOpen point) R.holds) (record {
        hands = placed_let_go R.states point Opened point_there;
        others = others_hold_put c HeldOpen point R.holds;
        grown = λ d kind q has. ⊎_elim (λ before. inl before) (λ here. inr (here.0, here.2)) (was_or_put c HeldOpen point R.holds d kind q has);
        held_open = λ d kind q at_point has. opened q (λ differs.
            ⊎_elim (λ before. good.held_open d kind q at_point before)
            (λ here. absurd (both_ways (same_name point q) differs (ap (same_name point) here.2 ∙ same_itself point)))
            (was_or_put c HeldOpen point R.holds d kind q has));
      }) phase))

  -- the point is opened, and nothing is held
  pub switch_open_keeps : InPhase R.net next.phase next.work (done_outlook (with_hand (with_position R.states row.step.point Opened) row.step.point None) R.holds)
      → IsGoodByPhase (after_edits (SetPosition row.step.point Opened ∷ SetHand row.step.point None ∷ PutRecord next ∷ PutStep (step_moved Done row.step.reader row) ∷ []) R)
  unfolding after_edits
  switch_open_keeps phase =
      keeps R (SetPosition point Opened ∷ SetHand point None ∷ PutRecord next ∷ PutStep new ∷ []) c refl good
      (put_changes R good c r next found unclosed own same_work (done_register (with_hand (with_position R.states point Opened) point None) R.holds) refl
      (done_moved (with_hand (with_position R.states point Opened) point None) R.holds (record {
        hands = placed_let_go R.states point Opened point_there;
        others = λ d differs kind q. refl;
        grown = λ d kind q has. inl has;
        held_open = λ d kind q at_point has. opened q (λ differs. good.held_open d kind q at_point has);
      }) phase))

  -- the point is closed, and held open no more
  pub close_keeps : is_close row.step.action ≡ true
      → InPhase R.net next.phase next.work
      (done_outlook (with_hand (with_position R.states row.step.point Shut) row.step.point None) (without_row hold_cmp hold_key (hold_of c HeldOpen row.step.point) R.holds))
      → IsGoodByPhase (after_edits (SetPosition row.step.point Shut ∷ SetHand row.step.point None ∷ TakeHold (hold_of c HeldOpen row.step.point) ∷ PutRecord next
      ∷ PutStep (step_moved Done row.step.reader row) ∷ []) R)
  unfolding after_edits
  close_keeps closes phase =
      keeps R (SetPosition point Shut ∷ SetHand point None ∷ TakeHold (hold_of c HeldOpen point) ∷ PutRecord next ∷ PutStep new ∷ []) c refl good
      (put_changes R good c r next found unclosed own same_work
      (done_register (with_hand (with_position R.states point Shut) point None) (without_row hold_cmp hold_key (hold_of c HeldOpen point) R.holds)) refl
      (done_moved (with_hand (with_position R.states point Shut) point None) (without_row hold_cmp hold_key (hold_of c HeldOpen point) R.holds) (record {
        hands = placed_let_go R.states point Shut point_there;
        others = others_hold_taken c HeldOpen point R.holds;
        grown = λ d kind q has. inl (was_there c HeldOpen point R.holds d kind q has);
        held_open = λ d kind q at_point has. position_of-handed (with_position R.states point Shut) point None q ∙ shut d kind q at_point has (same_name point q) refl;
      }) phase))
    where
      closing : is_closing_at R.steps c row.step.point ≡ true
      closing = closing_by R.steps c point (done_put.before ++ row ∷ done_put.after) done_put.was
          ∙ active-only done_put.before done_put.after row row row.round done_midst refl (closes_at point) (λ other rests. rw rests refl)
          ∙ rw (active, closes) (same_itself point)

      shut : (d : Id) (kind : HoldKind) (q : List ℕ) → is_point_kind kind ≡ true → has_hold (without_row hold_cmp hold_key (hold_of c HeldOpen row.step.point) R.holds) d kind q ≡ true
          → (b : Bool) → same_name row.step.point q ≡ b → position_of (with_position R.states row.step.point Shut) q ≡ Some Opened
      shut d kind q at_point has true is =
          let here : q ≡ row.step.point = one_name q point (nat_list_eq_equiv.symm q point ∙ is) in
          let only = good.closing_free c point closing d kind at_point (rw here at (was_there c HeldOpen point R.holds d kind q has)) in
          let own_held : has_hold (without_row hold_cmp hold_key (hold_of c HeldOpen row.step.point) R.holds) c HeldOpen row.step.point ≡ true = rw (only.0, only.1, here) at has in
          absurd (false≢true (ap (λ b. not (b && true) && has_hold R.holds c HeldOpen point) (sym (kind_itself HeldOpen))
          ∙ ap (λ b. not (same_kind HeldOpen HeldOpen && b) && has_hold R.holds c HeldOpen point) (sym (same_itself point))
          ∙ sym (own_taken c HeldOpen point R.holds HeldOpen point) ∙ own_held))
      shut d kind q at_point has false differs =
          position_of-placed_other R.states point Shut q differs ∙ good.held_open d kind q at_point (was_there c HeldOpen point R.holds d kind q has)
