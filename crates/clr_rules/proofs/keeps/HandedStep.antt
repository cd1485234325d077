-- A step moves on with its point's hand, without an action: it is given out, or reported not done.
use Rattle.std.proofs.Common.{◌≡◌, ℕ, Bool, true, false, cond, ◌&&◌, List, [], ◌∷◌, ◌++◌, Option, Some, refl, sym, ◌∙◌, ap}
use Rattle.clr_rules.proofs.Common.{AreAtPoints, and_parts, nat_list_eq_equiv, same_name, one_name, task, Edit, SetHand, PutRecord, PutStep, HoldKind, HeldOpen, Record, StepRow, Id, same_id, Register, has_in_hand}
use Rattle.clr_rules.proofs.Common.{record_of, is_running, step_key, is_active, is_done, steps_of, is_point_kind, has_hold, after_edits, is_closing_at, IsGoodByPhase, active_at, outlook_of}
use Rattle.clr_rules.proofs.Common.{present_of, is_hand, is_close, is_open, one_id, record_id}
use Rattle.clr_rules.proofs.lists.StateFacts.{with_hand, position_of-handed}
use Rattle.clr_rules.proofs.good.Keeping.{keeps}
use Rattle.clr_rules.proofs.keeps.OneRecord.{in_phase_of}
use Rattle.clr_rules.proofs.lists.OpenPhases.{open_where}
use Rattle.clr_rules.proofs.keeps.Repeat.{turns_split}
use Rattle.clr_rules.proofs.edits.PresentSteps.{IsPresent}
use Rattle.clr_rules.proofs.edits.PutRecords.{put_changes, same_closing}
use Rattle.clr_rules.proofs.edits.PutSteps.{StepPut, closes_at, closing_by, hand_read, known_put, other_hands, others_put, phase_by, place_by, put_step, state_known, step_put}
use Rattle.clr_rules.proofs.edits.StepMoves.{InMidst, active-only, active_is, phase_again, turns_again}

and_true : (a : Bool) → a ≡ (a && true)
and_true true = refl
and_true false = refl

and_false : (a : Bool) → false ≡ (a && false)
and_false true = refl
and_false false = refl

-- nothing is at a point but the clearance's own HeldOpen
abbrev pub IsFree : Register → Id → List ℕ → Type 0
IsFree R c p = (d : Id) (kind : HoldKind) → is_point_kind kind ≡ true → has_hold R.holds d kind p ≡ true → (d ≡ c) × (kind ≡ HeldOpen)

module _ (R : Register) (good : IsGoodByPhase R) (c : Id) (r : Record) (found : record_of R.records c ≡ Some r) (runs : is_running r.phase ≡ true)
    (row new : StepRow) (p : IsPresent R c row) (same_key : step_key new ≡ step_key row) (same_task : task new.step ≡ task row.step)
    (was_left : is_done row.step.state ≡ false) (is_left : is_done new.step.state ≡ false)
    (mid : (s : StepPut R c row new) → InMidst s.before s.after row row.round) where
  s : StepPut R c row new
  s = step_put R good c row new p same_key

  middle : InMidst s.before s.after row row.round
  middle = mid s

  same_round : new.round ≡ row.round
  same_round = ap (λ k. k.round) same_key

  unclosed : is_open r.phase ≡ true
  unclosed = open_where is_running refl r.phase runs

  at_points : AreAtPoints R.net (steps_of R.steps c)
  at_points = good.points_known.steps c r found unclosed

  same_point : new.step.point ≡ row.step.point
  same_point = ap (λ t. t.point) same_task

  -- the hand matches the step
  own_hands : (hand : Option Id) → is_hand c hand ≡ is_active new.step.state → (q : List ℕ)
      → has_in_hand (with_hand R.states row.step.point hand) c q ≡ active_at (s.before ++ new ∷ s.after) q
  own_hands hand own q =
      hand_read R.states row.step.point q hand c (state_known R good c row new p same_key at_points) ∙ at (same_name q row.step.point) refl
      ∙ sym (active_is s.before s.after row new row.round middle same_round q ∙ ap (λ point. is_active new.step.state && same_name q point) same_point)
    where
      at : (b : Bool) → same_name q row.step.point ≡ b
          → cond (same_name row.step.point q) (is_hand c hand) (has_in_hand R.states c q) ≡ (is_active new.step.state && same_name q row.step.point)
      at true is = rw (is, nat_list_eq_equiv.symm row.step.point q ∙ is) (own ∙ and_true (is_active new.step.state))
      at false differs = rw (differs, nat_list_eq_equiv.symm row.step.point q ∙ differs)
          ((good.in_place c).hands q ∙ ap (λ (rows : List StepRow). active_at rows q) s.was
          ∙ active_is s.before s.after row row row.round middle refl q
          ∙ ap (λ b. is_active row.step.state && b) differs ∙ sym (and_false (is_active row.step.state)) ∙ and_false (is_active new.step.state))

  -- and what is closing is free
  closing_free : (is_active new.step.state ≡ true → is_close new.step.action ≡ true → IsFree R c row.step.point)
      → (b : Id) (q : List ℕ) → is_closing_at (put_step new R.steps) b q ≡ true
      → (d : Id) (kind : HoldKind) → is_point_kind kind ≡ true → has_hold R.holds d kind q ≡ true → (d ≡ b) × (kind ≡ HeldOpen)
  closing_free free b q closing = at (same_id b c) refl
    where
      at : (e : Bool) → same_id b c ≡ e → (d : Id) (kind : HoldKind) → is_point_kind kind ≡ true → has_hold R.holds d kind q ≡ true → (d ≡ b) × (kind ≡ HeldOpen)
      at true is d kind at_point has =
          let own : is_closing_at (put_step new R.steps) c q ≡ true = rw (one_id b c is) at closing in
          let here : closes_at q new ≡ true =
          sym (active-only s.before s.after row new row.round middle same_round (closes_at q) (λ other rests. rw rests refl))
          ∙ sym (closing_by (put_step new R.steps) c q (s.before ++ new ∷ s.after) s.is) ∙ own in
          let (closes, there) = and_parts (is_active new.step.state && is_close new.step.action) (same_name q new.step.point) here in
          let (active, close) = and_parts (is_active new.step.state) (is_close new.step.action) closes in
          let point : q ≡ row.step.point = one_name q new.step.point there ∙ same_point in
          let only = free active close d kind at_point (rw point at has) in
          (only.0 ∙ sym (one_id b c is), only.1)
      at false differs d kind at_point has = good.closing_free b q
          (same_closing R (record R { steps = put_step new R.steps }) b q (others_put R good c row new p same_key b differs) ∙ closing) d kind at_point has

  pub handed_keeps : (at : ℕ) (hand : Option Id)
      → ((d : Id) → same_id d c ≡ false → (is_hand d hand ≡ false) × (has_in_hand R.states d row.step.point ≡ false))
      → is_hand c hand ≡ is_active new.step.state
      → (is_active new.step.state ≡ true → is_close new.step.action ≡ true → IsFree R c row.step.point)
      → IsGoodByPhase (after_edits (SetHand row.step.point hand ∷ PutRecord (record r { last = at }) ∷ PutStep new ∷ []) R)
  unfolding after_edits
  handed_keeps at hand others own free =
      keeps R edits c refl good (put_changes R good c r (record r { last = at }) found unclosed (record_id R.records c r found) refl (after_edits edits R) refl (record {
        other_steps = others_put R good c row new p same_key;
        other_holds = λ d differs kind place. refl;
        other_hands = λ d differs. other_hands R.states row.step.point hand d (state_known R good c row new p same_key at_points) (others d differs).0 (others d differs).1;
        own_place = place_by R c (Some (record r { last = at })) (steps_of (put_step new R.steps) c) (s.before ++ new ∷ s.after) (outlook_of R c).has
            (has_in_hand (with_hand R.states row.step.point hand) c) s.is (record {
              in_turn = turns_again s.before s.after row new row.round middle same_round (turns_split R c (s.before ++ row ∷ s.after) good s.was).in_turn;
              hands = own_hands hand own;
              phase = phase_again s.before s.after row new row.round middle same_round same_task was_left is_left R.net r.phase r.work
                  (outlook_of R c).clearance (Some (record r { last = at })) (outlook_of R c).has (outlook_of R c).hand (has_in_hand (with_hand R.states row.step.point hand) c) runs
                  (p.now ∙ ap present_of s.was) (phase_by R c r (s.before ++ row ∷ s.after) s.was (in_phase_of R c r good found));
            });
        held_open = λ d kind q at_point has. position_of-handed R.states row.step.point hand q ∙ good.held_open d kind q at_point has;
        closing_free = closing_free free;
        steps_known = known_put R good c row new p same_key at_points same_point;
      }))
    where
      edits : List Edit
      edits = SetHand row.step.point hand ∷ PutRecord (record r { last = at }) ∷ PutStep new ∷ []
