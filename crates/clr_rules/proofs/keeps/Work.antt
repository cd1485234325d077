-- Commands of the work under a granted clearance: it is tested and grounded, and crews are signed on and off.
use Rattle.std.proofs.Common.{◌≡◌, ◌⊎◌, inl, inr, ⊎_elim, ℕ, Bool, true, false, cond, not, ◌&&◌, ◌||◌, List, [], ◌∷◌, Option, Some, None, refl, sym, ◌∙◌, ap, subst}
use Rattle.clr_rules.proofs.Common.{and_from, both_ways, false≢true, false_from_ne_true, or_right, nat_list_eq_equiv, same_name, has_name, any_from, with_row, without_row, clearance_fence, hold_there}
use Rattle.clr_rules.proofs.Common.{of_round_is, one_id, own_id, record_id, is_open}
use Rattle.clr_rules.specs.Checks.{at_work, refuse, where_some}
use Rattle.clr_rules.specs.Prelude.{PutHold, TakeHold, PutRecord, Hold, HoldKind, Tested, Ground, Crew, Phase, Requested, Ordered, Granted, Released, Restoring, Switching, Closed, Record, Refusal, Id}
use Rattle.clr_rules.specs.Prelude.{id_cmp, same_id, Register, has_in_hand, record_key, record_of, is_granted, steps_of, hold_cmp, is_point_kind, has_hold, has_some_hold, hold_key, hold_of, same_kind}
use Rattle.clr_rules.specs.Prelude.{after_edits, CrewsOn, NotGrounded, OutsideFence}
use Rattle.clr_rules.specs.GoodByPhase.{InGranted, InPhase, IsGoodByPhase, inner_fence, outlook_of}
use Rattle.clr_rules.specs.HoldKind.{is_crew, is_section_kind}
use Rattle.clr_rules.specs.Id.{same_id_equiv}
use Rattle.clr_rules.proofs.good.Keeping.{KeepsGood, Changed, commands_keep, keeps}
use Rattle.clr_rules.proofs.lists.HoldChanges.{is_there, kind_itself, one_kind, others_hold_put, others_hold_taken, own_put, own_taken, was_or_put, was_there}
use Rattle.clr_rules.proofs.keeps.OneRecord.{found_edits, in_phase_of}
use Rattle.clr_rules.proofs.edits.Passing.{check_of_found, not_refused, holder_begun, not_refused_true}
use Rattle.clr_rules.proofs.edits.PutRecords.{put_changes, outlook_with, quiet}

-- a hold of a kind that is at no point is none at a point
off_points : (of kind : HoldKind) → is_point_kind of ≡ false → is_point_kind kind ≡ true → same_kind of kind ≡ false
off_points of kind off_point at_point = false_from_ne_true (same_kind of kind) (λ same.
    both_ways (is_point_kind of) off_point (ap is_point_kind (one_kind of kind same) ∙ at_point))

-- a clearance that has a hold of a kind somewhere has some of that kind
pub has_some : (holds : List Hold) (c : Id) (kind : HoldKind) (place : List ℕ) → has_hold holds c kind place ≡ true → has_some_hold holds c kind ≡ true
unfolding has_some_hold
has_some holds c kind place has = any_from (λ (h : Hold). same_id c h.id && same_kind kind h.kind) holds (hold_of c kind place) (hold_there holds c kind place has)
    (and_from (same_id c c) (same_kind kind kind) (own_id c) (kind_itself kind))

-- the work of a granted clearance
pub record GrantedWork (R : Register) (c : Id) (r : Record) : Type 0 where
  pub work : List ℕ
  pub has_work : r.work ≡ Some work
  pub is_granted_as : r.phase ≡ Granted
  pub granted : InGranted R.net work (outlook_of R c)
  pub fence_is : clearance_fence R c ≡ inner_fence R.net work (outlook_of R c)

pub granted_work : (R : Register) (c : Id) (r : Record) → IsGoodByPhase R → record_of R.records c ≡ Some r → is_granted r.phase ≡ true → GrantedWork R c r
granted_work R c r good found is = at r.phase r.work refl refl is (in_phase_of R c r good found)
  where
    at : (phase : Phase) (work : Option (List ℕ)) → r.phase ≡ phase → r.work ≡ work → is_granted phase ≡ true → InPhase R.net phase work (outlook_of R c) → GrantedWork R c r
    at Granted (Some work) phase_is work_is is h = record {
      work = work;
      has_work = work_is;
      is_granted_as = phase_is;
      granted = h;
      fence_is = rw (found, phase_is, work_is, record_id R.records c r found, of_round_is R.steps c 1) refl;
    }
    at Granted None phase_is work_is is h = absurd h
    at Requested work phase_is work_is is h = absurd (false≢true is)
    at Ordered work phase_is work_is is h = absurd (false≢true is)
    at Released work phase_is work_is is h = absurd (false≢true is)
    at Restoring work phase_is work_is is h = absurd (false≢true is)
    at Switching work phase_is work_is is h = absurd (false≢true is)
    at Closed work phase_is work_is is h = absurd (false≢true is)

module _ (R : Register) (good : IsGoodByPhase R) (c : Id) (r : Record) (found : record_of R.records c ≡ Some r) (w : GrantedWork R c r) (at : ℕ) where
  abbrev next : Record
  next = record r { last = at }

  -- what the holds have to be
  record Fits (holds : List Hold) : Type 0 where
    pub others : (d : Id) → same_id c d ≡ false → (kind : HoldKind) (q : List ℕ) → has_hold holds d kind q ≡ has_hold R.holds d kind q
    pub at_points : (kind : HoldKind) (q : List ℕ) → is_point_kind kind ≡ true → has_hold holds c kind q ≡ has_hold R.holds c kind q
    pub tested : (q : List ℕ) → has_hold holds c Tested q ≡ true → (has_hold R.holds c Tested q ≡ true) ⊎ (has_name (clearance_fence R c) q ≡ true)
    pub grounded : (q : List ℕ) → has_hold holds c Ground q ≡ true → (has_hold R.holds c Ground q ≡ true) ⊎ (has_name (clearance_fence R c) q ≡ true)
    pub crews : (q : List ℕ) → has_hold holds c Crew q ≡ true → has_hold holds c Ground w.work ≡ true

  abbrev work_register : List Hold → Register
  work_register holds = record R { records = with_row id_cmp record_key next R.records; holds = holds }

  inside : (kind : HoldKind) (q : List ℕ) → ((has_hold R.holds c kind q ≡ true) → has_name (inner_fence R.net w.work (outlook_of R c)) q ≡ true)
      → (has_hold R.holds c kind q ≡ true) ⊎ (has_name (clearance_fence R c) q ≡ true) → has_name (inner_fence R.net w.work (outlook_of R c)) q ≡ true
  inside kind q before (inl had) = before had
  inside kind q before (inr fenced) = ap (λ fence. has_name fence q) (sym w.fence_is) ∙ fenced

  in_granted : (holds : List Hold) → Fits holds
      → InGranted R.net w.work (record { clearance = Some next; steps = steps_of R.steps c; has = has_hold holds c; hand = has_in_hand R.states c })
  in_granted holds fits = let h = w.granted in record {
    isolates = h.isolates;
    one_round = h.one_round;
    done = h.done;
    none_active = h.none_active;
    as_put = λ kind q at_point. fits.at_points kind q at_point ∙ h.as_put kind q at_point;
    tested_inside = λ q has. inside Tested q (h.tested_inside q) (fits.tested q has);
    grounded_inside = λ q has. inside Ground q (h.grounded_inside q) (fits.grounded q has);
    crews_grounded = λ q has. fits.crews q has;
  }

  work_changed : (holds : List Hold) → Fits holds → Changed R (work_register holds) c
  work_changed holds fits = put_changes R good c r next found unclosed (record_id R.records c r found) refl (work_register holds) refl
      (quiet R (work_register holds) c next good (record {
        same_states = refl;
        point_holds = λ d kind q at_point has. point d kind q at_point has (same_id c d) refl;
        other_holds = λ d differs. fits.others d (same_id_equiv.symm c d ∙ differs);
        other_steps = λ d differs. refl;
        own_closing = λ q closing. closing;
        steps_known = good.points_known.steps c r found unclosed;
      }) (record {
        in_turn = (good.in_place c).in_turn;
        hands = (good.in_place c).hands;
        phase = subst (λ (o : Option (List ℕ)). InPhase R.net r.phase o (outlook_with (work_register holds) c next)) (sym w.has_work)
            (subst (λ (phase : Phase). InPhase R.net phase (Some w.work) (outlook_with (work_register holds) c next)) (sym w.is_granted_as) (in_granted holds fits));
      }))
    where
      unclosed : is_open r.phase ≡ true
      unclosed = ap is_open w.is_granted_as

      point : (d : Id) (kind : HoldKind) (q : List ℕ) → is_point_kind kind ≡ true → has_hold holds d kind q ≡ true → (b : Bool) → same_id c d ≡ b → has_hold R.holds d kind q ≡ true
      point d kind q at_point has true is =
          let one = one_id c d is in
          rw (← one) (sym (fits.at_points kind q at_point) ∙ (rw (← one) at has))
      point d kind q at_point has false differs = sym (fits.others d differs kind q) ∙ has

  -- ---- one hold is put, or taken

  put_points : (of : HoldKind) (place : List ℕ) → is_point_kind of ≡ false → (kind : HoldKind) (q : List ℕ) → is_point_kind kind ≡ true
      → has_hold (with_row hold_cmp hold_key (hold_of c of place) R.holds) c kind q ≡ has_hold R.holds c kind q
  put_points of place off_point kind q at_point = own_put c of place R.holds kind q
      ∙ ap (λ b. (b && same_name place q) || has_hold R.holds c kind q) (off_points of kind off_point at_point)

  taken_points : (of : HoldKind) (place : List ℕ) (holds : List Hold) → is_point_kind of ≡ false → (kind : HoldKind) (q : List ℕ) → is_point_kind kind ≡ true
      → has_hold (without_row hold_cmp hold_key (hold_of c of place) holds) c kind q ≡ has_hold holds c kind q
  taken_points of place holds off_point kind q at_point = own_taken c of place holds kind q
      ∙ ap (λ b. not (b && same_name place q) && has_hold holds c kind q) (off_points of kind off_point at_point)

  -- A HOLD THAT IS PUT: a test or a ground inside the fence, or a crew where the work section is grounded
  pub hold_put_keeps : (of : HoldKind) (place : List ℕ) → is_point_kind of ≡ false → (is_section_kind of ≡ true → has_name (clearance_fence R c) place ≡ true)
      → (is_crew of ≡ true → has_hold R.holds c Ground w.work ≡ true) → IsGoodByPhase (after_edits (PutHold (hold_of c of place) ∷ PutRecord next ∷ []) R)
  unfolding after_edits
  hold_put_keeps of place off fenced grounded = keeps R (PutHold (hold_of c of place) ∷ PutRecord next ∷ []) c refl good
      (work_changed (with_row hold_cmp hold_key (hold_of c of place) R.holds) (record {
        others = others_hold_put c of place R.holds;
        at_points = put_points of place off;
        tested = λ q has. had_or_fenced Tested q refl (was_or_put c of place R.holds c Tested q has);
        grounded = λ q has. had_or_fenced Ground q refl (was_or_put c of place R.holds c Ground q has);
        crews = λ q has. own_put c of place R.holds Ground w.work
            ∙ or_right (is_there of place Ground w.work) (has_hold R.holds c Ground w.work)
            (⊎_elim (λ had. w.granted.crews_grounded q had) (λ here. grounded (ap is_crew (sym here.1))) (was_or_put c of place R.holds c Crew q has));
      }))
    where
      had_or_fenced : (kind : HoldKind) (q : List ℕ) → is_section_kind kind ≡ true → (has_hold R.holds c kind q ≡ true) ⊎ ((c ≡ c) × (kind ≡ of) × (q ≡ place))
          → (has_hold R.holds c kind q ≡ true) ⊎ (has_name (clearance_fence R c) q ≡ true)
      had_or_fenced kind q section (inl had) = inl had
      had_or_fenced kind q section (inr here) = inr (ap (has_name (clearance_fence R c)) here.2 ∙ fenced (ap is_section_kind (sym here.1) ∙ section))

  -- one that is taken, and is no ground
  pub hold_taken_keeps : (of : HoldKind) (place : List ℕ) → is_point_kind of ≡ false → same_kind of Ground ≡ false
      → IsGoodByPhase (after_edits (TakeHold (hold_of c of place) ∷ PutRecord next ∷ []) R)
  unfolding after_edits
  hold_taken_keeps of place off no_ground = keeps R (TakeHold (hold_of c of place) ∷ PutRecord next ∷ []) c refl good
      (work_changed (without_row hold_cmp hold_key (hold_of c of place) R.holds) (record {
        others = others_hold_taken c of place R.holds;
        at_points = taken_points of place R.holds off;
        tested = λ q has. inl (was_there c of place R.holds c Tested q has);
        grounded = λ q has. inl (was_there c of place R.holds c Ground q has);
        crews = λ q has. own_taken c of place R.holds Ground w.work
            ∙ ap (λ b. not (b && same_name place w.work) && has_hold R.holds c Ground w.work) no_ground
            ∙ w.granted.crews_grounded q (was_there c of place R.holds c Crew q has);
      }))

  -- no crew is on, where the ground of the work section is taken
  pub unground_keeps : (section : List ℕ) → (same_name w.work section && has_some_hold R.holds c Crew) ≡ false
      → IsGoodByPhase (after_edits (TakeHold (hold_of c Ground section) ∷ TakeHold (hold_of c Tested section) ∷ PutRecord next ∷ []) R)
  unfolding after_edits
  unground_keeps section clear = keeps R (TakeHold (hold_of c Ground section) ∷ TakeHold (hold_of c Tested section) ∷ PutRecord next ∷ []) c refl good
      (work_changed (without_row hold_cmp hold_key (hold_of c Tested section) (without_row hold_cmp hold_key (hold_of c Ground section) R.holds)) (record {
        others = λ d differs kind q. others_hold_taken c Tested section (without_row hold_cmp hold_key (hold_of c Ground section) R.holds) d differs kind q
            ∙ others_hold_taken c Ground section R.holds d differs kind q;
        at_points = λ kind q at_point. taken_points Tested section (without_row hold_cmp hold_key (hold_of c Ground section) R.holds) refl kind q at_point
            ∙ taken_points Ground section R.holds refl kind q at_point;
        tested = λ q has. inl (before Tested q has);
        grounded = λ q has. inl (before Ground q has);
        crews = λ q has.
            own_taken c Tested section (without_row hold_cmp hold_key (hold_of c Ground section) R.holds) Ground w.work
            ∙ own_taken c Ground section R.holds Ground w.work
            ∙ and_from (not (same_kind Ground Ground && same_name section w.work)) (has_hold R.holds c Ground w.work)
            (ap not (elsewhere (has_some R.holds c Crew q (before Crew q has)))) (w.granted.crews_grounded q (before Crew q has));
      }))
    where
      before : (kind : HoldKind) (q : List ℕ)
          → has_hold (without_row hold_cmp hold_key (hold_of c Tested section) (without_row hold_cmp hold_key (hold_of c Ground section) R.holds)) c kind q ≡ true → has_hold R.holds c kind q ≡ true
      before kind q has = was_there c Ground section R.holds c kind q (was_there c Tested section (without_row hold_cmp hold_key (hold_of c Ground section) R.holds) c kind q has)

      elsewhere : has_some_hold R.holds c Crew ≡ true → same_name section w.work ≡ false
      elsewhere on = nat_list_eq_equiv.symm section w.work ∙ false_from_ne_true (same_name w.work section) (λ same. false≢true (sym clear ∙ and_from (same_name w.work section) (has_some_hold R.holds c Crew) same on))
