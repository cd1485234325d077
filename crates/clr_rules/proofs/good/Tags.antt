-- Tags: which command takes one, and how a clearance comes to be Restoring or Released.
use Rattle.std.proofs.Common.{◌≡◌, ℕ, Bool, true, false, List, [], Option, Some, None, Contains, refl, sym, ◌∙◌, ap, subst, ◌⊎◌, inl, inr, ⊎_elim}
use Rattle.clr_rules.proofs.Common.{Action, All-contains, Answer, InPhase, IsGoodByPhase, Known, after, answer_by_checks, both_ways, checks, edits_of, equal, false≢true, is_switching, known_of, of_round}
use Rattle.clr_rules.proofs.Common.{outlook_of, same_Some}
use Rattle.clr_rules.specs.laws.Edits.{is_hold, refusal_of}
use Rattle.clr_rules.specs.Prelude.{Edit, TakeHold, Command, Kind, Hold, Tag, Phase, Requested, Ordered, Granted, Released, Restoring, Switching, Closed, Record}
use Rattle.clr_rules.specs.Prelude.{Refusal, StepRow, Id, Register, record_of, is_running, is_granted, is_ordered, present_steps, step_at, steps_of, hold_cmp}
use Rattle.clr_rules.specs.Prelude.{has_any_hold, has_hold, hold_of, after_edits}
use Rattle.clr_rules.specs.Hold.{same_hold}
use Rattle.clr_rules.proofs.good.Keeping.{asked}
use Rattle.clr_rules.specs.Records.{is_released}
use Rattle.clr_rules.specs.laws.Tags.{IsUntag, OnlyReleasedAreRestored, ReleasedAreGivenBack, TagsAreUntagged}
use Rattle.clr_rules.proofs.good.GoodToPhases.{to_phases}
use Rattle.clr_rules.proofs.good.IsolatingSteps.{is_isolating, isolating_step}
use Rattle.clr_rules.proofs.keeps.OneRecord.{in_phase_of}
use Rattle.clr_rules.proofs.edits.Passing.{Pass, all_pass, role_begun}
use Rattle.clr_rules.proofs.good.PhaseFacts.{first_present}
use Rattle.clr_rules.proofs.good.PlaceFacts.{in_round}
use Rattle.clr_rules.proofs.edits.PresentSteps.{IsPresent, step_there}
use Rattle.clr_rules.proofs.edits.PutRows.{AllLeave, AllPutSuch, AnyStep, Leaves, left_by_all, record_after}
use Rattle.clr_rules.proofs.edits.Shapes.{ComesTo, HoldTaken, IsEditOf, IsFound, RecordPut, each_or, edits_of_accepted, off_points, puts_such, takes}
use Rattle.clr_rules.proofs.edits.Shapes.ComesTo.{cancelled, closed, granted, ordered, released, restored, stays}
use Rattle.clr_rules.proofs.edits.Shapes.HoldTaken.{off_by_step, off_work}
use Rattle.clr_rules.proofs.edits.Shapes.RecordPut.{requested, switched, written}
use Rattle.clr_rules.proofs.lists.RoundSteps.{among_own, record_id}
use Rattle.clr_order.specs.declared.action.Action.TheVariants as actions
use Rattle.clr_rules.specs.declared.command.Kind.TheVariants as kinds

-- ---- how a clearance comes into a phase

-- what is said of a record of this phase that a command puts
abbrev pub CameTo : Register → Kind → Record → Phase → Type 0
CameTo R kind s Restoring = (r : Record) × (record_of R.records s.id ≡ Some r) × ((r.phase ≡ Restoring) ⊎ (r.phase ≡ Released))
CameTo R kind s Released = (r : Record) × (record_of R.records s.id ≡ Some r) × ((r.phase ≡ Released) ⊎ ((r.phase ≡ Granted) × (kind ≡ kinds.Release s.id true true))
    ⊎ ((r.phase ≡ Ordered) × (kind ≡ kinds.Cancel s.id) × (has_any_hold R.holds s.id ≡ true)))
CameTo R kind s _ = Unit {0}

abbrev pub CameSo : Register → Kind → Record → Type 0
CameSo R kind s = CameTo R kind s s.phase

released_is : (phase : Phase) → is_released phase ≡ true → phase ≡ Released
released_is Released is = refl
released_is _ is = absurd (false≢true is)

granted_is : (phase : Phase) → is_granted phase ≡ true → phase ≡ Granted
granted_is Granted is = refl
granted_is _ is = absurd (false≢true is)

ordered_is : (phase : Phase) → is_ordered phase ≡ true → phase ≡ Ordered
ordered_is Ordered is = refl
ordered_is _ is = absurd (false≢true is)

module _ (k : Known) (R : Register) (by : List ℕ) (at : ℕ) where
  -- a record whose phase stays
  same_phase : (kind : Kind) (r : Record) (holder : List ℕ) → record_of R.records r.id ≡ Some r → CameSo R kind (record r { holder = holder; last = at })
  same_phase kind r holder here = by_phase r.phase refl
    where
      by_phase : (phase : Phase) → r.phase ≡ phase → CameTo R kind (record r { holder = holder; last = at }) phase
      by_phase Restoring is = (r, here, inl is)
      by_phase Released is = (r, here, inl is)
      by_phase Requested is = tt
      by_phase Ordered is = tt
      by_phase Granted is = tt
      by_phase Switching is = tt
      by_phase Closed is = tt

  written_came : (c : Id) (r : Record) (holder : List ℕ) → record_of R.records r.id ≡ Some r → r.id ≡ c → (kind : Kind) (phase : Phase) → ComesTo R c r kind phase
      → CameSo R kind (record r { holder = holder; phase = phase; last = at })
  written_came c r holder here own kind _ stays = same_phase kind r holder here
  written_came c r holder here own _ _ (released fits) = (r, here, inr (inl (granted_is r.phase fits, λ i. kinds.Release (sym own i) true true)))
  written_came c r holder here own _ _ (cancelled fits holds) = (r, here, inr (inr (ordered_is r.phase fits, ap kinds.Cancel (sym own), holds)))
  written_came c r holder here own _ _ (restored tasks fits) = (r, here, inr (released_is r.phase fits))
  written_came c r holder here own _ _ (ordered fits) = tt
  written_came c r holder here own _ _ (granted fits) = tt
  written_came c r holder here own _ _ closed = tt

  -- WHERE NO CHECK APPLIES, each record that is put came so into its phase
  record_came : (kind : Kind) (s : Record) → RecordPut k R by at kind s → CameSo R kind s
  record_came _ _ (requested section) = tt
  record_came _ _ (switched tasks) = tt
  record_came kind _ (written c r {holder = holder} named no_show found held comes) =
      let own = record_id R.records c r found in
      written_came c r holder (ap (record_of R.records) own ∙ found) own kind _ comes

  all_came : (kind : Kind) → Pass (checks k R by at kind) → AllPutSuch (CameSo R kind) AnyStep (edits_of k.greatest R by at kind)
  all_came kind passed = puts_such k R by at kind (CameSo R kind) AnyStep (record_came kind) (λ row put. tt) (edits_of k.greatest R by at kind) (edits_of_accepted k R by at kind passed)

-- a record that is read after a command was read before it, or came so into its phase
came : (R : Register) (q : Command) (c : Id) (s : Record) → record_of (Register.records (after R q)) c ≡ Some s → (record_of R.records c ≡ Some s) ⊎ CameSo R q.kind s
came R q c s read = at (refusal_of R q) refl read
  where
    at : (refused : Option Refusal) → refusal_of R q ≡ refused
        → record_of (Register.records (after_edits (Answer.edits (answer_by_checks (known_of R q) R q refused)) R)) c ≡ Some s → (record_of R.records c ≡ Some s) ⊎ CameSo R q.kind s
    at None passed read = record_after (CameSo R q.kind) AnyStep (edits_of (known_of R q).greatest R q.caller q.moment q.kind) R c s
        (all_came (known_of R q) R q.caller q.moment q.kind (all_pass (checks (known_of R q) R q.caller q.moment q.kind) passed)) read
    at (Some refusal) is read = record_after (CameSo R q.kind) AnyStep [] R c s tt read

came_to : (R : Register) (q : Command) (c : Id) (s : Record) (phase : Phase) → record_of (Register.records (after R q)) c ≡ Some s → s.phase ≡ phase
    → (record_of R.records c ≡ Some s) ⊎ CameTo R q.kind s phase
came_to R q c s phase read is = ⊎_elim (λ before. inl before) (λ h. inr (subst (CameTo R q.kind s) is h)) (came R q c s read)

pub only_released_are_restored : OnlyReleasedAreRestored
only_released_are_restored R q c s read is = ⊎_elim (λ before. (s, before, inl is))
    (λ h. (h.0, ap (record_of R.records) (sym (record_id (Register.records (after R q)) c s read)) ∙ h.1, h.2))
    (came_to R q c s Restoring read is)

pub released_are_given_back : ReleasedAreGivenBack
released_are_given_back R q c s read is = ⊎_elim (λ before. (s, before, inl is))
    (λ h. subst (λ (d : Id). (r : Record) × (record_of R.records d ≡ Some r) × ((r.phase ≡ Released) ⊎ ((r.phase ≡ Granted) × (q.kind ≡ kinds.Release d true true))
    ⊎ ((r.phase ≡ Ordered) × (q.kind ≡ kinds.Cancel d) × (has_any_hold R.holds d ≡ true)))) (record_id (Register.records (after R q)) c s read) h)
    (came_to R q c s Released read is)

-- ---- which command takes a tag

untag_is : (a : Action) → takes a Tag ≡ true → a ≡ actions.Untag
untag_is actions.Untag is = refl
untag_is _ is = absurd (false≢true is)

-- an Untag is no step of a sound order, nor of a switch order
untag_is_restoring : (R : Register) → IsGoodByPhase R → (c : Id) (r : Record) → record_of R.records c ≡ Some r → is_running r.phase ≡ true
    → (row : StepRow) → IsPresent R c row → row.step.action ≡ actions.Untag → r.phase ≡ Restoring
untag_is_restoring R good c r found runs row p untags = by_phase r.phase r.work refl runs (in_phase_of R c r good found)
  where
    among : Contains (steps_of R.steps c) row
    among = subst (λ (d : Id). Contains (steps_of R.steps d) row) p.own (among_own R.steps row p.there)

    by_phase : (phase : Phase) (work : Option (List ℕ)) → r.phase ≡ phase → is_running phase ≡ true → InPhase R.net phase work (outlook_of R c) → r.phase ≡ Restoring
    by_phase Restoring work is running h = is
    by_phase Ordered (Some work) is running h =
        let first : row.round ≡ 1 = p.now ∙ first_present R.net work (outlook_of R c) h.isolates h.one_round in
        absurd (false≢true (sym (ap is_isolating untags)
        ∙ isolating_step R.net work (of_round (steps_of R.steps c) 1) row h.isolates (in_round (steps_of R.steps c) 1 row among first)))
    by_phase Switching None is running h =
        absurd (false≢true (sym (ap is_switching untags) ∙ All-contains (λ (row : StepRow). is_switching row.step.action ≡ true) (steps_of R.steps c) row h.only_switching among))
    by_phase Ordered None is running h = absurd h
    by_phase Switching (Some work) is running h = absurd h
    by_phase _ work is running h = absurd (false≢true running)

-- THE EDITS OF A COMMAND leave a tag, or it is the tag's Untag
module _ (R : Register) (good : IsGoodByPhase R) (c : Id) (p : List ℕ) (k : Known) (by : List ℕ) (at : ℕ) where
  untag_here : (d : Id) (n : ℕ) (r : Record) (row : StepRow) → IsFound R d n r row → Pass (checks k R by at (kinds.Report d n true)) → row.step.action ≡ actions.Untag
      → hold_of r.id Tag row.step.point ≡ hold_of c Tag p → IsUntag R c p (asked by at (kinds.Report d n true))
  untag_here d n r row found passed untags one =
      let (was, read, fits, rest) = role_begun R d is_running passed in
      let s = step_there R d n (search rest) in
      let same : d ≡ c = sym (record_id R.records d r found.recorded) ∙ ap Hold.id one in
      record {
        n = n;
        clearance = r;
        row = row;
        reported = ap (λ d. kinds.Report d n true) same;
        recorded = ap (record_of R.records) (sym same) ∙ found.recorded;
        restoring = untag_is_restoring R good d r found.recorded (subst (λ (x : Record). is_running x.phase ≡ true) (same_Some was r (sym read ∙ found.recorded)) fits) row
            (subst (IsPresent R d) (same_Some s.row row (sym s.found ∙ found.step)) s.is_present) untags;
        found = ap (λ d. step_at (present_steps R.steps d) n) (sym same) ∙ found.step;
        untags = untags;
        there = ap Hold.place one;
      }

  taken_leaves : (kind : Kind) → Pass (checks k R by at kind) → (h : Hold) → HoldTaken R kind h → (is_hold h c Tag p ≡ false) ⊎ IsUntag R c p (asked by at kind)
  taken_leaves kind passed h (off_work off) = inl (off_points c Tag p refl h off)
  taken_leaves _ passed _ (off_by_step d n r row of found takes_it) = by_hold (is_hold (hold_of r.id of row.step.point) c Tag p) refl
    where
      by_hold : (b : Bool) → is_hold (hold_of r.id of row.step.point) c Tag p ≡ b
          → (is_hold (hold_of r.id of row.step.point) c Tag p ≡ false) ⊎ IsUntag R c p (asked by at (kinds.Report d n true))
      by_hold false differs = inl differs
      by_hold true is =
          let one : hold_of r.id of row.step.point ≡ hold_of c Tag p = same_hold _ _ (equal (hold_cmp (hold_of r.id of row.step.point) (hold_of c Tag p)) is) in
          let tags : of ≡ Tag = ap Hold.kind one in
          inr (untag_here d n r row found passed (untag_is row.step.action (ap (takes row.step.action) (sym tags) ∙ takes_it)) (ap (λ of. hold_of r.id of row.step.point) (sym tags) ∙ one))

  edit_leaves : (kind : Kind) → Pass (checks k R by at kind) → (edit : Edit) → IsEditOf k R by at kind edit → Leaves c Tag p edit ⊎ IsUntag R c p (asked by at kind)
  edit_leaves kind passed (TakeHold h) is = taken_leaves kind passed h is.1
  edit_leaves kind passed _ is = inl tt

  leaves_or_untags : (kind : Kind) → Pass (checks k R by at kind) → AllLeave c Tag p (edits_of k.greatest R by at kind) ⊎ IsUntag R c p (asked by at kind)
  leaves_or_untags kind passed = each_or k R by at kind (Leaves c Tag p) (IsUntag R c p (asked by at kind)) (edit_leaves kind passed) (edits_of k.greatest R by at kind)
      (edits_of_accepted k R by at kind passed)

pub tags_are_untagged : TagsAreUntagged
tags_are_untagged R q c p good has gone = at (refusal_of R q) refl gone
  where
    at : (refused : Option Refusal) → refusal_of R q ≡ refused
        → has_hold (Register.holds (after_edits (Answer.edits (answer_by_checks (known_of R q) R q refused)) R)) c Tag p ≡ false → IsUntag R c p q
    at None passed gone =
        let edits = edits_of (known_of R q).greatest R q.caller q.moment q.kind in
        ⊎_elim (λ leave. absurd (both_ways (has_hold (Register.holds (after_edits edits R)) c Tag p) gone (left_by_all c Tag p edits R leave has))) (λ h. h)
        (leaves_or_untags R (to_phases R good) c p (known_of R q) q.caller q.moment q.kind (all_pass (checks (known_of R q) R q.caller q.moment q.kind) passed))
    at (Some refusal) is gone = absurd (both_ways (has_hold (Register.holds (after_edits [] R)) c Tag p) gone (left_by_all c Tag p [] R tt has))
