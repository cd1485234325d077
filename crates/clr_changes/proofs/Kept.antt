-- What an archive takes and what it leaves: the steps of closed records go, and all else stays.
use Rattle.std.proofs.Common.{◌≡◌, ◌∙◌, ◌⊎◌, inl, inr, ℕ, Bool, true, false, not, nat_lt, if◌then◌else◌, List, [], Option, Some, None, Contains, refl, sym, ap, arith, ◌∷◌}
use Rattle.clr_rules.proofs.isolation.ClosedSteps.{own_same, steps_stay}
use Rattle.clr_rules.proofs.isolation.GivenUp.{closed_steps_may_go}
use Rattle.clr_rules.proofs.lists.RoundSteps.{among_own, some_step_there}
use Rattle.clr_rules.proofs.near.OwnQuestions.{same_round}
use Rattle.clr_rules.specs.Fences.{clearance_fence, found_fence, record_fence, work_fence}
use Rattle.clr_rules.specs.Isolation.{LeftAlone}
use Rattle.clr_rules.specs.Prelude.{points_of}
use Rattle.clr_changes.proofs.ArchiveCommon.{AreClosed, Closed, Contains-filter, Id, IsGood, Phase, Record, Register, StepRow, All-weaker, and_from, and_parts, archived, both_ways, false≢true, false_from_ne_true}
use Rattle.clr_changes.proofs.ArchiveCommon.{filter_passes, gives_up, id_cmp, id_cmp_total, is_closed, is_fenced, is_open, is_past, is_past_record, is_printed, is_some_step, member-row_of, no_step_of, not-true}
use Rattle.clr_changes.proofs.ArchiveCommon.{one_id, printed_records, record_id, record_key, record_of, same_Some, same_id, steps_of}
use Rattle.clr_changes.specs.ArchiveLaws.{ArchivesKeepGood, ArchivesTakeClosedSteps, NoStepIsLost}
use Rattle.clr_rules.specs.declared.hold_kind.HoldKind.TheVariants.{HeldOpen}

-- ---- which records give up their steps

-- the record of a clearance that does
pub given_up_by : (before : ℕ) (R : Register) (c : Id) → gives_up before R c ≡ true → (r : Record) × (record_of R.records c ≡ Some r) × (is_past before r ≡ true)
given_up_by before R c = at (record_of R.records c) refl
  where
    at : (o : Option Record) → record_of R.records c ≡ o → is_past_record before o ≡ true → (r : Record) × (record_of R.records c ≡ Some r) × (is_past before r ≡ true)
    at None read is = absurd (false≢true is)
    at (Some r) read is = (r, read, is)

pub are_closed : (before : ℕ) (R : Register) → AreClosed (gives_up before R) R
are_closed before R c is =
    let (r, read, past) = given_up_by before R c is in
    (r, read, (and_parts (is_closed r.phase) (nat_lt r.last before) past).0)

pub archives_keep_good : ArchivesKeepGood
archives_keep_good = record {
  good = λ before R good. closed_steps_may_go.good (gives_up before R) R good (are_closed before R);
  staffed = λ before R staffed. closed_steps_may_go.staffed (gives_up before R) R staffed (are_closed before R);
}

pub closed_not_open : (phase : Phase) → is_closed phase ≡ true → is_open phase ≡ true → ⊥
closed_not_open Closed closed unclosed = false≢true unclosed
closed_not_open _ closed unclosed = false≢true closed

closed_unfenced : (phase : Phase) → is_closed phase ≡ true → is_fenced phase ≡ false
closed_unfenced Closed is = refl
closed_unfenced _ is = absurd (false≢true is)

-- no open record
pub open_keeps : (before : ℕ) (R : Register) (c : Id) (r : Record) → record_of R.records c ≡ Some r → is_open r.phase ≡ true → gives_up before R c ≡ false
open_keeps before R c r found unclosed = false_from_ne_true (gives_up before R c) (λ is.
    let (s, read, over) = are_closed before R c is in
    closed_not_open r.phase (ap (λ (x : Record). is_closed x.phase) (sym (same_Some s r (sym read ∙ found))) ∙ over) unclosed)

-- ---- the steps that go, and fences

module _ (before : ℕ) (R : Register) where
  abbrev W : Register
  W = archived before R

  pub none_left : (c : Id) → gives_up before R c ≡ true → steps_of (Register.steps (archived before R)) c ≡ []
  none_left c is = no_step_of (Register.steps W) c
      (All-weaker (λ (row : StepRow). not (gives_up before R row.id) ≡ true) (λ (row : StepRow). same_id c row.id ≡ false)
      (λ row kept. false_from_ne_true (same_id c row.id) (λ same.
      both_ways (gives_up before R row.id) (not-true (gives_up before R row.id) kept) (ap (gives_up before R) (sym (one_id c row.id same)) ∙ is)))
      (Register.steps W) (filter_passes (λ (row : StepRow). not (gives_up before R row.id)) R.steps))

  same_record_fence : (c : Id) (r : Record) → record_of R.records c ≡ Some r → (b : Bool) → gives_up before R r.id ≡ b
      → record_fence R.net (Register.steps (archived before R)) r ≡ record_fence R.net R.steps r
  same_record_fence c r found true is =
      let (s, read, over) = are_closed before R c (ap (gives_up before R) (sym (record_id R.records c r found)) ∙ is) in
      let one : s ≡ r = same_Some s r (sym read ∙ found) in
      let unfenced : is_fenced r.phase ≡ false = closed_unfenced r.phase (ap (λ (x : Record). is_closed x.phase) (sym one) ∙ over) in
      rw unfenced refl
  same_record_fence c r found false kept =
      ap (λ (rows : List StepRow). if is_fenced r.phase then work_fence R.net r.work (points_of rows) else []) (sym (same_round r.id R W (own_same (gives_up before R) R r.id kept) 1))

  pub same_fence : (c : Id) → clearance_fence (archived before R) c ≡ clearance_fence R c
  same_fence c = at (record_of R.records c) refl
    where
      at : (o : Option Record) → record_of R.records c ≡ o → found_fence R.net (Register.steps (archived before R)) o ≡ found_fence R.net R.steps o
      at None read = refl
      at (Some r) read = same_record_fence c r read (gives_up before R r.id) refl

left_alone : (before : ℕ) (R : Register) (c : Id) → IsGood R → gives_up before R c ≡ false → LeftAlone c R (archived before R)
left_alone before R c good kept = record {
  frame = record {
    same_record = refl;
    same_steps = sym (steps_stay (gives_up before R) R.steps c kept);
    same_holds = refl;
    hands_stay = λ p held. held;
    closes_nothing = λ p held opened. opened;
  };
  held_open = λ p held. good.said.held_points_are_open.open_there c HeldOpen p refl held;
  same_fence = same_fence before R c;
}

pub archives_take_closed_steps : ArchivesTakeClosedSteps
archives_take_closed_steps = record {
  keeps_open = open_keeps;
  left = left_alone;
  gone = none_left;
  fences = same_fence;
}

-- ---- none is lost

-- where there is a row there is some
some_there : (rows : List StepRow) (row : StepRow) → Contains rows row → is_some_step rows ≡ true
some_there [] row (k, within, here) = absurd (omega arith)
some_there (first ∷ rows) row there = some_step_there first rows

pub no_step_is_lost : NoStepIsLost
no_step_is_lost before R row there = at (gives_up before R row.id) refl
  where
    at : (b : Bool) → gives_up before R row.id ≡ b
        → Contains (Register.steps (archived before R)) row ⊎ ((r : Record) × Contains (printed_records before R) r × Contains (steps_of R.steps r.id) row)
    at false kept = inl (Contains-filter (λ (x : StepRow). not (gives_up before R x.id)) R.steps row there (ap not kept))
    at true is =
        let (r, read, past) = given_up_by before R row.id is in
        let own : Contains (steps_of R.steps r.id) row = rw (record_id R.records row.id r read) (among_own R.steps row there) in
        inr (
          r,
          Contains-filter (is_printed before R) R.records r (member-row_of id_cmp record_key id_cmp_total row.id r R.records read).0
              (and_from (is_past before r) (is_some_step (steps_of R.steps r.id)) past (some_there (steps_of R.steps r.id) row own)),
          own,
        )
