-- What commands alone keep of closed records too: known work sections, steps at known points, switch orders of operators, and holders in their roles.
use Rattle.std.proofs.Common.{◌≡◌, ◌∙◌, ℕ, Bool, true, false, IsTrue, List, [], ◌∷◌, Option, Some, None, Contains, refl, sym, ap, subst, ⊎_elim}
use Rattle.clr_rules.proofs.Common.{All-contains, All-from_each, All-nil, All-weaker, AreAtPoints, Answer, Grid, IsGood, Kind, SectionRow, PointRow, StaffRow, Task, answer_by_checks, checks, false≢true}
use Rattle.clr_rules.proofs.Common.{edits_of, has_name, has_name-row, is_known_work, is_open, is_operators, is_switch_order, kept_there, known_of, member-row_of, new_steps, one_id}
use Rattle.clr_rules.proofs.Common.{opening, point_names, put_steps, record_id, refusal_of, section_names}
use Rattle.clr_rules.specs.Changes.{new_record}
use Rattle.clr_rules.specs.Checks.{employee, has_role, is_charge, is_operator}
use Rattle.clr_rules.specs.Commands.{Known}
use Rattle.clr_rules.specs.Good.{IsGoodThroughout}
use Rattle.clr_rules.specs.Prelude.{Edit, PutRecord, Command, Ordered, Restoring, Switching, Record, Refusal, StepRow, Id, same_id, id_cmp, id_cmp_total, Register, record_key, record_of, UnknownSection}
use Rattle.clr_rules.specs.Prelude.{steps_of, after_edits}
use Rattle.clr_rules.specs.Run.{IsReached, after, after_all}
use Rattle.clr_rules.specs.Staffed.{IsStaffedThroughout, fits_holder}
use Rattle.clr_rules.specs.laws.Runs.{HasGrown}
use Rattle.clr_rules.specs.declared.command.Kind.TheVariants as kinds
use Rattle.clr_rules.proofs.edits.Additions.{network_grows}
use Rattle.clr_rules.proofs.edits.EditedLists.{edited_all-staff}
use Rattle.clr_rules.proofs.edits.NewRounds.{others_stay, put_all, round_put, with_round}
use Rattle.clr_rules.proofs.edits.Passing.{Pass, all_pass, not_refused_true}
use Rattle.clr_rules.proofs.edits.PutRecords.{put_read}
use Rattle.clr_rules.proofs.edits.PutRows.{AllPutSuch, AnyStep, by_record, record_after}
use Rattle.clr_rules.proofs.edits.Shapes.{GivesRound, RecordPut, StepPut, edits_of_accepted, puts_such}
use Rattle.clr_rules.proofs.edits.Shapes.GivesRound.{order, restore, switch}
use Rattle.clr_rules.proofs.edits.Shapes.RecordPut.{requested, switched, written}
use Rattle.clr_rules.proofs.edits.Shapes.StepPut.{given, moved}
use Rattle.clr_rules.proofs.good.GoodToPhases.{to_phases}
use Rattle.clr_rules.proofs.good.Opening.{no_record, opening_is_good}
use Rattle.clr_rules.proofs.keeps.EveryKind.{commands_keep_good}
use Rattle.clr_rules.proofs.keeps.Request.{caller_role, charge_operates_not}
use Rattle.clr_rules.proofs.lists.FoundSteps.{present_step}
use Rattle.clr_rules.proofs.lists.NamedRows.{row_named}
use Rattle.clr_rules.proofs.lists.RoundSteps.{among_own}
use Rattle.clr_rules.proofs.staffed.EveryKind.{commands_keep_staffed, opening_staffed}
use Rattle.clr_rules.proofs.staffed.Puts.{each_record_says, each_step_says}
use Rattle.clr_rules.proofs.staffed.PutPeople.{PutWell, StepPutWell, put_well}

-- ---- names stay known in a network that grows

section_stays : (g h : Grid) → HasGrown g h → (s : List ℕ) → has_name (section_names g.sections) s ≡ true → has_name (section_names h.sections) s ≡ true
section_stays g h grown s known =
    let (row, there, named) = row_named (λ (row : SectionRow). row.name) g.sections s known in
    ap (has_name (section_names h.sections)) named ∙ has_name-row (λ (row : SectionRow). row.name) h.sections row (grown.sections_stay row there)

point_stays : (g h : Grid) → HasGrown g h → (s : List ℕ) → has_name (point_names g.points) s ≡ true → has_name (point_names h.points) s ≡ true
point_stays g h grown s known =
    let (row, there, named) = row_named (λ (p : PointRow). p.name) g.points s known in
    ap (has_name (point_names h.points)) named ∙ has_name-row (λ (p : PointRow). p.name) h.points row (grown.points_stay row there)

work_stays : (g h : Grid) → HasGrown g h → (work : Option (List ℕ)) → is_known_work (section_names g.sections) work ≡ true → is_known_work (section_names h.sections) work ≡ true
work_stays g h grown None known = refl
work_stays g h grown (Some work) known = section_stays g h grown work known

kept_in_steps : (steps : List StepRow) (c : Id) (row : StepRow) → Contains (steps_of steps c) row → Contains steps row
unfolding steps_of
kept_in_steps steps c row among = (kept_there (λ (row : StepRow). same_id c row.id) steps row among).0

-- ---- records that are put

abbrev HasKnownWork : Register → Record → Type 0
HasKnownWork R s = is_known_work (section_names (Grid.sections R.net)) s.work ≡ true

abbrev PutFits : Register → Record → Type 0
PutFits R s = HasKnownWork R s × (is_switch_order s ≡ is_operators R s.id.requester)

module _ (R : Register) (throughout : IsGoodThroughout R) where
  fits_before : (c : Id) (r : Record) → record_of R.records c ≡ Some r → PutFits R r
  fits_before c r found = (
    All-contains (HasKnownWork R) R.records r throughout.work_known (member-row_of id_cmp record_key id_cmp_total c r R.records found).0,
    throughout.without_work c r found ∙ ap (λ (d : Id). is_operators R d.requester) (sym (record_id R.records c r found)),
  )

  module _ (k : Known) (by : List ℕ) (at : ℕ) where
    record_fits : (kind : Kind) → Pass (checks k R by at kind) → (s : Record) → RecordPut k R by at kind s → PutFits R s
    record_fits _ passed _ (requested section) =
        let (row, found, charge) = caller_role R by is_charge (search passed) (search passed) in (
          not_refused_true (has_name (section_names (Grid.sections R.net)) section) UnknownSection (search passed),
          sym (ap (has_role is_operator) found ∙ charge_operates_not row.role charge),
        )
    record_fits _ passed _ (switched tasks) = let (row, found, operates) = caller_role R by is_operator (search passed) (search passed) in (refl, sym (ap (has_role is_operator) found ∙ operates))
    record_fits kind passed _ (written c r named no_show found held comes) = fits_before c r found

    -- WHERE NO CHECK APPLIES, the records that a command puts
    put_fits : (kind : Kind) → Pass (checks k R by at kind) → AllPutSuch (PutFits R) AnyStep (edits_of k.greatest R by at kind)
    put_fits kind passed = puts_such k R by at kind (PutFits R) AnyStep (record_fits kind passed) (λ row put. tt) (edits_of k.greatest R by at kind) (edits_of_accepted k R by at kind passed)

  -- ---- steps that are put

  -- whether a command gives a round of steps
  abbrev gives_round : Kind → Bool
  gives_round (kinds.Order c points tasks) = true
  gives_round (kinds.Restore c tasks) = true
  gives_round (kinds.Switch tasks) = true
  gives_round _ = false

  round_is_given : (k : Known) (by : List ℕ) (kind : Kind) (c : Id) (round : ℕ) (tasks : List Task) → GivesRound k by kind c round tasks → gives_round kind ≡ true
  round_is_given k by _ _ _ _ (order c points tasks) = refl
  round_is_given k by _ _ _ _ (restore c tasks) = refl
  round_is_given k by _ _ _ _ (switch tasks) = refl

  abbrev IsAtPoint : StepRow → Type 0
  IsAtPoint row = has_name (point_names (Grid.points R.net)) row.step.point ≡ true

  -- those of a new round are at points, since the record is open
  round_at_points : (s : Record) (round : ℕ) (tasks : List Task) → is_open s.phase ≡ true → IsGood (with_round R s round tasks) → AreAtPoints R.net (put_all (new_steps s.id round 1 tasks) R.steps)
  round_at_points s round tasks unclosed good = All-from_each IsAtPoint (put_all (new_steps s.id round 1 tasks) R.steps) (λ row there. at row there (same_id row.id s.id) refl)
    where
      rows : List StepRow
      rows = put_all (new_steps s.id round 1 tasks) R.steps

      own : AreAtPoints R.net (steps_of (put_all (new_steps s.id round 1 tasks) R.steps) s.id)
      own = good.besides.points_known.steps s.id s (put_read R (to_phases R throughout.good) s.id s refl) unclosed

      at : (row : StepRow) → Contains (put_all (new_steps s.id round 1 tasks) R.steps) row → (b : Bool) → same_id row.id s.id ≡ b → IsAtPoint row
      at row there true is = All-contains IsAtPoint (steps_of rows s.id) row own (subst (λ (d : Id). Contains (steps_of rows d) row) (one_id row.id s.id is) (among_own rows row there))
      at row there false differs = All-contains IsAtPoint R.steps row throughout.steps_known (kept_in_steps R.steps row.id row
          (subst (λ (steps : List StepRow). Contains steps row) (others_stay s.id round row.id differs 1 tasks R.steps throughout.good.said.in_order.steps) (among_own rows row there)))

  abbrev KeepsPoints : List Edit → Type 0
  KeepsPoints edits = IsGood (after_edits edits R) → AreAtPoints R.net (Register.steps (after_edits edits R))

  nothing_kept : KeepsPoints []
  unfolding after_edits
  nothing_kept good = throughout.steps_known

  round_kept : (s : Record) (round : ℕ) (tasks : List Task) → is_open s.phase ≡ true → KeepsPoints (PutRecord s ∷ put_steps (new_steps s.id round 1 tasks))
  round_kept s round tasks unclosed good = subst (λ (S : Register). AreAtPoints R.net S.steps) (sym (round_put R s round tasks))
      (round_at_points s round tasks unclosed (subst IsGood (round_put R s round tasks) good))

  round_kept_of : (c : Id) (s : Record) (round : ℕ) (tasks : List Task) → s.id ≡ c → is_open s.phase ≡ true → KeepsPoints (PutRecord s ∷ put_steps (new_steps c round 1 tasks))
  round_kept_of c s round tasks own unclosed =
      subst (λ (d : Id). KeepsPoints (PutRecord s ∷ put_steps (new_steps d round 1 tasks))) own (round_kept s round tasks unclosed)

  abbrev AnyRecord : Record → Type 0
  AnyRecord s = Unit {0}

  module _ (k : Known) (by : List ℕ) (at : ℕ) where
    by_rows : (edits : List Edit) → AllPutSuch AnyRecord IsAtPoint edits → KeepsPoints edits
    by_rows edits such good = each_step_says AnyRecord IsAtPoint IsAtPoint (λ row is. is) edits R such throughout.steps_known

    -- the others put a step again at its point
    again_at_point : (kind : Kind) → gives_round kind ≡ false → (row : StepRow) → StepPut k R by kind row → IsAtPoint row
    again_at_point kind none _ (given c round tasks gives n t there few) = absurd (false≢true (sym none ∙ round_is_given k by kind c round tasks gives))
    again_at_point kind none _ (moved c n r row found moves) = All-contains IsAtPoint R.steps row throughout.steps_known (present_step R.steps c n row found.step).there

    keeps_points : (kind : Kind) → Pass (checks k R by at kind) → KeepsPoints (edits_of k.greatest R by at kind)
    keeps_points (kinds.Order c points tasks) passed = by_record KeepsPoints nothing_kept R c _ (λ r found.
        round_kept_of c (record r { phase = Ordered; last = at }) 1 tasks (record_id R.records c r found) refl)
    keeps_points (kinds.Restore c tasks) passed = by_record KeepsPoints nothing_kept R c _ (λ r found.
        round_kept_of c (record r { phase = Restoring; last = at }) 2 tasks (record_id R.records c r found) refl)
    keeps_points (kinds.Switch tasks) passed = round_kept (new_record k.greatest by at None Switching) 1 tasks refl
    keeps_points kind passed = by_rows _ (puts_such k R by at kind AnyRecord IsAtPoint (λ s put. tt) (again_at_point kind refl) (edits_of k.greatest R by at kind)
        (edits_of_accepted k R by at kind passed))

-- ---- every command

module _ (R : Register) (q : Command) (throughout : IsGoodThroughout R) (passed : refusal_of R q ≡ None) where
  abbrev k : Known
  k = known_of R q

  abbrev edits : List Edit
  edits = edits_of k.greatest R q.caller q.moment q.kind

  abbrev S : Register
  S = after_edits edits R

  passes : Pass (checks k R q.caller q.moment q.kind)
  passes = all_pass (checks k R q.caller q.moment q.kind) passed

  is_after : after R q ≡ S
  is_after = ap (λ found. after_edits (Answer.edits (answer_by_checks k R q found)) R) passed

  good_after : IsGood S
  good_after = subst IsGood is_after (commands_keep_good R q throughout.good)

  grown : HasGrown R.net (Register.net S)
  grown = subst (λ (T : Register). HasGrown R.net T.net) is_after (network_grows R q throughout.good)

  same_staff : Register.staff S ≡ R.staff
  same_staff = edited_all-staff R edits

  by_staff : (name : List ℕ) → is_operators S name ≡ is_operators R name
  by_staff name = ap (λ (staff : List StaffRow). has_role is_operator (employee staff name)) same_staff

  such : AllPutSuch (PutFits R) AnyStep edits
  such = put_fits R throughout k q.caller q.moment q.kind passes

  throughout_after : IsGoodThroughout S
  throughout_after = record {
    good = good_after;
    work_known = All-weaker (HasKnownWork R) (HasKnownWork S) (λ s known. work_stays R.net (Register.net S) grown s.work known) (Register.records S)
        (each_record_says (PutFits R) AnyStep (HasKnownWork R) (λ s put. put.0) edits R such throughout.work_known);
    steps_known = All-weaker (λ (row : StepRow). IsTrue (has_name (point_names (Grid.points R.net)) row.step.point))
        (λ (row : StepRow). IsTrue (has_name (point_names (Grid.points (Register.net S))) row.step.point))
        (λ row known. point_stays R.net (Register.net S) grown row.step.point known) (Register.steps S)
        (keeps_points R throughout k q.caller q.moment q.kind passes good_after);
    without_work = λ c s read. ⊎_elim (λ before. throughout.without_work c s before)
        (λ (put : PutFits R s). put.1 ∙ ap (λ (d : Id). is_operators R d.requester) (record_id (Register.records S) c s read))
        (record_after (PutFits R) AnyStep edits R c s such read) ∙ sym (by_staff c.requester);
  }

unchanged : (R : Register) → IsGoodThroughout R → IsGoodThroughout (after_edits [] R)
unfolding after_edits
unchanged R throughout = throughout

pub commands_keep_throughout : (R : Register) (q : Command) → IsGoodThroughout R → IsGoodThroughout (after R q)
commands_keep_throughout R q throughout = at (refusal_of R q) refl
  where
    at : (found : Option Refusal) → refusal_of R q ≡ found → IsGoodThroughout (after_edits (Answer.edits (answer_by_checks (known_of R q) R q found)) R)
    at None passed = throughout_after R q throughout passed
    at (Some refusal) is = unchanged R throughout

-- ---- holders

module _ (R : Register) (q : Command) (good : IsGood R) (throughout : IsStaffedThroughout R) (passed : refusal_of R q ≡ None) where
  abbrev made : List Edit
  made = edits_of (known_of R q).greatest R q.caller q.moment q.kind

  put_people : AllPutSuch (PutWell R q.kind) (StepPutWell R q.kind) made
  put_people = put_well R throughout.staffed (to_phases R good) (known_of R q) q.caller q.moment q.kind (all_pass (checks (known_of R q) R q.caller q.moment q.kind) passed)

  holders_after : (c : Id) (s : Record) → record_of (Register.records (after_edits made R)) c ≡ Some s
      → has_role (fits_holder s.work) (employee (Register.staff (after_edits made R)) s.holder) ≡ true
  holders_after c s read = subst (λ (staff : List StaffRow). has_role (fits_holder s.work) (employee staff s.holder) ≡ true) (sym (edited_all-staff R made))
      (⊎_elim (λ before. throughout.holders c s before) (λ (put : PutWell R q.kind s). put.0)
      (record_after (PutWell R q.kind) (StepPutWell R q.kind) made R c s put_people read))

-- the holders of all records have their role
abbrev Holders : Register → Type 0
Holders T = (c : Id) (s : Record) → record_of T.records c ≡ Some s → has_role (fits_holder s.work) (employee T.staff s.holder) ≡ true

holders_unchanged : (R : Register) → Holders R → Holders (after_edits [] R)
unfolding after_edits
holders_unchanged R holders = holders

pub commands_keep_staffed_throughout : (R : Register) (q : Command) → IsGood R → IsStaffedThroughout R → IsStaffedThroughout (after R q)
commands_keep_staffed_throughout R q good throughout = record {
  staffed = commands_keep_staffed R q good throughout.staffed;
  holders = at (refusal_of R q) refl;
}
  where
    at : (found : Option Refusal) → refusal_of R q ≡ found → Holders (after_edits (Answer.edits (answer_by_checks (known_of R q) R q found)) R)
    at None passed = holders_after R q good throughout passed
    at (Some refusal) is = holders_unchanged R throughout.holders

-- ---- and reached registers

opening_throughout : (g : Grid) (staff : List StaffRow) → IsGood (opening g staff) → IsGoodThroughout (opening g staff)
opening_throughout g staff good = record {
  good = good;
  work_known = All-nil (HasKnownWork (opening g staff));
  steps_known = All-nil (λ (row : StepRow). IsTrue (has_name (point_names (Grid.points (Register.net (opening g staff)))) row.step.point));
  without_work = λ c r found. absurd (no_record c r found);
}

runs_keep_throughout : (R : Register) (commands : List Command) → IsGoodThroughout R → IsGoodThroughout (after_all R commands)
unfolding after_all
runs_keep_throughout R [] throughout = throughout
runs_keep_throughout R (q ∷ commands) throughout = runs_keep_throughout (after R q) commands (commands_keep_throughout R q throughout)

pub reached_are_good_throughout : (R : Register) → IsReached R → IsGoodThroughout R
reached_are_good_throughout R run = subst IsGoodThroughout (sym run.reached)
    (runs_keep_throughout (opening run.net run.staff) run.commands (opening_throughout run.net run.staff (opening_is_good run.net run.staff run.is_network run.is_staff)))

runs_keep_staffed_throughout : (R : Register) (commands : List Command) → IsGood R → IsStaffedThroughout R → IsStaffedThroughout (after_all R commands)
unfolding after_all
runs_keep_staffed_throughout R [] good throughout = throughout
runs_keep_staffed_throughout R (q ∷ commands) good throughout =
    runs_keep_staffed_throughout (after R q) commands (commands_keep_good R q good) (commands_keep_staffed_throughout R q good throughout)

pub reached_are_staffed_throughout : (R : Register) → IsReached R → IsStaffedThroughout R
reached_are_staffed_throughout R run = subst IsStaffedThroughout (sym run.reached)
    (runs_keep_staffed_throughout (opening run.net run.staff) run.commands (opening_is_good run.net run.staff run.is_network run.is_staff)
    (record { staffed = opening_staffed run.net run.staff; holders = λ c r found. absurd (no_record c r found) }))
