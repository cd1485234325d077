-- Which records, steps and holds each command puts, by who asks for it.
use Rattle.std.proofs.Common.{◌≡◌, ℕ, ◌<◌, Bool, true, false, not, ◌&&◌, ◌||◌, List, length, Option, Some, None, refl, sym, ◌∙◌, ap, subst, ◌⊎◌, inl, inr}
use Rattle.std.proofs.lemmas.Bool.{and_parts, both_ways, false≢true, false_from_ne_true}
use Rattle.clr_net.specs.Grid.{Grid}
use Rattle.clr_net.specs.Name.{same_name}
use Rattle.clr_order.specs.Step.{Task}
use Rattle.clr_order.specs.declared.action.Action.{Action}
use Rattle.clr_order.specs.declared.step.StepState.{StepState}
use Rattle.clr_shelf.proofs.Keys.{equal}
use Rattle.clr_staff.specs.declared.employee.Role.{Role}
use Rattle.clr_staff.specs.declared.employee.StaffRow.{StaffRow}
use Rattle.clr_rules.specs.Checks.{employee, has_role, is_charge, is_field, is_in_charge, is_operator, refuse, unknown_caller, wrong_role}
use Rattle.clr_rules.specs.Command.{named_clearance}
use Rattle.clr_rules.specs.Commands.{Known, checks, edits_of}
use Rattle.clr_rules.specs.GoodByPhase.{InPhase, IsGoodByPhase, Outlook, outlook_of}
use Rattle.clr_rules.specs.Hold.{same_hold}
use Rattle.clr_rules.specs.laws.Edits.{is_hold}
use Rattle.clr_rules.specs.Prelude.{Edit, PutHold, TakeHold, Kind, Hold, HoldKind, HeldOpen, Phase, Requested, Ordered, Granted, Record, StepRow, Id, same_id, Register}
use Rattle.clr_rules.specs.Prelude.{record_of, is_running, is_restoring, is_active, is_done, is_waiting, is_point_kind, present_steps, step_at, hold_cmp, hold_of}
use Rattle.clr_rules.specs.Records.{is_transferable}
use Rattle.clr_rules.specs.Staffed.{IsStaffed, fits_holder, has_some_role}
use Rattle.clr_rules.specs.Steps.{is_close}
use Rattle.clr_rules.specs.declared.command.Kind.TheVariants as kinds
use Rattle.clr_rules.specs.declared.refusal.Refusal.TheVariants.{BadTransfer, StepState as WrongState}
use Rattle.clr_rules.proofs.edits.Passing.{Pass, check_of_found, is_show, named_is_open, not_refused, not_refused_true, phase_fits, role_begun}
use Rattle.clr_rules.proofs.edits.PutRows.{AllLeave, AllPutSuch, Leaves}
use Rattle.clr_rules.proofs.edits.Shapes.{ComesTo, GivesRound, HoldPut, HoldTaken, IsEditOf, IsHeldBy, Moves, RecordPut, StepPut, each_is, each_or, edits_of_accepted, off_points, puts_such}
use Rattle.clr_rules.proofs.edits.Shapes.ComesTo.{restored, stays}
use Rattle.clr_rules.proofs.edits.Shapes.GivesRound.{order, restore, switch}
use Rattle.clr_rules.proofs.edits.Shapes.HoldPut.{at_work, by_step_done}
use Rattle.clr_rules.proofs.edits.Shapes.HoldTaken.{off_by_step, off_work}
use Rattle.clr_rules.proofs.edits.Shapes.IsHeldBy.{handed_on, same}
use Rattle.clr_rules.proofs.edits.Shapes.Moves.{amended, done}
use Rattle.clr_rules.proofs.edits.Shapes.RecordPut.{requested, switched, written}
use Rattle.clr_rules.proofs.edits.Shapes.StepPut.{given, moved}
use Rattle.clr_rules.proofs.good.PutHolds.{found_there}
use Rattle.clr_rules.proofs.keeps.OneRecord.{in_phase_of}
use Rattle.clr_rules.proofs.keeps.Request.{caller_role}
use Rattle.clr_rules.proofs.keeps.Restore.{restoring_passed}
use Rattle.clr_rules.proofs.lists.FoundSteps.{present_rounds, present_step}
use Rattle.clr_rules.proofs.lists.RoundSteps.{one_id, own_id, record_id}
use Rattle.clr_rules.proofs.lists.StepSplits.{waiting_not_done}
use Rattle.clr_rules.proofs.staffed.Puts.{AllPutBy, PutsBy, finds, some_there}

-- a Restoring record that is put was Restoring, or it is restored by steps
abbrev pub CameRestoring : Register → Kind → Record → Type 0
CameRestoring R kind s = ((r : Record) × (record_of R.records s.id ≡ Some r) × (is_restoring r.phase ≡ true))
    ⊎ ((tasks : List Task) × (kind ≡ kinds.Restore s.id tasks) × (0 < length tasks))

abbrev pub PutWell : Register → Kind → Record → Type 0
PutWell R kind s = (has_role (fits_holder s.work) (employee R.staff s.holder) ≡ true) × (is_restoring s.phase ≡ true → CameRestoring R kind s)

abbrev pub reports_done : Kind → Bool
reports_done (kinds.Report c n true) = true
reports_done _ = false

-- a step that is put has an operator, is not Done but by a report, and, while it is given out, is of the first round or the second
abbrev pub StepPutWell : Register → Kind → StepRow → Type 0
StepPutWell R kind row = (has_some_role R.staff is_operator ≡ true) × ((is_done row.step.state ≡ false) ⊎ (reports_done kind ≡ true))
    × (is_active row.step.state ≡ true → (row.round ≡ 1) ⊎ (row.round ≡ 2))

-- the role of a caller is one of the staff
pub caller_there : (R : Register) (by : List ℕ) (fits : Role → Bool) → unknown_caller R by ≡ None → wrong_role R by fits ≡ None → has_some_role R.staff fits ≡ true
caller_there R by fits known right =
    let (row, found, has) = caller_role R by fits known right in
    finds (λ (row : StaffRow). fits row.role) R.staff row (found_there (λ (row : StaffRow). same_name by row.name) R.staff row found) has

has_work : (g : Grid) (phase : Phase) (work : Option (List ℕ)) (v : Outlook) → is_transferable phase ≡ true → InPhase g phase work v → (w : List ℕ) × (work ≡ Some w)
has_work g phase (Some w) v fits h = (w, refl)
has_work g Requested None v fits h = absurd h
has_work g Ordered None v fits h = absurd h
has_work g Granted None v fits h = absurd h
has_work g _ None v fits h = absurd (false≢true fits)

not_or : (a b : Bool) → (not a || b) ≡ false → a ≡ true
not_or true b h = refl
not_or false b h = absurd (false≢true (sym h))

module _ (R : Register) (staffed : IsStaffed R) (good : IsGoodByPhase R) (k : Known) (by : List ℕ) (at : ℕ) where
  -- a record whose holder stays is open, or it is handed on to one in charge
  holder_fits : (c : Id) (r : Record) → record_of R.records c ≡ Some r → (kind : Kind) → named_clearance kind ≡ Some c → is_show kind ≡ false → Pass (checks k R by at kind)
      → (holder : List ℕ) → IsHeldBy c r kind holder → has_role (fits_holder r.work) (employee R.staff holder) ≡ true
  holder_fits c r found kind named no_show passed _ same = staffed.holders c r found (named_is_open k R by at kind no_show passed c named r found)
  holder_fits c r found _ named no_show passed _ (handed_on to emergency) =
      let (w, is) = has_work R.net r.phase r.work (outlook_of R c) (phase_fits R c r is_transferable found (search passed)) (in_phase_of R c r good found) in
      let charge = not_or (is_in_charge (employee R.staff to)) (same_name to r.holder)
      (not_refused (not (is_in_charge (employee R.staff to)) || same_name to r.holder) BadTransfer
      (check_of_found (record_of R.records c) r (λ (r : Record). refuse (not (is_in_charge (employee R.staff to)) || same_name to r.holder) BadTransfer) found (search passed))) in
      subst (λ (work : Option (List ℕ)). has_role (fits_holder work) (employee R.staff to) ≡ true) (sym is) charge

  came_restoring : (c : Id) (r : Record) (holder : List ℕ) → record_of R.records c ≡ Some r → (kind : Kind) → Pass (checks k R by at kind) → (phase : Phase) → ComesTo R c r kind phase
      → is_restoring phase ≡ true → CameRestoring R kind (record r { holder = holder; phase = phase; last = at })
  came_restoring c r holder found kind passed _ stays is = inl (r, ap (record_of R.records) (record_id R.records c r found) ∙ found, is)
  came_restoring c r holder found _ passed _ (restored tasks fits) is =
      inr (tasks, ap (λ (d : Id). kinds.Restore d tasks) (sym (record_id R.records c r found)), (restoring_passed R c tasks (search passed)).some_step)
  came_restoring c r holder found kind passed _ _ is = absurd (false≢true is)

  record_well : (kind : Kind) → Pass (checks k R by at kind) → (s : Record) → RecordPut k R by at kind s → PutWell R kind s
  record_well _ passed _ (requested section) =
      let (row, found, charge) = caller_role R by is_charge (search passed) (search passed) in
      (ap (has_role (fits_holder (Some section))) found ∙ charge, λ is. absurd (false≢true is))
  record_well _ passed _ (switched tasks) =
      let (row, found, operator) = caller_role R by is_operator (search passed) (search passed) in
      (ap (has_role (fits_holder None)) found ∙ operator, λ is. absurd (false≢true is))
  record_well kind passed _ (written c r {holder = holder} {phase = phase} named no_show found held comes) =
      (holder_fits c r found kind named no_show passed holder held, came_restoring c r holder found kind passed phase comes)

  -- a round is given by an operator
  round_operates : (kind : Kind) → Pass (checks k R by at kind) → (c : Id) (round : ℕ) (tasks : List Task) → GivesRound k by kind c round tasks → has_some_role R.staff is_operator ≡ true
  round_operates _ passed _ _ _ (order c points tasks) = caller_there R by is_operator (search passed) (search passed)
  round_operates _ passed _ _ _ (restore c tasks) = caller_there R by is_operator (search passed) (search passed)
  round_operates _ passed _ _ _ (switch tasks) = caller_there R by is_operator (search passed) (search passed)

  done_by_report : (c : Id) (n : ℕ) (row : StepRow) → step_at (present_steps R.steps c) n ≡ Some row → (kind : Kind) → Pass (checks k R by at kind)
      → (action : Action) (state : StepState) (reader : Option (List ℕ)) → Moves by c n row kind action state reader → (is_done state ≡ false) ⊎ (reports_done kind ≡ true)
  done_by_report c n row step _ passed _ _ _ done = inr refl
  done_by_report c n row step _ passed _ _ _ amended =
      let waits = not_refused_true (is_waiting row.step.state && is_close row.step.action) WrongState
      (check_of_found (step_at (present_steps R.steps c) n) row (λ (row : StepRow). refuse (not (is_waiting row.step.state && is_close row.step.action)) WrongState) step (search passed)) in
      inl (waiting_not_done row.step.state (and_parts (is_waiting row.step.state) (is_close row.step.action) waits).0)
  done_by_report c n row step _ passed _ _ _ _ = inl refl

  step_well : (kind : Kind) → Pass (checks k R by at kind) → (row : StepRow) → StepPut k R by kind row → StepPutWell R kind row
  step_well kind passed _ (given c round tasks gives n t there few) = (round_operates kind passed c round tasks gives, inl refl, λ is. absurd (false≢true is))
  step_well kind passed _ (moved c n r row {action = action} {state = state} {reader = reader} found moves) = (
    staffed.operators (some_there R.steps row (present_step R.steps c n row found.step).there),
    done_by_report c n row found.step kind passed action state reader moves,
    λ _. present_rounds R.steps c n row found.step,
  )

  -- WHERE NO CHECK APPLIES, what each command puts
  pub put_well : (kind : Kind) → Pass (checks k R by at kind) → AllPutSuch (PutWell R kind) (StepPutWell R kind) (edits_of k.greatest R by at kind)
  put_well kind passed = puts_such k R by at kind (PutWell R kind) (StepPutWell R kind) (record_well kind passed) (step_well kind passed) (edits_of k.greatest R by at kind)
      (edits_of_accepted k R by at kind passed)

-- ---- holds at points

-- only a report of an employee in the field puts a hold at a point
hold_put_by : (R : Register) (k : Known) (by : List ℕ) (at : ℕ) (kind : Kind) → Pass (checks k R by at kind) → (h : Hold) → HoldPut R kind h → is_point_kind h.kind ≡ true
    → has_some_role R.staff is_field ≡ true
hold_put_by R k by at kind passed _ (at_work c r of place found off named) at_point = absurd (both_ways (is_point_kind of) off at_point)
hold_put_by R k by at _ passed _ (by_step_done c n r row of found puts_it) at_point = caller_there R by is_field (search passed) (search passed)

edit_puts_by : (R : Register) (k : Known) (by : List ℕ) (at : ℕ) (kind : Kind) → Pass (checks k R by at kind) → (edit : Edit) → IsEditOf k R by at kind edit
    → PutsBy (has_some_role R.staff is_field ≡ true) edit
edit_puts_by R k by at kind passed (PutHold h) is = hold_put_by R k by at kind passed h is.1
edit_puts_by R k by at kind passed _ is = tt

pub holds_put : (R : Register) (k : Known) (by : List ℕ) (at : ℕ) (kind : Kind) → Pass (checks k R by at kind)
    → AllPutBy (has_some_role R.staff is_field ≡ true) (edits_of k.greatest R by at kind)
holds_put R k by at kind passed = each_is k R by at kind (PutsBy (has_some_role R.staff is_field ≡ true)) (edit_puts_by R k by at kind passed) (edits_of k.greatest R by at kind)
    (edits_of_accepted k R by at kind passed)

-- ---- points that are held open stay so

-- a report of a step of a clearance that is at work on it
pub record IsOwnReport (R : Register) (c : Id) (kind : Kind) : Type 0 where
  pub n : ℕ
  pub is : kind ≡ kinds.Report c n true
  pub clearance : Record
  pub recorded : record_of R.records c ≡ Some clearance
  pub runs : is_running clearance.phase ≡ true

module _ (R : Register) (c : Id) (p : List ℕ) where
  other_hold : (d : Id) (kind : HoldKind) (q : List ℕ) → same_id d c ≡ false → is_hold (hold_of d kind q) c HeldOpen p ≡ false
  other_hold d kind q differs = false_from_ne_true (is_hold (hold_of d kind q) c HeldOpen p) (λ is.
      both_ways (same_id d c) differs
      (ap (λ (h : Hold). same_id h.id c) (same_hold (hold_of d kind q) (hold_of c HeldOpen p) (equal (hold_cmp (hold_of d kind q) (hold_of c HeldOpen p)) is)) ∙ own_id c))

  taken_leaves : (k : Known) (by : List ℕ) (at : ℕ) (kind : Kind) → Pass (checks k R by at kind) → (h : Hold) → HoldTaken R kind h → (is_hold h c HeldOpen p ≡ false) ⊎ IsOwnReport R c kind
  taken_leaves k by at kind passed h (off_work off) = inl (off_points c HeldOpen p refl h off)
  taken_leaves k by at _ passed _ (off_by_step d n r row of found takes_it) =
      let (was, read, fits, _) = role_begun R d is_running passed in
      of_clearance was read fits (same_id d c) refl
    where
      of_clearance : (was : Record) → record_of R.records d ≡ Some was → is_running was.phase ≡ true → (b : Bool) → same_id d c ≡ b
          → (is_hold (hold_of r.id of row.step.point) c HeldOpen p ≡ false) ⊎ IsOwnReport R c (kinds.Report d n true)
      of_clearance was read fits true same_one = inr (record {
        n = n;
        is = ap (λ (e : Id). kinds.Report e n true) (one_id d c same_one);
        clearance = was;
        recorded = ap (record_of R.records) (sym (one_id d c same_one)) ∙ read;
        runs = fits;
      })
      of_clearance was read fits false differs = inl (other_hold r.id of row.step.point (ap (λ (e : Id). same_id e c) (record_id R.records d r found.recorded) ∙ differs))

  edit_leaves : (k : Known) (by : List ℕ) (at : ℕ) (kind : Kind) → Pass (checks k R by at kind) → (edit : Edit) → IsEditOf k R by at kind edit
      → Leaves c HeldOpen p edit ⊎ IsOwnReport R c kind
  edit_leaves k by at kind passed (TakeHold h) is = taken_leaves k by at kind passed h is.1
  edit_leaves k by at kind passed _ is = inl tt

  pub leaves_open : (k : Known) (by : List ℕ) (at : ℕ) (kind : Kind) → Pass (checks k R by at kind) → AllLeave c HeldOpen p (edits_of k.greatest R by at kind) ⊎ IsOwnReport R c kind
  leaves_open k by at kind passed = each_or k R by at kind (Leaves c HeldOpen p) (IsOwnReport R c kind) (edit_leaves k by at kind passed) (edits_of k.greatest R by at kind)
      (edits_of_accepted k R by at kind passed)
