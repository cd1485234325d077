-- THE SHAPE OF AN ACCEPTED COMMAND'S EDITS: which rows it puts or takes, whose they are, and from what phase. A law of each edit rests on it, so that commands are
-- taken apart by their kind here.
use Rattle.std.proofs.Common.{◌≡◌, ℕ, ◌+◌, ◌≤◌, Bool, true, false, cond, ◌&&◌, List, [], ◌∷◌, ◌++◌, length, map, Option, Some, None, Contains, refl, sym, ◌∙◌, ap, arith, ◌⊎◌, inl, inr, ⊎_elim}
use Rattle.clr_rules.proofs.Common.{AllByRecursion, Action, AddPoint, AddSection, Block, Closed, Contains-here, Contains-later, Control, Done, Edit, Granted, HeldOpen, Hold, HoldKind, Id, Kind, Known}
use Rattle.clr_rules.proofs.Common.{Ordered, Phase, PointRow, Position, PutHold, PutRecord, PutStep, Record, Register, Released, Requested, Restoring, SectionRow, SetHand, SetPosition, StepRow, StepState}
use Rattle.clr_rules.proofs.Common.{Switching, Tag, TakeHold, Task, Tested, Waiting, and_from, and_parts, both_ways, checks, edits_of, equal, false_from_ne_true, hold_cmp, hold_of, is_close, is_granted, is_point_kind, is_switch_order, list_all}
use Rattle.clr_rules.proofs.Common.{named_clearance, new_jumper, one_id, places_of, present_steps, put_steps, puts, record_id, record_of, step_at, step_moved}
use Rattle.clr_net.specs.declared.point.Position.TheVariants.{Opened, Closed as Shut}
use Rattle.clr_order.specs.declared.action.Action.TheVariants as actions
use Rattle.clr_order.specs.declared.step.StepState.TheVariants.{Instructed, Repeated}
use Rattle.clr_rules.specs.Answer.{reply_clearance}
use Rattle.clr_rules.specs.Checks.{not_attested}
use Rattle.clr_rules.specs.Command.{named_place}
use Rattle.clr_rules.specs.Changes.{done_edits, new_record, new_section, new_steps, phase_after, point_edits}
use Rattle.clr_rules.specs.Hold.{same_hold}
use Rattle.clr_rules.specs.Prelude.{all_done, has_any_hold, is_ordered, step_key, step_key_cmp, with_row}
use Rattle.clr_rules.specs.Records.{ends_with_steps, is_released, is_requested}
use Rattle.clr_rules.specs.laws.Edits.{is_hold}
use Rattle.clr_rules.specs.declared.command.Kind.TheVariants as kinds
use Rattle.clr_rules.proofs.edits.Passing.{Pass, is_show, phase_fits}
use Rattle.clr_rules.proofs.edits.PutRows.{AllPutSuch, by_added, by_record, by_step}
use Rattle.clr_rules.proofs.lists.FoundSteps.{present_step}

-- the clearance that a command is about
abbrev pub subject : Known → List ℕ → Kind → Id
subject k by kind = reply_clearance k.greatest by (named_clearance kind)

-- the hold that a step takes, once it is reported done
abbrev pub takes : Action → HoldKind → Bool
takes actions.Untag Tag = true
takes actions.Uncontrol Control = true
takes actions.Unblock Block = true
takes actions.Close HeldOpen = true
takes actions.Leave HeldOpen = true
takes _ kind = false

-- ---- records

-- THE PHASE of a record that is written: from which it comes, and by what
pub data ComesTo (R : Register) (c : Id) (r : Record) : Kind → Phase → Type 0 where
  stays : {kind : Kind} → ComesTo R c r kind r.phase
  ordered : {kind : Kind} → is_requested r.phase ≡ true → ComesTo R c r kind Ordered
  granted : {kind : Kind} → is_ordered r.phase ≡ true → ComesTo R c r kind Granted
  released : is_granted r.phase ≡ true → ComesTo R c r (kinds.Release c true true) Released
  cancelled : is_ordered r.phase ≡ true → has_any_hold R.holds r.id ≡ true → ComesTo R c r (kinds.Cancel c) Released
  restored : (tasks : List Task) → is_released r.phase ≡ true → ComesTo R c r (kinds.Restore c tasks) Restoring
  closed : {kind : Kind} → ComesTo R c r kind Closed

-- its holder
pub data IsHeldBy (c : Id) (r : Record) : Kind → List ℕ → Type 0 where
  same : {kind : Kind} → IsHeldBy c r kind r.holder
  handed_on : (to : List ℕ) (emergency : Bool) → IsHeldBy c r (kinds.Transfer c to emergency) to

-- A RECORD THAT IS PUT is new, or it is the clearance's own at another moment
pub data RecordPut (k : Known) (R : Register) (by : List ℕ) (at : ℕ) : Kind → Record → Type 0 where
  requested : (section : List ℕ) → RecordPut k R by at (kinds.Request section) (new_record k.greatest by at (Some section) Requested)
  switched : (tasks : List Task) → RecordPut k R by at (kinds.Switch tasks) (new_record k.greatest by at None Switching)
  written : {kind : Kind} (c : Id) (r : Record) {holder : List ℕ} {phase : Phase} → named_clearance kind ≡ Some c → is_show kind ≡ false → record_of R.records c ≡ Some r
      → IsHeldBy c r kind holder → ComesTo R c r kind phase → RecordPut k R by at kind (record r { holder = holder; phase = phase; last = at })

-- ---- steps

-- a clearance's record, and the step of its present round that a command names
pub record IsFound (R : Register) (c : Id) (n : ℕ) (r : Record) (row : StepRow) : Type 0 where
  pub recorded : record_of R.records c ≡ Some r
  pub step : step_at (present_steps R.steps c) n ≡ Some row

-- which commands give a round of steps
pub data GivesRound (k : Known) (by : List ℕ) : Kind → Id → ℕ → List Task → Type 0 where
  order : (c : Id) (points : List (List ℕ)) (tasks : List Task) → GivesRound k by (kinds.Order c points tasks) c 1 tasks
  restore : (c : Id) (tasks : List Task) → GivesRound k by (kinds.Restore c tasks) c 2 tasks
  switch : (tasks : List Task) → GivesRound k by (kinds.Switch tasks) (record { requester = by; number = k.greatest + 1 }) 1 tasks

-- the action, the state and the reader that a command gives a step
pub data Moves (by : List ℕ) (c : Id) (n : ℕ) (row : StepRow) : Kind → Action → StepState → Option (List ℕ) → Type 0 where
  instructed : Moves by c n row (kinds.Instruct c n) row.step.action Instructed row.step.reader
  repeated : (text : List ℕ) → Moves by c n row (kinds.Repeat c n text) row.step.action Repeated (Some by)
  done : Moves by c n row (kinds.Report c n true) row.step.action Done row.step.reader
  not_done : Moves by c n row (kinds.Report c n false) row.step.action Waiting None
  amended : Moves by c n row (kinds.Amend c n) actions.Leave row.step.state row.step.reader

-- A STEP THAT IS PUT is one of a round that is given, or one of the present round in another state
pub data StepPut (k : Known) (R : Register) (by : List ℕ) : Kind → StepRow → Type 0 where
  given : {kind : Kind} (c : Id) (round : ℕ) (tasks : List Task) → GivesRound k by kind c round tasks → (n : ℕ) (t : Task) → Contains tasks t → n ≤ length tasks
      → StepPut k R by kind (record { id = c; round = round; ordinal = n; step = record { action = t.action; point = t.point; state = Waiting; reader = None } })
  moved : {kind : Kind} (c : Id) (n : ℕ) (r : Record) (row : StepRow) {action : Action} {state : StepState} {reader : Option (List ℕ)} → IsFound R c n r row
      → Moves by c n row kind action state reader
      → StepPut k R by kind (record row { step = record { action = action; point = row.step.point; state = state; reader = reader } })

-- ---- holds

-- A HOLD THAT IS PUT is at a place that the holder names, or it is that of a step that is done
pub data HoldPut (R : Register) : Kind → Hold → Type 0 where
  at_work : {kind : Kind} (c : Id) (r : Record) (of : HoldKind) (place : List ℕ) → record_of R.records c ≡ Some r → is_point_kind of ≡ false → named_place kind ≡ Some place
      → HoldPut R kind (hold_of c of place)
  by_step_done : (c : Id) (n : ℕ) (r : Record) (row : StepRow) (of : HoldKind) → IsFound R c n r row → puts row.step.action of ≡ true
      → HoldPut R (kinds.Report c n true) (hold_of r.id of row.step.point)

-- and so is one that is taken
pub data HoldTaken (R : Register) : Kind → Hold → Type 0 where
  off_work : {kind : Kind} {h : Hold} → is_point_kind h.kind ≡ false → HoldTaken R kind h
  off_by_step : (c : Id) (n : ℕ) (r : Record) (row : StepRow) (of : HoldKind) → IsFound R c n r row → takes row.step.action of ≡ true
      → HoldTaken R (kinds.Report c n true) (hold_of r.id of row.step.point)

-- ---- points

-- A HAND IS SET where a step is given out or reported
pub data HandSet (R : Register) : Kind → List ℕ → Option Id → Type 0 where
  into : (c : Id) (n : ℕ) (r : Record) (row : StepRow) → IsFound R c n r row → HandSet R (kinds.Instruct c n) row.step.point (Some c)
  out_of : (c : Id) (n : ℕ) (done : Bool) (r : Record) (row : StepRow) → IsFound R c n r row → HandSet R (kinds.Report c n done) row.step.point None

-- A POSITION IS SET where a step is reported done
pub data PositionSet (R : Register) : Kind → List ℕ → Position → Type 0 where
  opens : (c : Id) (n : ℕ) (r : Record) (row : StepRow) → IsFound R c n r row → PositionSet R (kinds.Report c n true) row.step.point Opened
  closes : (c : Id) (n : ℕ) (r : Record) (row : StepRow) → IsFound R c n r row → is_close row.step.action ≡ true → PositionSet R (kinds.Report c n true) row.step.point Shut

-- A JUMPER adds its point, and the section that it leads to
pub data SectionAdded : Kind → SectionRow → Type 0 where
  far_end : (point from to : List ℕ) (lockable remote : Bool) → SectionAdded (kinds.Jumper point from to lockable remote) (new_section to)

pub data PointAdded : Kind → PointRow → Type 0 where
  jumps : (point from to : List ℕ) (lockable remote : Bool) → PointAdded (kinds.Jumper point from to lockable remote) (new_jumper point from to lockable remote)

-- ---- the edits of a command

abbrev pub IsEditOf : Known → Register → List ℕ → ℕ → Kind → Edit → Type 0
IsEditOf k R by at kind (SetPosition p position) = PositionSet R kind p position
IsEditOf k R by at kind (SetHand p hand) = HandSet R kind p hand
IsEditOf k R by at kind (PutHold h) = (h.id ≡ subject k by kind) × HoldPut R kind h
IsEditOf k R by at kind (TakeHold h) = (h.id ≡ subject k by kind) × HoldTaken R kind h
IsEditOf k R by at kind (PutRecord s) = (s.id ≡ subject k by kind) × RecordPut k R by at kind s
IsEditOf k R by at kind (PutStep row) = (row.id ≡ subject k by kind) × StepPut k R by kind row
IsEditOf k R by at kind (AddSection row) = SectionAdded kind row
IsEditOf k R by at kind (AddPoint p) = PointAdded kind p

abbrev pub AreEditsOf : Known → Register → List ℕ → ℕ → Kind → List Edit → Type 0
AreEditsOf k R by at kind edits = AllByRecursion (IsEditOf k R by at kind) edits

module _ (k : Known) (R : Register) (by : List ℕ) (at : ℕ) where
  -- a record that is found, written again
  own_record : (kind : Kind) (c : Id) (r : Record) → record_of R.records c ≡ Some r → named_clearance kind ≡ Some c → is_show kind ≡ false → (holder : List ℕ) (phase : Phase)
      → IsHeldBy c r kind holder → ComesTo R c r kind phase → IsEditOf k R by at kind (PutRecord (record r { holder = holder; phase = phase; last = at }))
  own_record kind c r found named no_show holder phase held comes =
      (record_id R.records c r found ∙ ap (reply_clearance k.greatest by) (sym named), written c r named no_show found held comes)

  -- the steps of a round that is given
  gives_own : (kind : Kind) (c : Id) (round : ℕ) (tasks : List Task) → GivesRound k by kind c round tasks → c ≡ subject k by kind
  gives_own _ _ _ _ (order c points tasks) = refl
  gives_own _ _ _ _ (restore c tasks) = refl
  gives_own _ _ _ _ (switch tasks) = refl

  given_steps : (kind : Kind) (c : Id) (round : ℕ) (tasks : List Task) → GivesRound k by kind c round tasks → (n : ℕ) (rest : List Task)
      → ((t : Task) → Contains rest t → Contains tasks t) → n + length rest ≤ 1 + length tasks → AreEditsOf k R by at kind (put_steps (new_steps c round n rest))
  unfolding new_steps
  given_steps kind c round tasks gives n [] among few = tt
  given_steps kind c round tasks gives n (t ∷ rest) among few = (
    (gives_own kind c round tasks gives, given c round tasks gives n t (among t (Contains-here t rest)) (omega arith)),
    given_steps kind c round tasks gives (n + 1) rest (λ s there. among s (Contains-later t s rest there)) (omega arith),
  )

  round_given : (kind : Kind) (c : Id) (round : ℕ) (tasks : List Task) → GivesRound k by kind c round tasks → AreEditsOf k R by at kind (put_steps (new_steps c round 1 tasks))
  round_given kind c round tasks gives = given_steps kind c round tasks gives 1 tasks (λ t there. there) (omega arith)

  -- a step of the present round
  own_step : (kind : Kind) (c : Id) (n : ℕ) (r : Record) (row : StepRow) → IsFound R c n r row → named_clearance kind ≡ Some c → (action : Action) (state : StepState) (reader : Option (List ℕ))
      → Moves by c n row kind action state reader
      → IsEditOf k R by at kind (PutStep (record row { step = record { action = action; point = row.step.point; state = state; reader = reader } }))
  own_step kind c n r row found named action state reader moves =
      (sym (one_id c row.id (present_step R.steps c n row found.step).own) ∙ ap (reply_clearance k.greatest by) (sym named), moved c n r row found moves)

  -- the tests that a release takes
  tests_taken : (kind : Kind) (c : Id) → c ≡ subject k by kind → (places : List (List ℕ)) (rest : List Edit) → AreEditsOf k R by at kind rest
      → AreEditsOf k R by at kind (map (λ place. TakeHold (hold_of c Tested place)) places ++ rest)
  tests_taken kind c own [] rest h = h
  tests_taken kind c own (place ∷ places) rest h = ((own, off_work refl), tests_taken kind c own places rest h)

  -- what a step changes at its point once it is done
  module _ (c : Id) (n : ℕ) (r : Record) (row : StepRow) (found : IsFound R c n r row) where
    of_report : Edit → Type 0
    of_report = IsEditOf k R by at (kinds.Report c n true)

    own : r.id ≡ c
    own = record_id R.records c r found.recorded

    freed : HandSet R (kinds.Report c n true) row.step.point None
    freed = out_of c n true r row found

    put : (a : Action) (of : HoldKind) → row.step.action ≡ a → puts a of ≡ true → IsEditOf k R by at (kinds.Report c n true) (PutHold (hold_of r.id of row.step.point))
    put a of is has = (own, by_step_done c n r row of found (ap (λ a. puts a of) is ∙ has))

    taken : (a : Action) (of : HoldKind) → row.step.action ≡ a → takes a of ≡ true → IsEditOf k R by at (kinds.Report c n true) (TakeHold (hold_of r.id of row.step.point))
    taken a of is has = (own, off_by_step c n r row of found (ap (λ a. takes a of) is ∙ has))

    at_point : (switching : Bool) (a : Action) → row.step.action ≡ a → (rest : List Edit) → AreEditsOf k R by at (kinds.Report c n true) rest
        → AreEditsOf k R by at (kinds.Report c n true) (point_edits switching r.id a row.step.point ++ rest)
    at_point true actions.Open is rest h = (opens c n r row found, (freed, h))
    at_point false actions.Open is rest h = (opens c n r row found, (freed, (put actions.Open HeldOpen is refl, h)))
    at_point switching actions.Block is rest h = (freed, (put actions.Block Block is refl, h))
    at_point switching actions.Control is rest h = (freed, (put actions.Control Control is refl, h))
    at_point switching actions.Tag is rest h = (freed, (put actions.Tag Tag is refl, h))
    at_point switching actions.Untag is rest h = (freed, (taken actions.Untag Tag is refl, h))
    at_point switching actions.Uncontrol is rest h = (freed, (taken actions.Uncontrol Control is refl, h))
    at_point switching actions.Unblock is rest h = (freed, (taken actions.Unblock Block is refl, h))
    at_point switching actions.Close is rest h = (closes c n r row found (ap is_close is), (freed, (taken actions.Close HeldOpen is refl, h)))
    at_point switching actions.Leave is rest h = (freed, (taken actions.Leave HeldOpen is refl, h))

    ends : (b : Bool) → ComesTo R c r (kinds.Report c n true) (cond b Closed r.phase)
    ends true = closed
    ends false = stays

    reported : AreEditsOf k R by at (kinds.Report c n true) (done_edits R at r row)
    reported =
        let now = step_moved Done row.step.reader row in
        at_point (is_switch_order r) row.step.action refl _ (
          own_record (kinds.Report c n true) c r found.recorded refl refl r.holder (phase_after R.steps r now) same
              (ends (ends_with_steps r.phase && all_done (present_steps (with_row step_key_cmp step_key now R.steps) r.id))),
          (own_step (kinds.Report c n true) c n r row found refl row.step.action Done row.step.reader done, tt),
        )

  given_up : (c : Id) (r : Record) (b : Bool) → (is_ordered r.phase && has_any_hold R.holds r.id) ≡ b → ComesTo R c r (kinds.Cancel c) (cond b Released Closed)
  given_up c r true is = let (phase, holds) = and_parts (is_ordered r.phase) (has_any_hold R.holds r.id) is in cancelled phase holds
  given_up c r false is = closed

  -- the record of a clearance, written by its holder
  by_holder : (kind : Kind) (c : Id) (r : Record) → record_of R.records c ≡ Some r → named_clearance kind ≡ Some c → is_show kind ≡ false
      → IsEditOf k R by at kind (PutRecord (record r { last = at }))
  by_holder kind c r found named no_show = own_record kind c r found named no_show r.holder r.phase same stays

  -- THE EDITS OF A COMMAND that no check refuses
  pub edits_of_accepted : (kind : Kind) → Pass (checks k R by at kind) → AreEditsOf k R by at kind (edits_of k.greatest R by at kind)
  edits_of_accepted (kinds.Request section) passed = ((refl, requested section), tt)
  edits_of_accepted (kinds.Switch tasks) passed = ((refl, switched tasks), round_given (kinds.Switch tasks) _ 1 tasks (switch tasks))
  edits_of_accepted (kinds.Order c points tasks) passed =
      let kind : Kind = kinds.Order c points tasks in
      by_record (AreEditsOf k R by at kind) tt R c _ (λ r found. (
        own_record (kinds.Order c points tasks) c r found refl refl r.holder Ordered same (ordered (phase_fits R c r is_requested found (search passed))),
        round_given (kinds.Order c points tasks) c 1 tasks (order c points tasks),
      ))
  edits_of_accepted (kinds.Restore c tasks) passed = by_record (AreEditsOf k R by at (kinds.Restore c tasks)) tt R c _ (λ r found. (
    own_record (kinds.Restore c tasks) c r found refl refl r.holder Restoring same (restored tasks (phase_fits R c r is_released found (search passed))),
    round_given (kinds.Restore c tasks) c 2 tasks (restore c tasks),
  ))
  edits_of_accepted (kinds.Grant c) passed = by_record (AreEditsOf k R by at (kinds.Grant c)) tt R c _ (λ r found.
      (own_record (kinds.Grant c) c r found refl refl r.holder Granted same (granted (phase_fits R c r is_ordered found (search passed))), tt))
  edits_of_accepted (kinds.Transfer c to emergency) passed = by_record (AreEditsOf k R by at (kinds.Transfer c to emergency)) tt R c _ (λ r found.
      (own_record (kinds.Transfer c to emergency) c r found refl refl to r.phase (handed_on to emergency) stays, tt))
  edits_of_accepted (kinds.Cancel c) passed = by_record (AreEditsOf k R by at (kinds.Cancel c)) tt R c _ (λ r found.
      (own_record (kinds.Cancel c) c r found refl refl r.holder _ same (given_up c r (is_ordered r.phase && has_any_hold R.holds r.id) refl), tt))
  edits_of_accepted (kinds.Release c true true) passed = by_record (AreEditsOf k R by at (kinds.Release c true true)) tt R c _ (λ r found.
      tests_taken (kinds.Release c true true) c refl (places_of R.holds c Tested) _
      (own_record (kinds.Release c true true) c r found refl refl r.holder Released same (released (phase_fits R c r is_granted found (search passed))), tt))
  edits_of_accepted (kinds.Release c notified clear) passed = let attested : not_attested notified clear ≡ None = search passed in cc attested
  edits_of_accepted (kinds.Instruct c n) passed = by_step (AreEditsOf k R by at (kinds.Instruct c n)) tt R c n _ (λ r row found step.
      let here : IsFound R c n r row = record { recorded = found; step = step } in
      (into c n r row here, (by_holder (kinds.Instruct c n) c r found refl refl, (own_step (kinds.Instruct c n) c n r row here refl row.step.action Instructed row.step.reader instructed, tt))))
  edits_of_accepted (kinds.Repeat c n text) passed = by_step (AreEditsOf k R by at (kinds.Repeat c n text)) tt R c n _ (λ r row found step.
      let here : IsFound R c n r row = record { recorded = found; step = step } in
      (by_holder (kinds.Repeat c n text) c r found refl refl, (own_step (kinds.Repeat c n text) c n r row here refl row.step.action Repeated (Some by) (repeated text), tt)))
  edits_of_accepted (kinds.Amend c n) passed = by_step (AreEditsOf k R by at (kinds.Amend c n)) tt R c n _ (λ r row found step.
      let here : IsFound R c n r row = record { recorded = found; step = step } in
      (by_holder (kinds.Amend c n) c r found refl refl, (own_step (kinds.Amend c n) c n r row here refl actions.Leave row.step.state row.step.reader amended, tt)))
  edits_of_accepted (kinds.Report c n true) passed = by_step (AreEditsOf k R by at (kinds.Report c n true)) tt R c n _ (λ r row found step.
      reported c n r row (record { recorded = found; step = step }))
  edits_of_accepted (kinds.Report c n false) passed = by_step (AreEditsOf k R by at (kinds.Report c n false)) tt R c n _ (λ r row found step.
      let here : IsFound R c n r row = record { recorded = found; step = step } in
      (out_of c n false r row here, (by_holder (kinds.Report c n false) c r found refl refl, (own_step (kinds.Report c n false) c n r row here refl row.step.action Waiting None not_done, tt))))
  edits_of_accepted (kinds.Test c section false) passed = by_record (AreEditsOf k R by at (kinds.Test c section false)) tt R c _ (λ r found.
      ((refl, off_work refl), (by_holder (kinds.Test c section false) c r found refl refl, tt)))
  edits_of_accepted (kinds.Unground c section) passed = by_record (AreEditsOf k R by at (kinds.Unground c section)) tt R c _ (λ r found.
      ((refl, off_work refl), ((refl, off_work refl), (by_holder (kinds.Unground c section) c r found refl refl, tt))))
  edits_of_accepted (kinds.SignOff c crew) passed = by_record (AreEditsOf k R by at (kinds.SignOff c crew)) tt R c _ (λ r found.
      ((refl, off_work refl), (by_holder (kinds.SignOff c crew) c r found refl refl, tt)))
  edits_of_accepted (kinds.Show c) passed = tt
  edits_of_accepted (kinds.Jumper point from to lockable remote) passed =
      by_added (AreEditsOf k R by at (kinds.Jumper point from to lockable remote)) R (new_jumper point from to lockable remote)
      (jumps point from to lockable remote, tt) (far_end point from to lockable remote, (jumps point from to lockable remote, tt))
  -- a hold at the place that the holder names, and the record
  edits_of_accepted kind passed = by_record (AreEditsOf k R by at kind) tt R _ _ (λ r found. ((refl, at_work _ r _ _ found refl refl), (by_holder kind _ r found refl refl, tt)))

-- ---- what is said of each edit

module _ (k : Known) (R : Register) (by : List ℕ) (at : ℕ) (kind : Kind) where
  -- of the records and the steps that are put
  pub puts_such : (P : Record → Type 0) (Q : StepRow → Type 0) → ((s : Record) → RecordPut k R by at kind s → P s) → ((row : StepRow) → StepPut k R by kind row → Q row)
      → (edits : List Edit) → AreEditsOf k R by at kind edits → AllPutSuch P Q edits
  puts_such P Q of_record of_step [] are = tt
  puts_such P Q of_record of_step (PutRecord s ∷ edits) are = (of_record s are.0.1, puts_such P Q of_record of_step edits are.1)
  puts_such P Q of_record of_step (PutStep row ∷ edits) are = (of_step row are.0.1, puts_such P Q of_record of_step edits are.1)
  puts_such P Q of_record of_step (_ ∷ edits) are = puts_such P Q of_record of_step edits are.1

  -- of each edit, as a test
  pub each_passes : (test : Edit → Bool) → ((edit : Edit) → IsEditOf k R by at kind edit → test edit ≡ true) → (edits : List Edit) → AreEditsOf k R by at kind edits
      → list_all test edits ≡ true
  each_passes test each [] are = refl
  each_passes test each (edit ∷ edits) are = and_from (test edit) (list_all test edits) (each edit are.0) (each_passes test each edits are.1)

  -- and as a type
  pub each_is : (P : Edit → Type 0) → ((edit : Edit) → IsEditOf k R by at kind edit → P edit) → (edits : List Edit) → AreEditsOf k R by at kind edits → AllByRecursion P edits
  each_is P each [] are = tt
  each_is P each (edit ∷ edits) are = (each edit are.0, each_is P each edits are.1)

  -- or of the command, where one edit says it
  pub each_or : (P : Edit → Type 0) (X : Type 0) → ((edit : Edit) → IsEditOf k R by at kind edit → P edit ⊎ X) → (edits : List Edit) → AreEditsOf k R by at kind edits → AllByRecursion P edits ⊎ X
  each_or P X each [] are = inl tt
  each_or P X each (edit ∷ edits) are = ⊎_elim (λ h. ⊎_elim (λ more. inl (h, more)) (λ x. inr x) (each_or P X each edits are.1)) (λ x. inr x) (each edit are.0)

-- a hold that is at no point is none at a point
pub off_points : (c : Id) (of : HoldKind) (place : List ℕ) → is_point_kind of ≡ true → (h : Hold) → is_point_kind h.kind ≡ false → is_hold h c of place ≡ false
off_points c of place at_point h off = false_from_ne_true (is_hold h c of place) (λ is. both_ways (is_point_kind h.kind) off
    (ap (λ (h : Hold). is_point_kind h.kind) (same_hold h (hold_of c of place) (equal (hold_cmp h (hold_of c of place)) is)) ∙ at_point))
