-- Commands whose values are of their types keep those of the register so.
use Rattle.std.proofs.Common.{◌≡◌, ℕ, ◌+◌, ◌≤◌, Bool, true, false, ◌&&◌, nat_eq, nat_le, nat_lt, List, [], ◌∷◌, length, map, Option, Some, None, refl, sym, ◌∙◌, ap, subst, arith, ⊎_elim}
use Rattle.std.specs.Cmp.{IsTotalOrder}
use Rattle.std.specs.List.{AllByRecursion, list_all}
use Rattle.std.specs.Prelude.{◌==◌}
use Rattle.std.specs.declared.cmp.Ordering.{Ordering}
use Rattle.std.proofs.lemmas.Bool.{and_parts, eqb-false, le-leb, leb-true, ltb-false}
use Rattle.std.proofs.lemmas.Cmp.{nat_list_cmp_total}
use Rattle.std.proofs.lemmas.List.Sums.{AllPass-from_list_all, list_all-from_AllPass}
use Rattle.clr_net.specs.Name.{is_name, name_cmp}
use Rattle.clr_net.specs.declared.point.PointRow.{PointRow}
use Rattle.clr_net.specs.declared.section.SectionRow.{SectionRow}
use Rattle.clr_order.specs.Step.{Task}
use Rattle.clr_order.specs.declared.action.Action.{Action}
use Rattle.clr_order.specs.declared.step.StepState.{StepState}
use Rattle.clr_shelf.proofs.Groups.{All-with_row, All-without_row}
use Rattle.clr_shelf.proofs.Lists.{list_all-contains}
use Rattle.clr_shelf.proofs.Members.{member-row_of}
use Rattle.clr_shelf.specs.Rows.{with_row, without_row}
use Rattle.clr_rules.specs.Answer.{Answer, known_of, answer_by_checks, requester_for}
use Rattle.clr_rules.specs.Command.{named_clearance, named_place}
use Rattle.clr_rules.specs.Commands.{Known, checks, edits_of}
use Rattle.clr_rules.specs.Checks.{too_many_clearances, unsound_order}
use Rattle.clr_rules.specs.laws.Edits.{refusal_of}
use Rattle.clr_rules.specs.Edits.{after_edit, after_edits}
use Rattle.clr_rules.specs.Hold.{hold_cmp, hold_cmp_total}
use Rattle.clr_rules.specs.Holds.{hold_key}
use Rattle.clr_rules.specs.Id.{Id, id_cmp, id_cmp_total, is_clearance_number, is_id}
use Rattle.clr_rules.specs.Moment.{is_moment}
use Rattle.clr_rules.specs.Records.{greatest_number, record_key, record_of}
use Rattle.clr_rules.specs.Register.{Register, first_state}
use Rattle.clr_net.specs.Grid.{Grid, unplaced}
use Rattle.clr_rules.specs.StepKey.{step_key, step_key_cmp, step_key_cmp_total}
use Rattle.clr_rules.specs.Steps.{present_steps, step_at}
use Rattle.clr_rules.specs.States.{change_state, changed_state, state_key, state_of}
use Rattle.clr_rules.specs.declared.change.Edit.{Edit}
use Rattle.clr_rules.specs.declared.change.Edit.TheVariants.{SetPosition, SetHand, PutHold, TakeHold, PutRecord, PutStep, AddSection, AddPoint}
use Rattle.clr_rules.specs.declared.command.Kind.{Kind}
use Rattle.clr_rules.specs.declared.command.Kind.TheVariants as kinds
use Rattle.clr_rules.specs.declared.hold.Hold.{Hold}
use Rattle.clr_rules.specs.declared.point_state.PointState.{PointState}
use Rattle.clr_rules.specs.declared.record.Record.{Record}
use Rattle.clr_rules.specs.declared.refusal.Refusal.{Refusal}
use Rattle.clr_rules.specs.declared.refusal.Refusal.TheVariants.{TooManyClearances}
use Rattle.clr_rules.specs.declared.step_row.StepRow.{StepRow}
use Rattle.clr_rules.proofs.edits.Growing.{named_is_put}
use Rattle.clr_rules.proofs.edits.Passing.{Pass, all_pass, not_refused}
use Rattle.clr_rules.proofs.edits.Shapes.{GivesRound, HandSet, HoldPut, IsEditOf, IsHeldBy, Moves, PointAdded, RecordPut, SectionAdded, StepPut, each_is, edits_of_accepted}
use Rattle.clr_rules.proofs.edits.Shapes.GivesRound.{order, restore, switch}
use Rattle.clr_rules.proofs.edits.Shapes.HandSet.{into, out_of}
use Rattle.clr_rules.proofs.edits.Shapes.HoldPut.{at_work, by_step_done}
use Rattle.clr_rules.proofs.edits.Shapes.IsHeldBy.{handed_on, same}
use Rattle.clr_rules.proofs.edits.Shapes.Moves.{not_done, repeated}
use Rattle.clr_rules.proofs.edits.Shapes.PointAdded.{jumps}
use Rattle.clr_rules.proofs.edits.Shapes.RecordPut.{requested, switched, written}
use Rattle.clr_rules.proofs.edits.Shapes.SectionAdded.{far_end}
use Rattle.clr_rules.proofs.edits.Shapes.StepPut.{given, moved}
use Rattle.clr_rules.proofs.keeps.Restore.{restoring_passed}
use Rattle.clr_rules.proofs.keeps.Switch.{switching_passed}
use Rattle.clr_rules.proofs.lists.FoundSteps.{present_step}
use Rattle.clr_rules.proofs.lists.Greatest.{greatest_is_greatest}
use Rattle.clr_rules.proofs.lists.RoundSteps.{record_id}
use Rattle.clr_load.specs.TableLaws.{CommandsKeepTyped, OpeningsAreTyped}
use Rattle.clr_load.specs.TypedRows.{IsTyped, is_id_or_none, is_name_or_none, is_typed_hold, is_typed_kind, is_typed_point, is_typed_record, is_typed_section, is_typed_state, is_typed_step, is_typed_task}

-- ---- edits

-- what an edit writes is of its type
abbrev IsTypedEdit : Edit → Type 0
IsTypedEdit (SetPosition p position) = Unit {0}
IsTypedEdit (SetHand p hand) = is_id_or_none hand ≡ true
IsTypedEdit (PutHold h) = is_typed_hold h ≡ true
IsTypedEdit (TakeHold h) = Unit {0}
IsTypedEdit (PutRecord r) = is_typed_record r ≡ true
IsTypedEdit (PutStep row) = is_typed_step row ≡ true
IsTypedEdit (AddSection row) = is_typed_section row ≡ true
IsTypedEdit (AddPoint p) = is_typed_point p ≡ true

abbrev AllTyped : List Edit → Type 0
AllTyped edits = AllByRecursion IsTypedEdit edits

put_typed : {Key Row : Type 0} (compare : Key → Key → Ordering) (key_of : Row → Key) → IsTotalOrder compare → (typed : Row → Bool) (row : Row) (rows : List Row)
    → typed row ≡ true → list_all typed rows ≡ true → list_all typed (with_row compare key_of row rows) ≡ true
put_typed compare key_of total typed row rows here all = list_all-from_AllPass typed (with_row compare key_of row rows)
    (All-with_row compare key_of total (λ row. typed row ≡ true) row rows here (AllPass-from_list_all typed rows all))

taken_typed : {Key Row : Type 0} (compare : Key → Key → Ordering) (key_of : Row → Key) → IsTotalOrder compare → (typed : Row → Bool) (key : Key) (rows : List Row)
    → list_all typed rows ≡ true → list_all typed (without_row compare key_of key rows) ≡ true
taken_typed compare key_of total typed key rows all = list_all-from_AllPass typed (without_row compare key_of key rows)
    (All-without_row compare key_of total (λ row. typed row ≡ true) key rows (AllPass-from_list_all typed rows all))

changed_typed : (change : PointState → PointState) → ((state : PointState) → is_typed_state state ≡ true → is_typed_state (change state) ≡ true)
    → (states : List PointState) (p : List ℕ) → list_all is_typed_state states ≡ true → list_all is_typed_state (change_state states p change) ≡ true
changed_typed change keeps states p all = at (state_of states p) refl
  where
    at : (found : Option PointState) → state_of states p ≡ found → list_all is_typed_state (changed_state found change states) ≡ true
    at None is = all
    at (Some state) is = put_typed name_cmp state_key nat_list_cmp_total is_typed_state (change state) states
        (keeps state (list_all-contains is_typed_state states state all (member-row_of name_cmp state_key nat_list_cmp_total p state states is).0)) all

edited_typed : (edit : Edit) (R : Register) → IsTypedEdit edit → IsTyped R → IsTyped (after_edit edit R)
edited_typed (SetPosition p position) R is typed = record {
  sections = typed.sections;
  points = typed.points;
  states = changed_typed (λ state. record state { position = position }) (λ state h. h) R.states p typed.states;
  staff = typed.staff;
  records = typed.records;
  steps = typed.steps;
  holds = typed.holds;
}
edited_typed (SetHand p hand) R is typed = record {
  sections = typed.sections;
  points = typed.points;
  states = changed_typed (λ state. record state { hand = hand }) (λ state h. is) R.states p typed.states;
  staff = typed.staff;
  records = typed.records;
  steps = typed.steps;
  holds = typed.holds;
}
edited_typed (PutHold h) R is typed = record {
  sections = typed.sections;
  points = typed.points;
  states = typed.states;
  staff = typed.staff;
  records = typed.records;
  steps = typed.steps;
  holds = put_typed hold_cmp hold_key hold_cmp_total is_typed_hold h R.holds is typed.holds;
}
edited_typed (TakeHold h) R is typed = record {
  sections = typed.sections;
  points = typed.points;
  states = typed.states;
  staff = typed.staff;
  records = typed.records;
  steps = typed.steps;
  holds = taken_typed hold_cmp hold_key hold_cmp_total is_typed_hold h R.holds typed.holds;
}
edited_typed (PutRecord r) R is typed = record {
  sections = typed.sections;
  points = typed.points;
  states = typed.states;
  staff = typed.staff;
  records = put_typed id_cmp record_key id_cmp_total is_typed_record r R.records is typed.records;
  steps = typed.steps;
  holds = typed.holds;
}
edited_typed (PutStep row) R is typed = record {
  sections = typed.sections;
  points = typed.points;
  states = typed.states;
  staff = typed.staff;
  records = typed.records;
  steps = put_typed step_key_cmp step_key step_key_cmp_total is_typed_step row R.steps is typed.steps;
  holds = typed.holds;
}
edited_typed (AddSection row) R is typed =
    let name_of = λ (other : SectionRow). other.name in
    record {
      sections =
          ap (list_all is_typed_section) (named_is_put name_of row (Grid.sections R.net))
          ∙ put_typed name_cmp name_of nat_list_cmp_total is_typed_section row (Grid.sections R.net) is typed.sections;
      points = typed.points;
      states = typed.states;
      staff = typed.staff;
      records = typed.records;
      steps = typed.steps;
      holds = typed.holds;
    }
edited_typed (AddPoint p) R is typed =
    let name_of = λ (other : PointRow). other.name in
    record {
      sections = typed.sections;
      points =
          ap (list_all is_typed_point) (named_is_put name_of (unplaced p) (Grid.points R.net))
          ∙ put_typed name_cmp name_of nat_list_cmp_total is_typed_point (unplaced p) (Grid.points R.net) is typed.points;
      states = put_typed name_cmp state_key nat_list_cmp_total is_typed_state (first_state (unplaced p)) R.states refl typed.states;
      staff = typed.staff;
      records = typed.records;
      steps = typed.steps;
      holds = typed.holds;
    }

edited_all_typed : (edits : List Edit) (R : Register) → AllTyped edits → IsTyped R → IsTyped (after_edits edits R)
unfolding after_edits
edited_all_typed [] R all typed = typed
edited_all_typed (edit ∷ edits) R all typed = edited_all_typed edits (after_edit edit R) all.1 (edited_typed edit R all.0 typed)

-- ---- the steps of an order

-- an order of more than 256 steps is refused
order_fits : (R : Register) (fence points : List (List ℕ)) (tasks : List Task) → unsound_order R fence points tasks ≡ None → length tasks ≤ 256
order_fits R fence points tasks passed = ltb-false 256 (length tasks) (at (nat_lt 256 (length tasks)) refl (nat_eq (length points) 0) refl (nat_lt 64 (length points)) refl)
  where
    at : (a : Bool) → nat_lt 256 (length tasks) ≡ a → (b : Bool) → nat_eq (length points) 0 ≡ b → (c : Bool) → nat_lt 64 (length points) ≡ c → nat_lt 256 (length tasks) ≡ false
    at false e b f c g = e
    at true e true f c g = let none = rw (e, f) at passed in absurd (cc)
    at true e false f true g = let none = rw (e, f, g) at passed in absurd (cc)
    at true e false f false g = let none = rw (e, f, g) at passed in absurd (cc)

-- a round that a command gives
record RoundFits (c : Id) (round : ℕ) (tasks : List Task) : Type 0 where
  id : is_id c ≡ true
  fits : nat_le round 255 ≡ true
  few : length tasks ≤ 256
  typed : list_all is_typed_task tasks ≡ true

-- ---- the parts of records and steps

record TypedRecord (r : Record) : Type 0 where
  id : is_id r.id ≡ true
  holder : is_name r.holder ≡ true
  work : is_name_or_none r.work ≡ true

record_parts : (r : Record) → is_typed_record r ≡ true → TypedRecord r
record_parts r is =
    let (id, rest) = and_parts (is_id r.id) (is_name r.holder && (is_name_or_none r.work && is_moment r.last)) is in
    let (holder, others) = and_parts (is_name r.holder) (is_name_or_none r.work && is_moment r.last) rest in
    record { id = id; holder = holder; work = (and_parts (is_name_or_none r.work) (is_moment r.last) others).0 }

record TypedStep (row : StepRow) : Type 0 where
  id : is_id row.id ≡ true
  round : nat_le row.round 255 ≡ true
  ordinal : nat_le row.ordinal 65535 ≡ true
  point : is_name row.step.point ≡ true
  reader : is_name_or_none row.step.reader ≡ true

step_parts : (row : StepRow) → is_typed_step row ≡ true → TypedStep row
step_parts row is =
    let place = is_name row.step.point && is_name_or_none row.step.reader in
    let (id, rest) = and_parts (is_id row.id) (nat_le row.round 255 && (nat_le row.ordinal 65535 && place)) is in
    let (round, others) = and_parts (nat_le row.round 255) (nat_le row.ordinal 65535 && place) rest in
    let (ordinal, last) = and_parts (nat_le row.ordinal 65535) place others in
    let (point, reader) = and_parts (is_name row.step.point) (is_name_or_none row.step.reader) last in
    record { id = id; round = round; ordinal = ordinal; point = point; reader = reader }

-- ---- commands

-- a place that the holder names
place_typed : (kind : Kind) → is_typed_kind kind ≡ true → is_name_or_none (named_place kind) ≡ true
place_typed (kinds.Show c) is = refl
place_typed _ is = grind (arith, and_parts)

module _ (R : Register) (typed : IsTyped R) where
  record_typed : (c : Id) (r : Record) → record_of R.records c ≡ Some r → TypedRecord r
  record_typed c r found = record_parts r (list_all-contains is_typed_record R.records r typed.records (member-row_of id_cmp record_key id_cmp_total c r R.records found).0)

  step_typed : (c : Id) (n : ℕ) (row : StepRow) → step_at (present_steps R.steps c) n ≡ Some row → TypedStep row
  step_typed c n row found = step_parts row (list_all-contains is_typed_step R.steps row typed.steps (present_step R.steps c n row found).there)

  named_typed : (c : Id) (r : Record) → record_of R.records c ≡ Some r → is_id c ≡ true
  named_typed c r found = ap is_id (sym (record_id R.records c r found)) ∙ (record_typed c r found).id

  greatest_typed : (requester : List ℕ) → greatest_number R.records requester ≤ 9999
  greatest_typed requester = ⊎_elim (λ none. subst (λ n. n ≤ 9999) (sym none) (omega arith))
      (λ some. subst (λ n. n ≤ 9999) some.3 (number_of some.0 (list_all-contains is_typed_record R.records some.0 typed.records some.1))) (greatest_is_greatest R.records requester).1
    where
      number_of : (r : Record) → is_typed_record r ≡ true → r.id.number ≤ 9999
      number_of r is =
          let number = (and_parts (is_name r.id.requester) (is_clearance_number r.id.number) (record_parts r is).id).1 in
          leb-true r.id.number 9999 (and_parts (nat_le 1 r.id.number) (nat_le r.id.number 9999) number).1

module _ (R : Register) (typed : IsTyped R) (k : Known) (small : k.greatest ≤ 9999) (by : List ℕ) (at : ℕ) (caller : is_name by ≡ true) (time : is_moment at ≡ true) where
  -- a new clearance of the caller's
  next_id : too_many_clearances k.greatest ≡ None → is_id (record { requester = by; number = k.greatest + 1 }) ≡ true
  next_id passed =
      let other = eqb-false k.greatest 9999 (not_refused (k.greatest == 9999) TooManyClearances passed) in
      let some : nat_le 1 (k.greatest + 1) ≡ true = le-leb 1 (k.greatest + 1) (omega arith) in
      let few : nat_le (k.greatest + 1) 9999 ≡ true = le-leb (k.greatest + 1) 9999 (omega (arith, other)) in
      rw (caller, some, few) refl

  holder_typed : (c : Id) (r : Record) → TypedRecord r → (kind : Kind) (holder : List ℕ) → IsHeldBy c r kind holder → is_typed_kind kind ≡ true → is_name holder ≡ true
  holder_typed c r parts _ _ same is = parts.holder
  holder_typed c r parts _ _ (handed_on to emergency) is = (and_parts (is_id c) (is_name to) is).1

  record_put : (kind : Kind) → is_typed_kind kind ≡ true → Pass (checks k R by at kind) → (s : Record) → RecordPut k R by at kind s → is_typed_record s ≡ true
  record_put _ is passed _ (requested section) = rw (next_id (search passed), caller, is, time) refl
  record_put _ is passed _ (switched tasks) = rw (next_id (search passed), caller, time) refl
  record_put kind is passed _ (written c r {holder = holder} named no_show found held comes) =
      let parts = record_typed R typed c r found in rw (parts.id, holder_typed c r parts kind holder held is, parts.work, time) refl

  round_fits : (kind : Kind) → is_typed_kind kind ≡ true → Pass (checks k R by at kind) → (c : Id) (round : ℕ) (tasks : List Task) → GivesRound k by kind c round tasks → RoundFits c round tasks
  round_fits _ is passed _ _ _ (order c points tasks) =
      let (id, lists) = and_parts (is_id c) (list_all is_name points && list_all is_typed_task tasks) is in
      record { id = id; fits = refl; few = order_fits R k.fence points tasks (search passed); typed = (and_parts (list_all is_name points) (list_all is_typed_task tasks) lists).1 }
  round_fits _ is passed _ _ _ (restore c tasks) =
      let (id, steps) = and_parts (is_id c) (list_all is_typed_task tasks) is in
      record { id = id; fits = refl; few = (restoring_passed R c tasks (search passed)).steps_fit; typed = steps }
  round_fits _ is passed _ _ _ (switch tasks) =
      record { id = next_id (search passed); fits = refl; few = (switching_passed R tasks (search passed)).steps_fit; typed = is }

  reader_typed : (c : Id) (n : ℕ) (row : StepRow) → TypedStep row → (kind : Kind) (action : Action) (state : StepState) (reader : Option (List ℕ)) → Moves by c n row kind action state reader
      → is_name_or_none reader ≡ true
  reader_typed c n row parts _ _ _ _ (repeated text) = caller
  reader_typed c n row parts _ _ _ _ not_done = refl
  reader_typed c n row parts _ _ _ _ _ = parts.reader

  step_put : (kind : Kind) → is_typed_kind kind ≡ true → Pass (checks k R by at kind) → (row : StepRow) → StepPut k R by kind row → is_typed_step row ≡ true
  step_put kind is passed _ (given c round tasks gives n t there few) =
      let round_is = round_fits kind is passed c round tasks gives in
      let few_of_all = round_is.few in
      let low : nat_le n 65535 ≡ true = le-leb n 65535 (omega arith) in
      rw (round_is.id, round_is.fits, low, list_all-contains is_typed_task tasks t round_is.typed there) refl
  step_put kind is passed _ (moved c n r row {action = action} {state = state} {reader = reader} found moves) =
      let parts = step_typed R typed c n row found.step in
      rw (parts.id, parts.round, parts.ordinal, parts.point, reader_typed c n row parts kind action state reader moves) refl

  hold_put : (kind : Kind) → is_typed_kind kind ≡ true → (h : Hold) → HoldPut R kind h → is_typed_hold h ≡ true
  hold_put kind is _ (at_work c r of place found off named) = rw (ap is_name_or_none (sym named) ∙ place_typed kind is, named_typed R typed c r found) refl
  hold_put _ is _ (by_step_done c n r row of found puts_it) = rw ((step_typed R typed c n row found.step).point, (record_typed R typed c r found.recorded).id) refl

  hand_set : (kind : Kind) (p : List ℕ) (hand : Option Id) → HandSet R kind p hand → is_id_or_none hand ≡ true
  hand_set _ _ _ (into c n r row found) = named_typed R typed c r found.recorded
  hand_set _ _ _ (out_of c n done r row found) = refl

  section_added : (kind : Kind) → is_typed_kind kind ≡ true → (row : SectionRow) → SectionAdded kind row → is_typed_section row ≡ true
  section_added _ is _ (far_end point from to lockable remote) = (and_parts (is_name from) (is_name to) (and_parts (is_name point) (is_name from && is_name to) is).1).1

  point_added : (kind : Kind) → is_typed_kind kind ≡ true → (p : PointRow) → PointAdded kind p → is_typed_point p ≡ true
  point_added _ is _ (jumps point from to lockable remote) = is

  edit_typed : (kind : Kind) → is_typed_kind kind ≡ true → Pass (checks k R by at kind) → (edit : Edit) → IsEditOf k R by at kind edit → IsTypedEdit edit
  edit_typed kind is passed (SetPosition p position) of = tt
  edit_typed kind is passed (SetHand p hand) of = hand_set kind p hand of
  edit_typed kind is passed (PutHold h) of = hold_put kind is h of.1
  edit_typed kind is passed (TakeHold h) of = tt
  edit_typed kind is passed (PutRecord s) of = record_put kind is passed s of.1
  edit_typed kind is passed (PutStep row) of = step_put kind is passed row of.1
  edit_typed kind is passed (AddSection row) of = section_added kind is row of
  edit_typed kind is passed (AddPoint p) of = point_added kind is p of

  all_typed : (kind : Kind) → is_typed_kind kind ≡ true → Pass (checks k R by at kind) → AllTyped (edits_of k.greatest R by at kind)
  all_typed kind is passed = each_is k R by at kind IsTypedEdit (edit_typed kind is passed) (edits_of k.greatest R by at kind) (edits_of_accepted k R by at kind passed)

pub commands_keep_typed : CommandsKeepTyped
commands_keep_typed R q typed is = at (refusal_of R q) refl
  where
    at : (refused : Option Refusal) → refusal_of R q ≡ refused → IsTyped (after_edits (Answer.edits (answer_by_checks (known_of R q) R q refused)) R)
    at None passed =
        let caller = and_parts (is_name q.caller) (is_moment q.moment && is_typed_kind q.kind) is in
        let rest = and_parts (is_moment q.moment) (is_typed_kind q.kind) caller.1 in
        edited_all_typed (edits_of (known_of R q).greatest R q.caller q.moment q.kind) R
        (all_typed R typed (known_of R q) (greatest_typed R typed (requester_for q.caller (named_clearance q.kind))) q.caller q.moment caller.0 rest.0 q.kind rest.1 (all_pass (checks (known_of R q) R q.caller q.moment q.kind) passed)) typed
    at (Some refusal) is_refused = edited_all_typed [] R tt typed

-- ---- the opening register

unplaced_typed : (points : List PointRow) → list_all is_typed_point points ≡ true → list_all is_typed_point (map unplaced points) ≡ true
unplaced_typed [] all = refl
unplaced_typed (p ∷ points) all = let parts = and_parts (is_typed_point p) (list_all is_typed_point points) all in rw (parts.0, unplaced_typed points parts.1) refl

first_typed : (points : List PointRow) → list_all is_typed_state (map first_state points) ≡ true
first_typed [] = refl
first_typed (p ∷ points) = first_typed points

pub openings_are_typed : OpeningsAreTyped
openings_are_typed g staff sections points employees = record {
  sections = sections;
  points = unplaced_typed g.points points;
  states = first_typed g.points;
  staff = employees;
  records = refl;
  steps = refl;
  holds = refl;
}
