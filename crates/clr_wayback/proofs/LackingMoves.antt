-- The next commands of a way back are the same where only closed records and their steps are lacking, and each names a clearance that is not.
use Rattle.std.proofs.Common.{◌≡◌, ◌∙◌, ◌+◌, ◌*◌, ◌&&◌, ℕ, Bool, true, false, if◌then◌else◌, length, not, List, [], ◌∷◌, Option, Some, None, refl, sym, ap, find}
use Rattle.std.proofs.lemmas.List.Elements.{All-contains}
use Rattle.clr_rules.proofs.Common.{and_parts, false≢true, false_from_ne_true, own_id, record_id}
use Rattle.clr_rules.proofs.near.OwnQuestions.{same_round}
use Rattle.clr_rules.proofs.staffed.EveryKind.{some_found}
use Rattle.clr_rules.specs.Checks.{is_field, is_operator}
use Rattle.clr_rules.specs.Good.{is_active_at}
use Rattle.clr_rules.specs.Holds.{held_among, places_of}
use Rattle.clr_rules.specs.Id.{Id, same_id}
use Rattle.clr_rules.specs.Records.{is_closed, is_running, record_of}
use Rattle.clr_rules.specs.Register.{Register}
use Rattle.clr_rules.specs.States.{hand_of, has_in_hand, is_hand}
use Rattle.clr_rules.specs.Staffed.{first_of_role}
use Rattle.clr_rules.specs.Steps.{is_active, is_close, is_done, points_of, present_round, steps_in, steps_of}
use Rattle.clr_rules.specs.WayBack.{ask, begun, cancelled, enough_turns, given_out, given_out_at, given_up, moves_in, moves_of, name_in, next_moves, one_of_role, reported_back, reported_undone, restored, stepped, undoing_steps}
use Rattle.clr_rules.specs.declared.command.Kind.{Kind}
use Rattle.clr_rules.specs.declared.command.Kind.TheVariants as kinds
use Rattle.clr_rules.specs.Command.{named_clearance}
use Rattle.clr_rules.specs.laws.Own.{SameOwn}
use Rattle.clr_rules.specs.declared.hold.Hold.{Hold}
use Rattle.clr_rules.specs.declared.hold_kind.HoldKind.TheVariants.{Crew, Ground}
use Rattle.clr_rules.specs.declared.phase.Phase.{Phase}
use Rattle.clr_rules.specs.declared.phase.Phase.TheVariants.{Requested, Ordered, Granted, Released, Restoring, Switching, Closed}
use Rattle.clr_rules.specs.declared.point_state.PointState.{PointState}
use Rattle.clr_rules.specs.declared.record.Record.{Record}
use Rattle.clr_rules.specs.declared.step_row.StepRow.{StepRow}
use Rattle.clr_net.specs.Name.{same_name}
use Rattle.clr_order.specs.Step.{task}
use Rattle.clr_order.specs.Texts.{step_text}
use Rattle.clr_staff.specs.declared.employee.Role.{Role}
use Rattle.clr_staff.specs.declared.employee.StaffRow.{StaffRow}
use Rattle.clr_wayback.specs.Open.{AllNameAnother, LacksOnly, NamesAnother}

runs_open : (phase : Phase) → is_running phase ≡ true → is_closed phase ≡ false
runs_open Closed runs = sym runs
runs_open _ runs = refl

module _ (gone : Id → Bool) (R S : Register) (lacks : LacksOnly gone R S) where
  same_staff : S.staff ≡ R.staff
  same_staff = ap (λ (T : Register). T.staff) lacks.rest

  same_states : S.states ≡ R.states
  same_states = ap (λ (T : Register). T.states) lacks.rest

  same_holds : S.holds ≡ R.holds
  same_holds = ap (λ (T : Register). T.holds) lacks.rest

  same_one : (fits : Role → Bool) → one_of_role S fits ≡ one_of_role R fits
  same_one fits = ap (λ (staff : List StaffRow). name_in (first_of_role staff fits)) same_staff

  -- who has a point in hand is at work, so the record is not closed
  hand_is_open : (d : Id) (p : List ℕ) → hand_of R.states p ≡ Some d → gone d ≡ false
  unfolding is_active_at
  hand_is_open d p held = false_from_ne_true (gone d) (λ is.
      let (r, read, over) = lacks.closed d is in
      let in_hand : has_in_hand R.states d p ≡ true = ap (is_hand d) held ∙ own_id d in
      let active : is_active_at R.steps d p ≡ true = sym (lacks.good.said.hand_matches_step.hand d p) ∙ in_hand in
      let (row, there, tested) = some_found (λ (row : StepRow). is_active row.step.state && same_name p row.step.point) (steps_of R.steps d) active in
      let runs = (All-contains (λ (row : StepRow). is_active row.step.state ≡ true → (is_running r.phase ≡ true) × (row.round ≡ present_round R.steps d)) (steps_of R.steps d) row
      (lacks.good.said.steps_go_in_turn.active_running d r read) there (and_parts (is_active row.step.state) (same_name p row.step.point) tested).0).0 in
      false≢true (sym (runs_open r.phase runs) ∙ over))

  -- ---- the moves are the same

  same_reported : (r : Record) (row : StepRow) (done : Bool) → reported_back S r row done ≡ reported_back R r row done
  same_reported r row done = ap (λ (by : List ℕ). ask r by (kinds.Repeat r.id row.ordinal (step_text (task row.step))) ∷ ask r by (kinds.Report r.id row.ordinal done) ∷ []) (same_one is_field)

  same_cancelled : (r : Record) (o : Option StepRow) → cancelled S r o ≡ cancelled R r o
  same_cancelled r None = refl
  same_cancelled r (Some row) = same_reported r row false

  same_undone : (d : Record) (o : Option StepRow) → reported_undone S (Some d) o ≡ reported_undone R (Some d) o
  same_undone d None = refl
  same_undone d (Some row) = same_reported d row false

  same_undone_of : (d : Option Record) (o : Option StepRow) → reported_undone S d o ≡ reported_undone R d o
  same_undone_of None o = refl
  same_undone_of (Some d) o = same_undone d o

  same_given_out : (r : Record) (row : StepRow) → given_out S r row (hand_of S.states row.step.point) ≡ given_out R r row (hand_of R.states row.step.point)
  unfolding steps_of
  same_given_out r row =
      ap (λ (states : List PointState). given_out S r row (hand_of states row.step.point)) same_states ∙ by (hand_of R.states row.step.point) refl
    where
      instructed : ask r (one_of_role S is_operator) (kinds.Instruct r.id row.ordinal) ∷ [] ≡ ask r (one_of_role R is_operator) (kinds.Instruct r.id row.ordinal) ∷ []
      instructed = ap (λ (by : List ℕ). ask r by (kinds.Instruct r.id row.ordinal) ∷ []) (same_one is_operator)

      let_go : (d : Id) → gone d ≡ false → reported_undone S (record_of S.records d) (given_out_at S.steps d row.step.point) ≡ reported_undone R (record_of R.records d) (given_out_at R.steps d row.step.point)
      let_go d kept =
          let own = lacks.own d kept in
          (λ i. reported_undone S (sym own.own_record i) (find (λ (other : StepRow). is_active other.step.state && same_name row.step.point other.step.point) (sym own.own_steps i)))
          ∙ same_undone_of (record_of R.records d) (given_out_at R.steps d row.step.point)

      by : (o : Option Id) → hand_of R.states row.step.point ≡ o → given_out S r row o ≡ given_out R r row o
      by None held = instructed
      by (Some d) held = λ i. if same_id r.id d then instructed i else let_go d (hand_is_open d row.step.point held) i

  same_begun : (r : Record) (row : StepRow) (b : Bool) → begun S r row b ≡ begun R r row b
  same_begun r row true = ap (λ (by : List ℕ). ask r by (kinds.Amend r.id row.ordinal) ∷ []) (same_one is_operator)
  same_begun r row false = same_given_out r row

  same_stepped : (r : Record) (o : Option StepRow) → stepped S r o ≡ stepped R r o
  same_stepped r None = refl
  same_stepped r (Some row) = λ i. if is_active row.step.state then same_reported r row (not (is_close row.step.action)) i
      else same_begun r row (is_close row.step.action) i

  module _ (r : Record) (kept : gone r.id ≡ false) where
    steps_same : steps_of S.steps r.id ≡ steps_of R.steps r.id
    steps_same = sym (SameOwn.own_steps (lacks.own r.id kept))

    round_same : (round : ℕ) → steps_in S.steps r.id round ≡ steps_in R.steps r.id round
    round_same round = sym (same_round r.id R S (lacks.own r.id kept) round)

    cancelled_same : cancelled S r (find (λ row. is_active row.step.state) (steps_of S.steps r.id)) ≡ cancelled R r (find (λ row. is_active row.step.state) (steps_of R.steps r.id))
    cancelled_same = ap (λ (rows : List StepRow). cancelled S r (find (λ row. is_active row.step.state) rows)) steps_same ∙ same_cancelled r _

    restored_same : restored S r ≡ restored R r
    restored_same = λ i. ask r (same_one is_operator i) (kinds.Restore r.id (undoing_steps (held_among (same_holds i) r.id (points_of (round_same 1 i))))) ∷ []

    moves_same : (phase : Phase) → moves_in S r phase ≡ moves_in R r phase
    moves_same Requested = cancelled_same
    moves_same Ordered = cancelled_same
    moves_same Switching = cancelled_same
    moves_same Granted = ap (λ (holds : List Hold). given_up r (places_of holds r.id Crew) (places_of holds r.id Ground)) same_holds
    moves_same Released = restored_same
    moves_same Restoring = ap (λ (rows : List StepRow). stepped S r (find (λ row. not (is_done row.step.state)) rows)) (round_same 2) ∙ same_stepped r _
    moves_same Closed = refl

  pub same_moves : (c : Id) → gone c ≡ false → next_moves S c ≡ next_moves R c
  same_moves c kept = ap (moves_of S) (sym (SameOwn.own_record (lacks.own c kept))) ∙ at (record_of R.records c) refl
    where
      at : (o : Option Record) → record_of R.records c ≡ o → moves_of S o ≡ moves_of R o
      at None read = refl
      at (Some r) read = moves_same r (ap gone (record_id R.records c r read) ∙ kept) r.phase

  pub same_turns : (c : Id) → gone c ≡ false → enough_turns S c ≡ enough_turns R c
  same_turns c kept = λ i. 5 * (257 + length (sym (same_round c R S (lacks.own c kept) 2) i)) + length (same_holds i)

  -- ---- each names a clearance that is not lacking

  module _ (r : Record) (kept : gone r.id ≡ false) where
    one_names : (by : List ℕ) (kind : Kind) → NamesAnother gone (named_clearance kind) → AllNameAnother gone (ask r by kind ∷ [])
    unfolding AllNameAnother
    one_names by kind names = (names, tt)

    reported_names : (row : StepRow) (done : Bool) → AllNameAnother gone (reported_back R r row done)
    unfolding AllNameAnother
    reported_names row done = (kept, (kept, tt))

    cancelled_names : (o : Option StepRow) → AllNameAnother gone (cancelled R r o)
    cancelled_names None = one_names r.holder (kinds.Cancel r.id) kept
    cancelled_names (Some row) = reported_names row false

    given_up_names : (crews grounds : List (List ℕ)) → AllNameAnother gone (given_up r crews grounds)
    given_up_names (crew ∷ crews) grounds = one_names r.holder (kinds.SignOff r.id crew) kept
    given_up_names [] (section ∷ grounds) = one_names r.holder (kinds.Unground r.id section) kept
    given_up_names [] [] = one_names r.holder (kinds.Release r.id true true) kept

  undone_names : (d : Id) → gone d ≡ false → (o : Option Record) → record_of R.records d ≡ o → (found : Option StepRow) → AllNameAnother gone (reported_undone R o found)
  unfolding AllNameAnother
  undone_names d kept None read found = tt
  undone_names d kept (Some r) read None = tt
  undone_names d kept (Some r) read (Some row) = reported_names r (ap gone (record_id R.records d r read) ∙ kept) row false

  module _ (r : Record) (kept : gone r.id ≡ false) where
    given_out_names : (row : StepRow) (o : Option Id) → hand_of R.states row.step.point ≡ o → AllNameAnother gone (given_out R r row o)
    given_out_names row None held = one_names r kept (one_of_role R is_operator) (kinds.Instruct r.id row.ordinal) kept
    given_out_names row (Some d) held = by (same_id r.id d) refl
      where
        by : (b : Bool) → same_id r.id d ≡ b → AllNameAnother gone (given_out R r row (Some d))
        by true is = rw is (one_names r kept (one_of_role R is_operator) (kinds.Instruct r.id row.ordinal) kept)
        by false is = rw is (undone_names d (hand_is_open d row.step.point held) (record_of R.records d) refl (given_out_at R.steps d row.step.point))

    begun_names : (row : StepRow) (b : Bool) → AllNameAnother gone (begun R r row b)
    begun_names row true = one_names r kept (one_of_role R is_operator) (kinds.Amend r.id row.ordinal) kept
    begun_names row false = given_out_names row (hand_of R.states row.step.point) refl

    stepped_names : (o : Option StepRow) → AllNameAnother gone (stepped R r o)
    unfolding AllNameAnother
    stepped_names None = tt
    stepped_names (Some row) = by (is_active row.step.state) refl
      where
        by : (b : Bool) → is_active row.step.state ≡ b → AllNameAnother gone (stepped R r (Some row))
        by true is = rw is (reported_names r kept row (not (is_close row.step.action)))
        by false is = rw is (begun_names row (is_close row.step.action))

    moves_name : (phase : Phase) → AllNameAnother gone (moves_in R r phase)
    unfolding AllNameAnother
    moves_name Requested = cancelled_names r kept _
    moves_name Ordered = cancelled_names r kept _
    moves_name Switching = cancelled_names r kept _
    moves_name Granted = given_up_names r kept _ _
    moves_name Released = (kept, tt)
    moves_name Restoring = stepped_names _
    moves_name Closed = tt

  pub next_name : (c : Id) → gone c ≡ false → AllNameAnother gone (next_moves R c)
  unfolding AllNameAnother
  next_name c kept = at (record_of R.records c) refl
    where
      at : (o : Option Record) → record_of R.records c ≡ o → AllNameAnother gone (moves_of R o)
      at None read = tt
      at (Some r) read = moves_name r (ap gone (record_id R.records c r read) ∙ kept) r.phase
