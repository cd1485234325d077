-- What an update leaves: each point of an open record's steps, with its row, its position and its hand.
use Rattle.std.proofs.Common.{◌≡◌, ◌∙◌, ℕ, Bool, true, false, ◌&&◌, List, [], ◌∷◌, map, Contains, Option, None, Some, refl, sym, ap, subst, is_some, option_map, IsTrue, unwrap_or}
use Rattle.clr_rules.proofs.good.Opening.{in_key_order-from_sorted}
use Rattle.clr_rules.proofs.lists.OpenPhases.{open_where}
use Rattle.clr_rules.proofs.lists.StateFacts.{state_is_known, state_of-point}
use Rattle.clr_rules.specs.Good.{has_record, is_active_at}
use Rattle.clr_rules.specs.Prelude.{hand_of, present_round, task}
use Rattle.clr_rules.specs.States.{hand_in, is_hand}
use Rattle.clr_rules.specs.Steps.{is_of_round}
use Rattle.clr_update.proofs.Common.{All-contains, Contains-filter, Grid, HoldKind, Id, IsGood, IsRead, Opened, PointRow, PointState, Record, Register, StepRow, Task, Update, and_parts}
use Rattle.clr_update.proofs.Common.{both_ways, false≢true, false_from_ne_true, filed, has_hold, has_in_hand, has_name, has_name-row, in_key_order, is_active, is_open, is_point_kind, is_running}
use Rattle.clr_update.proofs.Common.{is_standing, kept_state, kept_there, mapped_from, name_cmp, name_says, nat_list_cmp_total, none-some, one_name, point_names, points_of, position_of}
use Rattle.clr_update.proofs.Common.{record_id, record_of, row_named, row_of-member, same_id, same_name, same_point, some_from, state_key, state_of, steps_in, steps_of, tasks_of}
use Rattle.clr_update.proofs.Common.{there_mapped, updated}
use Rattle.clr_update.proofs.Filed.{IsFiled, is_filed}
use Rattle.clr_update.proofs.Free.{Free}
use Rattle.clr_update.proofs.Rows.{map_none, point_itself, point_same, stays}

-- ---- the points of steps

-- a point of steps is that of one of them
pub step_at_point : (rows : List StepRow) (p : List ℕ) → has_name (points_of rows) p ≡ true → (row : StepRow) × Contains rows row × (row.step.point ≡ p)
step_at_point rows p named =
    let (t, in_tasks, at_p) = mapped_from (λ (t : Task). t.point) (tasks_of rows) p ((name_says (points_of rows) p).0 named) in
    let (row, there, made) = mapped_from (λ (row : StepRow). task row.step) rows t in_tasks in
    (row, there, ap (λ (t : Task). t.point) made ∙ at_p)

-- and the point of a step is among theirs
pub named_at_step : (rows : List StepRow) (row : StepRow) → Contains rows row → has_name (points_of rows) row.step.point ≡ true
named_at_step rows row there = (name_says (points_of rows) row.step.point).1
    (there_mapped (λ (t : Task). t.point) (tasks_of rows) (task row.step) (there_mapped (λ (row : StepRow). task row.step) rows row there))

-- the steps of a round are steps of the clearance
of_all_rounds : (steps : List StepRow) (c : Id) (round : ℕ) (row : StepRow) → Contains (steps_in steps c round) row → Contains (steps_of steps c) row
unfolding steps_in steps_of
of_all_rounds steps c round row there =
    let both = kept_there (is_of_round c round) steps row there in
    Contains-filter (λ (row : StepRow). same_id c row.id) steps row both.0 (and_parts (same_id c row.id) _ both.1).0

pub in_all_rounds : (steps : List StepRow) (c : Id) (round : ℕ) (p : List ℕ) → has_name (points_of (steps_in steps c round)) p ≡ true → has_name (points_of (steps_of steps c)) p ≡ true
in_all_rounds steps c round p named =
    let (row, there, at_p) = step_at_point (steps_in steps c round) p named in
    subst (λ (q : List ℕ). has_name (points_of (steps_of steps c)) q ≡ true) at_p
    (named_at_step (steps_of steps c) row (of_all_rounds steps c round row there))

-- ---- the points that stay

-- a point has one row in both networks
pub record Stays (R S : Register) (p : List ℕ) : Type 0 where
  pub row : PointRow
  pub was : Contains (Grid.points R.net) row
  pub is : Contains (Grid.points S.net) row
  pub named : p ≡ row.name

module _ (R : Register) (good : IsGood R) (u : Update) (free : Free R u (updated R u)) where
  abbrev S : Register
  S = updated R u

  -- a point of an open record's steps stays
  pub step_stays : (c : Id) (r : Record) → record_of R.records c ≡ Some r → is_open r.phase ≡ true
      → (p : List ℕ) → has_name (points_of (steps_of R.steps c)) p ≡ true → Stays R (updated R u) p
  step_stays c r found unclosed p named =
      let (step, in_steps, at_p) = step_at_point (steps_of R.steps c) p named in
      let known : has_name (point_names (Grid.points R.net)) p ≡ true = subst (λ (q : List ℕ). has_name (point_names (Grid.points R.net)) q ≡ true) at_p
      (All-contains (λ (row : StepRow). IsTrue (has_name (point_names (Grid.points R.net)) row.step.point)) (steps_of R.steps c) step
      (good.besides.points_known.steps c r found unclosed) in_steps) in
      let (row, was, same) = row_named (λ (q : PointRow). q.name) (Grid.points R.net) p known in
      let own : r.id ≡ c = record_id R.records c r found in
      record {
        row = row;
        was = was;
        is = stays same_point point_same point_itself (λ (q : PointRow). has_name (points_of (steps_of R.steps r.id)) q.name) (Grid.points S.net) (Grid.points R.net)
            (map_none (λ (q : PointRow). q.name) _ (free.steps c r found unclosed)) row was
            (subst (λ (q : List ℕ). has_name (points_of (steps_of R.steps r.id)) q ≡ true) same
            (subst (λ (d : Id). has_name (points_of (steps_of R.steps d)) p ≡ true) (sym own) named));
        named = same;
      }

  -- so does a point that is in hand
  pub hand_stays : (c : Id) (p : List ℕ) → has_in_hand R.states c p ≡ true → Stays R (updated R u) p
  unfolding is_active_at
  hand_stays c p held = at (record_of R.records c) refl
    where
      active : is_active_at R.steps c p ≡ true
      active = sym (good.said.hand_matches_step.hand c p) ∙ held

      at : (o : Option Record) → record_of R.records c ≡ o → Stays R (updated R u) p
      at None none = absurd (both_ways (has_record R.records c) (ap is_some none) (good.said.numbers_have_no_gaps.hands_recorded c p held))
      at (Some r) found =
          let (row, there, both) = some_from (λ (row : StepRow). is_active row.step.state && same_name p row.step.point) (steps_of R.steps c) active in
          let (given_out, at_p) = and_parts (is_active row.step.state) (same_name p row.step.point) both in
          let runs = All-contains (λ (row : StepRow). is_active row.step.state ≡ true → (is_running r.phase ≡ true) × (row.round ≡ present_round R.steps c)) (steps_of R.steps c) row
          (good.said.steps_go_in_turn.active_running c r found) there given_out in
          step_stays c r found (open_where is_running refl r.phase runs.0) p
          (subst (λ (q : List ℕ). has_name (points_of (steps_of R.steps c)) q ≡ true) (sym (one_name p row.step.point at_p)) (named_at_step (steps_of R.steps c) row there))

  -- and a point where something is held
  pub hold_stays : (c : Id) (kind : HoldKind) (p : List ℕ) → is_point_kind kind ≡ true → has_hold R.holds c kind p ≡ true → Stays R (updated R u) p
  hold_stays c kind p at_point held =
      let (r, found, standing) = good.said.holds_are_put.standing c kind p at_point held in
      step_stays c r found (open_where is_standing refl r.phase standing) p
      (in_all_rounds R.steps c 1 p (good.said.holds_are_put.at_points c kind p at_point held))

  pub stays_named : (p : List ℕ) → Stays R (updated R u) p → has_name (point_names (Grid.points (Register.net (updated R u)))) p ≡ true
  stays_named p it = subst (λ (q : List ℕ). has_name (point_names (Grid.points S.net)) q ≡ true) (sym it.named)
      (has_name-row (λ (q : PointRow). q.name) (Grid.points S.net) it.row it.is)

  -- ---- states

  module _ (read : IsRead u) where
    abbrev F : Register
    F = filed R u

    pub filed_is : IsFiled (filed R u)
    filed_is = is_filed u read R free.fits

    pub same_point_of : (states : List PointState) (new : PointState) → PointState.point (kept_state states new) ≡ new.point
    same_point_of states new = at (state_of states new.point) refl
      where
        at : (o : Option PointState) → state_of states new.point ≡ o → PointState.point (unwrap_or o new) ≡ new.point
        at None is = refl
        at (Some state) is = state_of-point states new.point state is

    pub same_keys : (states news : List PointState) → map state_key (map (kept_state states) news) ≡ map state_key news
    same_keys states [] = refl
    same_keys states (new ∷ news) = λ i. same_point_of states new i ∷ same_keys states news i

    -- each point has a state
    pub known_states : map state_key (Register.states (updated R u)) ≡ point_names (Grid.points (Register.net (updated R u)))
    known_states = same_keys R.states F.states ∙ filed_is.known

    pub states_in_order : in_key_order name_cmp state_key (Register.states (updated R u)) ≡ true
    states_in_order = in_key_order-from_sorted name_cmp state_key S.states (rw known_states filed_is.network.points_rise)

    -- what is read of a point of the new network: its state of before, or else that of the files
    pub record Reading (p : List ℕ) : Type 0 where
      pub new : PointState
      pub there : Contains F.states new
      pub at_p : new.point ≡ p
      pub state : state_of S.states p ≡ Some (unwrap_or (state_of R.states p) new)

    pub reading : (p : List ℕ) → has_name (point_names (Grid.points (Register.net (updated R u)))) p ≡ true → Reading p
    reading p named =
        let (new, there, at_p) = mapped_from state_key F.states p ((name_says (map state_key F.states) p).0 (ap (λ (names : List (List ℕ)). has_name names p) filed_is.known ∙ named)) in
        let here = there_mapped (kept_state R.states) F.states new there in
        let key : PointState.point (kept_state R.states new) ≡ p = same_point_of R.states new ∙ at_p in
        record {
          new = new;
          there = there;
          at_p = at_p;
          state = ap (state_of S.states) (sym key) ∙ row_of-member name_cmp state_key nat_list_cmp_total (kept_state R.states new) S.states states_in_order here
              ∙ ap (λ (q : List ℕ). Some (unwrap_or (state_of R.states q) new)) at_p;
        }

    was_some : (o : Option PointState) (new : PointState) → is_some o ≡ true → Some (unwrap_or o new) ≡ o
    was_some None new some = absurd (false≢true some)
    was_some (Some state) new some = refl

    -- a point that was there keeps its state
    pub state_stays : (p : List ℕ) → has_name (point_names (Grid.points (Register.net (updated R u)))) p ≡ true → is_some (state_of R.states p) ≡ true
        → state_of (Register.states (updated R u)) p ≡ state_of R.states p
    state_stays p named some = let it = reading p named in it.state ∙ was_some (state_of R.states p) it.new some

    pub unknown_state : (p : List ℕ) → has_name (point_names (Grid.points (Register.net (updated R u)))) p ≡ false → state_of (Register.states (updated R u)) p ≡ None
    unknown_state p unknown = at (state_of S.states p) refl
      where
        none : is_some (state_of S.states p) ≡ false
        none = state_is_known S.states p ∙ ap (λ (names : List (List ℕ)). has_name names p) known_states ∙ unknown

        at : (o : Option PointState) → state_of S.states p ≡ o → o ≡ None
        at None is = refl
        at (Some state) is = absurd (both_ways (is_some (state_of S.states p)) none (ap is_some is))

    -- a point that is new is in nobody's hand
    free_hand : (p : List ℕ) (it : Reading p) → (o : Option PointState) → state_of R.states p ≡ o → hand_of S.states p ≡ hand_of R.states p
    free_hand p it None is =
        ap hand_in (it.state ∙ ap (λ o. Some (unwrap_or o it.new)) is) ∙ filed_is.free it.new it.there ∙ sym (ap hand_in is)
    free_hand p it (Some state) is = ap hand_in (it.state ∙ ap (λ o. Some (unwrap_or o it.new)) is ∙ sym is)

    pub new_hand : (p : List ℕ) → state_of R.states p ≡ None → hand_of (Register.states (updated R u)) p ≡ None
    new_hand p none = at (has_name (point_names (Grid.points S.net)) p) refl
      where
        at : (b : Bool) → has_name (point_names (Grid.points S.net)) p ≡ b → hand_of S.states p ≡ None
        at true named = free_hand p (reading p named) (state_of R.states p) refl ∙ ap hand_in none
        at false unknown = ap hand_in (unknown_state p unknown)

    -- hands stay
    pub same_hand : (c : Id) (p : List ℕ) → has_in_hand (Register.states (updated R u)) c p ≡ has_in_hand R.states c p
    same_hand c p = at (has_name (point_names (Grid.points S.net)) p) refl
      where
        at : (b : Bool) → has_name (point_names (Grid.points S.net)) p ≡ b → has_in_hand S.states c p ≡ has_in_hand R.states c p
        at true named = ap (is_hand c) (free_hand p (reading p named) (state_of R.states p) refl)
        at false unknown = ap (λ o. is_hand c (hand_in o)) (unknown_state p unknown)
            ∙ sym (false_from_ne_true (has_in_hand R.states c p) (λ held. both_ways (has_name (point_names (Grid.points S.net)) p) unknown (stays_named p (hand_stays c p held))))

    some_position : (o : Option PointState) → option_map (λ (state : PointState). state.position) o ≡ Some Opened → is_some o ≡ true
    some_position None is = absurd (none-some Opened is)
    some_position (Some state) is = refl

    -- what is held open stays open
    pub still_open : (c : Id) (kind : HoldKind) (p : List ℕ) → is_point_kind kind ≡ true → has_hold R.holds c kind p ≡ true → position_of (Register.states (updated R u)) p ≡ Some Opened
    still_open c kind p at_point held =
        let opened = good.said.held_points_are_open.open_there c kind p at_point held in
        ap (option_map (λ (state : PointState). state.position))
        (state_stays p (stays_named p (hold_stays c kind p at_point held)) (some_position (state_of R.states p) opened)) ∙ opened
