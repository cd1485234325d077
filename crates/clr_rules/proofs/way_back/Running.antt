-- A Restoring record runs each step that is left, and so it goes out.
use Rattle.std.proofs.Common.{◌*◌, arith, ◌≡◌, ℕ, zero, suc, Bool, true, false, cond, not, ◌&&◌, List, [], ◌∷◌, ◌++◌, length, Option, Some, None, find, is_some, Contains, refl, sym, ◌∙◌, ap, subst}
use Rattle.std.proofs.lemmas.Bool.{and_parts, false≢true}
use Rattle.clr_net.proofs.Walks.{one_name}
use Rattle.clr_net.specs.Name.{same_name}
use Rattle.clr_net.specs.Names.{has_name}
use Rattle.clr_order.proofs.Finds.{found_passes}
use Rattle.clr_order.specs.declared.action.Action.TheVariants as actions
use Rattle.clr_order.specs.declared.step.StepState.TheVariants.{Instructed}
use Rattle.clr_rules.specs.Changes.{step_moved}
use Rattle.clr_rules.specs.Checks.{is_field, is_operator, other_hand}
use Rattle.clr_rules.specs.Good.{IsGood, is_active_at, steps_left_of}
use Rattle.clr_rules.specs.GoodByPhase.{Outlook, of_round, outlook_of}
use Rattle.clr_rules.specs.Prelude.{SetHand, PutRecord, PutStep, Command, Phase, Closed, Record, StepRow, Id, same_id, Register}
use Rattle.clr_rules.specs.Prelude.{hand_of, position_of, record_of, is_restoring, all_done, is_active, is_done, present_steps, points_of, steps_in, steps_of}
use Rattle.clr_rules.specs.Records.{ends_with_steps, is_closed}
use Rattle.clr_rules.specs.Run.{after}
use Rattle.clr_rules.specs.States.{is_hand}
use Rattle.clr_rules.specs.Staffed.{IsStaffed, has_some_role}
use Rattle.clr_rules.specs.Steps.{is_close}
use Rattle.clr_rules.specs.WayBack.{ask, given_out, given_out_at, one_of_role}
use Rattle.clr_rules.specs.laws.WayBack.{is_point_of}
use Rattle.clr_rules.specs.declared.command.Kind.TheVariants as kinds
use Rattle.clr_rules.proofs.edits.PutSteps.{put_step}
use Rattle.clr_rules.proofs.good.PutHolds.{found_there}
use Rattle.clr_rules.proofs.lists.RoundSteps.{of_round_is, own_id, record_id}
use Rattle.clr_rules.proofs.staffed.Puts.{first_left, found_any}
use Rattle.clr_rules.proofs.way_back.Accepting.{Made, record_is, is_move}
use Rattle.clr_rules.proofs.way_back.ComingBack.{R1, back, done_own_steps, done_record, done_recorded, done_row, others2, other_undone, own_done, own_undone, both2, repeating, reporting, split, undone_hand, undone_recorded, undone_steps, repeat_move, undone_move, done_move}
use Rattle.clr_rules.proofs.way_back.InWork.{StepMade, amend_made, instruct_made, made_alone, made_handed, both_after, GoodAndStaffed}
use Rattle.clr_rules.proofs.way_back.Restoring.{IsFirstLeft, among, count_again, count_less, first_again, here, left, left_count, moves_are, operator, restoring_ends, round, some_field, split_here, switches_not, turn, w, waits_by}
use Rattle.clr_rules.proofs.way_back.Rows.{SplitAt, points_swap, split_again}
use Rattle.clr_rules.proofs.way_back.Staying.{WayOut, is_out, moved_one, moved_two, none_are_set, stays_after, wider}

-- what is so of Restoring records with n steps left
abbrev pub RestoringGoOut : ℕ → Type 0
RestoringGoOut n = (R : Register) → GoodAndStaffed R → (r : Record) → record_of R.records r.id ≡ Some r → is_restoring r.phase ≡ true → left_count R r.id ≡ n → WayOut (5 * n) R r.id

found_active : (steps : List StepRow) (d : Id) (p : List ℕ) → is_active_at steps d p ≡ true → is_some (given_out_at steps d p) ≡ true
unfolding is_active_at
found_active steps d p h = found_any (λ (row : StepRow). is_active row.step.state && same_name p row.step.point) (steps_of steps d) ∙ h

instruct_next : (R : Register) (r : Record) (row : StepRow) (hand : Option Id) → other_hand r.id hand ≡ None
    → given_out R r row hand ≡ ask r (one_of_role R is_operator) (kinds.Instruct r.id row.ordinal) ∷ []
instruct_next R r row None free = refl
instruct_next R r row (Some d) free = at (same_id r.id d) refl
  where
    at : (b : Bool) → same_id r.id d ≡ b → given_out R r row (Some d) ≡ ask r (one_of_role R is_operator) (kinds.Instruct r.id row.ordinal) ∷ []
    at true e = rw e refl
    at false e = absurd (let g = rw e at free in cc)

closed_then : (phase : Phase) → is_restoring phase ≡ true → (b : Bool) → b ≡ true → is_closed (cond (ends_with_steps phase && b) Closed phase) ≡ true
closed_then phase restoring b e = rw (restoring_ends phase restoring, e) refl

goes_on_then : (phase : Phase) → is_restoring phase ≡ true → (b : Bool) → b ≡ false → is_restoring (cond (ends_with_steps phase && b) Closed phase) ≡ true
goes_on_then phase restoring b e = rw (restoring_ends phase restoring, e) restoring

one_less : (m n k : ℕ) → m ≡ suc k → m ≡ suc n → k ≡ n
one_less m n k e f = cc

module _ (n : ℕ) (more : RestoringGoOut n) where
  -- a step that is given out, and is no Close, is done
  run_active : (R : Register) (both : GoodAndStaffed R) (r : Record) (found : record_of R.records r.id ≡ Some r) (restoring : is_restoring r.phase ≡ true) (row : StepRow)
      (first : IsFirstLeft R r.id row) → left_count R r.id ≡ suc n → is_close row.step.action ≡ false → is_active row.step.state ≡ true → WayOut (suc (5 * n)) R r.id
  run_active R both r found restoring row first count opens active =
      let there = among R both r found restoring row first in
      let some = some_field R both r found restoring row first in
      moved_two (5 * n) R r.id (repeating R both r found row there active some) (reporting R both r found row there active some true)
      (moves_are R both r found restoring row first ∙ rw (active, opens) refl)
      (repeat_move R both r found row there active some) (done_move R both r found row there active some (switches_not R both r found restoring row first opens))
      (own_done R both r found row there active some (switches_not R both r found restoring row first opens))
      (out_by there some (all_done (present_steps (put_step (done_row R both r found row there active some) (Register.steps (R1 R both r found row there active some))) r.id)) refl)
    where
      out_by : (there : Contains (steps_of R.steps r.id) row) (some : has_some_role R.staff is_field ≡ true) (b : Bool)
          → all_done (present_steps (put_step (done_row R both r found row there active some) (Register.steps (R1 R both r found row there active some))) r.id) ≡ b
          → WayOut (5 * n) (after (R1 R both r found row there active some) (reporting R both r found row there active some true)) r.id
      out_by there some true e = is_out (5 * n) (after (R1 R both r found row there active some) (reporting R both r found row there active some true)) r.id
          (done_record R both r found row there active some) (done_recorded R both r found row there active some)
          (closed_then r.phase restoring (all_done (present_steps (put_step (done_row R both r found row there active some) (Register.steps (R1 R both r found row there active some))) r.id)) e)
      out_by there some false e = more (after (R1 R both r found row there active some) (reporting R both r found row there active some true))
          (both2 R both r found row there active some true)
          (done_record R both r found row there active some) (done_recorded R both r found row there active some)
          (goes_on_then r.phase restoring (all_done (present_steps (put_step (done_row R both r found row there active some) (Register.steps (R1 R both r found row there active some))) r.id)) e)
          (one_less (left_count R r.id) n (left_count (after (R1 R both r found row there active some) (reporting R both r found row there active some true)) r.id)
          (count_less R (IsGood.said (GoodAndStaffed.good both)).in_order.steps r.id row (split R both r found row there active some) (round R both r found restoring row first) first
          (after (R1 R both r found row there active some) (reporting R both r found row there active some true)) (done_row R both r found row there active some)
          (round R both r found restoring row first) (done_own_steps R both r found row there active some) refl) count)

  -- a step that waits is given out, where its point is free
  run_free : (R : Register) (both : GoodAndStaffed R) (r : Record) (found : record_of R.records r.id ≡ Some r) (restoring : is_restoring r.phase ≡ true) (row : StepRow)
      (first : IsFirstLeft R r.id row) → left_count R r.id ≡ suc n → is_close row.step.action ≡ false → is_active row.step.state ≡ false
      → other_hand r.id (hand_of R.states row.step.point) ≡ None → WayOut (suc (suc (5 * n))) R r.id
  run_free R both r found restoring row first count opens waits free =
      moved_one (suc (5 * n)) R r.id q (moves_are R both r found restoring row first ∙ rw (waits, opens) (instruct_next R r row (hand_of R.states row.step.point) free))
      (is_move R q (SetHand row.step.point (Some r.id) ∷ PutRecord r ∷ PutStep new ∷ []) m refl)
      (stays_after R good r.id q refl
      (λ p. ap (λ (S : Register). position_of S.states p) m.is_after ∙ none_are_set (SetHand row.step.point (Some r.id) ∷ PutRecord r ∷ PutStep new ∷ []) R (tt, (tt, (tt, tt))) p)
      (λ p of_it. ap (λ points. has_name points p) (sym (ap points_of steps_are ∙ points_swap s.before row new s.after refl ∙ ap points_of (sym s.was))) ∙ of_it))
      (run_active (after R q) (both_after R both q) r e.recorded restoring new
      (first_again R good.said.in_order.steps r.id row s here_round first (after R q) new here_round steps_are refl)
      (count_again R good.said.in_order.steps r.id row s here_round first (after R q) new here_round steps_are refl ∙ count) opens refl)
    where
      good : IsGood R
      good = GoodAndStaffed.good both

      here_round : row.round ≡ 2
      here_round = round R both r found restoring row first

      s : SplitAt R.steps r.id row
      s = split_here R both r found restoring row first

      q : Command
      q = ask r (one_of_role R is_operator) (kinds.Instruct r.id row.ordinal)

      new : StepRow
      new = step_moved Instructed row.step.reader row

      m : Made R (ask r (one_of_role R is_operator) (kinds.Instruct r.id row.ordinal)) (SetHand row.step.point (Some r.id) ∷ PutRecord r ∷ PutStep (step_moved Instructed row.step.reader row) ∷ [])
      m = instruct_made R r row (w R both r found restoring row first) (one_of_role R is_operator) (operator R both r found restoring row first)
          (waits_by row.step.state waits (left R both r found restoring row first)) opens (turn R both r found restoring row first) free

      e : StepMade R (after R q) r new
      e = made_handed R q r row.step.point (Some r.id) new m

      steps_are : steps_of (Register.steps (after R q)) r.id ≡ s.before ++ new ∷ s.after
      steps_are = ap (λ steps. steps_of steps r.id) e.steps ∙ split_again R.steps r.id row new good.said.in_order.steps s refl

  -- another clearance that has the point in hand lets it go first
  run_let_go : (R : Register) (both : GoodAndStaffed R) (r : Record) (found : record_of R.records r.id ≡ Some r) (restoring : is_restoring r.phase ≡ true) (row : StepRow)
      (first : IsFirstLeft R r.id row) → left_count R r.id ≡ suc n → is_close row.step.action ≡ false → is_active row.step.state ≡ false
      → (d : Id) → hand_of R.states row.step.point ≡ Some d → same_id r.id d ≡ false
      → (x : StepRow) → given_out_at R.steps d row.step.point ≡ Some x
      → (s : Record) → record_of R.records d ≡ Some s → WayOut (suc (suc (suc (5 * n)))) R r.id
  run_let_go R both r found restoring row first count opens waits d hand differs x found_x s read =
      moved_two (suc (suc (5 * n))) R r.id (repeating R both s found_s x among_x active_x some) (reporting R both s found_s x among_x active_x some false)
      (moves_are R both r found restoring row first ∙ rw (waits, opens, hand, differs, read, found_x) refl)
      (repeat_move R both s found_s x among_x active_x some) (undone_move R both s found_s x among_x active_x some)
      (other_undone R both s found_s x among_x active_x some r.id apart (ap (is_point_of R r.id) (sym point) ∙ here R both r found restoring row first))
      (run_free S (both2 R both s found_s x among_x active_x some false) r (ap (λ (v : Outlook). v.clearance) same ∙ found) restoring row
      (ap (find (λ (row : StepRow). not (is_done row.step.state))) same_second ∙ first)
      (ap (λ rows. length (steps_left_of rows)) same_second ∙ count) opens waits
      (ap (λ p. other_hand r.id (hand_of (Register.states S) p)) point ∙ ap (other_hand r.id) (undone_hand R both s found_s x among_x active_x some)))
    where
      one : s.id ≡ d
      one = record_id R.records d s read

      found_s : record_of R.records s.id ≡ Some s
      found_s = ap (record_of R.records) one ∙ read

      among_x : Contains (steps_of R.steps s.id) x
      among_x = subst (λ (c : Id). Contains (steps_of R.steps c) x) (sym one)
          (found_there (λ (x : StepRow). is_active x.step.state && same_name row.step.point x.step.point) (steps_of R.steps d) x found_x)

      parts : (is_active x.step.state ≡ true) × (same_name row.step.point x.step.point ≡ true)
      parts = and_parts (is_active x.step.state) (same_name row.step.point x.step.point)
          (found_passes (λ (x : StepRow). is_active x.step.state && same_name row.step.point x.step.point) (steps_of R.steps d) x found_x)

      active_x : is_active x.step.state ≡ true
      active_x = parts.0

      point : row.step.point ≡ x.step.point
      point = one_name row.step.point x.step.point parts.1

      some : has_some_role R.staff is_field ≡ true
      some = some_field R both r found restoring row first

      apart : same_id r.id s.id ≡ false
      apart = ap (same_id r.id) one ∙ differs

      S : Register
      S = after (after R (repeating R both s found_s x among_x active_x some)) (reporting R both s found_s x among_x active_x some false)

      same : outlook_of S r.id ≡ outlook_of R r.id
      same = others2 R both s found_s x among_x active_x some false r.id apart

      same_second : steps_in (Register.steps S) r.id 2 ≡ steps_in R.steps r.id 2
      same_second = sym (of_round_is (Register.steps S) r.id 2) ∙ ap (λ (v : Outlook). of_round v.steps 2) same ∙ of_round_is R.steps r.id 2

  run_waiting : (R : Register) (both : GoodAndStaffed R) (r : Record) (found : record_of R.records r.id ≡ Some r) (restoring : is_restoring r.phase ≡ true) (row : StepRow)
      (first : IsFirstLeft R r.id row) → left_count R r.id ≡ suc n → is_close row.step.action ≡ false → is_active row.step.state ≡ false → WayOut (suc (suc (suc (5 * n)))) R r.id
  run_waiting R both r found restoring row first count opens waits = at (hand_of R.states row.step.point) refl
    where
      good : IsGood R
      good = GoodAndStaffed.good both

      active_at : (d : Id) → hand_of R.states row.step.point ≡ Some d → is_active_at R.steps d row.step.point ≡ true
      active_at d e = sym (good.said.hand_matches_step.hand d row.step.point) ∙ ap (is_hand d) e ∙ own_id d

      let_go : (d : Id) → hand_of R.states row.step.point ≡ Some d → same_id r.id d ≡ false → (o : Option StepRow) → given_out_at R.steps d row.step.point ≡ o → is_some o ≡ true → WayOut (suc (suc (suc (5 * n)))) R r.id
      let_go d e differs None f there = absurd (false≢true there)
      let_go d e differs (Some x) f there =
          let (s, read) = record_is R d (good.said.numbers_have_no_gaps.hands_recorded d row.step.point (ap (is_hand d) e ∙ own_id d)) in
          run_let_go R both r found restoring row first count opens waits d e differs x f s read

      by_id : (d : Id) → hand_of R.states row.step.point ≡ Some d → (b : Bool) → same_id r.id d ≡ b → WayOut (suc (suc (suc (5 * n)))) R r.id
      by_id d e true same = wider (suc (suc (5 * n))) (suc (suc (suc (5 * n)))) (omega arith) R r.id (run_free R both r found restoring row first count opens waits (ap (other_hand r.id) e ∙ rw same refl))
      by_id d e false differs = let_go d e differs (given_out_at R.steps d row.step.point) refl (found_active R.steps d row.step.point (active_at d e))

      at : (o : Option Id) → hand_of R.states row.step.point ≡ o → WayOut (suc (suc (suc (5 * n)))) R r.id
      at None e = wider (suc (suc (5 * n))) (suc (suc (suc (5 * n)))) (omega arith) R r.id (run_free R both r found restoring row first count opens waits (ap (other_hand r.id) e))
      at (Some d) e = by_id d e (same_id r.id d) refl

  -- a Close that waits becomes a Leave
  run_close : (R : Register) (both : GoodAndStaffed R) (r : Record) (found : record_of R.records r.id ≡ Some r) (restoring : is_restoring r.phase ≡ true) (row : StepRow)
      (first : IsFirstLeft R r.id row) → left_count R r.id ≡ suc n → is_close row.step.action ≡ true → is_active row.step.state ≡ false → WayOut (suc (suc (suc (suc (5 * n))))) R r.id
  run_close R both r found restoring row first count closes waits =
      moved_one (suc (suc (suc (5 * n)))) R r.id q (moves_are R both r found restoring row first ∙ rw (waits, closes) refl) (is_move R q (PutRecord r ∷ PutStep new ∷ []) m refl)
      (stays_after R good r.id q refl
      (λ p. ap (λ (S : Register). position_of S.states p) m.is_after ∙ none_are_set (PutRecord r ∷ PutStep new ∷ []) R (tt, (tt, tt)) p)
      (λ p of_it. ap (λ points. has_name points p) (sym (ap points_of steps_are ∙ points_swap s.before row new s.after refl ∙ ap points_of (sym s.was))) ∙ of_it))
      (run_waiting (after R q) (both_after R both q) r e.recorded restoring new
      (first_again R good.said.in_order.steps r.id row s here_round first (after R q) new here_round steps_are here_left)
      (count_again R good.said.in_order.steps r.id row s here_round first (after R q) new here_round steps_are here_left ∙ count) refl waits)
    where
      good : IsGood R
      good = GoodAndStaffed.good both

      here_left : is_done row.step.state ≡ false
      here_left = left R both r found restoring row first

      here_round : row.round ≡ 2
      here_round = round R both r found restoring row first

      s : SplitAt R.steps r.id row
      s = split_here R both r found restoring row first

      q : Command
      q = ask r (one_of_role R is_operator) (kinds.Amend r.id row.ordinal)

      new : StepRow
      new = record row { step = record (StepRow.step row) { action = actions.Leave } }

      m : Made R (ask r (one_of_role R is_operator) (kinds.Amend r.id row.ordinal)) (PutRecord r ∷ PutStep (record row { step = record (StepRow.step row) { action = actions.Leave } }) ∷ [])
      m = amend_made R r row (w R both r found restoring row first) (one_of_role R is_operator) (operator R both r found restoring row first) restoring
          (waits_by row.step.state waits here_left) closes

      e : StepMade R (after R q) r new
      e = made_alone R q r new m

      steps_are : steps_of (Register.steps (after R q)) r.id ≡ s.before ++ new ∷ s.after
      steps_are = ap (λ steps. steps_of steps r.id) e.steps ∙ split_again R.steps r.id row new good.said.in_order.steps s refl

  -- a Close that is given out comes back first
  run_back : (R : Register) (both : GoodAndStaffed R) (r : Record) (found : record_of R.records r.id ≡ Some r) (restoring : is_restoring r.phase ≡ true) (row : StepRow)
      (first : IsFirstLeft R r.id row) → left_count R r.id ≡ suc n → is_close row.step.action ≡ true → is_active row.step.state ≡ true → WayOut (suc (suc (suc (suc (suc (5 * n)))))) R r.id
  run_back R both r found restoring row first count closes active =
      moved_two (suc (suc (suc (suc (5 * n))))) R r.id (repeating R both r found row there active some) (reporting R both r found row there active some false)
      (moves_are R both r found restoring row first ∙ rw (active, closes) refl)
      (repeat_move R both r found row there active some) (undone_move R both r found row there active some)
      (own_undone R both r found row there active some)
      (run_close S (both2 R both r found row there active some false) r (undone_recorded R both r found row there active some) restoring (back R both r found row there active some)
      (first_again R good.said.in_order.steps r.id row s here_round first S (back R both r found row there active some) here_round (undone_steps R both r found row there active some) refl)
      (count_again R good.said.in_order.steps r.id row s here_round first S (back R both r found row there active some) here_round (undone_steps R both r found row there active some) refl ∙ count)
      closes refl)
    where
      good : IsGood R
      good = GoodAndStaffed.good both

      there : Contains (steps_of R.steps r.id) row
      there = among R both r found restoring row first

      some : has_some_role R.staff is_field ≡ true
      some = some_field R both r found restoring row first

      here_round : row.round ≡ 2
      here_round = round R both r found restoring row first

      s : SplitAt R.steps r.id row
      s = split R both r found row there active some

      S : Register
      S = after (after R (repeating R both r found row there active some)) (reporting R both r found row there active some false)

  -- one step more
  run_one : (R : Register) (both : GoodAndStaffed R) (r : Record) (found : record_of R.records r.id ≡ Some r) (restoring : is_restoring r.phase ≡ true) (row : StepRow)
      (first : IsFirstLeft R r.id row) → left_count R r.id ≡ suc n → WayOut (suc (suc (suc (suc (suc (5 * n)))))) R r.id
  run_one R both r found restoring row first count = at (is_close row.step.action) refl (is_active row.step.state) refl
    where
      at : (a : Bool) → is_close row.step.action ≡ a → (b : Bool) → is_active row.step.state ≡ b → WayOut (suc (suc (suc (suc (suc (5 * n)))))) R r.id
      at false e true f = wider (suc (5 * n)) (suc (suc (suc (suc (suc (5 * n)))))) (omega arith) R r.id (run_active R both r found restoring row first count e f)
      at false e false f = wider (suc (suc (suc (5 * n)))) (suc (suc (suc (suc (suc (5 * n)))))) (omega arith) R r.id (run_waiting R both r found restoring row first count e f)
      at true e true f = run_back R both r found restoring row first count e f
      at true e false f = wider (suc (suc (suc (suc (5 * n))))) (suc (suc (suc (suc (suc (5 * n)))))) (omega arith) R r.id (run_close R both r found restoring row first count e f)

none_left : (R : Register) (c : Id) (row : StepRow) → IsFirstLeft R c row → left_count R c ≡ zero → ⊥
none_left R c row first count = some_left (steps_in R.steps c 2) row first count
  where
    some_left : (rows : List StepRow) (row : StepRow) → find (λ row. not (is_done row.step.state)) rows ≡ Some row → length (steps_left_of rows) ≡ zero → ⊥
    some_left [] row first count = cc
    some_left (next ∷ rows) row first count = at (is_done next.step.state) refl (some_left rows row)
      where
        at : (b : Bool) → is_done next.step.state ≡ b → (find (λ row. not (is_done row.step.state)) rows ≡ Some row → length (steps_left_of rows) ≡ zero → ⊥) → ⊥
        at true e more = more (rw e at first) (rw e at count)
        at false e more = let g = rw e at count in cc

go_out : (n : ℕ) → RestoringGoOut n
go_out zero R both r found restoring count =
    let (row, first) = first_left (steps_in R.steps r.id 2) (IsStaffed.restoring (GoodAndStaffed.staffed both) r.id r found restoring) in
    absurd (none_left R r.id row first count)
go_out (suc n) R both r found restoring count =
    let (row, first) = first_left (steps_in R.steps r.id 2) (IsStaffed.restoring (GoodAndStaffed.staffed both) r.id r found restoring) in
    wider (suc (suc (suc (suc (suc (5 * n)))))) (5 * suc n) (omega arith) R r.id (run_one n (go_out n) R both r found restoring row first count)

-- A RESTORING RECORD goes out
pub restoring_go_out : (R : Register) → GoodAndStaffed R → (r : Record) → record_of R.records r.id ≡ Some r → is_restoring r.phase ≡ true
    → WayOut (5 * left_count R r.id) R r.id
restoring_go_out R both r found restoring = go_out (left_count R r.id) R both r found restoring refl
