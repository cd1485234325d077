-- A command that needs no fence is answered from the own rows as from the whole register.
use Rattle.std.proofs.Common.{◌≡◌, ◌∙◌, ℕ, ◌&&◌, ◌||◌, Bool, true, false, not, List, [], ◌∷◌, ◌++◌, map, if◌then◌else◌, Option, None, Some, is_some, refl, subst, sym, ap}
use Rattle.clr_rules.proofs.Common.{or_left, has_name, own_id, is_order, one_name}
use Rattle.clr_rules.proofs.good.DeadWork.{granted_work_is_dead}
use Rattle.clr_rules.specs.Answer.{answer, answer_by_checks, answer_with, first_refusal, known_of}
use Rattle.clr_rules.specs.Command.{named_clearance}
use Rattle.clr_rules.specs.Commands.{Known, checks, edits_of}
use Rattle.clr_rules.specs.Checks.{crew_is_off, crew_is_on, no_ground, not_tested, refuse}
use Rattle.clr_rules.specs.Good.{IsGood, ListsAreInOrder}
use Rattle.clr_rules.specs.Prelude.{Id, Register, is_granted, is_waiting}
use Rattle.clr_rules.specs.laws.Own.{is_instruct}
use Rattle.clr_rules.proofs.edits.Passing.{is_show}
use Rattle.clr_rules.proofs.near.NewAnswers.{near_is_enough}
use Rattle.clr_rules.proofs.near.OwnAnswers.{settled_alike}
use Rattle.clr_rules.proofs.near.OwnChecks.{checks_of_own, number, state, turn}
use Rattle.clr_rules.specs.declared.command.Kind.TheVariants as kinds
use Rattle.clr_rules.specs.declared.refusal.Refusal.TheVariants as refusals
use Rattle.clr_order.specs.Step.{Task}
use Rattle.clr_rules.specs.Holds.{held_among}
use Rattle.clr_rules.specs.Steps.{points_of, steps_in}
use Rattle.clr_rules.specs.declared.step_row.StepRow.{StepRow}
use Rattle.clr_rules.proofs.lists.RoundSteps.{of_round_is}
use Rattle.clr_rules.proofs.near.OwnQuestions.{same_round}
use Rattle.clr_book.specs.Laws.{OwnNeedsOrderAlone, OwnRowsAreEnough}
use Rattle.clr_net.proofs.Walks.{same_itself}
use Rattle.clr_rules.proofs.Common.{same_name}
use Rattle.clr_rules.specs.Changes.{with_record}
use Rattle.clr_rules.specs.Checks.{any_ground, crews_on, crews_on_work, has_ground, outside_fence, where_some}
use Rattle.clr_rules.specs.Fences.{clearance_fence}
use Rattle.clr_rules.specs.Holds.{has_hold, has_some_hold, hold_of}
use Rattle.clr_rules.specs.declared.change.Edit.TheVariants.{PutRecord, TakeHold}
use Rattle.clr_rules.specs.declared.phase.Phase.TheVariants.{Released}
use Rattle.clr_rules.specs.Near.{Near}
use Rattle.clr_rules.specs.Records.{record_of}
use Rattle.clr_rules.specs.declared.record.Record.{Record}
use Rattle.clr_rules.proofs.isolation.SameFences.{record_of-own}
use Rattle.clr_book.specs.Own.{always_own, are_few, asked_answer, fence_at, granted_work, is_known_inside, near_by, own_of, own_rows, own_where, points_at, sections_at, work_in}
use Rattle.clr_book.proofs.OwnRows.{has_own, own_in_order, same_at_work, same_crews, same_held_among, same_hinders, same_hold_there, same_in_hand, same_places, same_some, with_holds}
use Rattle.clr_book.proofs.Replies.{settled}
use Rattle.clr_rules.specs.declared.command.Command.{Command}
use Rattle.clr_rules.specs.declared.command.Kind.{Kind}
use Rattle.clr_rules.specs.declared.hold_kind.HoldKind.TheVariants.{Crew, Ground, Tested}

-- what is known beside the rows
abbrev pub known_by : Kind → Known
known_by kind = record { greatest = 0; fence = fence_at kind; crossed = None }

module _ (R : Register) (ordered : ListsAreInOrder R) (by : List ℕ) (at : ℕ) where
  abbrev asked : Kind → Command
  asked kind = record { caller = by; moment = at; kind = kind }

  abbrev known : Kind → Known
  known kind = known_of R (asked kind)

  -- ---- the checks

  -- of a command that looks at no hold and at no hand
  plain_checks : (kind : Kind) (c : Id) → named_clearance kind ≡ Some c → is_order kind ≡ false → is_instruct kind ≡ false
      → checks (known kind) R by at kind ≡ checks (known kind) (with_holds R c kind) by at kind
  plain_checks kind c named no_order no_instruct = checks_of_own c R (with_holds R c kind) (has_own R c kind) (known kind) by at kind named no_order no_instruct

  -- of a crew that signs off, and on
  off_checks : (c : Id) (crew : List ℕ) → checks (known (kinds.SignOff c crew)) R by at (kinds.SignOff c crew) ≡ checks (known_by (kinds.SignOff c crew)) (own_rows R c (kinds.SignOff c crew)) by at (kinds.SignOff c crew)
  off_checks c crew =
      let kind = kinds.SignOff c crew in
      let here : crew_is_off R c crew ≡ crew_is_off (own_rows R c kind) c crew =
      ap (λ (b : Bool). refuse (not b) refusals.CrewState) (same_hold_there R c c kind Crew crew (own_id c)) in
      let same = has_own R c kind in simp (same.staff, same.own_record, here)

  on_checks : (c : Id) (crew : List ℕ) → checks (known (kinds.SignOn c crew)) R by at (kinds.SignOn c crew) ≡ checks (known_by (kinds.SignOn c crew)) (own_rows R c (kinds.SignOn c crew)) by at (kinds.SignOn c crew)
  on_checks c crew =
      let kind = kinds.SignOn c crew in
      let S = own_rows R c kind in
      let tested = same_at_work R c crew (not_tested R c) (not_tested S c)
      (λ work listed. ap (λ (b : Bool). refuse (not b) refusals.NotTested) (same_hold_there R c c kind Tested work (or_left (has_name (sections_at R c kind) work) false listed))) in
      let grounded = same_at_work R c crew (no_ground R c) (no_ground S c)
      (λ work listed. ap (λ (b : Bool). refuse (not b) refusals.NotGrounded) (same_hold_there R c c kind Ground work (or_left (has_name (sections_at R c kind) work) false listed))) in
      let here : crew_is_on R c crew ≡ crew_is_on S c crew =
      ap (λ (b : Bool). refuse b refusals.CrewState) (same_hold_there R c c kind Crew crew (own_id c)) in
      let same = has_own R c kind in simp (tested, grounded, here) (simp (same.staff, same.own_record))

  -- of a step that is given out
  given_checks : (c : Id) (n : ℕ) → checks (known (kinds.Instruct c n)) R by at (kinds.Instruct c n) ≡ checks (known_by (kinds.Instruct c n)) (own_rows R c (kinds.Instruct c n)) by at (kinds.Instruct c n)
  given_checks c n =
      let kind = kinds.Instruct c n in
      let S = with_holds R c kind in
      let same = has_own R c kind in
      simp (same.staff, same.own_record, number c R S same n, turn c R S same n, state c R S same n is_waiting, same_in_hand R c n, same_hinders R c n)

  -- of a restoring order
  restore_checks : (c : Id) (tasks : List Task) → checks (known (kinds.Restore c tasks)) R by at (kinds.Restore c tasks) ≡ checks (known_by (kinds.Restore c tasks)) (own_rows R c (kinds.Restore c tasks)) by at (kinds.Restore c tasks)
  restore_checks c tasks =
      let kind = kinds.Restore c tasks in
      let M = with_holds R c kind in
      let S = own_rows R c kind in
      let first : points_of (steps_in R.steps c 1) ≡ points_at R c kind = ap points_of (sym (of_round_is R.steps c 1)) in
      let held : held_among R.holds c (points_of (steps_in R.steps c 1)) ≡ held_among S.holds c (points_of (steps_in S.steps c 1)) =
      ap (held_among R.holds c) first ∙ same_held_among R c tasks ∙ ap (held_among S.holds c) (sym first)
      ∙ ap (λ (rows : List StepRow). held_among S.holds c (points_of rows)) (same_round c R M (has_own R c kind) 1) in
      let same = has_own R c kind in simp (same.staff, same.own_record, held)

  -- of a section that is grounded, and of one whose ground is taken
  inside : (fence : List (List ℕ)) (section : List ℕ) → has_name fence section ≡ true → outside_fence fence section ≡ outside_fence (section ∷ []) section
  inside fence section here = ap (λ (b : Bool). refuse (not b) refusals.OutsideFence) (here ∙ sym (or_left (same_name section section) false (same_itself section)))

  listed : (section : List ℕ) → has_name (section ∷ []) section ≡ true
  listed section = or_left (same_name section section) false (same_itself section)

  crews_alike : (c : Id) (section : List ℕ) → crews_on_work R c section ≡ crews_on_work (own_rows R c (kinds.Unground c section)) c section
  crews_alike c section =
      let kind = kinds.Unground c section in
      let some = same_crews R c section in
      ap (λ (o : Option Record). where_some o (λ r. where_some r.work (λ work. refuse (same_name work section && has_some_hold R.holds c Crew) refusals.CrewsOn))) (sym (record_of-own R.records c))
      ∙ ap (λ (b : Bool). where_some (record_of (Register.records (own_rows R c kind)) c) (λ r. where_some r.work (λ work. refuse (same_name work section && b) refusals.CrewsOn))) some

  -- of a clearance that is released
  release_checks : (c : Id) (notified clear : Bool)
      → checks (known (kinds.Release c notified clear)) R by at (kinds.Release c notified clear) ≡ checks (known_by (kinds.Release c notified clear)) (own_rows R c (kinds.Release c notified clear)) by at (kinds.Release c notified clear)
  release_checks c notified clear =
      let kind = kinds.Release c notified clear in
      let crews : crews_on R c ≡ crews_on (own_rows R c kind) c =
      ap (λ (b : Bool). refuse b refusals.CrewsOn) (same_some R c notified clear Crew) in
      let grounds : any_ground R c ≡ any_ground (own_rows R c kind) c =
      ap (λ (b : Bool). refuse b refusals.Grounded) (same_some R c notified clear Ground) in
      let same = has_own R c kind in simp (same.staff, same.own_record, crews, grounds)

  release_edits : (c : Id) (notified clear : Bool)
      → edits_of (Known.greatest (known (kinds.Release c notified clear))) (with_holds R c (kinds.Release c notified clear)) by at (kinds.Release c notified clear)
      ≡ edits_of 0 (own_rows R c (kinds.Release c notified clear)) by at (kinds.Release c notified clear)
  release_edits c notified clear =
      ap (λ (places : List (List ℕ)). with_record (own_rows R c (kinds.Release c notified clear)) c (λ r.
      map (λ place. TakeHold (hold_of c Tested place)) places ++ PutRecord (record r { phase = Released; last = at }) ∷ []))
      (same_places R c notified clear Tested)

  -- ---- the answers

  from_checks : (kind : Kind) (c : Id) → named_clearance kind ≡ Some c → is_show kind ≡ false
      → edits_of (Known.greatest (known kind)) (with_holds R c kind) by at kind ≡ edits_of 0 (own_rows R c kind) by at kind
      → checks (known kind) R by at kind ≡ checks (known_by kind) (own_rows R c kind) by at kind
      → answer R (asked kind) ≡ answer_with (known_by kind) (own_rows R c kind) (asked kind)
  from_checks kind c named no_show made checked =
      let found = first_refusal (checks (known kind) R by at kind) in
      settled_alike c R (with_holds R c kind) ordered (own_in_order R c kind ordered) (has_own R c kind) (known kind) (asked kind) named found no_show
      ∙ settled (with_holds R c kind) (own_rows R c kind) (record { records = refl; steps = refl }) (known kind) (known_by kind) (asked kind) c named no_show made found
      ∙ ap (λ list. answer_by_checks (known_by kind) (own_rows R c kind) (asked kind) (first_refusal list)) checked

  release_by : (c : Id) (notified clear b : Bool) → is_some (own_where b c) ≡ true
      → answer R (asked (kinds.Release c notified clear)) ≡ answer_with (Near.known (near_by (own_where b c) R (asked (kinds.Release c notified clear)))) (Near.rows (near_by (own_where b c) R (asked (kinds.Release c notified clear)))) (asked (kinds.Release c notified clear))
  release_by c notified clear true own = from_checks (kinds.Release c notified clear) c refl refl (release_edits c notified clear) (release_checks c notified clear)
  release_by c notified clear false own = cc own

  -- commands that never need a fence ask no more than that lists are in order
  by_order : (kind : Kind) → is_some (always_own kind) ≡ true → answer R (asked kind) ≡ asked_answer R (asked kind)
  by_order (kinds.Instruct c n) own = from_checks (kinds.Instruct c n) c refl refl refl (given_checks c n)
  by_order (kinds.Repeat c n text) own = from_checks (kinds.Repeat c n text) c refl refl refl (plain_checks (kinds.Repeat c n text) c refl refl refl)
  by_order (kinds.Report c n done) own = from_checks (kinds.Report c n done) c refl refl refl (plain_checks (kinds.Report c n done) c refl refl refl)
  by_order (kinds.Grant c) own = from_checks (kinds.Grant c) c refl refl refl (plain_checks (kinds.Grant c) c refl refl refl)
  by_order (kinds.SignOn c crew) own = from_checks (kinds.SignOn c crew) c refl refl refl (on_checks c crew)
  by_order (kinds.SignOff c crew) own = from_checks (kinds.SignOff c crew) c refl refl refl (off_checks c crew)
  by_order (kinds.Transfer c to emergency) own = from_checks (kinds.Transfer c to emergency) c refl refl refl (plain_checks (kinds.Transfer c to emergency) c refl refl refl)
  by_order (kinds.Restore c tasks) own = from_checks (kinds.Restore c tasks) c refl refl refl (restore_checks c tasks)
  by_order (kinds.Amend c n) own = from_checks (kinds.Amend c n) c refl refl refl (plain_checks (kinds.Amend c n) c refl refl refl)
  by_order _ own = cc own

module _ (R : Register) (good : IsGood R) (by : List ℕ) (at : ℕ) where
  ground_checks : (c : Id) (section : List ℕ) → has_hold R.holds c Tested section ≡ true
      → checks (known R good.said.in_order by at (kinds.Ground c section)) R by at (kinds.Ground c section) ≡ checks (known_by (kinds.Ground c section)) (own_rows R c (kinds.Ground c section)) by at (kinds.Ground c section)
  ground_checks c section has =
      let kind = kinds.Ground c section in
      let fence = inside R good.said.in_order by at (clearance_fence R c) section (good.said.work_holds_belong.tested_inside c section has) in
      let tested : not_tested R c section ≡ not_tested (own_rows R c kind) c section =
      ap (λ (b : Bool). refuse (not b) refusals.NotTested) (same_hold_there R c c kind Tested section (or_left (has_name (section ∷ []) section) false (listed R good.said.in_order by at section))) in
      let grounded : has_ground R c section ≡ has_ground (own_rows R c kind) c section =
      ap (λ (b : Bool). refuse b refusals.Grounded) (same_hold_there R c c kind Ground section (or_left (has_name (section ∷ []) section) false (listed R good.said.in_order by at section))) in
      let same = has_own R c kind in simp (fence, tested, grounded) (simp (same.staff, same.own_record))

  or_false : (b : Bool) → (b || false) ≡ true → b ≡ true
  or_false true is = refl
  or_false false is = is

  -- of a section that is tested: it is the work section, or one that was tested before
  known_inside : (c : Id) (section : List ℕ) → is_known_inside R c section ≡ true → has_name (clearance_fence R c) section ≡ true
  known_inside c section is = by_test (has_hold R.holds c Tested section) refl
    where
      by_work : (r : Record) → record_of R.records c ≡ Some r → (b : Bool) → is_granted r.phase ≡ b → (w : Option (List ℕ)) → r.work ≡ w
          → has_name (if b then work_in w else []) section ≡ true → has_name (clearance_fence R c) section ≡ true
      by_work r found true granted (Some work) at here =
          subst (λ (name : List ℕ). has_name (clearance_fence R c) name ≡ true) (sym (one_name section work (alone work here))) (granted_work_is_dead R good.said c r found granted work at).0
        where
          alone : (work : List ℕ) → has_name (work ∷ []) section ≡ true → same_name section work ≡ true
          alone work here = or_false (same_name section work) here
      by_work r found _ granted _ at here = cc here

      by_record : (o : Option Record) → record_of R.records c ≡ o → has_name (granted_work o) section ≡ true → has_name (clearance_fence R c) section ≡ true
      by_record (Some r) found here = by_work r found (is_granted r.phase) refl r.work refl here
      by_record None found here = cc here

      by_test : (b : Bool) → has_hold R.holds c Tested section ≡ b → has_name (clearance_fence R c) section ≡ true
      by_test true has = good.said.work_holds_belong.tested_inside c section has
      by_test false has = by_record (record_of R.records c) refl (or_false (has_name (granted_work (record_of R.records c)) section) (ap (λ (b : Bool). has_name (granted_work (record_of R.records c)) section || b) (sym has) ∙ is))

  test_checks : (c : Id) (section : List ℕ) (dead : Bool) → is_known_inside R c section ≡ true
      → checks (known R good.said.in_order by at (kinds.Test c section dead)) R by at (kinds.Test c section dead) ≡ checks (known_by (kinds.Test c section dead)) (own_rows R c (kinds.Test c section dead)) by at (kinds.Test c section dead)
  test_checks c section dead is =
      let kind = kinds.Test c section dead in
      let fence = inside R good.said.in_order by at (clearance_fence R c) section (known_inside c section is) in
      let same = has_own R c kind in simp (fence) (simp (same.staff, same.own_record))

  unground_checks : (c : Id) (section : List ℕ) → has_hold R.holds c Ground section ≡ true
      → checks (known R good.said.in_order by at (kinds.Unground c section)) R by at (kinds.Unground c section) ≡ checks (known_by (kinds.Unground c section)) (own_rows R c (kinds.Unground c section)) by at (kinds.Unground c section)
  unground_checks c section has =
      let kind = kinds.Unground c section in
      let fence = inside R good.said.in_order by at (clearance_fence R c) section (good.said.work_holds_belong.grounded_inside c section has) in
      let grounded : no_ground R c section ≡ no_ground (own_rows R c kind) c section =
      ap (λ (b : Bool). refuse (not b) refusals.NotGrounded) (same_hold_there R c c kind Ground section (or_left (has_name (section ∷ []) section) _ (listed R good.said.in_order by at section))) in
      let same = has_own R c kind in simp (fence, grounded, crews_alike R good.said.in_order by at c section) (simp (same.staff, same.own_record))

  ground_by : (c : Id) (section : List ℕ) (b : Bool) → has_hold R.holds c Tested section ≡ b → is_some (own_where b c) ≡ true
      → answer R (asked R good.said.in_order by at (kinds.Ground c section)) ≡ answer_with (Near.known (near_by (own_where b c) R (asked R good.said.in_order by at (kinds.Ground c section)))) (Near.rows (near_by (own_where b c) R (asked R good.said.in_order by at (kinds.Ground c section)))) (asked R good.said.in_order by at (kinds.Ground c section))
  ground_by c section true has own = from_checks R good.said.in_order by at (kinds.Ground c section) c refl refl refl (ground_checks c section has)
  ground_by c section false has own = cc own

  unground_by : (c : Id) (section : List ℕ) (b : Bool) → has_hold R.holds c Ground section ≡ b → is_some (own_where b c) ≡ true
      → answer R (asked R good.said.in_order by at (kinds.Unground c section)) ≡ answer_with (Near.known (near_by (own_where b c) R (asked R good.said.in_order by at (kinds.Unground c section)))) (Near.rows (near_by (own_where b c) R (asked R good.said.in_order by at (kinds.Unground c section)))) (asked R good.said.in_order by at (kinds.Unground c section))
  unground_by c section true has own = from_checks R good.said.in_order by at (kinds.Unground c section) c refl refl refl (unground_checks c section has)
  unground_by c section false has own = cc own

  test_by : (c : Id) (section : List ℕ) (dead b : Bool) → is_known_inside R c section ≡ b → is_some (own_where b c) ≡ true
      → answer R (asked R good.said.in_order by at (kinds.Test c section dead)) ≡ answer_with (Near.known (near_by (own_where b c) R (asked R good.said.in_order by at (kinds.Test c section dead)))) (Near.rows (near_by (own_where b c) R (asked R good.said.in_order by at (kinds.Test c section dead)))) (asked R good.said.in_order by at (kinds.Test c section dead))
  test_by c section dead true is own = from_checks R good.said.in_order by at (kinds.Test c section dead) c refl refl refl (test_checks c section dead is)
  test_by c section dead false is own = cc own

  by_kind : (kind : Kind) → is_some (own_of R kind) ≡ true → answer R (asked R good.said.in_order by at kind) ≡ asked_answer R (asked R good.said.in_order by at kind)
  by_kind (kinds.Test c section dead) own = test_by c section dead (is_known_inside R c section) refl own
  by_kind (kinds.Release c notified clear) own = release_by R good.said.in_order by at c notified clear (are_few R.holds) own
  by_kind (kinds.Ground c section) own = ground_by c section (has_hold R.holds c Tested section) refl own
  by_kind (kinds.Unground c section) own = unground_by c section (has_hold R.holds c Ground section) refl own
  by_kind (kinds.Instruct c n) own = by_order R good.said.in_order by at (kinds.Instruct c n) refl
  by_kind (kinds.Repeat c n text) own = by_order R good.said.in_order by at (kinds.Repeat c n text) refl
  by_kind (kinds.Report c n done) own = by_order R good.said.in_order by at (kinds.Report c n done) refl
  by_kind (kinds.Grant c) own = by_order R good.said.in_order by at (kinds.Grant c) refl
  by_kind (kinds.SignOn c crew) own = by_order R good.said.in_order by at (kinds.SignOn c crew) refl
  by_kind (kinds.SignOff c crew) own = by_order R good.said.in_order by at (kinds.SignOff c crew) refl
  by_kind (kinds.Transfer c to emergency) own = by_order R good.said.in_order by at (kinds.Transfer c to emergency) refl
  by_kind (kinds.Restore c tasks) own = by_order R good.said.in_order by at (kinds.Restore c tasks) refl
  by_kind (kinds.Amend c n) own = by_order R good.said.in_order by at (kinds.Amend c n) refl
  by_kind _ own = cc own

-- and otherwise what is near is
any_kind : (R : Register) (q : Command) → IsGood R → (o : Option Id) → own_of R q.kind ≡ o → answer R q ≡ asked_answer R q
any_kind R q good (Some c) is = by_kind R good q.caller q.moment q.kind (ap is_some is)
any_kind R q good None is = rw is (near_is_enough R q good.said good.besides.switch_orders.switching)

-- a command that never needs a fence, in any register whose lists are in order
pub own_rows_in_order : OwnNeedsOrderAlone
own_rows_in_order R q ordered own = by_order R ordered q.caller q.moment q.kind own

pub own_rows_are_enough : OwnRowsAreEnough
own_rows_are_enough R q good = any_kind R q good (own_of R q.kind) refl
