-- An update looks at no step of a closed record, but for whether there is a step at all.
use Rattle.std.proofs.Common.{◌≡◌, ◌∙◌, ℕ, Bool, true, false, not, ◌&&◌, ◌||◌, if◌then◌else◌, List, [], ◌∷◌, ◌++◌, Contains, Option, None, Some, refl, sym, ap, subst, filter, is_some}
use Rattle.std.specs.List.{flat_map}
use Rattle.clr_net.proofs.Walks.{any_from, some_from}
use Rattle.clr_net.specs.Prelude.{has_name, point_names, section_names, touches}
use Rattle.clr_net.specs.declared.point.PointRow.{PointRow}
use Rattle.clr_net.specs.declared.section.SectionRow.{SectionRow}
use Rattle.clr_rules.proofs.good.GoodToPhases.{to_phases}
use Rattle.clr_rules.proofs.isolation.ClosedSteps.{own_same, steps_stay}
use Rattle.clr_rules.proofs.lists.RoundSteps.{among_own}
use Rattle.clr_rules.proofs.near.OwnQuestions.{same_round}
use Rattle.clr_rules.specs.Checks.{is_field, is_operator}
use Rattle.clr_rules.specs.Edits.{fit}
use Rattle.clr_rules.specs.Fences.{record_fence, work_fence}
use Rattle.clr_rules.specs.GoodByPhase.{InClosed, InPhase, InPlaceAs, outlook_of}
use Rattle.clr_rules.specs.Prelude.{is_active, is_point_kind, is_some_step, is_standing, list_any, points_of}
use Rattle.clr_rules.specs.Staffed.{has_some_role}
use Rattle.clr_rules.specs.Steps.{some_active}
use Rattle.clr_rules.specs.declared.hold.Hold.{Hold}
use Rattle.clr_shelf.proofs.Lists.{Contains-here, Contains-later}
use Rattle.clr_staff.specs.declared.employee.StaffRow.{StaffRow}
use Rattle.clr_update.specs.Changes.{Changes, changes}
unfoldable use Rattle.clr_update.specs.Delta.{can_be_made}
use Rattle.clr_update.specs.Delta.{all_there, have_no_fault, staff_of, update_of}
unfoldable use Rattle.clr_update.specs.Update.{filed, first_needed, obstacles}
use Rattle.clr_update.specs.Update.{Update, fence_points, fence_sections, first_named, first_obstacle, has, in_the_way, is_filed, is_misnamed, its_holder, its_readers, its_requester, jumpers, kept}
use Rattle.clr_update.specs.Update.{names_in, open_records, standing_records, step_points, updated, where_so, work_section}
use Rattle.clr_update.specs.declared.obstacle.Obstacle.{Obstacle}
use Rattle.clr_update.specs.declared.obstacle.Obstacle.TheVariants as in_way
use Rattle.clr_changes.proofs.ArchiveAnswers.{closed_in_second}
use Rattle.clr_changes.proofs.ArchiveCommon.{AreClosed, AreOneBut, Closed, Contains-filter, Id, IsGood, Phase, Record, Register, StepRow, and_parts, both_ways, false≢true, false_from_ne_true, id_cmp, id_cmp_total}
use Rattle.clr_changes.proofs.ArchiveCommon.{is_closed, is_fenced, is_open, kept_there, record_key, record_of, row_of-member, same_Some, same_id, steps_of, without_steps_of}
use Rattle.clr_changes.proofs.Kept.{closed_not_open}

-- the first row that a record needs, where each needs the same
needed_alike : (obstacle : List ℕ → Id → Obstacle) (rows others : Record → List (List ℕ)) (records : List Record)
    → ((r : Record) → Contains records r → rows r ≡ others r) → first_needed obstacle rows records ≡ first_needed obstacle others records
unfolding first_needed
needed_alike obstacle rows others [] same = refl
needed_alike obstacle rows others (r ∷ records) same =
    let here = same r (Contains-here r records) in
    let later = needed_alike obstacle rows others records (λ s there. same s (Contains-later r s records there)) in
    λ i. first_named (λ name. obstacle name r.id) (here i) (later i)

standing_is_open : (phase : Phase) → is_standing phase ≡ true → is_open phase ≡ true
standing_is_open Closed is = absurd (false≢true is)
standing_is_open _ is = refl

closed_is : (phase : Phase) → is_closed phase ≡ true → phase ≡ Closed
closed_is Closed is = refl
closed_is _ is = absurd (false≢true is)

none_lacks : (b c : Bool) → c ≡ true → (b && not c) ≡ false
none_lacks true c is = ap not is
none_lacks false c is = refl

module _ (gone : Id → Bool) (R : Register) (closed : AreClosed gone R) (good : IsGood R) where
  abbrev W : Register
  W = without_steps_of gone R

  open_keeps : (r : Record) → Contains R.records r → is_open r.phase ≡ true → gone r.id ≡ false
  open_keeps r there unclosed = false_from_ne_true (gone r.id) (λ is.
      let (s, read, over) = closed r.id is in
      let found : record_of R.records r.id ≡ Some r = row_of-member id_cmp record_key id_cmp_total r R.records good.said.in_order.records there in
      closed_not_open r.phase (ap (λ (x : Record). is_closed x.phase) (sym (same_Some s r (sym read ∙ found))) ∙ over) unclosed)

  of_open : (r : Record) → Contains (open_records R) r → gone r.id ≡ false
  of_open r there = let both = kept_there (λ (x : Record). is_open x.phase) R.records r there in open_keeps r both.0 both.1

  of_standing : (r : Record) → Contains (standing_records R) r → gone r.id ≡ false
  of_standing r there = let both = kept_there (λ (x : Record). is_standing x.phase) R.records r there in open_keeps r both.0 (standing_is_open r.phase both.1)

  same_fence : (r : Record) → Contains (standing_records R) r → record_fence R.net R.steps r ≡ record_fence R.net (Register.steps (without_steps_of gone R)) r
  same_fence r there = ap (λ (rows : List StepRow). if is_fenced r.phase then work_fence R.net r.work (points_of rows) else [])
      (same_round r.id R W (own_same gone R r.id (of_standing r there)) 1)

  same_steps : (r : Record) → Contains (open_records R) r → steps_of R.steps r.id ≡ steps_of (Register.steps (without_steps_of gone R)) r.id
  same_steps r there = steps_stay gone R.steps r.id (of_open r there)

  -- ---- whether a step is given out

  none_active : (c : Id) → gone c ≡ true → some_active (steps_of R.steps c) ≡ false
  none_active c is =
      let (r, read, over) = closed c is in
      let h : InClosed (outlook_of R c) = subst (λ (phase : Phase). InPhase R.net phase r.work (outlook_of R c)) (closed_is r.phase over)
      (subst (λ o. InPlaceAs R.net o (outlook_of R c)) read ((to_phases R good).in_place c).phase) in
      h.none_active

  active_kept : (row : StepRow) → Contains R.steps row → is_active row.step.state ≡ true → gone row.id ≡ false
  active_kept row there active = false_from_ne_true (gone row.id) (λ is.
      both_ways (some_active (steps_of R.steps row.id)) (none_active row.id is)
      (any_from (λ (x : StepRow). is_active x.step.state) (steps_of R.steps row.id) row (among_own R.steps row there) active))

  active_there : (b : Bool) → some_active R.steps ≡ b → some_active (Register.steps (without_steps_of gone R)) ≡ b
  active_there true some =
      let (row, there, active) = some_from (λ (x : StepRow). is_active x.step.state) R.steps some in
      any_from (λ (x : StepRow). is_active x.step.state) (Register.steps W) row
      (Contains-filter (λ (x : StepRow). not (gone x.id)) R.steps row there (ap not (active_kept row there active))) active
  active_there false none = false_from_ne_true (some_active (Register.steps W)) (λ some.
      let (row, there, active) = some_from (λ (x : StepRow). is_active x.step.state) (Register.steps W) some in
      both_ways (some_active R.steps) none
      (any_from (λ (x : StepRow). is_active x.step.state) R.steps row (kept_there (λ (x : StepRow). not (gone x.id)) R.steps row there).0 active))

  same_active : some_active R.steps ≡ some_active (Register.steps (without_steps_of gone R))
  same_active = sym (active_there (some_active R.steps) refl)

  -- ---- what is in the way

  module _ (u : Update) (operator : has_some_role u.staff is_operator ≡ true) where
    abbrev T : Register
    T = updated R u

    abbrev V : Register
    V = updated (without_steps_of gone R) u

    same_obstacles : obstacles R u (updated R u) ≡ obstacles (without_steps_of gone R) u (updated (without_steps_of gone R) u)
    unfolding obstacles filed
    same_obstacles =
        let sections = needed_alike in_way.Section (fence_sections R T) (fence_sections W V) (standing_records R) (λ r there.
        ap (λ (fence : List (List ℕ)). section_names (filter (λ (row : SectionRow). has_name fence row.name) (Changes.sections_go (changes R T)))) (same_fence r there)) in
        let points = needed_alike in_way.Point (fence_points R T) (fence_points W V) (standing_records R) (λ r there.
        ap (λ (fence : List (List ℕ)). point_names (filter (touches (has_name fence)) (Changes.points_go (changes R T) ++ Changes.points_come (changes R T)))) (same_fence r there)) in
        let steps = needed_alike in_way.Step (step_points R T) (step_points W V) (open_records R) (λ r there.
        ap (λ (rows : List StepRow). point_names (filter (λ (p : PointRow). has_name (points_of rows) p.name) (Changes.points_go (changes R T)))) (same_steps r there)) in
        let readers = needed_alike in_way.Reader (its_readers R T) (its_readers W V) (open_records R) (λ r there.
        ap (λ (rows : List StepRow). filter (λ name. not (has T is_field name)) (flat_map (λ (row : StepRow). names_in row.step.reader) (filter (λ (row : StepRow). is_active row.step.state) rows)))
        (same_steps r there)) in
        let lacking = none_lacks (is_some_step R.steps) (has_some_role u.staff is_operator) operator
        ∙ sym (none_lacks (is_some_step (Register.steps W)) (has_some_role u.staff is_operator) operator) in
        λ i. first_named in_way.NoJumper (filter (λ p. is_filed u p || not (has_name (point_names (jumpers R)) p)) u.without) None
        ∷ first_named in_way.JumperName (point_names (filter (is_misnamed u) (jumpers R))) None
        ∷ where_so (not (fit u.net (kept R u))) in_way.TooLarge
        ∷ sections i
        ∷ points i
        ∷ steps i
        ∷ first_needed in_way.Work (work_section R T) (open_records R)
        ∷ first_needed in_way.Holder (its_holder R T) (open_records R)
        ∷ readers i
        ∷ first_needed in_way.Requester (its_requester R T) (open_records R)
        ∷ where_so (lacking i) in_way.NoOperator
        ∷ where_so ((list_any (λ (h : Hold). is_point_kind h.kind) R.holds || same_active i) && not (has_some_role u.staff is_field)) in_way.NoField
        ∷ []

    same_way : in_the_way R u ≡ in_the_way (without_steps_of gone R) u
    same_way = ap first_obstacle same_obstacles

  same_made : (of : Changes) → has_some_role (staff_of R of) is_operator ≡ true → can_be_made R of ≡ can_be_made (without_steps_of gone R) of
  unfolding can_be_made
  same_made of operator = ap (λ (o : Option Obstacle). all_there R of && (have_no_fault R of && not (is_some o))) (same_way (update_of R of) operator)

-- changes that leave an operator can be made in both of two registers that are one but for such steps, or in none
pub made_in_both : (gone : Id → Bool) (R S : Register) (of : Changes) → IsGood R → IsGood S → AreOneBut gone R S → has_some_role (staff_of R of) is_operator ≡ true
    → can_be_made R of ≡ true → can_be_made S of ≡ true
made_in_both gone R S of good other one operator can =
    let same_staff : staff_of R of ≡ staff_of S of = ap (λ (X : Register). staff_of X of) one.rest in
    let too : has_some_role (staff_of S of) is_operator ≡ true = subst (λ (rows : List StaffRow). has_some_role rows is_operator ≡ true) same_staff operator in
    same_made gone S (closed_in_second gone R S one) other of too
    ∙ sym (ap (λ (X : Register). can_be_made X of) one.rest)
    ∙ sym (same_made gone R one.closed good of operator)
    ∙ can
