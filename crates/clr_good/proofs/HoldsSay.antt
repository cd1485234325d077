-- What it says that the list of holds fits.
use Rattle.std.proofs.Common.{◌≡◌, ℕ, Bool, true, false, not, cond, ◌&&◌, ◌||◌, nat_eq, List, [], ◌∷◌, filter, Option, Some, None, ⊎_elim, refl, sym, ◌∙◌, ap, subst}
use Rattle.clr_rules.proofs.Common.{list_all, same_name, has_name, Position, any_from, one_name, same_itself, some_from, actions_at, Action, list_all-contains, member-row_of, row_of-member}
use Rattle.clr_rules.proofs.Common.{list_all-from_each, in_key_order, put_by, puts, steps_left_of, of_round, Id, Register, id_cmp, id_cmp_total, record_key, record_of, hold_cmp, hold_key, is_done}
use Rattle.clr_rules.proofs.Common.{points_of, steps_of, tasks_of, is_point_kind, has_hold, hold_of, name_says, record_id}
use Rattle.std.proofs.lemmas.Bool.{and_from, and_parts, both_ways, false≢true, false_from_ne_true, or_cases, or_left, or_right, or_parts}
use Rattle.clr_net.specs.declared.point.Position.TheVariants.{Opened, Closed as Shut}
use Rattle.clr_rules.proofs.lists.HoldMembers.{hold_had, hold_there}
use Rattle.clr_good.specs.Holds.{all_put_stands, hold_fits, holds_fit, holds_suit, is_opened, is_undone_at, kind_suits, put_stands, record_holds_fit, recorded_hold_fits}
use Rattle.clr_good.proofs.Tests.{asked, asked_from}
use Rattle.clr_order.specs.declared.action.Action.TheVariants as actions
use Rattle.clr_rules.specs.declared.hold.Hold.{Hold}
use Rattle.clr_rules.specs.declared.hold_kind.HoldKind.{HoldKind}
use Rattle.clr_rules.specs.declared.record.Record.{Record}
use Rattle.clr_rules.specs.declared.step_row.StepRow.{StepRow}
use Rattle.clr_rules.specs.declared.hold_kind.HoldKind.TheVariants.{HeldOpen, Block, Control, Tag}

pub record HoldsSay (R : Register) : Type 0 where
  -- a hold has a record, whose phase has it
  pub suits : (c : Id) (kind : HoldKind) (place : List ℕ) → has_hold R.holds c kind place ≡ true
      → (r : Record) × (record_of R.records c ≡ Some r) × (kind_suits R r.phase r.work (hold_of c kind place) (is_point_kind kind) ≡ true)
  -- and a record has the holds that its phase wants
  pub stand : (c : Id) (r : Record) → record_of R.records c ≡ Some r → holds_suit R.holds c r.phase (steps_of R.steps c) ≡ true

-- ---- all holds

recorded : (R : Register) (h : Hold) (o : Option Record) → record_of R.records h.id ≡ o → recorded_hold_fits R h o ≡ true
    → (r : Record) × (record_of R.records h.id ≡ Some r) × (kind_suits R r.phase r.work h (is_point_kind h.kind) ≡ true)
recorded R h None is fits = absurd (false≢true fits)
recorded R h (Some r) is fits = (r, is, fits)

record_holds : (R : Register) (c : Id) (r : Record) → record_of R.records c ≡ Some r → list_all (record_holds_fit R) R.records ≡ true
    → holds_suit R.holds c r.phase (steps_of R.steps c) ≡ true
record_holds R c r found all =
    let there = (member-row_of id_cmp record_key id_cmp_total c r R.records found).0 in
    let fits = list_all-contains (record_holds_fit R) R.records r all there in
    subst (λ (d : Id). holds_suit R.holds d r.phase (steps_of R.steps d) ≡ true) (record_id R.records c r found) fits

pub holds_say : (R : Register) → holds_fit R ≡ true → HoldsSay R
holds_say R fits = record {
  suits = λ c kind place has.
      recorded R (hold_of c kind place) (record_of R.records c) refl
      (list_all-contains (hold_fits R) R.holds (hold_of c kind place) parts.0 (hold_there R.holds c kind place has));
  stand = λ c r found. record_holds R c r found parts.1;
}
  where
    parts : (list_all (hold_fits R) R.holds ≡ true) × (list_all (record_holds_fit R) R.records ≡ true)
    parts = and_parts (list_all (hold_fits R) R.holds) (list_all (record_holds_fit R) R.records) fits

pub holds_said : (R : Register) → in_key_order id_cmp record_key R.records ≡ true → in_key_order hold_cmp hold_key R.holds ≡ true → HoldsSay R → holds_fit R ≡ true
holds_said R ordered holds_ordered say =
    and_from (list_all (hold_fits R) R.holds) (list_all (record_holds_fit R) R.records)
    (list_all-from_each (hold_fits R) R.holds (λ h there.
    let suits = say.suits h.id h.kind h.place (hold_had R.holds h holds_ordered there) in
    ap (recorded_hold_fits R h) suits.1 ∙ suits.2))
    (list_all-from_each (record_holds_fit R) R.records (λ r there. say.stand r.id r (row_of-member id_cmp record_key id_cmp_total r R.records ordered there)))

-- ---- open points

pub opened_is : (o : Option Position) → is_opened o ≡ true → o ≡ Some Opened
opened_is None h = absurd (false≢true h)
opened_is (Some Opened) h = refl
opened_is (Some Shut) h = absurd (false≢true h)

-- ---- what steps put

stands_put : (holds : List Hold) (c : Id) (p : List ℕ) (action : Action) (kind : HoldKind) → puts action kind ≡ true → put_stands holds c action p ≡ true → has_hold holds c kind p ≡ true
stands_put holds c p actions.Open HeldOpen is stands = stands
stands_put holds c p actions.Block Block is stands = stands
stands_put holds c p actions.Control Control is stands = stands
stands_put holds c p actions.Tag Tag is stands = stands
stands_put holds c p action kind is stands = absurd (false≢true is)

pub put_then_held : (holds : List Hold) (c : Id) (rows : List StepRow) → all_put_stands holds c rows ≡ true
    → (kind : HoldKind) (p : List ℕ) → put_by rows kind p ≡ true → has_hold holds c kind p ≡ true
put_then_held holds c rows all kind p put =
    let found = some_from (λ (row : StepRow). (is_done row.step.state && puts row.step.action kind) && same_name p row.step.point) rows put in
    let row = found.0 in
    let both = and_parts (is_done row.step.state && puts row.step.action kind) (same_name p row.step.point) found.2 in
    let done = and_parts (is_done row.step.state) (puts row.step.action kind) both.0 in
    let stands = asked (is_done row.step.state) (put_stands holds c row.step.action row.step.point)
    (list_all-contains (λ (row : StepRow). not (is_done row.step.state) || put_stands holds c row.step.action row.step.point) rows row all found.1) done.0 in
    subst (λ (q : List ℕ). has_hold holds c kind q ≡ true) (sym (one_name p row.step.point both.1))
    (stands_put holds c row.step.point row.step.action kind done.1 stands)

pub held_then_put : (holds : List Hold) (c : Id) (rows : List StepRow)
    → ((kind : HoldKind) (p : List ℕ) → is_point_kind kind ≡ true → put_by rows kind p ≡ true → has_hold holds c kind p ≡ true)
    → all_put_stands holds c rows ≡ true
held_then_put holds c rows held =
    list_all-from_each (λ (row : StepRow). not (is_done row.step.state) || put_stands holds c row.step.action row.step.point) rows (λ row there.
    asked_from (is_done row.step.state) (put_stands holds c row.step.action row.step.point) (λ done.
    by_action row (λ kind at_point is. held kind row.step.point at_point
    (any_from (λ (other : StepRow). (is_done other.step.state && puts other.step.action kind) && same_name row.step.point other.step.point) rows row there
    (and_from (is_done row.step.state && puts row.step.action kind) (same_name row.step.point row.step.point)
    (and_from (is_done row.step.state) (puts row.step.action kind) done is) (same_itself row.step.point))))
    row.step.action refl))
  where
    by_action : (row : StepRow) → ((kind : HoldKind) → is_point_kind kind ≡ true → puts row.step.action kind ≡ true → has_hold holds c kind row.step.point ≡ true)
        → (action : Action) → row.step.action ≡ action → put_stands holds c action row.step.point ≡ true
    by_action row each actions.Open is = each HeldOpen refl (ap (λ (a : Action). puts a HeldOpen) is)
    by_action row each actions.Block is = each Block refl (ap (λ (a : Action). puts a Block) is)
    by_action row each actions.Control is = each Control refl (ap (λ (a : Action). puts a Control) is)
    by_action row each actions.Tag is = each Tag refl (ap (λ (a : Action). puts a Tag) is)
    by_action row each actions.Untag is = refl
    by_action row each actions.Uncontrol is = refl
    by_action row each actions.Unblock is = refl
    by_action row each actions.Close is = refl
    by_action row each actions.Leave is = refl

-- ---- what is undone

-- nothing is done where there is no step
none_at : (p : List ℕ) (rows : List StepRow) → has_name (points_of rows) p ≡ false → actions_at (tasks_of rows) p ≡ []
none_at p [] none = refl
none_at p (row ∷ rows) none =
    let parts = or_parts (same_name p row.step.point) (has_name (points_of rows) p) none in
    rw parts.0 (none_at p rows parts.1)

-- steps that a test keeps are at no other points
kept_points : (q : StepRow → Bool) (p : List ℕ) (rows : List StepRow) → has_name (points_of (filter q rows)) p ≡ true → has_name (points_of rows) p ≡ true
kept_points q p [] known = known
kept_points q p (row ∷ rows) known = at (q row) refl known (kept_points q p rows)
  where
    here : (has_name (points_of (filter q rows)) p ≡ true → has_name (points_of rows) p ≡ true)
        → (same_name p row.step.point || has_name (points_of (filter q rows)) p) ≡ true → has_name (points_of (row ∷ rows)) p ≡ true
    here more k = ⊎_elim (λ same. or_left (same_name p row.step.point) (has_name (points_of rows) p) same)
        (λ later. or_right (same_name p row.step.point) (has_name (points_of rows) p) (more later))
        (or_cases (same_name p row.step.point) (has_name (points_of (filter q rows)) p) k)

    at : (b : Bool) → q row ≡ b → has_name (points_of (cond b (row ∷ filter q rows) (filter q rows))) p ≡ true
        → (has_name (points_of (filter q rows)) p ≡ true → has_name (points_of rows) p ≡ true) → has_name (points_of (row ∷ rows)) p ≡ true
    at true is k more = here more k
    at false is k more = or_right (same_name p row.step.point) (has_name (points_of rows) p) (more k)

pub round_points : (k : ℕ) (p : List ℕ) (rows : List StepRow) → has_name (points_of (of_round rows k)) p ≡ true → has_name (points_of rows) p ≡ true
unfolding of_round
round_points k p rows known = kept_points (λ (row : StepRow). nat_eq row.round k) p rows known

left_points : (p : List ℕ) (rows : List StepRow) → has_name (points_of (steps_left_of rows)) p ≡ true → has_name (points_of rows) p ≡ true
left_points p rows known = kept_points (λ (row : StepRow). not (is_done row.step.state)) p rows known

-- where there is no step, and nothing is held, nothing is undone
pub undone_nowhere : (holds : List Hold) (c : Id) (steps : List StepRow) (p : List ℕ) → has_name (points_of steps) p ≡ false
    → ((kind : HoldKind) → is_point_kind kind ≡ true → has_hold holds c kind p ≡ false) → is_undone_at holds c (of_round steps 2) p ≡ true
undone_nowhere holds c steps p none free =
    let nothing : actions_at (tasks_of (steps_left_of (of_round steps 2))) p ≡ [] =
    none_at p (steps_left_of (of_round steps 2)) (false_from_ne_true (has_name (points_of (steps_left_of (of_round steps 2))) p) (λ known.
    both_ways (has_name (points_of steps) p) none (round_points 2 p steps (left_points p (of_round steps 2) known)))) in
    rw (free Tag refl, free Control refl, free Block refl, free HeldOpen refl, nothing) refl

pub undone_each : (holds : List Hold) (c : Id) (steps : List StepRow) → list_all (is_undone_at holds c (of_round steps 2)) (points_of steps) ≡ true
    → ((kind : HoldKind) (p : List ℕ) → is_point_kind kind ≡ true → has_hold holds c kind p ≡ true → has_name (points_of steps) p ≡ true)
    → (p : List ℕ) → is_undone_at holds c (of_round steps 2) p ≡ true
undone_each holds c steps all held p = at (has_name (points_of steps) p) refl
  where
    at : (b : Bool) → has_name (points_of steps) p ≡ b → is_undone_at holds c (of_round steps 2) p ≡ true
    at true is = list_all-contains (is_undone_at holds c (of_round steps 2)) (points_of steps) p all ((name_says (points_of steps) p).0 is)
    at false is = undone_nowhere holds c steps p is (λ kind at_point. false_from_ne_true (has_hold holds c kind p) (λ has.
        both_ways (has_name (points_of steps) p) is (held kind p at_point has)))
