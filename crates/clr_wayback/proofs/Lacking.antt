-- A register that lacks only closed records and their steps answers a command about any other clearance as the whole one does.
use Rattle.std.proofs.Common.{◌≡◌, ◌∙◌, ℕ, Bool, true, false, ◌||◌, if◌then◌else◌, List, [], ◌∷◌, Option, Some, None, refl, sym, ap, subst, filter}
use Rattle.std.proofs.lemmas.Map.Entries.{option_filter}
use Rattle.clr_shelf.proofs.Groups.{row_of-filter}
use Rattle.clr_shelf.proofs.KeyOrder.{in_key_order-filter}
use Rattle.clr_shelf.specs.Rows.{in_key_order}
use Rattle.clr_shelf.proofs.SameRows.{same_from_reading}
use Rattle.clr_rules.proofs.Common.{one_id, record_id, same_Some}
use Rattle.clr_rules.proofs.edits.EditedLists.{edited_all-in_order}
use Rattle.clr_rules.proofs.isolation.ClosedSteps.{closed_after}
use Rattle.clr_rules.proofs.keeps.EveryKind.{commands_keep_good}
use Rattle.clr_rules.proofs.near.NearNamed.{near_named, no_jumper, none_crossed, reply_named}
use Rattle.clr_rules.proofs.near.NearParts.{fence_named, switched_named}
use Rattle.clr_rules.proofs.near.NewAnswers.{near_is_enough}
use Rattle.clr_rules.proofs.near.OwnEdits.{same_own_edited_all}
use Rattle.clr_rules.proofs.near.OwnQuestions.{same_round}
use Rattle.clr_rules.specs.Answer.{Answer, answer, answer_by_checks, answer_with, fence_for, first_refusal, known_of, reply_after, reply_clearance, reply_of}
use Rattle.clr_rules.specs.Command.{named_clearance}
use Rattle.clr_rules.specs.Commands.{Known, checks, edits_of}
use Rattle.clr_rules.specs.Edits.{after_edit, after_edits}
use Rattle.clr_rules.specs.Fences.{clearance_fence, found_fence, found_order_fence, order_fence, touching_names, work_fence}
use Rattle.clr_rules.specs.Holds.{is_near_hold}
use Rattle.clr_rules.specs.Id.{Id, id_cmp, id_cmp_total, same_id}
use Rattle.clr_rules.specs.Near.{Near, is_asked, near_of, near_part, part, switched_by, switched_points}
use Rattle.clr_rules.specs.Records.{is_fenced, is_switch_order, record_key, record_of}
use Rattle.clr_rules.specs.Register.{Register}
use Rattle.clr_rules.specs.Run.{after}
use Rattle.clr_rules.specs.Steps.{points_of, steps_in, steps_of}
use Rattle.clr_rules.specs.declared.change.Edit.{Edit}
use Rattle.clr_rules.specs.declared.change.Edit.TheVariants.{AddPoint, AddSection, PutHold, PutRecord, PutStep, SetHand, SetPosition, TakeHold}
use Rattle.clr_rules.specs.declared.command.Command.{Command}
use Rattle.clr_rules.specs.declared.command.Kind.{Kind}
use Rattle.clr_rules.specs.declared.command.Kind.TheVariants as kinds
use Rattle.clr_rules.specs.declared.point_state.PointState.{PointState}
use Rattle.clr_rules.specs.declared.record.Record.{Record}
use Rattle.clr_rules.specs.declared.refusal.Refusal.{Refusal}
use Rattle.clr_rules.specs.declared.step_row.StepRow.{StepRow}
use Rattle.clr_rules.specs.laws.ClosedSteps.{NamesNoneOf}
use Rattle.clr_rules.specs.laws.Own.{SameOwn}
use Rattle.clr_net.specs.Grid.{Grid}
use Rattle.clr_net.specs.Names.{has_name}
use Rattle.clr_net.specs.declared.point.PointRow.{PointRow}
use Rattle.clr_net.specs.declared.section.SectionRow.{SectionRow}
use Rattle.clr_wayback.specs.Open.{LacksOnly, NamesAnother, bare_register}

-- ---- the rows of a clearance

-- among the records of one clearance none of another is read
none_of_another : (records : List Record) (c d : Id) → same_id c d ≡ false → option_filter (λ (r : Record). same_id c r.id) (record_of records d) ≡ None
none_of_another records c d other = at (record_of records d) refl
  where
    at : (o : Option Record) → record_of records d ≡ o → option_filter (λ (r : Record). same_id c r.id) o ≡ None
    at None read = refl
    at (Some r) read = rw (ap (same_id c) (record_id records d r read) ∙ other) refl

-- lists in order that have the same record of a clearance have the same records of it
same_records : (first second : List Record) (c : Id) → in_key_order id_cmp record_key first ≡ true → in_key_order id_cmp record_key second ≡ true → record_of first c ≡ record_of second c
    → filter (λ r. same_id c r.id) first ≡ filter (λ r. same_id c r.id) second
same_records first second c ordered ordered_too same =
    let own = λ (r : Record). same_id c r.id in
    same_from_reading id_cmp record_key id_cmp_total (filter own first) (filter own second)
    (in_key_order-filter id_cmp record_key id_cmp_total own first ordered) (in_key_order-filter id_cmp record_key id_cmp_total own second ordered_too)
    (λ d. row_of-filter id_cmp record_key id_cmp_total own d first ordered ∙ by d (same_id c d) refl ∙ sym (row_of-filter id_cmp record_key id_cmp_total own d second ordered_too))
  where
    by : (d : Id) (b : Bool) → same_id c d ≡ b → option_filter (λ (r : Record). same_id c r.id) (record_of first d) ≡ option_filter (λ (r : Record). same_id c r.id) (record_of second d)
    by d true is = ap (option_filter (λ (r : Record). same_id c r.id)) (subst (λ (e : Id). record_of first e ≡ record_of second e) (one_id c d is) same)
    by d false other = none_of_another first c d other ∙ sym (none_of_another second c d other)

-- ---- what is near a command that names a clearance which is not lacking

module _ (gone : Id → Bool) (R S : Register) (lacks : LacksOnly gone R S) (c : Id) (kept : gone c ≡ false) where
  own : SameOwn c R S
  own = lacks.own c kept

  same_net : S.net ≡ R.net
  same_net = ap (λ (T : Register). T.net) lacks.rest

  first_round : points_of (steps_in S.steps c 1) ≡ points_of (steps_in R.steps c 1)
  first_round = ap points_of (sym (same_round c R S own 1))

  -- the fence is the same
  fence_of_record : (o : Option Record) → record_of R.records c ≡ o → found_fence S.net S.steps o ≡ found_fence R.net R.steps o
  fence_of_record None read = refl
  fence_of_record (Some r) read =
      let id = record_id R.records c r read in
      let points : points_of (steps_in S.steps r.id 1) ≡ points_of (steps_in R.steps r.id 1) =
      subst (λ (d : Id). points_of (steps_in S.steps d 1) ≡ points_of (steps_in R.steps d 1)) (sym id) first_round in
      λ i. if is_fenced r.phase then work_fence (same_net i) r.work (points i) else []

  same_clearance_fence : clearance_fence S c ≡ clearance_fence R c
  same_clearance_fence = ap (found_fence S.net S.steps) (sym own.own_record) ∙ fence_of_record (record_of R.records c) refl

  same_order_fence : (points : List (List ℕ)) → order_fence S c points ≡ order_fence R c points
  same_order_fence points =
      ap (found_order_fence S.net points) (sym own.own_record) ∙ ap (λ (g : Grid). found_order_fence g points (record_of R.records c)) same_net

  same_fence : (kind : Kind) → named_clearance kind ≡ Some c → fence_for S kind ≡ fence_for R kind
  same_fence (kinds.Order d points tasks) named =
      let meant : d ≡ c = same_Some d c named in
      ap (λ (e : Id). order_fence S e points) meant ∙ same_order_fence points ∙ ap (λ (e : Id). order_fence R e points) (sym meant)
  same_fence kind named = fence_named S kind c named refl ∙ same_clearance_fence ∙ sym (fence_named R kind c named refl)

  -- and so are the points of a switch order
  switched_of : (o : Option Record) → switched_by S c o ≡ switched_by R c o
  switched_of None = refl
  switched_of (Some r) = ap (λ (rows : List StepRow). if is_switch_order r then points_of rows else []) (sym own.own_steps)

  same_switched : (kind : Kind) → named_clearance kind ≡ Some c → switched_points S kind ≡ switched_points R kind
  same_switched kind named =
      switched_named S kind c named
      ∙ (ap (switched_by S c) (sym own.own_record) ∙ switched_of (record_of R.records c))
      ∙ sym (switched_named R kind c named)

  -- so the same rows are near
  same_near : (q : Command) → named_clearance q.kind ≡ Some c → near_part S q ≡ near_part R q
  unfolding steps_of
  same_near q named =
      let fence = same_fence q.kind named in
      let switched = same_switched q.kind named in
      let records = same_records S.records R.records c lacks.in_order.records lacks.good.said.in_order.records (sym own.own_record) in
      let beside = λ (g : Grid) (names points : List (List ℕ)) (p : List ℕ). has_name (touching_names g (has_name names)) p || has_name points p in
      near_named S q c named
      ∙ (λ i. part S (record {
        sections = λ s. has_name (fence_for S q.kind) s || is_asked q.kind s;
        holds_at = has_name (fence_for S q.kind);
        points = beside S.net (fence_for S q.kind) (switched_points S q.kind);
        clearance = named i;
      }))
      ∙ (λ i. record {
        net = record {
          sections = filter (λ (row : SectionRow). has_name (fence i) row.name || is_asked q.kind row.name) (Grid.sections (same_net i));
          points = filter (λ (p : PointRow). beside (same_net i) (fence i) (switched i) p.name) (Grid.points (same_net i));
        };
        staff = Register.staff (lacks.rest i);
        states = filter (λ (state : PointState). beside (same_net i) (fence i) (switched i) state.point) (Register.states (lacks.rest i));
        records = records i;
        steps = sym own.own_steps i;
        holds = filter (is_near_hold (has_name (fence i)) (beside (same_net i) (fence i) (switched i)) (Some c)) (Register.holds (lacks.rest i));
      })
      ∙ (λ i. part R (record {
        sections = λ s. has_name (fence_for R q.kind) s || is_asked q.kind s;
        holds_at = has_name (fence_for R q.kind);
        points = beside R.net (fence_for R q.kind) (switched_points R q.kind);
        clearance = sym named i;
      }))
      ∙ sym (near_named R q c named)

-- ---- whose greatest number is known matters to new clearances alone

abbrev with_greatest : ℕ → Known → Known
with_greatest g k = record k { greatest = g }

greatest_unchecked : (g : ℕ) (k : Known) (T : Register) (by : List ℕ) (at : ℕ) (kind : Kind) (c : Id) → named_clearance kind ≡ Some c
    → checks (with_greatest g k) T by at kind ≡ checks k T by at kind
greatest_unchecked g k T by at (kinds.Request section) c named = cc named
greatest_unchecked g k T by at (kinds.Switch tasks) c named = cc named
greatest_unchecked g k T by at (kinds.Jumper point from to lockable remote) c named = cc named
greatest_unchecked g k T by at kind c named = refl

greatest_unsaid : (g : ℕ) (k : Known) (T : Register) (kind : Kind) (o : Option Record) → reply_of (with_greatest g k) T kind o ≡ reply_of k T kind o
greatest_unsaid g k T kind None = refl
greatest_unsaid g k T (kinds.Show c) (Some r) = refl
greatest_unsaid g k T kind (Some r) = refl

greatest_unmade : (g n : ℕ) (T : Register) (by : List ℕ) (at : ℕ) (kind : Kind) (c : Id) → named_clearance kind ≡ Some c → edits_of g T by at kind ≡ edits_of n T by at kind
greatest_unmade g n T by at (kinds.Request section) c named = cc named
greatest_unmade g n T by at (kinds.Switch tasks) c named = cc named
greatest_unmade g n T by at (kinds.Jumper point from to lockable remote) c named = cc named
greatest_unmade g n T by at kind c named = refl

greatest_unsettled : (g : ℕ) (k : Known) (T : Register) (q : Command) (c : Id) → named_clearance q.kind ≡ Some c → (found : Option Refusal)
    → answer_by_checks (with_greatest g k) T q found ≡ answer_by_checks k T q found
greatest_unsettled g k T q c named (Some refusal) = refl
greatest_unsettled g k T q c named None =
    let edits = edits_of g T q.caller q.moment q.kind in
    let made : edits ≡ edits_of k.greatest T q.caller q.moment q.kind = greatest_unmade g k.greatest T q.caller q.moment q.kind c named in
    let U = after_edits edits T in
    let reply : reply_after (with_greatest g k) U q.caller q.kind ≡ reply_after k (after_edits (edits_of k.greatest T q.caller q.moment q.kind) T) q.caller q.kind =
    about (with_greatest g k) U
    ∙ greatest_unsaid g k U q.kind (record_of U.records c)
    ∙ sym (about k U)
    ∙ ap (λ (list : List Edit). reply_after k (after_edits list T) q.caller q.kind) made in
    λ i. record { reply = reply i; edits = made i }
  where
    about : (n : Known) (U : Register) → reply_after n U q.caller q.kind ≡ reply_of n U q.kind (record_of U.records c)
    about n U = reply_named n U q.caller q.kind (no_jumper q.kind c named)
        ∙ ap (λ (o : Option Id). reply_of n U q.kind (record_of U.records (reply_clearance n.greatest q.caller o))) named

greatest_unasked : (g : ℕ) (k : Known) (T : Register) (q : Command) (c : Id) → named_clearance q.kind ≡ Some c → answer_with (with_greatest g k) T q ≡ answer_with k T q
greatest_unasked g k T q c named =
    greatest_unsettled g k T q c named (first_refusal (checks (with_greatest g k) T q.caller q.moment q.kind))
    ∙ ap (λ list. answer_by_checks k T q (first_refusal list)) (greatest_unchecked g k T q.caller q.moment q.kind c named)

-- ---- the answer

module _ (gone : Id → Bool) (R S : Register) (lacks : LacksOnly gone R S) (q : Command) (c : Id) (named : named_clearance q.kind ≡ Some c) (kept : gone c ≡ false) where
  same_known : known_of S q ≡ with_greatest (Known.greatest (known_of S q)) (known_of R q)
  same_known = λ i. record {
    greatest = Known.greatest (known_of S q);
    fence = same_fence gone R S lacks c kept q.kind named i;
    crossed = (none_crossed S q.kind (no_jumper q.kind c named) ∙ sym (none_crossed R q.kind (no_jumper q.kind c named))) i;
  }

  pub seen_alike : answer_with (Near.known (near_of S q)) (Near.rows (near_of S q)) q ≡ answer R q
  seen_alike =
      (λ i. answer_with (same_known i) (same_near gone R S lacks c kept q named i) q)
      ∙ greatest_unasked (Known.greatest (known_of S q)) (known_of R q) (near_part R q) q c named
      ∙ sym (near_is_enough R q lacks.good.said lacks.good.besides.switch_orders.switching)

-- ---- and after it

bare_edited : (edit : Edit) (R : Register) → bare_register (after_edit edit R) ≡ bare_register (after_edit edit (bare_register R))
bare_edited (SetPosition p position) R = refl
bare_edited (SetHand p hand) R = refl
bare_edited (PutHold h) R = refl
bare_edited (TakeHold h) R = refl
bare_edited (PutRecord r) R = refl
bare_edited (PutStep row) R = refl
bare_edited (AddSection row) R = refl
bare_edited (AddPoint p) R = refl

bare_edited_all : (edits : List Edit) (R S : Register) → bare_register S ≡ bare_register R → bare_register (after_edits edits S) ≡ bare_register (after_edits edits R)
unfolding after_edits
bare_edited_all [] R S same = same
bare_edited_all (edit ∷ edits) R S same =
    bare_edited_all edits (after_edit edit R) (after_edit edit S) (bare_edited edit S ∙ ap (λ (T : Register). bare_register (after_edit edit T)) same ∙ sym (bare_edited edit R))

none_named : (gone : Id → Bool) (o : Option Id) → NamesAnother gone o → NamesNoneOf gone o
none_named gone None names = tt
none_named gone (Some c) names = names

pub lacks_after : (gone : Id → Bool) (R S : Register) → LacksOnly gone R S → (q : Command) → NamesAnother gone (named_clearance q.kind)
    → LacksOnly gone (after R q) (after_edits (Answer.edits (answer R q)) S)
lacks_after gone R S lacks q names =
    let edits = Answer.edits (answer R q) in
    record {
      good = commands_keep_good R q lacks.good;
      closed = closed_after gone R lacks.good lacks.closed q (none_named gone (named_clearance q.kind) names);
      in_order = edited_all-in_order S edits lacks.in_order;
      rest = bare_edited_all edits R S lacks.rest;
      own = λ c kept. same_own_edited_all c R S lacks.good.said.in_order lacks.in_order (lacks.own c kept) edits;
    }

-- the answer to a command about a clearance that is not lacking
pub answered_alike : (gone : Id → Bool) (R S : Register) → LacksOnly gone R S → (q : Command) → NamesAnother gone (named_clearance q.kind)
    → answer_with (Near.known (near_of S q)) (Near.rows (near_of S q)) q ≡ answer R q
answered_alike gone R S lacks q names = at (named_clearance q.kind) refl names
  where
    at : (o : Option Id) → named_clearance q.kind ≡ o → NamesAnother gone o → answer_with (Near.known (near_of S q)) (Near.rows (near_of S q)) q ≡ answer R q
    at None named names = absurd names
    at (Some c) named kept = seen_alike gone R S lacks q c named kept
