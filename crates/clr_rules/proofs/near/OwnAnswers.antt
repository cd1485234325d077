-- A command that names a clearance is answered by what is near it.
use Rattle.std.proofs.Common.{◌≡◌, ◌∙◌, inl, inr, ⊎_elim, ℕ, Bool, true, false, List, [], length, map, Option, Some, None, refl, sym, ap, count_by, filter}
use Rattle.clr_rules.proofs.Common.{or_left, Grid, point_names, has_name, PointRow, filter-filter_wider, Known, checks, edits_of, named_clearance, touching_names, touches, IsGoodAsSaid}
use Rattle.clr_rules.proofs.Common.{ListsAreInOrder, is_beside, near_part, part_beside, is_order, record_id}
use Rattle.clr_rules.specs.Answer.{answer, answer_with, card_of, reply_clearance, fence_for, first_refusal, known_of, answer_by_checks, reply_of, reply_after, view_of}
use Rattle.clr_rules.specs.Prelude.{Edit, Command, Kind, Hold, Crew, PointState, Record, Refusal, Id, Register, record_of, is_done, present_steps, present_round, places_of, after_edits, Show}
use Rattle.clr_rules.specs.Prelude.{Accepted, Shown}
use Rattle.clr_rules.specs.Holds.{in_kind_order, is_near_hold, is_own}
use Rattle.clr_rules.specs.laws.Own.{SameOwn, is_instruct}
use Rattle.clr_rules.proofs.isolation.Agreement.{touching_named}
use Rattle.clr_rules.proofs.lists.Filters.{filter-kept, itself_says}
use Rattle.clr_rules.proofs.edits.Passing.{is_show}
use Rattle.clr_rules.proofs.near.NearNamed.{no_jumper, reply_named}
use Rattle.clr_rules.proofs.near.NearOrder.{near_in_order}
use Rattle.clr_rules.proofs.near.NearWords.{near_hold_says, standing_says}
use Rattle.clr_rules.proofs.near.OwnChecks.{checks_of_own}
use Rattle.clr_rules.proofs.near.OwnEdits.{edits_of_own, same_own_edited_all}
use Rattle.clr_rules.proofs.near.OwnParts.{near_has_own}
use Rattle.clr_rules.proofs.near.OwnQuestions.{same_places, same_present, same_present_round}

-- ---- replies

module _ (c : Id) (R S : Register) (same : SameOwn c R S) (r : Record) (own : r.id ≡ c) where
  pub card_present : present_steps R.steps r.id ≡ present_steps S.steps r.id
  card_present = ap (present_steps R.steps) own ∙ same_present c R S same ∙ ap (present_steps S.steps) (sym own)

  pub same_card : card_of R r ≡ card_of S r
  same_card =
      let round : present_round R.steps r.id ≡ present_round S.steps r.id =
      ap (present_round R.steps) own ∙ same_present_round c R S same ∙ ap (present_round S.steps) (sym own) in
      λ i. record {
        clearance = r.id;
        phase = r.phase;
        holder = r.holder;
        round = round i;
        done = count_by (λ row. is_done row.step.state) (card_present i);
        steps = length (card_present i);
      }

-- what is replied of a record, but for a view, is its card
told_card : (k : Known) (R : Register) (kind : Kind) (r : Record) → is_show kind ≡ false → reply_of k R kind (Some r) ≡ Accepted (card_of R r)
told_card k R (Show c) r no_show = cc no_show
told_card k R _ r no_show = refl

told_nothing : (k : Known) (R S : Register) (kind : Kind) → reply_of k R kind None ≡ reply_of k S kind None
told_nothing k R S kind = refl

-- so registers that have the same of the clearance have the same replied of it
pub told_alike : (c : Id) (R S : Register) → SameOwn c R S → (k : Known) (kind : Kind) → is_show kind ≡ false
    → reply_of k R kind (record_of R.records c) ≡ reply_of k S kind (record_of S.records c)
told_alike c R S same k kind no_show = at (record_of R.records c) refl ∙ ap (reply_of k S kind) same.own_record
  where
    at : (o : Option Record) → record_of R.records c ≡ o → reply_of k R kind o ≡ reply_of k S kind o
    at None read = told_nothing k R S kind
    at (Some r) read = told_card k R kind r no_show ∙ ap Accepted (same_card c R S same r (record_id R.records c r read)) ∙ sym (told_card k S kind r no_show)

-- ---- answers

module _ (c : Id) (R S : Register) (R_order : ListsAreInOrder R) (S_order : ListsAreInOrder S) (same : SameOwn c R S) (k : Known) (q : Command)
    (named : named_clearance q.kind ≡ Some c) where
  made : edits_of k.greatest R q.caller q.moment q.kind ≡ edits_of k.greatest S q.caller q.moment q.kind
  made = edits_of_own c R S R_order S_order same k.greatest q.caller q.moment q.kind named

  about : (T : Register) → reply_after k T q.caller q.kind ≡ reply_of k T q.kind (record_of T.records c)
  about T = reply_named k T q.caller q.kind (no_jumper q.kind c named) ∙ ap (λ (o : Option Id). reply_of k T q.kind (record_of T.records (reply_clearance k.greatest q.caller o))) named

  pub accepted_alike : is_show q.kind ≡ false → answer_by_checks k R q None ≡ answer_by_checks k S q None
  accepted_alike no_show =
      let edits = edits_of k.greatest R q.caller q.moment q.kind in
      let after = same_own_edited_all c R S R_order S_order same edits in
      let reply : reply_after k (after_edits edits R) q.caller q.kind ≡ reply_after k (after_edits (edits_of k.greatest S q.caller q.moment q.kind) S) q.caller q.kind =
      about (after_edits edits R) ∙ told_alike c (after_edits edits R) (after_edits edits S) after k q.kind no_show ∙ sym (about (after_edits edits S))
      ∙ ap (λ (list : List Edit). reply_after k (after_edits list S) q.caller q.kind) made in
      λ i. record { reply = reply i; edits = made i }

  pub settled_alike : (found : Option Refusal) → is_show q.kind ≡ false → answer_by_checks k R q found ≡ answer_by_checks k S q found
  settled_alike None no_show = accepted_alike no_show
  settled_alike (Some refusal) no_show = refl

  -- a command that names the clearance, but for a show, is answered alike where its checks say the same
  pub answered_alike : is_show q.kind ≡ false → checks k R q.caller q.moment q.kind ≡ checks k S q.caller q.moment q.kind → answer_with k R q ≡ answer_with k S q
  answered_alike no_show checked =
      settled_alike (first_refusal (checks k R q.caller q.moment q.kind)) no_show ∙ ap (λ list. answer_by_checks k S q (first_refusal list)) checked

-- ---- a show

module _ (R : Register) (q : Command) where
  -- the points that touch the fence are near
  pub touching_rows_near : filter (touches (has_name (fence_for R q.kind))) (Grid.points (Register.net (part_beside R q))) ≡ filter (touches (has_name (fence_for R q.kind))) R.net.points
  touching_rows_near = filter-kept (touches (has_name (fence_for R q.kind))) (λ (p : PointRow). is_beside R (known_of R q) q.kind p.name) R.net.points
      (λ p there touching. or_left (has_name (touching_names R.net (has_name (fence_for R q.kind))) p.name) _ (touching_named R.net (has_name (fence_for R q.kind)) p there touching))

  touching_near : touching_names (Register.net (part_beside R q)) (has_name (fence_for R q.kind)) ≡ touching_names R.net (has_name (fence_for R q.kind))
  unfolding touching_names
  touching_near = ap point_names touching_rows_near

  -- the states of the points that touch the fence, and the holds there and at its sections, are near
  shown_states : filter (λ (state : PointState). has_name (touching_names R.net (has_name (fence_for R q.kind))) state.point) (Register.states (part_beside R q))
      ≡ filter (λ state. has_name (touching_names R.net (has_name (fence_for R q.kind))) state.point) R.states
  shown_states = filter-filter_wider (λ (state : PointState). has_name (touching_names R.net (has_name (fence_for R q.kind))) state.point)
      (λ state. is_beside R (known_of R q) q.kind state.point)
      (λ state touching. or_left (has_name (touching_names R.net (has_name (fence_for R q.kind))) state.point) _ touching) R.states

  shown_hold_near : (h : Hold) → is_near_hold (has_name (fence_for R q.kind)) (has_name (touching_names R.net (has_name (fence_for R q.kind)))) None h ≡ true
      → is_near_hold (has_name (fence_for R q.kind)) (is_beside R (known_of R q) q.kind) (named_clearance q.kind) h ≡ true
  shown_hold_near h there =
      let inside = has_name (fence_for R q.kind) in
      let touching = has_name (touching_names R.net inside) in
      let beside = is_beside R (known_of R q) q.kind in
      let standing = (standing_says inside touching (λ s. inside s ≡ true) (λ p. touching p ≡ true) (λ s. itself_says (inside s)) (λ p. itself_says (touching p)) h).0 there in
      (near_hold_says inside beside (named_clearance q.kind) (λ s. inside s ≡ true) (λ p. beside p ≡ true) (λ d. is_own (named_clearance q.kind) d ≡ true)
      (λ s. itself_says (inside s)) (λ p. itself_says (beside p)) (λ d. itself_says (is_own (named_clearance q.kind) d)) h).1
      (⊎_elim (λ at_point. inl (at_point.0, or_left (touching h.place) _ at_point.1)) (λ at_section. inr (inl at_section)) standing)

  shown_holds : filter (is_near_hold (has_name (fence_for R q.kind)) (has_name (touching_names R.net (has_name (fence_for R q.kind)))) None) (Register.holds (part_beside R q))
      ≡ filter (is_near_hold (has_name (fence_for R q.kind)) (has_name (touching_names R.net (has_name (fence_for R q.kind)))) None) R.holds
  shown_holds = filter-filter_wider (is_near_hold (has_name (fence_for R q.kind)) (has_name (touching_names R.net (has_name (fence_for R q.kind)))) None)
      (is_near_hold (has_name (fence_for R q.kind)) (is_beside R (known_of R q) q.kind) (named_clearance q.kind)) shown_hold_near R.holds

  -- the view of the clearance's record is made of what is near
  view_near : (c : Id) → SameOwn c R (part_beside R q) → (r : Record) → r.id ≡ c → view_of (known_of R q) R r ≡ view_of (known_of R q) (part_beside R q) r
  view_near c same r own =
      let S = part_beside R q in
      let names = sym touching_near in
      let crews : places_of R.holds r.id Crew ≡ places_of S.holds r.id Crew =
      ap (λ (d : Id). places_of R.holds d Crew) own ∙ same_places c R S same Crew ∙ ap (λ (d : Id). places_of S.holds d Crew) (sym own) in
      let holds : filter (is_near_hold (has_name (fence_for R q.kind)) (has_name (touching_names R.net (has_name (fence_for R q.kind)))) None) R.holds
      ≡ filter (is_near_hold (has_name (fence_for R q.kind)) (has_name (touching_names S.net (has_name (fence_for R q.kind)))) None) S.holds =
      sym shown_holds ∙ ap (λ (list : List (List ℕ)). filter (is_near_hold (has_name (fence_for R q.kind)) (has_name list) None) S.holds) names in
      let points : filter (λ (state : PointState). has_name (touching_names R.net (has_name (fence_for R q.kind))) state.point) R.states
      ≡ filter (λ state. has_name (touching_names S.net (has_name (fence_for R q.kind))) state.point) S.states =
      sym shown_states ∙ ap (λ (list : List (List ℕ)). filter (λ (state : PointState). has_name list state.point) S.states) names in
      let card = same_card c R S same r own in
      let rows = card_present c R S same r own in
      λ i. record {
        card = card i;
        crews = crews i;
        fence = fence_for R q.kind;
        holds = in_kind_order (holds i);
        points = points i;
        steps = map (λ row. row.step) (rows i);
        work = r.work;
      }

show_found : (R : Register) (by : List ℕ) (at : ℕ) (c : Id) → SameOwn c R (near_part R (record { caller = by; moment = at; kind = Show c }))
    → reply_of (known_of R (record { caller = by; moment = at; kind = Show c })) R (Show c) (record_of R.records c)
    ≡ reply_of (known_of R (record { caller = by; moment = at; kind = Show c })) (near_part R (record { caller = by; moment = at; kind = Show c })) (Show c)
    (record_of (Register.records (near_part R (record { caller = by; moment = at; kind = Show c }))) c)
show_found R by at c same = found (record_of R.records c) refl ∙ ap (reply_of k S (Show c)) same.own_record
  where
    q : Command
    q = record { caller = by; moment = at; kind = Show c }

    k : Known
    k = known_of R (record { caller = by; moment = at; kind = Show c })

    S : Register
    S = near_part R (record { caller = by; moment = at; kind = Show c })

    found : (o : Option Record) → record_of R.records c ≡ o
        → reply_of (known_of R (record { caller = by; moment = at; kind = Show c })) R (Show c) o
        ≡ reply_of (known_of R (record { caller = by; moment = at; kind = Show c })) (near_part R (record { caller = by; moment = at; kind = Show c })) (Show c) o
    found None read = refl
    found (Some r) read = ap Shown (view_near R (record { caller = by; moment = at; kind = Show c }) c same r (record_id R.records c r read))

show_settled : (R : Register) (by : List ℕ) (at : ℕ) (c : Id) → SameOwn c R (near_part R (record { caller = by; moment = at; kind = Show c }))
    → (found : Option Refusal)
    → answer_by_checks (known_of R (record { caller = by; moment = at; kind = Show c })) R (record { caller = by; moment = at; kind = Show c }) found
    ≡ answer_by_checks (known_of R (record { caller = by; moment = at; kind = Show c })) (near_part R (record { caller = by; moment = at; kind = Show c }))
    (record { caller = by; moment = at; kind = Show c }) found
unfolding after_edits
show_settled R by at c same None = let reply = show_found R by at c same in λ i. record { reply = reply i; edits = [] }
show_settled R by at c same (Some refusal) = refl

-- ---- what is near is enough

module _ (R : Register) (good : IsGoodAsSaid R) (by : List ℕ) (at : ℕ) where
  abbrev asked : Kind → Command
  asked kind = record { caller = by; moment = at; kind = kind }

  near_checks : (kind : Kind) (c : Id) → named_clearance kind ≡ Some c → is_order kind ≡ false → is_instruct kind ≡ false
      → checks (known_of R (asked kind)) R by at kind ≡ checks (known_of R (asked kind)) (near_part R (asked kind)) by at kind
  near_checks kind c named no_order no_instruct =
      checks_of_own c R (near_part R (asked kind)) (near_has_own R (asked kind) c good named no_order) (known_of R (asked kind)) by at kind named no_order no_instruct

  by_kind : (kind : Kind) (c : Id) → named_clearance kind ≡ Some c → is_order kind ≡ false → is_instruct kind ≡ false → (b : Bool) → is_show kind ≡ b
      → answer R (asked kind) ≡ answer_with (known_of R (asked kind)) (near_part R (asked kind)) (asked kind)
  by_kind kind c named no_order no_instruct false no_show =
      answered_alike c R (near_part R (asked kind)) good.in_order (near_in_order R (asked kind) good.in_order)
      (near_has_own R (asked kind) c good named no_order) (known_of R (asked kind)) (asked kind) named no_show (near_checks kind c named no_order no_instruct)
  by_kind (Show d) c named no_order no_instruct true show =
      show_settled R by at d (near_has_own R (asked (Show d)) d good refl refl) (first_refusal (checks (known_of R (asked (Show d))) R by at (Show d)))
      ∙ ap (λ list. answer_by_checks (known_of R (asked (Show d))) (near_part R (asked (Show d))) (asked (Show d)) (first_refusal list)) (near_checks (Show d) d refl refl refl)
  by_kind _ c named no_order no_instruct true show = cc show

pub near_is_enough_but_orders : (R : Register) (q : Command) (c : Id) → IsGoodAsSaid R → named_clearance q.kind ≡ Some c → is_order q.kind ≡ false → is_instruct q.kind ≡ false
    → answer R q ≡ answer_with (known_of R q) (near_part R q) q
near_is_enough_but_orders R q c good named no_order no_instruct = by_kind R good q.caller q.moment q.kind c named no_order no_instruct (is_show q.kind) refl
