-- Registers that agree near a closed clearance answer its own commands alike: each is refused by what they have of it, and a show shows that alone.
use Rattle.std.proofs.Common.{◌≡◌, ◌∙◌, ◌||◌, ◌&&◌, ℕ, Bool, true, false, List, [], ◌∷◌, ◌++◌, Option, Some, None, refl, sym, ap, subst, filter, map}
use Rattle.clr_rules.proofs.Common.{both_ways, has_name, touches, answer, first_refusal, known_of, answer_by_checks, checks, is_near_hold, is_order, SameOwn, named_clearance, Agree}
use Rattle.clr_rules.proofs.Common.{Crew, Grid, Hold, Phase, PointState, Record, Refusal, Task, same_Some, point_names, places_of, present_steps, record_id, after_edits}
use Rattle.clr_rules.specs.Answer.{answer_with, card_of, fence_for, reply_of, requester_for, view_of}
use Rattle.clr_rules.specs.Checks.{hold_hinders, in_hand, no_step, out_of_turn, unsound_order, wrong_state}
use Rattle.clr_rules.specs.Commands.{Known, by_operator}
use Rattle.clr_rules.specs.Fences.{clearance_fence, found_fence, order_fence, touching_names}
use Rattle.clr_rules.specs.Holds.{in_kind_order}
use Rattle.clr_rules.specs.Prelude.{Command, Kind, Id, Register, greatest_number, record_of, is_running, is_waiting, is_point_kind, is_section_kind, is_crew, Closed, Order, Instruct, Show, Refused, Shown}
use Rattle.clr_rules.specs.Records.{is_fenced, is_open, is_requested}
use Rattle.clr_rules.specs.declared.reply.View.{View}
use Rattle.clr_rules.specs.laws.Own.{is_instruct}
use Rattle.clr_rules.proofs.edits.Passing.{all_pass, first_stops, is_show, role_begun}
use Rattle.clr_rules.proofs.lists.Filters.{filter-nothing}
use Rattle.clr_rules.proofs.lists.OpenPhases.{closed_is}
use Rattle.clr_rules.proofs.near.NearNamed.{no_jumper, none_crossed}
use Rattle.clr_rules.proofs.near.NearParts.{fence_named}
use Rattle.clr_rules.proofs.near.OwnAnswers.{answered_alike, card_present, same_card}
use Rattle.clr_rules.proofs.near.OwnChecks.{checks_of_own, same_by_role}
use Rattle.clr_rules.proofs.near.OwnParts.{agreeing_have_same}
use Rattle.clr_rules.proofs.near.OwnQuestions.{same_places}
use Rattle.clr_rules.specs.Good.{ListsAreInOrder}

-- ---- commands that are refused by the phase, before they look at anything else

module _ (by : List ℕ) (at : ℕ) (c : Id) (phases : Phase → Bool) (kind : Kind) where
  abbrev asked_late : Command
  asked_late = record { caller = by; moment = at; kind = kind }

  -- the checks before the command's own
  abbrev early : Register → List (Option Refusal)
  early T = by_operator T by at c phases []

  module _ (own : Register → List (Option Refusal))
      (is : (T : Register) → checks (known_of T (record { caller = by; moment = at; kind = kind })) T by at kind ≡ by_operator T by at c phases [] ++ own T) where
    refused : (T : Register) (refusal : Refusal) → first_refusal (by_operator T by at c phases []) ≡ Some refusal
        → answer T (record { caller = by; moment = at; kind = kind }) ≡ record { reply = Refused refusal; edits = [] }
    refused T refusal h = ap (answer_by_checks (known_of T asked_late) T asked_late) (ap first_refusal (is T) ∙ first_stops (early T) (own T) refusal h)

    pub refused_alike : (R S : Register) → SameOwn c R S → ((r : Record) → record_of R.records c ≡ Some r → phases r.phase ≡ false)
        → answer R (record { caller = by; moment = at; kind = kind }) ≡ answer S (record { caller = by; moment = at; kind = kind })
    refused_alike R S same late = from (first_refusal (early R)) refl
      where
        same_early : by_operator R by at c phases [] ≡ by_operator S by at c phases []
        same_early = same_by_role c R S same by at _ phases (λ i. [])

        from : (o : Option Refusal) → first_refusal (by_operator R by at c phases []) ≡ o
            → answer R (record { caller = by; moment = at; kind = kind }) ≡ answer S (record { caller = by; moment = at; kind = kind })
        from None h =
            let (r, read, fits, _) = role_begun R c phases (all_pass (early R) h) in
            absurd (both_ways (phases r.phase) (late r read) fits)
        from (Some refusal) h = refused R refusal h ∙ sym (refused S refusal (ap first_refusal (sym same_early) ∙ h))

-- an order of a clearance that is not Requested
pub late_order : (R S : Register) (c : Id) → SameOwn c R S → ((r : Record) → record_of R.records c ≡ Some r → is_requested r.phase ≡ false) → (by : List ℕ) (at : ℕ)
    (points : List (List ℕ)) (tasks : List Task)
    → answer R (record { caller = by; moment = at; kind = Order c points tasks }) ≡ answer S (record { caller = by; moment = at; kind = Order c points tasks })
late_order R S c same late by at points tasks = refused_alike by at c is_requested (Order c points tasks)
    (λ T. unsound_order T (order_fence T c points) points tasks ∷ []) (λ T. refl) R S same late

-- an instruction of one that is not in the midst of its steps
late_instruct : (R S : Register) (c : Id) → SameOwn c R S → ((r : Record) → record_of R.records c ≡ Some r → is_running r.phase ≡ false) → (by : List ℕ) (at n : ℕ)
    → answer R (record { caller = by; moment = at; kind = Instruct c n }) ≡ answer S (record { caller = by; moment = at; kind = Instruct c n })
late_instruct R S c same late by at n = refused_alike by at c is_running (Instruct c n)
    (λ T. no_step T c n ∷ out_of_turn T c n ∷ wrong_state T c n is_waiting ∷ in_hand T c n ∷ hold_hinders T c n ∷ []) (λ T. refl) R S same late

-- ---- a show

nothing_touches : (g : Grid) → touching_names g (has_name []) ≡ []
unfolding touching_names
nothing_touches g = ap point_names (filter-nothing (touches (has_name [])) g.points (λ p. refl))

nothing_near : (h : Hold) → is_near_hold (has_name []) (has_name []) None h ≡ false
nothing_near h = neither (is_point_kind h.kind) (is_section_kind h.kind) (is_crew h.kind)
  where
    neither : (a b d : Bool) → ((a && false) || ((b && false) || (d && false))) ≡ false
    neither true true true = refl
    neither true true false = refl
    neither true false true = refl
    neither true false false = refl
    neither false true true = refl
    neither false true false = refl
    neither false false true = refl
    neither false false false = refl

-- the view of a record without a fence
abbrev bare_view : Register → Record → View
bare_view T r = record {
  card = card_of T r;
  crews = places_of T.holds r.id Crew;
  fence = [];
  holds = in_kind_order [];
  points = [];
  steps = map (λ row. row.step) (present_steps T.steps r.id);
  work = r.work;
}

module _ (k : Known) (no_fence : k.fence ≡ []) where
  viewed_bare : (T : Register) (r : Record) → view_of k T r ≡ bare_view T r
  viewed_bare T r =
      let touching : has_name (touching_names T.net (has_name k.fence)) ≡ has_name [] =
      ap (λ (fence : List (List ℕ)). has_name (touching_names T.net (has_name fence))) no_fence ∙ ap has_name (nothing_touches T.net) in
      let holds : filter (is_near_hold (has_name k.fence) (has_name (touching_names T.net (has_name k.fence))) None) T.holds ≡ [] =
      (λ i. filter (is_near_hold (has_name (no_fence i)) (touching i) None) T.holds) ∙ filter-nothing (is_near_hold (has_name []) (has_name []) None) T.holds nothing_near in
      let points : filter (λ (state : PointState). has_name (touching_names T.net (has_name k.fence)) state.point) T.states ≡ [] =
      (λ i. filter (λ (state : PointState). touching i state.point) T.states) ∙ filter-nothing (λ (state : PointState). has_name [] state.point) T.states (λ state. refl) in
      λ i. record {
        card = card_of T r;
        crews = places_of T.holds r.id Crew;
        fence = no_fence i;
        holds = in_kind_order (holds i);
        points = points i;
        steps = map (λ row. row.step) (present_steps T.steps r.id);
        work = r.work;
      }

  bare_alike : (c : Id) (R S : Register) → SameOwn c R S → (r : Record) → r.id ≡ c → bare_view R r ≡ bare_view S r
  bare_alike c R S same r own =
      let crews : places_of R.holds r.id Crew ≡ places_of S.holds r.id Crew =
      ap (λ (d : Id). places_of R.holds d Crew) own ∙ same_places c R S same Crew ∙ ap (λ (d : Id). places_of S.holds d Crew) (sym own) in
      let card = same_card c R S same r own in
      let rows = card_present c R S same r own in
      λ i. record {
        card = card i;
        crews = crews i;
        fence = [];
        holds = in_kind_order [];
        points = [];
        steps = map (λ row. row.step) (rows i);
        work = r.work;
      }

  shown_alike : (c : Id) (R S : Register) → SameOwn c R S → reply_of k R (Show c) (record_of R.records c) ≡ reply_of k S (Show c) (record_of S.records c)
  shown_alike c R S same = at (record_of R.records c) refl ∙ ap (reply_of k S (Show c)) same.own_record
    where
      at : (o : Option Record) → record_of R.records c ≡ o → reply_of k R (Show c) o ≡ reply_of k S (Show c) o
      at None read = refl
      at (Some r) read = ap Shown (viewed_bare R r ∙ bare_alike c R S same r (record_id R.records c r read) ∙ sym (viewed_bare S r))

  module _ (c : Id) (R S : Register) (same : SameOwn c R S) (by : List ℕ) (at : ℕ) where
    abbrev showing : Command
    showing = record { caller = by; moment = at; kind = Show c }

    show_settled : (found : Option Refusal)
        → answer_by_checks k R (record { caller = by; moment = at; kind = Show c }) found ≡ answer_by_checks k S (record { caller = by; moment = at; kind = Show c }) found
    unfolding after_edits
    show_settled None = let reply = shown_alike c R S same in λ i. record { reply = reply i; edits = [] }
    show_settled (Some refusal) = refl

    pub show_alike : answer_with k R (record { caller = by; moment = at; kind = Show c }) ≡ answer_with k S (record { caller = by; moment = at; kind = Show c })
    show_alike = show_settled (first_refusal (checks k R by at (Show c)))
        ∙ ap (λ list. answer_by_checks k S showing (first_refusal list)) (checks_of_own c R S same k by at (Show c) refl refl refl)

-- ---- each own command that names it

module _ (c : Id) (inside : List ℕ → Bool) (R S : Register) (agree : Agree c inside R S) (R_order : ListsAreInOrder R) (S_order : ListsAreInOrder S)
    (r : Record) (read : record_of R.records c ≡ Some r) (closed : is_open r.phase ≡ false) where
  same : SameOwn c R S
  same = agreeing_have_same c inside R S agree

  is_closed_record : r.phase ≡ Closed
  is_closed_record = closed_is r.phase closed

  -- a test that asks for no Closed one fails
  fails : (phases : Phase → Bool) → phases Closed ≡ false → (s : Record) → record_of R.records c ≡ Some s → phases s.phase ≡ false
  fails phases none s found = ap (λ (x : Record). phases x.phase) (sym (same_Some r s (sym read ∙ found))) ∙ ap phases is_closed_record ∙ none

  without_fence : (T : Register) → record_of T.records c ≡ Some r → clearance_fence T c ≡ []
  without_fence T there = ap (found_fence T.net T.steps) there ∙ rw (ap is_fenced is_closed_record) refl

  module _ (q : Command) (named : named_clearance q.kind ≡ Some c) (no_order : is_order q.kind ≡ false) where
    first_fence : fence_for R q.kind ≡ []
    first_fence = fence_named R q.kind c named no_order ∙ without_fence R read

    same_known : known_of R q ≡ known_of S q
    same_known =
        let requester : requester_for q.caller (named_clearance q.kind) ≡ c.requester = ap (requester_for q.caller) named in
        let greatest : greatest_number R.records (requester_for q.caller (named_clearance q.kind)) ≡ greatest_number S.records (requester_for q.caller (named_clearance q.kind)) =
        ap (greatest_number R.records) requester ∙ agree.greatest ∙ ap (greatest_number S.records) (sym requester) in
        let fence = first_fence ∙ sym (fence_named S q.kind c named no_order ∙ without_fence S (sym same.own_record ∙ read)) in
        let crossed = none_crossed R q.kind (no_jumper q.kind c named) ∙ sym (none_crossed S q.kind (no_jumper q.kind c named)) in
        λ i. record { greatest = greatest i; fence = fence i; crossed = crossed i }

    with_same_known : answer_with (known_of R q) R q ≡ answer_with (known_of R q) S q → answer R q ≡ answer S q
    with_same_known alike = alike ∙ ap (λ (k : Known). answer_with k S q) same_known

  by_kind : (by : List ℕ) (at : ℕ) (kind : Kind) → named_clearance kind ≡ Some c → (a : Bool) → is_order kind ≡ a → (b : Bool) → is_instruct kind ≡ b → (e : Bool) → is_show kind ≡ e
      → answer R (record { caller = by; moment = at; kind = kind }) ≡ answer S (record { caller = by; moment = at; kind = kind })
  by_kind by at (Order d points tasks) named true orders b is_b e is_e =
      let own : c ≡ d = sym (same_Some d c named) in
      subst (λ (d : Id). answer R (record { caller = by; moment = at; kind = Order d points tasks }) ≡ answer S (record { caller = by; moment = at; kind = Order d points tasks })) own
      (late_order R S c same (fails is_requested refl) by at points tasks)
  by_kind by at (Instruct d n) named a is_a true instructs e is_e =
      let own : c ≡ d = sym (same_Some d c named) in
      subst (λ (d : Id). answer R (record { caller = by; moment = at; kind = Instruct d n }) ≡ answer S (record { caller = by; moment = at; kind = Instruct d n })) own
      (late_instruct R S c same (fails is_running refl) by at n)
  by_kind by at (Show d) named a is_a b is_b true shows =
      let own : d ≡ c = same_Some d c named in
      let own_read : SameOwn d R S = subst (λ (e : Id). SameOwn e R S) (sym own) same in
      with_same_known (record { caller = by; moment = at; kind = Show d }) named refl
      (show_alike (known_of R (record { caller = by; moment = at; kind = Show d })) (first_fence (record { caller = by; moment = at; kind = Show d }) named refl) d R S own_read by at)
  by_kind by at kind named false no_order false no_instruct false no_show =
      let q : Command = record { caller = by; moment = at; kind = kind } in
      with_same_known (record { caller = by; moment = at; kind = kind }) named no_order
      (answered_alike c R S R_order S_order same (known_of R q) q named no_show (checks_of_own c R S same (known_of R q) by at kind named no_order no_instruct))
  by_kind by at _ named a is_a b is_b e is_e = cc (is_a, is_b, is_e)

  pub closed_own : (q : Command) → named_clearance q.kind ≡ Some c → answer R q ≡ answer S q
  closed_own q named = by_kind q.caller q.moment q.kind named (is_order q.kind) refl (is_instruct q.kind) refl (is_show q.kind) refl
