-- Registers that agree near a clearance answer its own commands alike, and agree again.
use Rattle.std.proofs.Common.{◌≡◌, ℕ, Bool, true, false, List, [], ◌∷◌, Option, Some, None, refl, sym, ◌∙◌, ap, subst}
use Rattle.clr_rules.proofs.Common.{both_ways, false≢true, answer, is_order, SameOwn, is_jumper, named_clearance, Jumper, one_id}
use Rattle.clr_rules.specs.Prelude.{Command, Kind, Record, Id, Register, record_of, Order}
use Rattle.clr_rules.specs.Isolation.{AreAlike, OwnStep}
use Rattle.clr_rules.specs.Near.{near_of}
use Rattle.clr_rules.specs.Records.{is_open}
use Rattle.clr_rules.specs.laws.Steps.{IsNoSwitchOrder}
use Rattle.clr_rules.specs.Shown.{asked_row, found_phase_requested, is_own_command, is_own_kind}
use Rattle.clr_rules.proofs.isolation.ClosedOwn.{closed_own, late_order}
use Rattle.clr_rules.proofs.isolation.LookAlike.{look_alike, open_is_none, own_request}
use Rattle.clr_rules.proofs.lists.OpenPhases.{found_open}
use Rattle.clr_rules.proofs.near.NewAnswers.{same_near_same_answer}
use Rattle.clr_rules.proofs.isolation.OthersSteps.{same_answers_agree}
use Rattle.clr_rules.proofs.near.OwnParts.{agreeing_have_same}

-- ---- an order of a clearance that is not Requested is refused alike

late_own : (c : Id) (R S : Register) → SameOwn c R S → found_phase_requested (record_of R.records c) ≡ false → (by : List ℕ) (at : ℕ) (kind : Kind)
    → is_own_kind c by kind (named_clearance kind) ≡ true → is_order kind ≡ true
    → answer R (record { caller = by; moment = at; kind = kind }) ≡ answer S (record { caller = by; moment = at; kind = kind })
late_own c R S same late by at (Order d points tasks) own orders =
    let meant = one_id c d own in
    late_order R S d (subst (λ (e : Id). SameOwn e R S) meant same)
    (λ r read. sym (ap found_phase_requested read) ∙ subst (λ (e : Id). found_phase_requested (record_of R.records e) ≡ false) meant late) by at points tasks
late_own c R S same late by at _ own orders = cc orders

-- ---- each own command

module _ (c : Id) (inside : List ℕ → Bool) (R S : Register) (q : Command) (alike : AreAlike c inside R S (q ∷ []))
    (own : is_own_command c q ≡ true) (asked : asked_row R q.kind ≡ asked_row S q.kind) where
  by_near : near_of R q ≡ near_of S q → answer R q ≡ answer S q
  by_near looks = same_near_same_answer R S q alike.first_good alike.first_orders.switching alike.second_good alike.second_orders.switching looks

  -- where the clearance is no switch order
  none_switched : IsNoSwitchOrder R c → (a : Bool) → is_order q.kind ≡ a → (b : Bool) → found_phase_requested (record_of R.records c) ≡ b → answer R q ≡ answer S q
  none_switched none false no_order b is = by_near (look_alike c inside R S q alike none own asked (λ orders. absurd (both_ways (is_order q.kind) no_order orders)))
  none_switched none true orders true requested = by_near (look_alike c inside R S q alike none own asked (λ _. requested))
  none_switched none true orders false late = late_own c R S (agreeing_have_same c inside R S alike.agree) late q.caller q.moment q.kind own orders

  -- of a Closed one its requester was an operator perhaps, and the points of its steps lie anywhere
  closed : (r : Record) → record_of R.records c ≡ Some r → is_open r.phase ≡ false → (named : Option Id) → named_clearance q.kind ≡ named → is_own_kind c q.caller q.kind named ≡ true
      → answer R q ≡ answer S q
  closed r read is None names asks = by_near (own_request c inside R S alike.agree alike.first_good alike.second_good q.caller q.moment q.kind names asks asked)
  closed r read is (Some d) names meant = closed_own c inside R S alike.agree alike.first_good.in_order alike.second_good.in_order r read is q (names ∙ ap Some (sym (one_id c d meant)))

  by_record : (o : Option Record) → record_of R.records c ≡ o → (b : Bool) → found_open o ≡ b → answer R q ≡ answer S q
  by_record o read true opens = none_switched (open_is_none R c alike.first_orders alike.no_operator (ap found_open read ∙ opens))
      (is_order q.kind) refl (found_phase_requested (record_of R.records c)) refl
  by_record None read false is = cc is
  by_record (Some r) read false is = closed r read is (named_clearance q.kind) refl own

  same_answer : answer R q ≡ answer S q
  same_answer = by_record (record_of R.records c) refl (found_open (record_of R.records c)) refl

-- an own command is no jumper
pub own_is_no_jumper : (c : Id) (by : List ℕ) (kind : Kind) → is_own_kind c by kind (named_clearance kind) ≡ true → is_jumper kind ≡ false
own_is_no_jumper c by (Jumper point from to lockable remote) own = absurd (false≢true own)
own_is_no_jumper c by _ own = refl

pub own_step : OwnStep
own_step c inside R S q alike own asked =
    let same = same_answer c inside R S q alike own asked in
    (same, same_answers_agree R S c inside q (own_is_no_jumper c q.caller q.kind own) alike.first_good.in_order alike.second_good.in_order same alike.agree)
