-- Commands that are about none of some closed clearances never look at their steps.
use Rattle.std.proofs.Common.{◌≡◌, ◌∙◌, ℕ, ◌+◌, Bool, true, false, not, List, [], ◌∷◌, Option, Some, None, Contains, refl, sym, ap, find, filter, map, option_map, if◌then◌else◌}
use Rattle.clr_rules.proofs.Common.{AllByRecursion, Answer, Contains-here, Contains-later, IsGood, Known, ListsAreInOrder, SameOwn, and_parts, answer, answer_by_checks, answer_with, both_ways, checks, edits_of}
use Rattle.clr_rules.proofs.Common.{false≢true, false_from_ne_true, filter-filter_wider, filter-with_inside, first_refusal, hindering_hold, in_key_order-filter, is_close, is_fenced, known_of}
use Rattle.clr_rules.proofs.Common.{member-row_of, named_clearance, none-some, not-true, not_from_false, one_id, own_id, record_id, row_of-member, same_Some, Task}
use Rattle.clr_rules.specs.Answer.{crossed_for, fence_for, named_fence, reply_clearance, reply_of, requester_for, view_of}
use Rattle.clr_rules.specs.Checks.{held_by, is_operator, other_hand}
use Rattle.clr_rules.specs.Fences.{clearance_fence, crossed_record, crosses, found_fence, record_fence, work_fence}
use Rattle.clr_rules.specs.Footprint.{all_spare, spares}
use Rattle.clr_rules.specs.GoodByPhase.{Outlook}
use Rattle.clr_rules.specs.Prelude.{Edit, PutStep, Command, Kind, Phase, Closed, Record, Refusal, StepRow, Id, same_id, id_cmp, id_cmp_total, Register, greatest_number, hand_of, record_key, record_of}
use Rattle.clr_rules.specs.Prelude.{is_running, is_waiting, points_of, step_key, step_key_cmp, step_key_cmp_total, steps_of, after_edit, after_edits, Request, Order, Instruct, Switch, Show, Jumper, Shown}
use Rattle.clr_rules.specs.Records.{is_closed}
use Rattle.clr_rules.specs.Run.{after, after_all, replies}
use Rattle.clr_rules.specs.laws.ClosedSteps.{AllNameNoneOf, AreClosed, AreOneBut, ClosedStepsBindNoRun, ClosedStepsBindNothing, NamesNoneOf, without_steps_of}
use Rattle.clr_rules.specs.laws.Frame.{subject_of}
use Rattle.clr_rules.proofs.edits.NewRecords.{next_is_free}
use Rattle.clr_rules.proofs.isolation.OthersEdits.{answers_spare, one_outlook_changes}
use Rattle.clr_rules.proofs.keeps.EveryKind.{commands_keep_good}
use Rattle.clr_rules.proofs.near.OwnAnswers.{answered_alike, card_present, same_card, told_alike}
use Rattle.clr_rules.proofs.near.OwnChecks.{at_number, number, same_by_role, same_checks, state, turn}
use Rattle.clr_rules.proofs.near.OwnEdits.{same_own_edited_all}
use Rattle.clr_rules.proofs.near.OwnQuestions.{same_round}

closed_is_one : (phase : Phase) → is_closed phase ≡ true → is_fenced phase ≡ false
closed_is_one Closed is = refl
closed_is_one _ is = absurd (false≢true is)

-- tests that say the same of each element find the same
find-alike : {X : Type 0} (p q : X → Bool) (xs : List X) → ((x : X) → Contains xs x → p x ≡ q x) → find p xs ≡ find q xs
find-alike p q [] alike = refl
find-alike p q (x ∷ xs) alike =
    (λ i. if alike x (Contains-here x xs) i then Some x else find p xs)
    ∙ ap (λ (o : Option _). if q x then Some x else o) (find-alike p q xs (λ y there. alike y (Contains-later x y xs there)))

module _ (gone : Id → Bool) where
  -- the steps of any other clearance stay
  pub steps_stay : (steps : List StepRow) (c : Id) → gone c ≡ false → steps_of steps c ≡ steps_of (filter (λ row. not (gone row.id)) steps) c
  unfolding steps_of
  steps_stay steps c kept = sym (filter-filter_wider (λ (row : StepRow). same_id c row.id) (λ row. not (gone row.id))
      (λ row own. ap (λ (d : Id). not (gone d)) (sym (one_id c row.id own)) ∙ ap not kept) steps)

  pub own_same : (R : Register) (c : Id) → gone c ≡ false → SameOwn c R (without_steps_of gone R)
  own_same R c kept = record { staff = refl; own_record = refl; own_steps = steps_stay R.steps c kept; own_holds = refl }

  pub order_stays : (R : Register) → ListsAreInOrder R → ListsAreInOrder (without_steps_of gone R)
  order_stays R ordered = record {
    states = ordered.states;
    records = ordered.records;
    steps = in_key_order-filter step_key_cmp step_key step_key_cmp_total (λ (row : StepRow). not (gone row.id)) R.steps ordered.steps;
    holds = ordered.holds;
  }

  module _ (R : Register) (ordered : ListsAreInOrder R) (closed : AreClosed gone R) where
    abbrev W : Register
    W = without_steps_of gone R

    -- ---- what is known beside the rows

    same_record_fence : (r : Record) → Contains R.records r → record_fence R.net R.steps r ≡ record_fence R.net (Register.steps (without_steps_of gone R)) r
    same_record_fence r there = at (gone r.id) refl
      where
        at : (b : Bool) → gone r.id ≡ b → record_fence R.net R.steps r ≡ record_fence R.net (Register.steps (without_steps_of gone R)) r
        at true is =
            let (s, read, over) = closed r.id is in
            let one : s ≡ r = same_Some s r (sym read ∙ row_of-member id_cmp record_key id_cmp_total r R.records ordered.records there) in
            let unfenced : is_fenced r.phase ≡ false = closed_is_one r.phase (ap (λ (x : Record). is_closed x.phase) (sym one) ∙ over) in
            rw unfenced refl
        at false kept = ap (λ (rows : List StepRow). if is_fenced r.phase then work_fence R.net r.work (points_of rows) else []) (same_round r.id R W (own_same R r.id kept) 1)

    same_fence : (c : Id) → clearance_fence R c ≡ clearance_fence (without_steps_of gone R) c
    same_fence c = at (record_of R.records c) refl
      where
        at : (o : Option Record) → record_of R.records c ≡ o → found_fence R.net R.steps o ≡ found_fence R.net (Register.steps (without_steps_of gone R)) o
        at None read = refl
        at (Some r) read = same_record_fence r (member-row_of id_cmp record_key id_cmp_total c r R.records read).0

    same_named_fence : (named : Option Id) → named_fence R named ≡ named_fence (without_steps_of gone R) named
    same_named_fence None = refl
    same_named_fence (Some c) = same_fence c

    same_fence_for : (kind : Kind) → fence_for R kind ≡ fence_for (without_steps_of gone R) kind
    same_fence_for (Order c points tasks) = refl
    same_fence_for kind = same_named_fence (named_clearance kind)

    same_crossed : (kind : Kind) → crossed_for R kind ≡ crossed_for (without_steps_of gone R) kind
    unfolding crossed_record
    same_crossed (Jumper point from to lockable remote) = ap (option_map (λ (r : Record). r.id))
        (find-alike (λ (r : Record). crosses (record_fence R.net R.steps r) from to) (λ r. crosses (record_fence R.net (Register.steps (without_steps_of gone R)) r) from to) R.records
        (λ r there. ap (λ fence. crosses fence from to) (same_record_fence r there)))
    same_crossed _ = refl

    same_known : (q : Command) → known_of R q ≡ known_of (without_steps_of gone R) q
    same_known q = λ i. record {
      greatest = Known.greatest (known_of R q);
      fence = same_fence_for q.kind i;
      crossed = same_crossed q.kind i;
    }

    -- ---- the answer, from the same of these

    checks_same : (k : Known) (by : List ℕ) (at : ℕ) (kind : Kind) → NamesNoneOf gone (named_clearance kind) → checks k R by at kind ≡ checks k (without_steps_of gone R) by at kind
    checks_same k by at (Request section) free = refl
    checks_same k by at (Switch tasks) free = refl
    checks_same k by at (Jumper point from to lockable remote) free = refl
    checks_same k by at (Order c points tasks) free = refl
    checks_same k by at (Instruct c n) free =
        let same = own_same R c free in
        same_by_role c R W same by at is_operator is_running (λ i. number c R W same n i ∷ turn c R W same n i ∷ state c R W same n is_waiting i
        ∷ at_number c R W same n (λ row. other_hand c (hand_of R.states row.step.point)) i
        ∷ at_number c R W same n (λ row. if is_close row.step.action then held_by (hindering_hold R.holds c row.step.point) else None) i ∷ [])
    checks_same k by at kind free = same_checks k R W by at kind (own_same R _ free) refl refl

    -- the view of a record whose steps stay
    same_view : (k : Known) (r : Record) → gone r.id ≡ false → view_of k R r ≡ view_of k (without_steps_of gone R) r
    same_view k r kept =
        let same = own_same R r.id kept in
        let card = same_card r.id R W same r refl in
        let rows = card_present r.id R W same r refl in
        λ i. record (view_of k R r) { card = card i; steps = map (λ row. row.step) (rows i) }

    same_shown : (k : Known) (c : Id) → gone c ≡ false → reply_of k R (Show c) (record_of R.records c) ≡ reply_of k (without_steps_of gone R) (Show c) (record_of R.records c)
    same_shown k c kept = at (record_of R.records c) refl
      where
        at : (o : Option Record) → record_of R.records c ≡ o → reply_of k R (Show c) o ≡ reply_of k (without_steps_of gone R) (Show c) o
        at None read = refl
        at (Some r) read = ap Shown (same_view k r (ap gone (record_id R.records c r read) ∙ kept))

    -- a clearance that is made has no record yet
    new_is_kept : (by : List ℕ) → gone (record { requester = by; number = greatest_number R.records by + 1 }) ≡ false
    new_is_kept by = false_from_ne_true (gone (record { requester = by; number = greatest_number R.records by + 1 })) (λ is.
        let (r, read, over) = closed (record { requester = by; number = greatest_number R.records by + 1 }) is in
        absurd (none-some r (sym (next_is_free R by) ∙ read)))

    show_settled : (k : Known) (by : List ℕ) (at : ℕ) (c : Id) → gone c ≡ false → (found : Option Refusal)
        → answer_by_checks k R (record { caller = by; moment = at; kind = Show c }) found
        ≡ answer_by_checks k (without_steps_of gone R) (record { caller = by; moment = at; kind = Show c }) found
    unfolding after_edits
    show_settled k by at c kept None = let reply = same_shown k c kept in λ i. record { reply = reply i; edits = [] }
    show_settled k by at c kept (Some refusal) = refl

    jumper_settled : (k : Known) (q : Command) (point from to : List ℕ) (lockable remote : Bool) → q.kind ≡ Jumper point from to lockable remote → (found : Option Refusal)
        → answer_by_checks k R q found ≡ answer_by_checks k (without_steps_of gone R) q found
    jumper_settled k q point from to lockable remote is None = rw is refl
    jumper_settled k q point from to lockable remote is (Some refusal) = refl

    -- what is replied of a clearance that is made, after the same edits
    request_settled : (k : Known) (by : List ℕ) (at : ℕ) (section : List ℕ) → gone (record { requester = by; number = k.greatest + 1 }) ≡ false → (found : Option Refusal)
        → answer_by_checks k R (record { caller = by; moment = at; kind = Request section }) found
        ≡ answer_by_checks k (without_steps_of gone R) (record { caller = by; moment = at; kind = Request section }) found
    request_settled k by at section kept None =
        let edits = edits_of k.greatest R by at (Request section) in
        let new : Id = record { requester = by; number = k.greatest + 1 } in
        let reply = told_alike new (after_edits edits R) (after_edits edits W) (same_own_edited_all new R W ordered (order_stays R ordered) (own_same R new kept) edits) k (Request section) refl in
        λ i. record { reply = reply i; edits = edits }
    request_settled k by at section kept (Some refusal) = refl

    switch_settled : (k : Known) (by : List ℕ) (at : ℕ) (tasks : List Task) → gone (record { requester = by; number = k.greatest + 1 }) ≡ false → (found : Option Refusal)
        → answer_by_checks k R (record { caller = by; moment = at; kind = Switch tasks }) found
        ≡ answer_by_checks k (without_steps_of gone R) (record { caller = by; moment = at; kind = Switch tasks }) found
    switch_settled k by at tasks kept None =
        let edits = edits_of k.greatest R by at (Switch tasks) in
        let new : Id = record { requester = by; number = k.greatest + 1 } in
        let reply = told_alike new (after_edits edits R) (after_edits edits W) (same_own_edited_all new R W ordered (order_stays R ordered) (own_same R new kept) edits) k (Switch tasks) refl in
        λ i. record { reply = reply i; edits = edits }
    switch_settled k by at tasks kept (Some refusal) = refl

    by_kind : (by : List ℕ) (at : ℕ) (kind : Kind) → NamesNoneOf gone (named_clearance kind)
        → answer_with (known_of R (record { caller = by; moment = at; kind = kind })) R (record { caller = by; moment = at; kind = kind })
        ≡ answer_with (known_of R (record { caller = by; moment = at; kind = kind })) (without_steps_of gone R) (record { caller = by; moment = at; kind = kind })
    by_kind by at (Request section) free =
        let k = known_of R (record { caller = by; moment = at; kind = Request section }) in
        request_settled k by at section (new_is_kept by) (first_refusal (checks k R by at (Request section)))
    by_kind by at (Switch tasks) free =
        let k = known_of R (record { caller = by; moment = at; kind = Switch tasks }) in
        switch_settled k by at tasks (new_is_kept by) (first_refusal (checks k R by at (Switch tasks)))
    by_kind by at (Show c) free =
        let k = known_of R (record { caller = by; moment = at; kind = Show c }) in
        show_settled k by at c free (first_refusal (checks k R by at (Show c)))
    by_kind by at (Jumper point from to lockable remote) free =
        let q : Command = record { caller = by; moment = at; kind = Jumper point from to lockable remote } in
        jumper_settled (known_of R q) q point from to lockable remote refl (first_refusal (checks (known_of R q) R by at (Jumper point from to lockable remote)))
    by_kind by at kind free =
        let q : Command = record { caller = by; moment = at; kind = kind } in
        answered_alike _ R W ordered (order_stays R ordered) (own_same R _ free) (known_of R q) q refl refl (checks_same (known_of R q) by at kind free)

    answer_same : (q : Command) → NamesNoneOf gone (named_clearance q.kind) → answer R q ≡ answer (without_steps_of gone R) q
    answer_same q free = by_kind q.caller q.moment q.kind free ∙ ap (λ (k : Known). answer_with k W q) (same_known q)

    -- ---- the register after it

    subject_kept : (q : Command) → NamesNoneOf gone (named_clearance q.kind) → gone (subject_of R q) ≡ false
    subject_kept q free = at q.caller (named_clearance q.kind) free
      where
        at : (by : List ℕ) (named : Option Id) → NamesNoneOf gone named → gone (reply_clearance (greatest_number R.records (requester_for by named)) by named) ≡ false
        at by None free = new_is_kept by
        at by (Some c) free = free

    others_differ : (q : Command) → NamesNoneOf gone (named_clearance q.kind) → (d : Id) → gone d ≡ true → same_id d (subject_of R q) ≡ false
    others_differ q free d is = false_from_ne_true (same_id d (subject_of R q)) (λ same.
        both_ways (gone d) (ap gone (one_id d (subject_of R q) same) ∙ subject_kept q free) is)

  -- an edit puts no step of these clearances
  abbrev Leaves : Edit → Type 0
  Leaves (PutStep row) = gone row.id ≡ false
  Leaves _ = Unit {0}

  leaves : (R : Register) (edits : List Edit) → ((d : Id) → gone d ≡ true → all_spare d R edits ≡ true) → AllByRecursion Leaves edits
  leaves R [] each = tt
  leaves R (PutStep row ∷ edits) each = (
    false_from_ne_true (gone row.id) (λ is.
        both_ways (same_id row.id row.id) (not-true (same_id row.id row.id) (and_parts (not (same_id row.id row.id)) (all_spare row.id R edits) (each row.id is)).0) (own_id row.id)),
    leaves R edits (λ d is. (and_parts (not (same_id d row.id)) (all_spare d R edits) (each d is)).1),
  )
  leaves R (edit ∷ edits) each = (tt, leaves R edits (λ d is. (and_parts (spares d R edit) (all_spare d R edits) (each d is)).1))

  -- so the steps may be given up before the edits or after them
  edited_same : (edits : List Edit) → AllByRecursion Leaves edits → (R : Register) → without_steps_of gone (after_edits edits R) ≡ after_edits edits (without_steps_of gone R)
  unfolding after_edits
  edited_same [] leave R = refl
  edited_same (PutStep row ∷ edits) leave R =
      edited_same edits leave.1 (after_edit (PutStep row) R)
      ∙ (λ i. after_edits edits (record R { steps = filter-with_inside step_key_cmp step_key step_key_cmp_total (λ (row : StepRow). not (gone row.id)) row R.steps (ap not leave.0) i }))
  edited_same (edit ∷ edits) leave R = edited_same edits leave.1 (after_edit edit R)

  module _ (R : Register) (good : IsGood R) (closed : AreClosed gone R) (q : Command) (free : NamesNoneOf gone (named_clearance q.kind)) where
    pub after_same : without_steps_of gone (after R q) ≡ after (without_steps_of gone R) q
    after_same =
        edited_same (Answer.edits (answer R q))
        (leaves R (Answer.edits (answer R q)) (λ d is. answers_spare R d q (λ _. good.said.hand_matches_step) (λ _. good.besides.points_known)
        (λ _. not_from_false _ (others_differ R good.said.in_order closed q free d is)))) R
        ∙ ap (λ (a : Answer). after_edits a.edits (without_steps_of gone R)) (answer_same R good.said.in_order closed q free)

    pub closed_after : AreClosed gone (after R q)
    closed_after c is =
        let (r, read, over) = closed c is in
        let same = one_outlook_changes R c q good.said.in_order (λ _. good.said.hand_matches_step) (λ _. good.besides.points_known) (others_differ R good.said.in_order closed q free c is) in
        (r, ap (λ (v : Outlook). v.clearance) same ∙ read, over)

-- ---- two registers

closed_in_second : (gone : Id → Bool) (R S : Register) → AreOneBut gone R S → AreClosed gone S
closed_in_second gone R S one c is =
    let (r, read, over) = one.closed c is in
    (r, ap (λ (T : Register). record_of T.records c) (sym one.rest) ∙ read, over)

pub closed_steps_bind_nothing : ClosedStepsBindNothing
closed_steps_bind_nothing gone R S q good other one free =
    let second = closed_in_second gone R S one in (
      answer_same gone R good.said.in_order one.closed q free ∙ ap (λ (T : Register). answer T q) one.rest ∙ sym (answer_same gone S other.said.in_order second q free),
      record {
        closed = closed_after gone R good one.closed q free;
        rest = after_same gone R good one.closed q free ∙ ap (λ (T : Register). after T q) one.rest ∙ sym (after_same gone S other second q free);
      },
    )

pub closed_steps_bind_no_run : ClosedStepsBindNoRun
unfolding after_all replies AllNameNoneOf
closed_steps_bind_no_run gone R S [] good other one free = (refl, one)
closed_steps_bind_no_run gone R S (q ∷ commands) good other one free =
    let (same, again) = closed_steps_bind_nothing gone R S q good other one free.0 in
    let (later, end) = closed_steps_bind_no_run gone (after R q) (after S q) commands (commands_keep_good R q good) (commands_keep_good S q other) again free.1 in
    (λ i. Answer.reply (same i) ∷ later i, end)
