-- A record that is put over that of its clearance, with the same work section, and the steps, holds and hands beside it.
use Rattle.std.proofs.Common.{◌≡◌, ℕ, Bool, true, false, cond, ◌&&◌, List, map, filter, Some, is_some, length, refl, sym, ◌∙◌, ap, subst}
use Rattle.std.specs.List.{list_any, range_with_len}
use Rattle.clr_rules.proofs.Common.{AreAtPoints, same_Some, Grid, section_names, same_name, Opened, with_row, has_record, is_closing_at, is_known_work}
use Rattle.clr_rules.proofs.Common.{is_operators, IsGoodByPhase, IsInPlace, Outlook, outlook_of, HoldKind, HeldOpen, PointState, Record, StepRow, Id, id_cmp, id_cmp_total, same_id, Register}
use Rattle.clr_rules.proofs.Common.{has_in_hand, position_of, record_key, record_of, is_active, steps_of, is_open, is_point_kind, has_hold, is_close, one_id, own_id}
use Rattle.clr_shelf.proofs.FirstRow.{keys-with_row}
use Rattle.clr_rules.specs.Id.{same_id_from_tie}
use Rattle.clr_rules.specs.Records.{is_switch_order, lacks_work, numbers_of}
use Rattle.clr_rules.proofs.edits.EditReading.{record_of-put}
use Rattle.clr_rules.proofs.lists.Greatest.{numbers_by_ids}
use Rattle.clr_rules.proofs.good.Keeping.{Changed, same_outlook}
use Rattle.clr_rules.proofs.isolation.Sparing.{record_of-others}

-- ---- the records

-- numbers go by ids
numbers_alike : (requester : List ℕ) (before after : List Record) → map record_key after ≡ map record_key before
    → numbers_of before requester ≡ range_with_len 1 (length (numbers_of before requester))
    → numbers_of after requester ≡ range_with_len 1 (length (numbers_of after requester))
numbers_alike requester before after keys h =
    let same : numbers_of after requester ≡ numbers_of before requester =
    numbers_by_ids requester after
    ∙ ap (λ (ids : List Id). map (λ (d : Id). d.number) (filter (λ d. same_name requester d.requester) ids)) keys
    ∙ sym (numbers_by_ids requester before) in
    subst (λ (numbers : List ℕ). numbers ≡ range_with_len 1 (length numbers)) (sym same) h

-- a register's outlook of a clearance, with another record
abbrev pub outlook_with : Register → Id → Record → Outlook
outlook_with S c new = record { clearance = Some new; steps = steps_of S.steps c; has = has_hold S.holds c; hand = has_in_hand S.states c }

-- what a command makes of the clearance that it is about, beside its record
pub record Moved (R S : Register) (c : Id) (new : Record) : Type 0 where
  pub other_steps : (d : Id) → same_id d c ≡ false → steps_of S.steps d ≡ steps_of R.steps d
  pub other_holds : (d : Id) → same_id d c ≡ false → (kind : HoldKind) (place : List ℕ) → has_hold S.holds d kind place ≡ has_hold R.holds d kind place
  pub other_hands : (d : Id) → same_id d c ≡ false → (p : List ℕ) → has_in_hand S.states d p ≡ has_in_hand R.states d p
  pub own_place : IsInPlace R.net (outlook_with S c new)
  pub held_open : (d : Id) (kind : HoldKind) (p : List ℕ) → is_point_kind kind ≡ true → has_hold S.holds d kind p ≡ true
      → position_of S.states p ≡ Some Opened
  pub closing_free : (b : Id) (p : List ℕ) → is_closing_at S.steps b p ≡ true
      → (d : Id) (kind : HoldKind) → is_point_kind kind ≡ true → has_hold S.holds d kind p ≡ true → (d ≡ b) × (kind ≡ HeldOpen)
  pub steps_known : AreAtPoints R.net (steps_of S.steps c)

module _ (R : Register) (good : IsGoodByPhase R) (c : Id) (new : Record) (own : new.id ≡ c) where
  pub put_read : record_of (with_row id_cmp record_key new R.records) c ≡ Some new
  put_read = record_of-put new c R.records ∙ ap (λ b. cond b (Some new) (record_of R.records c)) (ap (λ d. same_id d c) own ∙ own_id c)

  -- a record that is put, with what is made beside it
  pub changed_by : (S : Register) → S.records ≡ with_row id_cmp record_key new R.records → Moved R S c new
      → is_known_work (section_names (Grid.sections R.net)) new.work ≡ true → is_switch_order new ≡ is_operators R c.requester
      → ((requester : List ℕ) → numbers_of (with_row id_cmp record_key new R.records) requester
      ≡ range_with_len 1 (length (numbers_of (with_row id_cmp record_key new R.records) requester)))
      → Changed R S c
  changed_by S puts move known operator numbered = record {
    others = λ d differs. same_outlook R S d (ap (λ (records : List Record). record_of records d) puts ∙ record_of-others d new R.records (ap (same_id d) own ∙ differs))
        (move.other_steps d differs) (move.other_holds d differs) (move.other_hands d differs);
    own = subst (IsInPlace R.net) seen move.own_place;
    operator = λ s is. subst (λ (s : Record). is_switch_order s ≡ is_operators R c.requester) (put_is s is) operator;
    held_open = move.held_open;
    closing_free = move.closing_free;
    numbered = λ requester. subst (λ (records : List Record). numbers_of records requester ≡ range_with_len 1 (length (numbers_of records requester))) (sym puts) (numbered requester);
    work_known = λ s is. subst (λ (s : Record). is_known_work (section_names (Grid.sections R.net)) s.work ≡ true) (put_is s is) known;
    steps_known = move.steps_known;
  }
    where
      put_is : (s : Record) → record_of S.records c ≡ Some s → new ≡ s
      put_is s is = same_Some new s (sym put_read ∙ sym (ap (λ (records : List Record). record_of records c) puts) ∙ is)

      seen : outlook_with S c new ≡ outlook_of S c
      seen i = record {
        clearance = sym (ap (λ (records : List Record). record_of records c) puts ∙ put_read) i;
        steps = steps_of S.steps c;
        has = has_hold S.holds c;
        hand = has_in_hand S.states c;
      }

-- a record put over an open one of its clearance
pub put_changes : (R : Register) → IsGoodByPhase R → (c : Id) (r new : Record) → record_of R.records c ≡ Some r → is_open r.phase ≡ true → new.id ≡ c → new.work ≡ r.work
    → (S : Register) → S.records ≡ with_row id_cmp record_key new R.records → Moved R S c new → Changed R S c
put_changes R good c r new found unclosed own same_work S puts move = changed_by R good c new own S puts move
    (ap (is_known_work (section_names (Grid.sections R.net))) same_work ∙ good.work_known c r found unclosed)
    (ap lacks_work same_work ∙ good.operators c r found unclosed)
    (λ requester. numbers_alike requester R.records (with_row id_cmp record_key new R.records)
    (keys-with_row id_cmp record_key id_cmp_total same_id_from_tie new R.records good.in_order.records
    (ap (λ d. has_record R.records d) own ∙ ap is_some found)) (good.numbered requester))

-- ---- where no point is moved, held or let go

-- what is at points in the second register is there in the first, and nothing more is closing
pub record Quiet (R S : Register) (c : Id) : Type 0 where
  pub same_states : S.states ≡ R.states
  pub point_holds : (d : Id) (kind : HoldKind) (p : List ℕ) → is_point_kind kind ≡ true → has_hold S.holds d kind p ≡ true → has_hold R.holds d kind p ≡ true
  pub other_holds : (d : Id) → same_id d c ≡ false → (kind : HoldKind) (place : List ℕ) → has_hold S.holds d kind place ≡ has_hold R.holds d kind place
  pub other_steps : (d : Id) → same_id d c ≡ false → steps_of S.steps d ≡ steps_of R.steps d
  pub own_closing : (p : List ℕ) → is_closing_at S.steps c p ≡ true → is_closing_at R.steps c p ≡ true
  pub steps_known : AreAtPoints R.net (steps_of S.steps c)

-- whether a Close is given out depends on the clearance's steps alone
pub same_closing : (R S : Register) (b : Id) (p : List ℕ) → steps_of S.steps b ≡ steps_of R.steps b → is_closing_at R.steps b p ≡ is_closing_at S.steps b p
unfolding is_closing_at
same_closing R S b p same =
    ap (list_any (λ (row : StepRow). (is_active row.step.state && is_close row.step.action) && same_name p row.step.point)) (sym same)

pub quiet : (R S : Register) (c : Id) (new : Record) → IsGoodByPhase R → Quiet R S c → IsInPlace R.net (outlook_with S c new) → Moved R S c new
quiet R S c new good h place = record {
  other_steps = h.other_steps;
  other_holds = h.other_holds;
  other_hands = λ d differs p. ap (λ (states : List PointState). has_in_hand states d p) h.same_states;
  own_place = place;
  held_open = λ d kind p at_point has.
      ap (λ (states : List PointState). position_of states p) h.same_states ∙ good.held_open d kind p at_point (h.point_holds d kind p at_point has);
  closing_free = λ b p closing d kind at_point has.
      good.closing_free b p (was_closing b p closing (same_id b c) refl) d kind at_point (h.point_holds d kind p at_point has);
  steps_known = h.steps_known;
}
  where
    was_closing : (b : Id) (p : List ℕ) → is_closing_at S.steps b p ≡ true → (e : Bool) → same_id b c ≡ e → is_closing_at R.steps b p ≡ true
    was_closing b p closing true is = rw (one_id b c is) (h.own_closing p (rw (one_id b c is) at closing))
    was_closing b p closing false is = same_closing R S b p (h.other_steps b is) ∙ closing
