-- Agreement near a clearance, and the edits that keep it.
use Rattle.std.proofs.Common.{◌≡◌, ℕ, Bool, true, false, not, ◌&&◌, cond, List, [], ◌∷◌, refl, sym, ◌∙◌, ap, filter, All, Contains}
use Rattle.clr_rules.proofs.Common.{false≢true, Grid, point_names, same_name, has_name, PointRow, in_key_order, with_row, without_row, adds_nothing, Edit, SetPosition, SetHand, PutHold, TakeHold}
use Rattle.clr_rules.proofs.Common.{PutRecord, PutStep, AddSection, AddPoint, Hold, Record, Id, id_cmp, same_id, Register, greatest_number, record_key, hold_cmp, hold_cmp_total, hold_key, holds_of}
use Rattle.clr_rules.proofs.Common.{after_edit, after_edits, touching_names, touches, ListsAreInOrder, has_record, Contains-filter}
use Rattle.std.proofs.lemmas.List.Elements.{All-contains, All-head, All-tail, All-cons, All-nil, All-weaker}
use Rattle.clr_shelf.proofs.Groups.{filter-with_inside, filter-without_row}
use Rattle.clr_rules.specs.Agreement.{Agree, part_near}
use Rattle.clr_rules.specs.laws.Agreement.{ChangesByMarks, LeavesAlone, concerning, concerns, is_about, is_new_of}
use Rattle.clr_rules.specs.Records.{greater_of}
use Rattle.clr_rules.specs.Shown.{is_mark, marks_of}
use Rattle.clr_rules.proofs.edits.EditedLists.{edited-in_order}
use Rattle.clr_rules.proofs.lists.Greatest.{greatest-put, greatest-put_over}
use Rattle.clr_rules.proofs.lists.Filters.{filter-kept, filter-no_member, name_says, there_mapped}
use Rattle.clr_rules.proofs.edits.Refusing.{edited-has_record}
use Rattle.clr_rules.proofs.isolation.Sparing.{holds_of-others, holds_of-others_taken}
use Rattle.clr_rules.proofs.isolation.PartEdits.{part_near-edited_all}

-- ---- agreement is an equivalence

pub agrees_with_itself : (c : Id) (inside : List ℕ → Bool) (R : Register) → Agree c inside R R
agrees_with_itself c inside R = record { near = refl; own_holds = refl; greatest = refl }

pub agrees_back : (c : Id) (inside : List ℕ → Bool) (R S : Register) → Agree c inside R S → Agree c inside S R
agrees_back c inside R S agree = record { near = sym agree.near; own_holds = sym agree.own_holds; greatest = sym agree.greatest }

pub agrees_on : (c : Id) (inside : List ℕ → Bool) (R S T : Register) → Agree c inside R S → Agree c inside S T → Agree c inside R T
agrees_on c inside R S T first second = record {
  near = first.near ∙ second.near;
  own_holds = first.own_holds ∙ second.own_holds;
  greatest = first.greatest ∙ second.greatest;
}

-- ---- the points that touch the set are in the part

-- a point that touches the set is named among those that do
pub touching_named : (g : Grid) (inside : List ℕ → Bool) (p : PointRow) → Contains g.points p → touches inside p ≡ true
    → has_name (touching_names g inside) p.name ≡ true
unfolding touching_names
touching_named g inside p there touching = (name_says (touching_names g inside) p.name).1
    (there_mapped (λ (row : PointRow). row.name) (filter (touches inside) g.points) p (Contains-filter (touches inside) g.points p there touching))

pub touching-part_near : (R : Register) (c : Id) (inside : List ℕ → Bool)
    → touching_names (Register.net (part_near R c inside)) inside ≡ touching_names R.net inside
unfolding touching_names
touching-part_near R c inside =
    ap point_names (filter-kept (touches inside) (λ p. has_name (touching_names R.net inside) p.name) R.net.points (touching_named R.net inside))

-- registers that agree have the same points that touch the set
pub same_touching : (R S : Register) (c : Id) (inside : List ℕ → Bool) → Agree c inside R S → touching_names R.net inside ≡ touching_names S.net inside
same_touching R S c inside agree =
    sym (touching-part_near R c inside)
    ∙ ap (λ (P : Register). touching_names P.net inside) agree.near
    ∙ touching-part_near S c inside

-- so they take the same edits for marks
mark_alike : (g h : Grid) (inside : List ℕ → Bool) → touching_names g inside ≡ touching_names h inside → (edit : Edit) → is_mark g inside edit ≡ is_mark h inside edit
mark_alike g h inside same (SetPosition point position) = ap (λ (names : List (List ℕ)). has_name names point) same
mark_alike g h inside same (SetHand point hand) = ap (λ (names : List (List ℕ)). has_name names point) same
mark_alike g h inside same (PutRecord r) = refl
mark_alike g h inside same (PutStep row) = refl
mark_alike g h inside same (AddSection row) = refl
mark_alike g h inside same (AddPoint p) = refl
mark_alike g h inside same _ = rw same refl

pub marks_alike : (R S : Register) (c : Id) (inside : List ℕ → Bool) → Agree c inside R S
    → (edits : List Edit) → marks_of R.net inside edits ≡ marks_of S.net inside edits
marks_alike R S c inside agree edits =
    let same = mark_alike R.net S.net inside (same_touching R S c inside agree) in
    λ i. filter (λ edit. same edit i) edits

-- ---- the clearance's own holds

-- the holds of a clearance after an edit
abbrev pub own_after : Id → Edit → List Hold → List Hold
own_after c (PutHold h) holds = cond (same_id c h.id) (with_row hold_cmp hold_key h holds) holds
own_after c (TakeHold h) holds = without_row hold_cmp hold_key h holds
own_after c edit holds = holds

put_own : (c : Id) (h : Hold) (holds : List Hold) → in_key_order hold_cmp hold_key holds ≡ true → (b : Bool) → same_id c h.id ≡ b
    → holds_of (with_row hold_cmp hold_key h holds) c ≡ cond b (with_row hold_cmp hold_key h (holds_of holds c)) (holds_of holds c)
unfolding holds_of
put_own c h holds ordered true is = filter-with_inside hold_cmp hold_key hold_cmp_total (λ other. same_id c other.id) h holds is
put_own c h holds ordered false is = holds_of-others c h holds ordered is

take_own : (c : Id) (h : Hold) (holds : List Hold) → holds_of (without_row hold_cmp hold_key h holds) c ≡ without_row hold_cmp hold_key h (holds_of holds c)
unfolding holds_of
take_own c h holds = filter-without_row hold_cmp hold_key hold_cmp_total (λ other. same_id c other.id) h holds

pub holds_of-edited : (R : Register) → ListsAreInOrder R → (c : Id) (edit : Edit) → holds_of (Register.holds (after_edit edit R)) c ≡ own_after c edit (holds_of R.holds c)
holds_of-edited R ordered c (PutHold h) = put_own c h R.holds ordered.holds (same_id c h.id) refl
holds_of-edited R ordered c (TakeHold h) = take_own c h R.holds
holds_of-edited R ordered c _ = refl

holds_of-other : (R : Register) → ListsAreInOrder R → (c : Id) (edit : Edit) → is_about c edit ≡ false → holds_of (Register.holds (after_edit edit R)) c ≡ holds_of R.holds c
holds_of-other R ordered c (PutHold h) other = holds_of-others c h R.holds ordered.holds other
holds_of-other R ordered c (TakeHold h) other = holds_of-others_taken c h R.holds other
holds_of-other R ordered c _ other = refl

-- ---- the greatest number of its requester

abbrev greatest_after : List ℕ → Edit → ℕ → ℕ
greatest_after requester (PutRecord r) n = cond (same_name requester r.id.requester) (greater_of n r.id.number) n
greatest_after requester edit n = n

greatest-edited : (R : Register) → ListsAreInOrder R → (requester : List ℕ) (edit : Edit)
    → greatest_number (Register.records (after_edit edit R)) requester ≡ greatest_after requester edit (greatest_number R.records requester)
greatest-edited R ordered requester (PutRecord r) = greatest-put r R.records requester ordered.records
greatest-edited R ordered requester _ = refl

put_known : (r : Record) (records : List Record) (requester : List ℕ) → in_key_order id_cmp record_key records ≡ true
    → (b known : Bool) → same_name requester r.id.requester ≡ b → has_record records r.id ≡ known → (b && not known) ≡ false
    → greatest_number (with_row id_cmp record_key r records) requester ≡ greatest_number records requester
put_known r records requester ordered true true is there not_new = greatest-put_over r records requester ordered there
put_known r records requester ordered true false is there not_new = absurd (false≢true (sym not_new))
put_known r records requester ordered false known is there not_new = greatest-put r records requester ordered ∙ rw is refl

-- an edit that gives a requester no new clearance leaves the greatest number
greatest-known : (R : Register) → ListsAreInOrder R → (requester : List ℕ) (edit : Edit) → is_new_of R.records requester edit ≡ false
    → greatest_number (Register.records (after_edit edit R)) requester ≡ greatest_number R.records requester
greatest-known R ordered requester (PutRecord r) not_new =
    put_known r R.records requester ordered.records (same_name requester r.id.requester) (has_record R.records r.id) refl refl not_new
greatest-known R ordered requester _ not_new = refl

and_not : (b known after : Bool) → (known ≡ true → after ≡ true) → (b && not known) ≡ false → (b && not after) ≡ false
and_not true true after stays not_new = rw (stays refl) refl
and_not true false after stays not_new = absurd (false≢true (sym not_new))
and_not false known after stays not_new = refl

-- so what gives no new clearance now gives none after an edit
not_new-edited : (R : Register) (requester : List ℕ) (edit next : Edit) → is_new_of R.records requester next ≡ false
    → is_new_of (Register.records (after_edit edit R)) requester next ≡ false
not_new-edited R requester edit (PutRecord r) not_new = and_not (same_name requester r.id.requester) (has_record R.records r.id)
    (has_record (Register.records (after_edit edit R)) r.id) (edited-has_record edit R r.id) not_new
not_new-edited R requester edit _ not_new = refl

-- ---- lists of edits of others

others_own_holds : (R : Register) → ListsAreInOrder R → (c : Id) (edits : List Edit) → All (λ edit. is_about c edit ≡ false) edits
    → holds_of (Register.holds (after_edits edits R)) c ≡ holds_of R.holds c
unfolding after_edits
others_own_holds R ordered c [] others = refl
others_own_holds R ordered c (edit ∷ edits) others =
    others_own_holds (after_edit edit R) (edited-in_order edit R ordered) c edits (All-tail (λ edit. is_about c edit ≡ false) edit edits others)
    ∙ holds_of-other R ordered c edit (All-head (λ edit. is_about c edit ≡ false) edit edits others)

others_greatest : (R : Register) → ListsAreInOrder R → (requester : List ℕ) (edits : List Edit) → All (λ edit. is_new_of R.records requester edit ≡ false) edits
    → greatest_number (Register.records (after_edits edits R)) requester ≡ greatest_number R.records requester
unfolding after_edits
others_greatest R ordered requester [] not_new = refl
others_greatest R ordered requester (edit ∷ edits) not_new =
    others_greatest (after_edit edit R) (edited-in_order edit R ordered) requester edits
    (All-weaker (λ next. is_new_of R.records requester next ≡ false) (λ next. is_new_of (Register.records (after_edit edit R)) requester next ≡ false)
    (not_new-edited R requester edit) edits (All-tail (λ next. is_new_of R.records requester next ≡ false) edit edits not_new))
    ∙ greatest-known R ordered requester edit (All-head (λ next. is_new_of R.records requester next ≡ false) edit edits not_new)

pub no_marks : (R : Register) (c : Id) (inside : List ℕ → Bool) → ChangesByMarks R c inside []
unfolding after_edits
no_marks R c inside = refl

-- registers that agree still do after edits of others that leave the same marks in both
pub same_marks_agree : (R S : Register) → ListsAreInOrder R → ListsAreInOrder S → (c : Id) (inside : List ℕ → Bool) (left right : List Edit)
    → All (λ edit. is_about c edit ≡ false) left → All (λ edit. is_new_of R.records c.requester edit ≡ false) left
    → All (λ edit. is_about c edit ≡ false) right → All (λ edit. is_new_of S.records c.requester edit ≡ false) right
    → ChangesByMarks R c inside left → ChangesByMarks S c inside right
    → marks_of R.net inside left ≡ marks_of S.net inside right
    → Agree c inside R S → Agree c inside (after_edits left R) (after_edits right S)
same_marks_agree R S R_order S_order c inside left right left_others left_known right_others right_known left_marks right_marks marks agree = record {
  near = left_marks ∙ (λ i. after_edits (marks i) (agree.near i)) ∙ sym right_marks;
  own_holds = others_own_holds R R_order c left left_others ∙ agree.own_holds ∙ sym (others_own_holds S S_order c right right_others);
  greatest = others_greatest R R_order c.requester left left_known ∙ agree.greatest ∙ sym (others_greatest S S_order c.requester right right_known);
}

marks_none : (g : Grid) (inside : List ℕ → Bool) (edits : List Edit) → All (λ edit. is_mark g inside edit ≡ false) edits → marks_of g inside edits ≡ []
marks_none g inside edits none =
    filter-no_member (is_mark g inside) edits (λ edit there. All-contains (λ edit. is_mark g inside edit ≡ false) edits edit none there)

-- edits that leave a clearance alone keep agreement
pub left_alone_agrees : (R : Register) → ListsAreInOrder R → (c : Id) (inside : List ℕ → Bool) (edits : List Edit)
    → ChangesByMarks R c inside edits
    → All (LeavesAlone c inside R) edits → Agree c inside R (after_edits edits R)
unfolding after_edits
left_alone_agrees R ordered c inside edits by_marks alone = same_marks_agree R R ordered ordered c inside [] edits
    (All-nil (λ edit. is_about c edit ≡ false)) (All-nil (λ edit. is_new_of R.records c.requester edit ≡ false))
    (All-weaker (LeavesAlone c inside R) (λ edit. is_about c edit ≡ false) (λ edit is. is.of_others) edits alone)
    (All-weaker (LeavesAlone c inside R) (λ edit. is_new_of R.records c.requester edit ≡ false) (λ edit is. is.no_new_number) edits alone)
    (no_marks R c inside) by_marks
    (sym (marks_none R.net inside edits (All-weaker (LeavesAlone c inside R) (λ edit. is_mark R.net inside edit ≡ false) (λ edit is. is.no_mark) edits alone)))
    (agrees_with_itself c inside R)

pub one_left_alone_agrees : (R : Register) → ListsAreInOrder R → (c : Id) (inside : List ℕ → Bool) (edit : Edit)
    → ChangesByMarks R c inside (edit ∷ []) → LeavesAlone c inside R edit → Agree c inside R (after_edit edit R)
unfolding after_edits
one_left_alone_agrees R ordered c inside edit by_marks alone = left_alone_agrees R ordered c inside (edit ∷ []) by_marks
    (All-cons (LeavesAlone c inside R) edit [] alone (All-nil (LeavesAlone c inside R)))

-- ---- the same edits in both

same_own_holds : (R S : Register) → ListsAreInOrder R → ListsAreInOrder S → (c : Id) (edits : List Edit) → holds_of R.holds c ≡ holds_of S.holds c
    → holds_of (Register.holds (after_edits edits R)) c ≡ holds_of (Register.holds (after_edits edits S)) c
unfolding after_edits
same_own_holds R S R_order S_order c [] same = same
same_own_holds R S R_order S_order c (edit ∷ edits) same =
    same_own_holds (after_edit edit R) (after_edit edit S) (edited-in_order edit R R_order) (edited-in_order edit S S_order) c edits
    (holds_of-edited R R_order c edit ∙ ap (own_after c edit) same ∙ sym (holds_of-edited S S_order c edit))

same_greatest : (R S : Register) → ListsAreInOrder R → ListsAreInOrder S → (requester : List ℕ) (edits : List Edit)
    → greatest_number R.records requester ≡ greatest_number S.records requester
    → greatest_number (Register.records (after_edits edits R)) requester ≡ greatest_number (Register.records (after_edits edits S)) requester
unfolding after_edits
same_greatest R S R_order S_order requester [] same = same
same_greatest R S R_order S_order requester (edit ∷ edits) same =
    same_greatest (after_edit edit R) (after_edit edit S) (edited-in_order edit R R_order) (edited-in_order edit S S_order) requester edits
    (greatest-edited R R_order requester edit ∙ ap (greatest_after requester edit) same ∙ sym (greatest-edited S S_order requester edit))

-- registers that agree still do after the same edits, whatever these are about
pub same_edits_agree : (R S : Register) → ListsAreInOrder R → ListsAreInOrder S → (c : Id) (inside : List ℕ → Bool) (edits : List Edit) → adds_nothing edits ≡ true
    → Agree c inside R S → Agree c inside (after_edits edits R) (after_edits edits S)
same_edits_agree R S R_order S_order c inside edits plain agree =
    let same : concerning R.net c inside edits ≡ concerning S.net c inside edits =
    ap (λ (names : List (List ℕ)). filter (concerns c inside (has_name names)) edits) (same_touching R S c inside agree) in
    record {
      near = part_near-edited_all R R_order c inside edits plain ∙ (λ i. after_edits (same i) (agree.near i)) ∙ sym (part_near-edited_all S S_order c inside edits plain);
      own_holds = same_own_holds R S R_order S_order c edits agree.own_holds;
      greatest = same_greatest R S R_order S_order c.requester edits agree.greatest;
    }
