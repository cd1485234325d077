-- A jumper keeps a good register good, and leaves the fence of each clearance as it is.
use Rattle.std.proofs.Common.{◌≡◌, ◌∙◌, ℕ, Bool, true, false, cond, ◌&&◌, not, List, [], ◌∷◌, Option, Some, None, All, refl, sym, ap, IsTrue}
use Rattle.clr_rules.proofs.Common.{and_parts, All-contains, Grid, section_names, unplaced, has_name, PointRow, SectionRow, member-row_of, Answer, answer_by_checks, known_of, checks, edits_of}
use Rattle.clr_rules.proofs.Common.{is_jumper, refusal_of, fit, IsGood, IsGoodByPhase, AddSection, AddPoint, Command, Kind, Record, Refusal, Id, id_cmp, id_cmp_total, Register, record_key, record_of}
use Rattle.clr_rules.proofs.Common.{after_edit, after_edits, after, Jumper}
use Rattle.clr_net.specs.Additions.{fits_point, fits_section, with_point, with_section}
use Rattle.clr_order.proofs.Finds.{all_fail, option_map-none}
use Rattle.clr_rules.specs.Changes.{new_jumper, new_section}
use Rattle.clr_rules.specs.Checks.{crosses_fence}
use Rattle.clr_rules.specs.Fences.{CrossesNoFence, clearance_fence, crossed_by, crossed_record, crosses, found_fence, record_fence}
use Rattle.clr_rules.proofs.edits.AddedEdits.{added_edits_fit, jumper_can}
use Rattle.clr_rules.proofs.edits.Passing.{Pass, all_pass}
use Rattle.clr_rules.proofs.good.GoodToPhases.{to_phases}
use Rattle.clr_rules.proofs.good.GrownPlaces.{points_keep_fences, same_found_fence, sections_keep_fences}
use Rattle.clr_rules.proofs.good.GrownRegisters.{good_with_point, good_with_section}
use Rattle.clr_rules.proofs.good.Keeping.{KeepsGood, asked, commands_keep}

-- ---- the fences that it does not cross

not_crossed : (by : Option Id) → crosses_fence by ≡ None → by ≡ None
not_crossed None passed = refl
not_crossed (Some by) passed = cc passed

both_or_neither : (fence : List (List ℕ)) (from to : List ℕ) → crosses fence from to ≡ false → has_name fence from ≡ has_name fence to
both_or_neither fence from to = at (has_name fence from) (has_name fence to)
  where
    at : (a b : Bool) → cond a (not b) b ≡ false → a ≡ b
    at true true h = refl
    at true false h = h
    at false true h = sym h
    at false false h = refl

-- where no record's fence is crossed, no clearance's is
pub crosses_no_fence : (R : Register) (from to : List ℕ) → crossed_by R from to ≡ None → CrossesNoFence R from to
unfolding crossed_record
crosses_no_fence R from to none c = at (record_of R.records c) refl
  where
    each : All (λ (r : Record). crosses (record_fence R.net R.steps r) from to ≡ false) R.records
    each = all_fail (λ (r : Record). crosses (record_fence R.net R.steps r) from to) R.records
        (option_map-none (λ (r : Record). r.id) (crossed_record R.net R.steps R.records from to) none)

    at : (o : Option Record) → record_of R.records c ≡ o → has_name (found_fence R.net R.steps o) from ≡ has_name (found_fence R.net R.steps o) to
    at None read = refl
    at (Some r) read = both_or_neither (record_fence R.net R.steps r) from to
        (All-contains (λ (r : Record). crosses (record_fence R.net R.steps r) from to ≡ false) R.records r each
        (member-row_of id_cmp record_key id_cmp_total c r R.records read).0)

-- ---- what it adds

-- a good register that has grown, in which each clearance's fence is what it was
record GrewWell (R S : Register) : Type 0 where
  pub good : IsGoodByPhase S
  pub fences : (c : Id) → clearance_fence S c ≡ clearance_fence R c

section_grown : (R : Register) → IsGoodByPhase R → (row : SectionRow) → IsTrue (fits_section R.net row) → GrewWell R (after_edit (AddSection row) R)
section_grown R good row fits = record {
  good = good_with_section R good row fits;
  fences = same_found_fence R good (with_section row R.net) (sections_keep_fences R good row fits);
}

point_grown : (R : Register) → IsGoodByPhase R → (p : PointRow) → IsTrue (fits_point R.net p) → CrossesNoFence R p.from_end p.to_end → GrewWell R (after_edit (AddPoint p) R)
point_grown R good p fits crosses_none = record {
  good = good_with_point R good p fits crosses_none;
  fences = same_found_fence R good (with_point (unplaced p) R.net) (points_keep_fences R good (unplaced p) fits crosses_none);
}

-- a section, if the point leads to a new one, and then the point
both_grown : (R : Register) → IsGoodByPhase R → (p : PointRow) → CrossesNoFence R p.from_end p.to_end → (b : Bool)
    → fit R.net (cond b (AddPoint p ∷ []) (AddSection (new_section p.to_end) ∷ AddPoint p ∷ [])) ≡ true
    → GrewWell R (after_edits (cond b (AddPoint p ∷ []) (AddSection (new_section p.to_end) ∷ AddPoint p ∷ [])) R)
unfolding fit after_edits
both_grown R good p crosses_none true fits = point_grown R good p (and_parts (fits_point R.net p) true fits).0 crosses_none
both_grown R good p crosses_none false fits =
    let row = new_section p.to_end in
    let (section_fits, rest) = and_parts (fits_section R.net row) (fits_point (with_section row R.net) p && true) fits in
    let first = section_grown R good row section_fits in
    let second = point_grown (after_edit (AddSection row) R) first.good p (and_parts (fits_point (with_section row R.net) p) true rest).0
    (λ c. ap (λ fence. has_name fence p.from_end) (first.fences c) ∙ crosses_none c ∙ sym (ap (λ fence. has_name fence p.to_end) (first.fences c))) in
    record { good = second.good; fences = λ c. second.fences c ∙ first.fences c }

module _ (point from to : List ℕ) (lockable remote : Bool) where
  abbrev jumper : Kind
  jumper = Jumper point from to lockable remote

  jumper_grown : (R : Register) (by : List ℕ) (at : ℕ) → IsGoodByPhase R → Pass (checks (known_of R (asked by at jumper)) R by at jumper)
      → GrewWell R (after_edits (edits_of (known_of R (asked by at jumper)).greatest R by at jumper) R)
  jumper_grown R by at good passed =
      let p = new_jumper point from to lockable remote in
      both_grown R good p (crosses_no_fence R from to (not_crossed (crossed_by R from to) (search passed))) (has_name (section_names (Grid.sections R.net)) to)
      (added_edits_fit R good.network p (jumper_can (known_of R (asked by at jumper)) R by at point from to lockable remote passed))

  pub jumpers_keep : KeepsGood jumper
  jumpers_keep = commands_keep jumper (λ R by at good passed. (jumper_grown R by at good passed).good)

  fences_stay : (R : Register) (by : List ℕ) (at : ℕ) → IsGood R → (c : Id) → (found : Option Refusal) → refusal_of R (asked by at jumper) ≡ found
      → clearance_fence (after_edits (Answer.edits (answer_by_checks (known_of R (asked by at jumper)) R (asked by at jumper) found)) R) c ≡ clearance_fence R c
  unfolding after_edits
  fences_stay R by at good c None passed =
      (jumper_grown R by at (to_phases R good) (all_pass (checks (known_of R (asked by at jumper)) R by at jumper) passed)).fences c
  fences_stay R by at good c (Some refusal) is = refl

-- A JUMPER CHANGES NO FENCE of a clearance
pub jumpers_keep_fences : (R : Register) (q : Command) (c : Id) → IsGood R → is_jumper q.kind ≡ true → clearance_fence (after R q) c ≡ clearance_fence R c
jumpers_keep_fences R q c good = by_kind q.kind
  where
    by_kind : (kind : Kind) → is_jumper kind ≡ true → clearance_fence (after R (asked q.caller q.moment kind)) c ≡ clearance_fence R c
    by_kind (Jumper point from to lockable remote) is =
        fences_stay point from to lockable remote R q.caller q.moment good c (refusal_of R (asked q.caller q.moment (Jumper point from to lockable remote))) refl
    by_kind _ is = cc is
