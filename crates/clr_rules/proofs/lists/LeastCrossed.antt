-- The clearance that a jumper's refusal names is the least of those whose fence it would cross.
use Rattle.std.proofs.Common.{◌≡◌, ◌∙◌, ℕ, Bool, true, false, List, [], ◌∷◌, Option, Some, None, Contains, refl, sym, ap, subst, ⊎_elim, find, option_map, is_lt}
use Rattle.clr_rules.proofs.Common.{both_ways, false≢true, tied_itself, same_Some, in_key_order-first, in_key_order-rest, Contains-cases, Contains-here, Contains-later, list_all-contains}
use Rattle.clr_rules.proofs.Common.{member-row_of, row_of-member, in_key_order, ListsAreInOrder, Record, Id, id_cmp, id_cmp_total, Register, record_key, record_of, record_id}
use Rattle.clr_order.proofs.Finds.{found_passes}
use Rattle.clr_shelf.proofs.Keys.{below_not_above}
use Rattle.clr_rules.specs.laws.Additions.{IsLeastCrossed, LeastCrossedIsNamed}
use Rattle.clr_rules.specs.Fences.{crossed_record, crosses, found_fence, record_fence}
use Rattle.clr_rules.proofs.keeps.Jumper.{crosses_no_fence}

-- ---- what a search finds in key order

module _ (p : Record → Bool) where
  found_there : (records : List Record) (r : Record) → find p records ≡ Some r → Contains records r
  found_there [] r found = absurd cc
  found_there (first ∷ rest) r found = at (p first) refl found (found_there rest r)
    where
      at : (b : Bool) → p first ≡ b → find p (first ∷ rest) ≡ Some r → (find p rest ≡ Some r → Contains rest r) → Contains (first ∷ rest) r
      at true passes found later = subst (λ (x : Record). Contains (first ∷ rest) x) (same_Some first r (rw passes at found)) (Contains-here first rest)
      at false fails found later = Contains-later first r rest (later (rw fails at found))

  -- no row that passes comes before the one that is found
  none_before : (records : List Record) (r s : Record) → in_key_order id_cmp record_key records ≡ true → find p records ≡ Some r → Contains records s → p s ≡ true
      → is_lt (id_cmp s.id r.id) ≡ false
  none_before [] r s ordered found there passes = absurd cc
  none_before (first ∷ rest) r s ordered found there passes =
      at (p first) refl found (none_before rest r s (in_key_order-rest id_cmp record_key id_cmp_total first rest ordered))
    where
      above : Contains rest s → is_lt (id_cmp s.id first.id) ≡ false
      above later = below_not_above id_cmp id_cmp_total first.id s.id (list_all-contains (λ (next : Record). is_lt (id_cmp first.id next.id)) rest s
          (in_key_order-first id_cmp record_key id_cmp_total first rest ordered) later)

      at_first : is_lt (id_cmp s.id first.id) ≡ false
      at_first = ⊎_elim (λ same. subst (λ (x : Record). is_lt (id_cmp x.id first.id) ≡ false) same (ap is_lt (tied_itself id_cmp_total first.id)))
          above (Contains-cases first s rest there)

      at : (b : Bool) → p first ≡ b → find p (first ∷ rest) ≡ Some r → (find p rest ≡ Some r → Contains rest s → p s ≡ true → is_lt (id_cmp s.id r.id) ≡ false)
          → is_lt (id_cmp s.id r.id) ≡ false
      at true first_passes found more = subst (λ (x : Record). is_lt (id_cmp s.id x.id) ≡ false) (same_Some first r (rw first_passes at found)) at_first
      at false fails found more = ⊎_elim (λ same. absurd (both_ways (p first) fails (ap p same ∙ passes))) (λ later. more (rw fails at found) later passes)
          (Contains-cases first s rest there)

-- ---- the least

module _ (R : Register) (ordered : ListsAreInOrder R) (from to : List ℕ) where
  abbrev crossed : Record → Bool
  crossed r = crosses (record_fence R.net R.steps r) from to

  least_from : (found : Option Record) → crossed_record R.net R.steps R.records from to ≡ found → (c : Id) → option_map (λ (r : Record). r.id) found ≡ Some c
      → IsLeastCrossed R from to c
  unfolding crossed_record
  least_from None is c named = absurd cc
  least_from (Some r) is c named =
      let own : r.id ≡ c = same_Some r.id c named in
      let read : record_of R.records c ≡ Some r =
      ap (record_of R.records) (sym own) ∙ row_of-member id_cmp record_key id_cmp_total r R.records ordered.records (found_there crossed R.records r is) in record {
        crossed = ap (λ (o : Option Record). crosses (found_fence R.net R.steps o) from to) read ∙ found_passes crossed R.records r is;
        least = λ d crosses_d. subst (λ (e : Id). is_lt (id_cmp d e) ≡ false) own (not_less r is d (record_of R.records d) refl crosses_d);
      }
    where
      not_less : (r : Record) → find crossed R.records ≡ Some r → (d : Id) (o : Option Record) → record_of R.records d ≡ o
          → crosses (found_fence R.net R.steps o) from to ≡ true → is_lt (id_cmp d r.id) ≡ false
      not_less r is d None read crosses_d = absurd (false≢true crosses_d)
      not_less r is d (Some s) read crosses_d = subst (λ (e : Id). is_lt (id_cmp e r.id) ≡ false) (record_id R.records d s read)
          (none_before crossed R.records r s ordered.records is (member-row_of id_cmp record_key id_cmp_total d s R.records read).0 crosses_d)

pub least_crossed_is_named : LeastCrossedIsNamed
least_crossed_is_named = record {
  named = λ R ordered from to c is. least_from R ordered from to (crossed_record R.net R.steps R.records from to) refl c is;
  none = crosses_no_fence;
}
