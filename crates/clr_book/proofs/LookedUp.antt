-- What is found by a key or by the last row of a group, and what a walk over all rows would find.
use Rattle.std.proofs.Common.{◌≡◌, ◌∙◌, ℕ, ◌≤◌, Bool, true, false, ◌&&◌, List, [], ◌∷◌, ◌++◌, Option, Some, None, map, filter, refl, sym, ap, subst, arith}
use Rattle.std.specs.Cmp.{IsTotalOrder}
use Rattle.std.specs.List.{find, fold, last_or, list_all}
use Rattle.std.specs.List.Sorted.{IsPermutation, IsStrictlySortedBy}
use Rattle.std.specs.Cmp.Lexicographic.{texts_ties}
use Rattle.std.specs.Ordering.{is_eq, is_lt, nat_cmp}
use Rattle.std.specs.declared.cmp.Ordering.{Ordering}
use Rattle.std.specs.declared.cmp.Ordering.TheVariants.{Less, Equal}
use Rattle.std.proofs.lemmas.Bool.Decides.{nat_tests}
use Rattle.std.proofs.lemmas.Cmp.{nat_list_cmp_total, nat_list_eq_equiv, tied_itself}
use Rattle.std.proofs.lemmas.Grind.{common_steps}
use Rattle.clr_net.proofs.Walks.{one_name}
use Rattle.clr_net.specs.Name.{name_cmp, same_name}
use Rattle.clr_net.specs.Names.{has_name}
use Rattle.clr_rules.specs.Id.{Id, id_cmp, id_cmp_total, same_id, same_id_ties_back}
use Rattle.clr_rules.specs.Holds.{is_own}
use Rattle.clr_rules.specs.Records.{greater_of, greatest_number, record_key, record_of}
use Rattle.clr_book.proofs.Grouped.{group_more, groups_done, rising-rest}
use Rattle.clr_rules.specs.declared.record.Record.{Record}
use Rattle.clr_shelf.proofs.KeyOrder.{in_key_order-filter, in_key_order-first, in_key_order-rest}
use Rattle.clr_shelf.proofs.Keys.{less}
use Rattle.clr_shelf.proofs.Lists.{list_all-filtered}
use Rattle.clr_shelf.proofs.Members.{none_below}
use Rattle.clr_shelf.proofs.Reading.{row_of-tied}
use Rattle.clr_shelf.specs.Rows.{in_key_order, row_of}
use Rattle.clr_rules.proofs.good.Opening.{in_key_order-from_sorted}

-- ---- the row of a key

-- a row, if there is one, as a list
abbrev pub listed : {X : Type 0} → Option X → List X
listed None = []
listed (Some x) = x ∷ []

module _ {Key Row : Type 0} (compare : Key → Key → Ordering) (key_of : Row → Key) (order : IsTotalOrder compare) where
  filter-key_step : (key : Key) (first : Row) (rest : List Row) (tied : Bool) → is_eq (compare (key_of first) key) ≡ tied
      → in_key_order compare key_of (first ∷ rest) ≡ true
      → filter (λ row. is_eq (compare (key_of row) key)) rest ≡ listed (row_of compare key_of key rest)
      → filter (λ row. is_eq (compare (key_of row) key)) (first ∷ rest) ≡ listed (row_of compare key_of key (first ∷ rest))
  unfolding row_of
  filter-key_step key first rest true ties ordered more =
      let none : row_of compare key_of key rest ≡ None =
      sym (row_of-tied compare key_of order (key_of first) key rest ties)
      ∙ none_below compare key_of order (key_of first) rest (in_key_order-first compare key_of order first rest ordered) in
      rw ties (ap (λ rows. first ∷ rows) (more ∙ ap listed none))
  filter-key_step key first rest false differs ordered more = rw differs more

  none_listed : (key : Key) → [] ≡ listed (row_of compare key_of key [])
  unfolding row_of
  none_listed key = refl

  -- the rows that have a key are the one that is read there
  pub filter-key : (key : Key) (rows : List Row) → in_key_order compare key_of rows ≡ true
      → filter (λ row. is_eq (compare (key_of row) key)) rows ≡ listed (row_of compare key_of key rows)
  filter-key key [] ordered = none_listed key
  filter-key key (first ∷ rest) ordered =
      filter-key_step key first rest (is_eq (compare (key_of first) key)) refl ordered (filter-key key rest (in_key_order-rest compare key_of order first rest ordered))

-- ---- the greatest number of a requester

below_from_less : (a b : ℕ) → nat_cmp a b ≡ Less → a ≤ b
below_from_less a b is = grind (arith, nat_tests)

greater_above : (a b : ℕ) → a ≤ b → greater_of a b ≡ b
greater_above a b le = grind (arith, nat_tests)

-- of two clearances of one requester, the first has the lower number
lower_number : (requester : List ℕ) (a b : Id) → same_name requester a.requester ≡ true → same_name requester b.requester ≡ true → id_cmp a b ≡ Less → a.number ≤ b.number
lower_number requester a b a_is b_is below =
    let one : a.requester ≡ b.requester = sym (one_name requester a.requester a_is) ∙ one_name requester b.requester b_is in
    let tied : name_cmp a.requester b.requester ≡ Equal = subst (λ (name : List ℕ). name_cmp a.requester name ≡ Equal) one (tied_itself nat_list_cmp_total a.requester) in
    below_from_less a.number b.number (rw tied at below)

-- the number of a record, 0 of none
abbrev pub number_of : Option Record → ℕ
number_of None = 0
number_of (Some r) = r.id.number

last_greatest : (requester : List ℕ) (a : ℕ) (r : Record) (rest : List Record) → a ≤ r.id.number
    → list_all (λ r. same_name requester r.id.requester) (r ∷ rest) ≡ true → in_key_order id_cmp record_key (r ∷ rest) ≡ true
    → fold greater_of a (map (λ r. r.id.number) (r ∷ rest)) ≡ number_of (last_or (Some r) rest)
last_greatest requester a r [] le all ordered = greater_above a r.id.number le
last_greatest requester a r (s ∷ rest) le all ordered =
    let r_is : same_name requester r.id.requester ≡ true = grind (arith, common_steps) in
    let others : list_all (λ r. same_name requester r.id.requester) (s ∷ rest) ≡ true = grind (arith, common_steps) in
    let s_is : same_name requester s.id.requester ≡ true = grind (arith, common_steps) in
    let above : list_all (λ next. is_lt (id_cmp r.id next.id)) (s ∷ rest) ≡ true = in_key_order-first id_cmp record_key id_cmp_total r (s ∷ rest) ordered in
    let below : is_lt (id_cmp r.id s.id) ≡ true = first_of_all (is_lt (id_cmp r.id s.id)) (list_all (λ next. is_lt (id_cmp r.id next.id)) rest) above in
    ap (λ n. fold greater_of n (map (λ r. r.id.number) (s ∷ rest))) (greater_above a r.id.number le)
    ∙ (last_greatest requester r.id.number s rest (lower_number requester r.id s.id r_is s_is (less (id_cmp r.id s.id) below)) others
    (in_key_order-rest id_cmp record_key id_cmp_total r (s ∷ rest) ordered))
  where
    first_of_all : (a b : Bool) → (a && b) ≡ true → a ≡ true
    first_of_all true b h = refl
    first_of_all false b h = h

last_of_requester : (requester : List ℕ) (rows : List Record)
    → list_all (λ r. same_name requester r.id.requester) rows ≡ true → in_key_order id_cmp record_key rows ≡ true
    → number_of (last_or None rows) ≡ fold greater_of 0 (map (λ r. r.id.number) rows)
last_of_requester requester [] all ordered = refl
last_of_requester requester (r ∷ rest) all ordered = sym (last_greatest requester 0 r rest (omega arith) all ordered)

-- the last record of a requester has the greatest number
pub last_number : (requester : List ℕ) (records : List Record) → in_key_order id_cmp record_key records ≡ true
    → number_of (last_or None (filter (λ r. same_name requester r.id.requester) records))
    ≡ fold greater_of 0 (map (λ r. r.id.number) (filter (λ r. same_name requester r.id.requester) records))
last_number requester records ordered =
    let p = λ (r : Record). same_name requester r.id.requester in
    last_of_requester requester (filter p records) (list_all-filtered p p (λ _ h. h) records) (in_key_order-filter id_cmp record_key id_cmp_total p records ordered)

-- ---- a clearance's record, and the row of a name

-- the records of a clearance are the one that is found
pub own_record : (c : Id) (records : List Record) → in_key_order id_cmp record_key records ≡ true
    → filter (λ r. same_id c r.id) records ≡ listed (record_of records c)
own_record c records ordered =
    ap (λ p. filter p records) (λ i (r : Record). same_id_ties_back c r.id i) ∙ filter-key id_cmp record_key id_cmp_total c records ordered

module _ {Row : Type 0} (name_of : Row → List ℕ) where
  -- the rows of a name are the one that is found
  named_row : (name : List ℕ) (rows : List Row) → IsStrictlySortedBy name_cmp (map name_of rows)
      → filter (λ row. same_name (name_of row) name) rows ≡ listed (find (λ row. same_name name (name_of row)) rows)
  unfolding row_of
  named_row name rows rise =
      ap (λ p. filter p rows) (λ i (row : Row). texts_ties (name_of row) name i)
      ∙ filter-key name_cmp name_of nat_list_cmp_total name rows (in_key_order-from_sorted name_cmp name_of rows rise)
      ∙ ap (λ p. listed (find p rows)) (λ i (row : Row). (sym (texts_ties (name_of row) name) ∙ nat_list_eq_equiv.symm (name_of row) name) i)

  -- one name more: its row comes after those that were found
  pub name_more : (name : List ℕ) (above : List (List ℕ)) (rows all found : List Row) (row : Option Row) → IsStrictlySortedBy name_cmp (map name_of rows)
      → IsStrictlySortedBy name_cmp (name ∷ above) → row ≡ find (λ row. same_name name (name_of row)) rows
      → IsPermutation all (found ++ filter (λ row. has_name (name ∷ above) (name_of row)) rows)
      → IsPermutation all ((found ++ listed row) ++ filter (λ row. has_name above (name_of row)) rows)
  name_more name above rows all found row rows_rise rise is so_far =
      subst (λ (here : List Row). IsPermutation all ((found ++ here) ++ filter (λ row. has_name above (name_of row)) rows))
      (named_row name rows rows_rise ∙ ap listed (sym is))
      (group_more name_cmp nat_list_cmp_total (λ name row. same_name (name_of row) name) name_of (λ name row. texts_ties (name_of row) name) name above rows all found rise so_far)

  pub names_rest : (name : List ℕ) (above : List (List ℕ)) → IsStrictlySortedBy name_cmp (name ∷ above) → IsStrictlySortedBy name_cmp above
  names_rest = rising-rest name_cmp nat_list_cmp_total (λ name row. same_name (name_of row) name) name_of (λ name row. texts_ties (name_of row) name)

  pub names_done : (rows all found : List Row) → IsPermutation all (found ++ filter (λ row. has_name [] (name_of row)) rows) → IsPermutation all found
  names_done = groups_done name_cmp nat_list_cmp_total (λ name row. same_name (name_of row) name) name_of (λ name row. texts_ties (name_of row) name)

-- the number of the last record of a requester is its greatest
pub greatest_last : (requester : List ℕ) (records : List Record) (last : Option Record) → in_key_order id_cmp record_key records ≡ true
    → last ≡ last_or None (filter (λ r. same_name requester r.id.requester) records) → number_of last ≡ greatest_number records requester
unfolding greatest_number
greatest_last requester records last ordered is = ap number_of is ∙ last_number requester records ordered

-- the record that is found, as a list, is the records of the clearance that is meant
pub own_lent : (c : Id) (records : List Record) (found : Option Record) → in_key_order id_cmp record_key records ≡ true → found ≡ record_of records c
    → listed found ≡ filter (λ r. is_own (Some c) r.id) records
own_lent c records found ordered is = ap listed is ∙ sym (own_record c records ordered)
