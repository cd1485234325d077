-- What it says that numbers follow one another.
use Rattle.std.proofs.Common.{◌≡◌, ◌⊎◌, inl, inr, ℕ, ◌+◌, Bool, true, false, nat_eq, List, [], ◌∷◌, length, map, Option, Some, None, refl, sym, ◌∙◌, ap, subst, is_eq, is_lt, nat_cmp, Ordering, Less}
use Rattle.std.proofs.Common.{Equal, Greater, eqb-true, eq-eqb}
use Rattle.clr_rules.proofs.Common.{texts_ties, ordering_then, and_from, and_parts, false≢true, nat_list_cmp_total, name_cmp, same_name, one_name, same_itself, in_key_order-first, in_key_order-rest}
use Rattle.clr_rules.proofs.Common.{list_all-contains, in_key_order, Id, id_cmp, id_cmp_total, record_key, numbers_of}
use Rattle.std.specs.List.{list_all, range_with_len}
use Rattle.clr_shelf.proofs.Keys.{below_chain, less}
use Rattle.clr_rules.proofs.lists.Filters.{filter-no_member}
use Rattle.clr_good.specs.Clearances.{number_after, numbers_fit}
use Rattle.clr_rules.specs.declared.record.Record.{Record}

-- ---- the order of clearances

-- a clearance above another of another requester has the greater name
greater_name : (a b : Id) → is_lt (id_cmp a b) ≡ true → same_name a.requester b.requester ≡ false → name_cmp a.requester b.requester ≡ Less
greater_name a b below apart = at (name_cmp a.requester b.requester) refl
  where
    at : (o : Ordering) → name_cmp a.requester b.requester ≡ o → name_cmp a.requester b.requester ≡ Less
    at Less is = is
    at Equal is = absurd (false≢true (sym apart ∙ texts_ties a.requester b.requester ∙ ap is_eq is))
    at Greater is = absurd (false≢true (ap (λ (o : Ordering). is_lt (ordering_then o (nat_cmp a.number b.number))) (sym is) ∙ below))

-- and so has whoever is above that one
still_greater : (n : List ℕ) (a b : Id) → name_cmp n a.requester ≡ Less → is_lt (id_cmp a b) ≡ true → same_name n b.requester ≡ false
still_greater n a b first below = at (same_name a.requester b.requester) refl
  where
    apart : name_cmp n b.requester ≡ Less → same_name n b.requester ≡ false
    apart is = texts_ties n b.requester ∙ ap is_eq is

    at : (same : Bool) → same_name a.requester b.requester ≡ same → same_name n b.requester ≡ false
    at true is = apart (subst (λ (m : List ℕ). name_cmp n m ≡ Less) (one_name a.requester b.requester is) first)
    at false is = apart (less (name_cmp n b.requester)
        (below_chain name_cmp nat_list_cmp_total n a.requester b.requester (ap is_lt first) (ap is_lt (greater_name a b below is))))

-- the records are above the clearance before them
abbrev StandsBefore : Option Id → List Record → Type 0
StandsBefore None records = Unit {0}
StandsBefore (Some c) records = list_all (λ next. is_lt (id_cmp c next.id)) records ≡ true

-- of another requester than the first either all numbers are to come, or none
none_or_all : (before : Option Id) (r : Record) (rest : List Record) (q : List ℕ) → StandsBefore before (r ∷ rest)
    → list_all (λ next. is_lt (id_cmp r.id next.id)) rest ≡ true → same_name q r.id.requester ≡ false
    → (number_after before q ≡ 1) ⊎ (numbers_of rest q ≡ [])
none_or_all None r rest q above later apart = inl refl
none_or_all (Some c) r rest q above later apart = at (same_name q c.requester) refl
  where
    at : (same : Bool) → same_name q c.requester ≡ same → (number_after (Some c) q ≡ 1) ⊎ (numbers_of rest q ≡ [])
    at false is = inl (rw is refl)
    at true is =
        let name : q ≡ c.requester = one_name q c.requester is in
        let first = (and_parts (is_lt (id_cmp c r.id)) (list_all (λ next. is_lt (id_cmp c next.id)) rest) above).0 in
        let below : name_cmp q r.id.requester ≡ Less =
        subst (λ (n : List ℕ). name_cmp n r.id.requester ≡ Less) (sym name)
        (greater_name c r.id first (subst (λ (n : List ℕ). same_name n r.id.requester ≡ false) name apart)) in
        inr (ap (map (λ (r : Record). r.id.number)) (filter-no_member (λ (r : Record). same_name q r.id.requester) rest (λ next there.
        still_greater q r.id next.id below (list_all-contains (λ next. is_lt (id_cmp r.id next.id)) rest next later there))))

-- ---- numbers

-- from a number on there is no gap
abbrev RunsFrom : ℕ → List ℕ → Type 0
RunsFrom start numbers = numbers ≡ range_with_len start (length numbers)

runs_any : (start : ℕ) (numbers : List ℕ) → numbers ≡ [] → RunsFrom start numbers
runs_any start numbers none = rw none refl

runs_on : (start n : ℕ) (numbers : List ℕ) → n ≡ start → RunsFrom (n + 1) numbers → RunsFrom start (n ∷ numbers)
runs_on start n numbers first rest i = first i ∷ (rest ∙ ap (λ (k : ℕ). range_with_len (k + 1) (length numbers)) first) i

first_of : List ℕ → ℕ
first_of [] = 0
first_of (x ∷ xs) = x

rest_of : List ℕ → List ℕ
rest_of [] = []
rest_of (x ∷ xs) = xs

runs_back : (start n : ℕ) (numbers : List ℕ) → RunsFrom start (n ∷ numbers) → (n ≡ start) × RunsFrom (n + 1) numbers
unfolding first_of rest_of
runs_back start n numbers runs =
    let first : n ≡ start = ap first_of runs in
    let rest : numbers ≡ range_with_len (start + 1) (length numbers) = ap rest_of runs in
    (first, rest ∙ ap (λ (k : ℕ). range_with_len (k + 1) (length numbers)) (sym first))

numbers_here : (r : Record) (rest : List Record) (q : List ℕ) → same_name q r.id.requester ≡ true → numbers_of (r ∷ rest) q ≡ r.id.number ∷ numbers_of rest q
numbers_here r rest q is = rw is refl

numbers_there : (r : Record) (rest : List Record) (q : List ℕ) → same_name q r.id.requester ≡ false → numbers_of (r ∷ rest) q ≡ numbers_of rest q
numbers_there r rest q is = rw is refl

after_own : (c : Id) (q : List ℕ) → same_name q c.requester ≡ true → number_after (Some c) q ≡ c.number + 1
after_own c q is = rw is refl

after_other : (c : Id) (q : List ℕ) → same_name q c.requester ≡ false → number_after (Some c) q ≡ 1
after_other c q is = rw is refl

-- of each requester the numbers run on
abbrev AllRun : Option Id → List Record → Type 0
AllRun before records = (q : List ℕ) → RunsFrom (number_after before q) (numbers_of records q)

pub numbers_say : (before : Option Id) (records : List Record) → StandsBefore before records → in_key_order id_cmp record_key records ≡ true
    → numbers_fit before records ≡ true → AllRun before records
numbers_say before [] above ordered fits q = refl
numbers_say before (r ∷ rest) above ordered fits q =
    at (same_name q r.id.requester) refl (numbers_say (Some r.id) rest later (in_key_order-rest id_cmp record_key id_cmp_total r rest ordered) parts.1)
  where
    parts : (nat_eq r.id.number (number_after before r.id.requester) ≡ true) × (numbers_fit (Some r.id) rest ≡ true)
    parts = and_parts (nat_eq r.id.number (number_after before r.id.requester)) (numbers_fit (Some r.id) rest) fits

    later : list_all (λ next. is_lt (id_cmp r.id next.id)) rest ≡ true
    later = in_key_order-first id_cmp record_key id_cmp_total r rest ordered

    number : r.id.number ≡ number_after before r.id.requester
    number = eqb-true r.id.number (number_after before r.id.requester) parts.0

    which : RunsFrom 1 (numbers_of rest q) → (number_after before q ≡ 1) ⊎ (numbers_of rest q ≡ []) → RunsFrom (number_after before q) (numbers_of rest q)
    which from_one (inl one) = rw one from_one
    which from_one (inr none) = runs_any (number_after before q) (numbers_of rest q) none

    at : (same : Bool) → same_name q r.id.requester ≡ same → AllRun (Some r.id) rest → RunsFrom (number_after before q) (numbers_of (r ∷ rest) q)
    at true is more =
        let name = one_name q r.id.requester is in
        rw (numbers_here r rest q is) (runs_on (number_after before q) r.id.number (numbers_of rest q) (number ∙ ap (number_after before) (sym name))
        (subst (λ (k : ℕ). RunsFrom k (numbers_of rest q)) (after_own r.id q is) (more q)))
    at false is more =
        let from_one : RunsFrom 1 (numbers_of rest q) = subst (λ (k : ℕ). RunsFrom k (numbers_of rest q)) (after_other r.id q is) (more q) in
        rw (numbers_there r rest q is) (which from_one (none_or_all before r rest q above later is))

pub numbers_said : (before : Option Id) (records : List Record) → StandsBefore before records → in_key_order id_cmp record_key records ≡ true
    → AllRun before records → numbers_fit before records ≡ true
numbers_said before [] above ordered run = refl
numbers_said before (r ∷ rest) above ordered run =
    and_from (nat_eq r.id.number (number_after before r.id.requester)) (numbers_fit (Some r.id) rest)
    (eq-eqb r.id.number (number_after before r.id.requester) here.0)
    (numbers_said (Some r.id) rest later (in_key_order-rest id_cmp record_key id_cmp_total r rest ordered) (λ q. at q (same_name q r.id.requester) refl))
  where
    here : (r.id.number ≡ number_after before r.id.requester) × RunsFrom (r.id.number + 1) (numbers_of rest r.id.requester)
    here = runs_back (number_after before r.id.requester) r.id.number (numbers_of rest r.id.requester)
        (subst (λ (numbers : List ℕ). RunsFrom (number_after before r.id.requester) numbers) (numbers_here r rest r.id.requester (same_itself r.id.requester)) (run r.id.requester))

    later : list_all (λ next. is_lt (id_cmp r.id next.id)) rest ≡ true
    later = in_key_order-first id_cmp record_key id_cmp_total r rest ordered

    which : (q : List ℕ) → RunsFrom (number_after before q) (numbers_of rest q) → (number_after before q ≡ 1) ⊎ (numbers_of rest q ≡ []) → RunsFrom 1 (numbers_of rest q)
    which q on (inl one) = subst (λ (k : ℕ). RunsFrom k (numbers_of rest q)) one on
    which q on (inr none) = runs_any 1 (numbers_of rest q) none

    at : (q : List ℕ) (same : Bool) → same_name q r.id.requester ≡ same → RunsFrom (number_after (Some r.id) q) (numbers_of rest q)
    at q true is =
        let name = one_name q r.id.requester is in
        rw (after_own r.id q is) (subst (λ (n : List ℕ). RunsFrom (r.id.number + 1) (numbers_of rest n)) (sym name) here.1)
    at q false is =
        let on : RunsFrom (number_after before q) (numbers_of rest q) =
        subst (λ (numbers : List ℕ). RunsFrom (number_after before q) numbers) (numbers_there r rest q is) (run q) in
        rw (after_other r.id q is) (which q on (none_or_all before r rest q above later is))
