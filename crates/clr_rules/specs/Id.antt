-- The names of clearances. A clause sees a ClearanceId as an Id.
use Rattle.std.specs.Prelude.{◌≡◌, ℕ, Bool, ◌&&◌, ◌==◌, nat_le, if◌then◌else◌, List, ◌∷◌, ◌++◌}
use Rattle.std.specs.Prelude.{Option, Some, None, refl, decimal}
use Rattle.std.specs.Cmp.{IsTotalOrder, IsEquivalence, unsigned_ties}
use Rattle.std.specs.Cmp.Lexicographic.{texts_ties}
use Rattle.std.specs.Ordering.{nat_cmp, ordering_then, is_eq}
use Rattle.std.specs.declared.cmp.Ordering.{Ordering}
use Rattle.std.specs.declared.cmp.Ordering.TheVariants.{Less, Equal, Greater}
use Rattle.std.proofs.Common.{◌∙◌}
use Rattle.std.proofs.lemmas.Cmp.{and_equiv, on_equiv, then_total, on_total, nat_list_cmp_total}
use Rattle.std.proofs.lemmas.Cmp.{nat_list_eq_equiv, nat_cmp_total, nat_eq_equiv}
use Rattle.clr_net.specs.Name.{is_name, same_name, name_cmp}
use Rattle.clr_shelf.specs.Ties.{first_ties, second_ties, same_number, same_text}

-- who asked for the clearance, and which of the asker's clearances it is
pub record Id : Type 0 where
  pub requester : List ℕ
  pub number : ℕ

-- numbers go from 1 to 9,999
abbrev pub is_clearance_number : ℕ → Bool
is_clearance_number number = nat_le 1 number && nat_le number 9999

-- what names a clearance: a requester with a name, and a number in range
abbrev pub is_id : Id → Bool
is_id id = is_name id.requester && is_clearance_number id.number

-- the requester's clearance of this number, if the number is in range
abbrev pub new_id : List ℕ → ℕ → Option Id
new_id requester number =
    if is_clearance_number number then Some (record { requester = requester; number = number })
    else None

-- two clearances are the same
abbrev pub same_id : Id → Id → Bool
same_id a b = same_name a.requester b.requester && (a.number == b.number)

-- the order of clearances: by requester, then by number
abbrev pub id_cmp : Id → Id → Ordering
id_cmp a b = ordering_then (name_cmp a.requester b.requester) (nat_cmp a.number b.number)

-- how a clearance is written: the requester, a slash, the number
abbrev pub id_text : Id → List ℕ
id_text id = id.requester ++ 47 ∷ decimal id.number

pub same_id_equiv : IsEquivalence same_id
same_id_equiv =
    and_equiv (on_equiv (λ (id : Id). id.requester) nat_list_eq_equiv)
    (on_equiv (λ (id : Id). id.number) nat_eq_equiv)

pub id_cmp_total : IsTotalOrder id_cmp
id_cmp_total =
    then_total (on_total (λ (id : Id). id.requester) nat_list_cmp_total)
    (on_total (λ (id : Id). id.number) nat_cmp_total)

is_eq-then : (o p : Ordering) → (is_eq o && is_eq p) ≡ is_eq (ordering_then o p)
is_eq-then Less p = refl
is_eq-then Equal p = refl
is_eq-then Greater p = refl

-- two clearances are the same exactly where neither comes before the other
pub same_id_ties : (a b : Id) → same_id a b ≡ is_eq (id_cmp a b)
same_id_ties a b =
    let both : same_id a b
    ≡ (is_eq (name_cmp a.requester b.requester) && is_eq (nat_cmp a.number b.number)) =
    λ i. texts_ties a.requester b.requester i && unsigned_ties a.number b.number i in
    both ∙ is_eq-then (name_cmp a.requester b.requester) (nat_cmp a.number b.number)

-- clearances that tie are one
pub same_id_from_tie : (a b : Id) → id_cmp a b ≡ Equal → a ≡ b
same_id_from_tie a b ties i = record {
  requester =
      same_text a.requester b.requester
      (first_ties (name_cmp a.requester b.requester) (nat_cmp a.number b.number) ties) i;
  number = same_number a.number b.number
      (second_ties (name_cmp a.requester b.requester) (nat_cmp a.number b.number) ties) i;
}

-- names and clearances are the same where they tie, from either side
pub same_name_ties_back : (a b : List ℕ) → same_name a b ≡ is_eq (name_cmp b a)
same_name_ties_back a b = nat_list_eq_equiv.symm a b ∙ texts_ties b a

pub same_id_ties_back : (a b : Id) → same_id a b ≡ is_eq (id_cmp b a)
same_id_ties_back a b = same_id_equiv.symm a b ∙ same_id_ties b a
