-- The hold that keeps a clearance from closing a point is the least of those that do.
use Rattle.std.proofs.Common.{◌≡◌, ◌⊎◌, inl, inr, ⊎_elim, Bool, true, false, List, [], ◌∷◌, Some, None, All, Contains, refl, ap, subst, arith, if◌then◌else◌, filter, fold, Ordering}
use Rattle.std.specs.Cmp.{IsStrictWeakOrder, IsTotalOrder}
use Rattle.clr_rules.proofs.Common.{ordering_then, both_ways, false_from_ne_true, same_Some, Contains-here, Contains-later, Hold, id_cmp, id_cmp_total, kept_there, Contains-filter}
use Rattle.std.proofs.lemmas.Cmp.{on_total, then_total}
use Rattle.std.proofs.lemmas.List.Elements.{All-contains, All-cons, All-nil}
use Rattle.std.proofs.lemmas.List.MinMax.{ranks_by}
use Rattle.clr_rules.specs.HoldKind.{kind_cmp, kind_cmp_total}
use Rattle.clr_rules.specs.laws.Holds.{LeastHoldIsNamed, NoneIsNamedWhereNoneHinders}
use Rattle.clr_rules.specs.Holds.{earlier_hold, first_hold, hindering_hold, hinders, stands_before}
use Rattle.clr_rules.proofs.lists.RoundSteps.{All-from_each, filter-none_passes}

-- ---- the order of holds by clearance and kind

abbrev by_clearance : Hold → Hold → Ordering
by_clearance a b = ordering_then (id_cmp a.id b.id) (kind_cmp a.kind b.kind)

by_clearance_total : IsTotalOrder by_clearance
by_clearance_total = then_total (on_total (λ (h : Hold). h.id) id_cmp_total) (on_total (λ (h : Hold). h.kind) kind_cmp_total)

ranks : IsStrictWeakOrder stands_before
ranks = ranks_by by_clearance_total (λ (h : Hold). h)

not_before_itself : (h : Hold) → stands_before h h ≡ false
not_before_itself h = false_from_ne_true (stands_before h h) (λ before. both_ways (stands_before h h) (ranks.one_way h h before) before)

-- ---- of holds in turn the least is kept

module _ (named : Hold) where
  abbrev NotBefore : Hold → Type 0
  NotBefore h = stands_before h named ≡ false

  -- what a search that goes on from a hold says of the hold that it names
  record Least (start : Hold) (holds : List Hold) : Type 0 where
    among : (start ≡ named) ⊎ Contains holds named
    first : NotBefore start
    rest : All NotBefore holds

  going_on : (holds : List Hold) (start : Hold) → fold earlier_hold (Some start) holds ≡ Some named → Least start holds
  going_on [] start is =
      let same = same_Some start named is in
      record { among = inl same; first = subst (λ (h : Hold). stands_before start h ≡ false) same (not_before_itself start); rest = All-nil NotBefore }
  going_on (h ∷ holds) start is = at (stands_before h start) refl (going_on holds) is
    where
      at : (b : Bool) → stands_before h start ≡ b → ((from : Hold) → fold earlier_hold (Some from) holds ≡ Some named → Least from holds)
          → fold earlier_hold (Some (if b then h else start)) holds ≡ Some named → Least start (h ∷ holds)
      at true before later found =
          let end = later h found in
          record {
            among = inr (⊎_elim (λ here. subst (λ (x : Hold). Contains (h ∷ holds) x) here (Contains-here h holds)) (λ there. Contains-later h named holds there) end.among);
            first = ranks.chain start h named (ranks.one_way h start before) end.first;
            rest = All-cons NotBefore h holds end.first end.rest;
          }
      at false after later found =
          let end = later start found in
          record {
            among = ⊎_elim (λ here. inl here) (λ there. inr (Contains-later h named holds there)) end.among;
            first = end.first;
            rest = All-cons NotBefore h holds (ranks.chain h start named after end.first) end.rest;
          }

  least_of : (holds : List Hold) → first_hold holds ≡ Some named → Contains holds named × All NotBefore holds
  least_of [] is = absurd (cc is)
  least_of (h ∷ holds) is =
      let end = going_on holds h is in (
        ⊎_elim (λ here. subst (λ (x : Hold). Contains (h ∷ holds) x) here (Contains-here h holds)) (λ there. Contains-later h named holds there) end.among,
        All-cons NotBefore h holds end.first end.rest,
      )

-- a search that goes on from a hold names one
names_one : (holds : List Hold) (start : Hold) → fold earlier_hold (Some start) holds ≡ None → ⊥
names_one [] start is = cc is
names_one (h ∷ holds) start is = names_one holds (if stands_before h start then h else start) is

none_there : (holds : List Hold) → first_hold holds ≡ None → (h : Hold) → Contains holds h → ⊥
none_there [] is h (k, within, here) = absurd (omega arith)
none_there (first ∷ holds) is h there = names_one holds first is

-- ---- the laws

pub least_hold_is_named : LeastHoldIsNamed
unfolding hindering_hold
least_hold_is_named holds c p h is =
    let (among, least) = least_of h (filter (hinders c p) holds) is in
    let (there, hindering) = kept_there (hinders c p) holds h among in
    record {
      among = there;
      hindering = hindering;
      least = All-from_each (λ (other : Hold). hinders c p other ≡ true → stands_before other h ≡ false) holds (λ other in_holds does.
          All-contains (NotBefore h) (filter (hinders c p) holds) other least (Contains-filter (hinders c p) holds other in_holds does));
    }

pub none_is_named : NoneIsNamedWhereNoneHinders
unfolding hindering_hold
none_is_named holds c p = (
  λ none. All-from_each (λ (h : Hold). hinders c p h ≡ false) holds (λ h there. false_from_ne_true (hinders c p h) (λ does.
      none_there (filter (hinders c p) holds) none h (Contains-filter (hinders c p) holds h there does))),
  λ all. ap first_hold (filter-none_passes (hinders c p) holds all),
)
