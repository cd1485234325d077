-- The groups of the holds near a command: their order, and which holds are in them.
use Rattle.std.proofs.Common.{◌≡◌, ◌∙◌, Bool, true, false, ◌&&◌, ◌||◌, List, [], ◌∷◌, ◌++◌, ℕ, Option, None, Some, map, refl, sym, ap}
use Rattle.std.specs.List.{AllByRecursion, list_any}
use Rattle.std.specs.List.Sorted.{IsStrictlySortedBy}
use Rattle.std.specs.Ordering.{ordering_then}
use Rattle.std.specs.declared.cmp.Ordering.TheVariants.{Less, Equal}
use Rattle.std.proofs.lemmas.Cmp.{nat_list_eq_equiv}
use Rattle.std.proofs.lemmas.List.Folds.{list_any-append}
use Rattle.clr_net.specs.Name.{name_cmp, same_name}
use Rattle.clr_net.specs.Names.{has_name}
use Rattle.clr_rules.specs.Hold.{hold_group_cmp, is_in_hold_group}
use Rattle.clr_rules.specs.HoldKind.{is_crew, is_point_kind, is_section_kind}
use Rattle.clr_rules.specs.Holds.{is_near_hold, is_own}
use Rattle.clr_rules.specs.Id.{Id}
use Rattle.clr_rules.specs.declared.hold.Hold.{Hold}
use Rattle.clr_rules.specs.declared.hold.HoldGroup.{HoldGroup}
use Rattle.clr_rules.specs.declared.hold.HoldGroup.TheVariants.{AtPoint, AtSection, CrewsOf}

-- a name among names, asked from its side
pub has_name-back : (names : List (List ℕ)) (p : List ℕ) → list_any (λ name. same_name name p) names ≡ has_name names p
has_name-back [] p = refl
has_name-back (name ∷ names) p = λ i. nat_list_eq_equiv.symm name p i || has_name-back names p i

-- the groups of the crews of a clearance, if one is meant
abbrev pub crew_groups : Option Id → List HoldGroup
crew_groups None = []
crew_groups (Some c) = CrewsOf c ∷ []

abbrev pub at_sections : List (List ℕ) → List HoldGroup
at_sections sections = map (λ section. AtSection section) sections

abbrev pub at_points : List (List ℕ) → List HoldGroup
at_points points = map (λ point. AtPoint point) points

-- ---- which holds are in them

or_none : (b : Bool) → b ≡ (b || false)
or_none true = refl
or_none false = refl

and_or : (b here later : Bool) → ((b && here) || (b && later)) ≡ (b && (here || later))
and_or true here later = refl
and_or false here later = refl

and_none : (b : Bool) → false ≡ (b && false)
and_none true = refl
and_none false = refl

module _ (h : Hold) where
  in_points : (points : List (List ℕ)) → list_any (λ group. is_in_hold_group group h) (at_points points) ≡ (is_point_kind h.kind && has_name points h.place)
  in_points [] = and_none (is_point_kind h.kind)
  in_points (p ∷ points) =
      (λ i. (is_point_kind h.kind && nat_list_eq_equiv.symm p h.place i) || in_points points i)
      ∙ and_or (is_point_kind h.kind) (same_name h.place p) (has_name points h.place)

  in_sections : (sections : List (List ℕ)) → list_any (λ group. is_in_hold_group group h) (at_sections sections) ≡ (is_section_kind h.kind && has_name sections h.place)
  in_sections [] = and_none (is_section_kind h.kind)
  in_sections (s ∷ sections) =
      (λ i. (is_section_kind h.kind && nat_list_eq_equiv.symm s h.place i) || in_sections sections i)
      ∙ and_or (is_section_kind h.kind) (same_name h.place s) (has_name sections h.place)

  in_crews : (own : Option Id) → list_any (λ group. is_in_hold_group group h) (crew_groups own) ≡ (is_crew h.kind && is_own own h.id)
  in_crews None = and_none (is_crew h.kind)
  in_crews (Some c) = sym (or_none (is_crew h.kind && is_own (Some c) h.id))

  pub in_near_groups : (points sections : List (List ℕ)) (own : Option Id)
      → list_any (λ group. is_in_hold_group group h) (at_points points ++ (at_sections sections ++ crew_groups own))
      ≡ is_near_hold (has_name sections) (has_name points) own h
  in_near_groups points sections own =
      list_any-append (λ group. is_in_hold_group group h) (at_points points) (at_sections sections ++ crew_groups own)
      ∙ (λ i. in_points points i || list_any-append (λ group. is_in_hold_group group h) (at_sections sections) (crew_groups own) i)
      ∙ (λ i. (is_point_kind h.kind && has_name points h.place) || (in_sections sections i || in_crews own i))

-- ---- their order

names_below : (p q : List ℕ) → name_cmp p q ≡ Less → ordering_then (name_cmp p q) Equal ≡ Less
names_below p q is = rw is refl

section_below_crews : (s : List ℕ) (own : Option Id) → AllByRecursion (λ group. hold_group_cmp (AtSection s) group ≡ Less) (crew_groups own)
section_below_crews s None = tt
section_below_crews s (Some c) = (refl, tt)

section_below : (s : List ℕ) (sections : List (List ℕ)) (own : Option Id) → AllByRecursion (λ next. name_cmp s next ≡ Less) sections
    → AllByRecursion (λ group. hold_group_cmp (AtSection s) group ≡ Less) (at_sections sections ++ crew_groups own)
section_below s [] own all = section_below_crews s own
section_below s (next ∷ sections) own all = (names_below s next all.0, section_below s sections own all.1)

point_below_crews : (p : List ℕ) (own : Option Id) → AllByRecursion (λ group. hold_group_cmp (AtPoint p) group ≡ Less) (crew_groups own)
point_below_crews p None = tt
point_below_crews p (Some c) = (refl, tt)

point_below_rest : (p : List ℕ) (sections : List (List ℕ)) (own : Option Id)
    → AllByRecursion (λ group. hold_group_cmp (AtPoint p) group ≡ Less) (at_sections sections ++ crew_groups own)
point_below_rest p [] own = point_below_crews p own
point_below_rest p (s ∷ sections) own = (refl, point_below_rest p sections own)

point_below : (p : List ℕ) (points sections : List (List ℕ)) (own : Option Id) → AllByRecursion (λ next. name_cmp p next ≡ Less) points
    → AllByRecursion (λ group. hold_group_cmp (AtPoint p) group ≡ Less) (at_points points ++ (at_sections sections ++ crew_groups own))
point_below p [] sections own all = point_below_rest p sections own
point_below p (next ∷ points) sections own all = (names_below p next all.0, point_below p points sections own all.1)

crews_rise : (own : Option Id) → IsStrictlySortedBy hold_group_cmp (crew_groups own)
unfolding IsStrictlySortedBy
crews_rise None = tt
crews_rise (Some c) = (tt, tt)

sections_rise : (sections : List (List ℕ)) (own : Option Id) → IsStrictlySortedBy name_cmp sections
    → IsStrictlySortedBy hold_group_cmp (at_sections sections ++ crew_groups own)
unfolding IsStrictlySortedBy
sections_rise [] own rise = crews_rise own
sections_rise (s ∷ sections) own rise = (section_below s sections own rise.0, sections_rise sections own rise.1)

pub near_groups_rise : (points sections : List (List ℕ)) (own : Option Id) → IsStrictlySortedBy name_cmp points → IsStrictlySortedBy name_cmp sections
    → IsStrictlySortedBy hold_group_cmp (at_points points ++ (at_sections sections ++ crew_groups own))
unfolding IsStrictlySortedBy
near_groups_rise [] sections own points_rise rise = sections_rise sections own rise
near_groups_rise (p ∷ points) sections own points_rise rise =
    (point_below p points sections own points_rise.0, near_groups_rise points sections own points_rise.1 rise)

-- ---- the sections that a request lists

pub asked_listed : (fence : List (List ℕ)) (section s : List ℕ) → has_name (fence ++ section ∷ []) s ≡ (has_name fence s || same_name section s)
asked_listed fence section s =
    list_any-append (same_name s) fence (section ∷ [])
    ∙ ap (λ asked. has_name fence s || asked) (sym (or_none (same_name s section)) ∙ nat_list_eq_equiv.symm s section)
