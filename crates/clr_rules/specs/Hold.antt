-- Holds: the order of their keys, and where they are.
use Rattle.std.specs.Prelude.{◌≡◌, ℕ, Bool, ◌&&◌, List, if◌then◌else◌, refl}
use Rattle.std.specs.Cmp.{IsTotalOrder}
use Rattle.std.specs.Ordering.{nat_cmp, ordering_then, is_eq}
use Rattle.std.specs.declared.cmp.Ordering.{Ordering}
use Rattle.std.specs.declared.cmp.Ordering.TheVariants.{Less, Equal, Greater}
use Rattle.std.proofs.Common.{◌∙◌, ap}
use Rattle.std.proofs.lemmas.Cmp.{then_total, on_total, nat_list_cmp_total, nat_cmp_total}
use Rattle.clr_net.specs.Name.{name_cmp, same_name}
use Rattle.clr_shelf.specs.Ties.{first_ties, second_ties, same_text}
use Rattle.clr_rules.specs.Id.{Id, id_cmp, id_cmp_total, same_id, same_id_from_tie}
use Rattle.clr_rules.specs.Id.{same_id_ties_back, same_name_ties_back}
use Rattle.clr_rules.specs.HoldKind.{is_crew, is_point_kind, is_section_kind, kind_text_cmp}
use Rattle.clr_rules.specs.HoldKind.{kind_text_cmp_total, same_kind_text}
use Rattle.clr_rules.specs.declared.hold_kind.HoldKind.{HoldKind}
use Rattle.clr_rules.specs.declared.hold_kind.HoldKind.TheVariants.{Tested, Ground, Crew}
use Rattle.clr_rules.specs.declared.hold.Hold.{Hold}
use Rattle.clr_rules.specs.declared.hold.HoldGroup.{HoldGroup}
use Rattle.clr_rules.specs.declared.hold.HoldGroup.TheVariants.{AtPoint, AtSection, CrewsOf}

-- the order of holds as keys: the kinds' texts, then the place, then the clearance
abbrev pub hold_cmp : Hold → Hold → Ordering
hold_cmp a b =
    ordering_then (kind_text_cmp a.kind b.kind)
    (ordering_then (name_cmp a.place b.place) (id_cmp a.id b.id))

-- where a hold is, which follows from its kind
abbrev pub hold_group : Hold → HoldGroup
hold_group hold =
    if is_point_kind hold.kind then AtPoint hold.place else if is_section_kind hold.kind
    then AtSection hold.place else CrewsOf hold.id

-- groups go by what they are of, points before sections before crews; then by the name; crews
-- then by the number
abbrev pub group_rank : HoldGroup → ℕ
group_rank (AtPoint point) = 0
group_rank (AtSection section) = 1
group_rank (CrewsOf id) = 2

abbrev pub group_name : HoldGroup → List ℕ
group_name (AtPoint point) = point
group_name (AtSection section) = section
group_name (CrewsOf id) = id.requester

abbrev pub group_number : HoldGroup → ℕ
group_number (AtPoint point) = 0
group_number (AtSection section) = 0
group_number (CrewsOf id) = id.number

abbrev pub hold_group_cmp : HoldGroup → HoldGroup → Ordering
hold_group_cmp a b =
    ordering_then (nat_cmp (group_rank a) (group_rank b))
    (ordering_then (name_cmp (group_name a) (group_name b))
    (nat_cmp (group_number a) (group_number b)))

-- holds go by kind: a section and a point may have one name
abbrev pub is_in_hold_group : HoldGroup → Hold → Bool
is_in_hold_group (AtPoint point) hold = is_point_kind hold.kind && same_name point hold.place
is_in_hold_group (AtSection section) hold =
    is_section_kind hold.kind && same_name section hold.place
is_in_hold_group (CrewsOf id) hold = is_crew hold.kind && same_id id hold.id

pub hold_cmp_total : IsTotalOrder hold_cmp
hold_cmp_total =
    then_total (on_total (λ (h : Hold). h.kind) kind_text_cmp_total)
    (then_total (on_total (λ (h : Hold). h.place) nat_list_cmp_total)
    (on_total (λ (h : Hold). h.id) id_cmp_total))

-- holds that tie are one
pub same_hold : (a b : Hold) → hold_cmp a b ≡ Equal → a ≡ b
same_hold a b ties =
    let by_kind = kind_text_cmp a.kind b.kind in
    let by_place = name_cmp a.place b.place in
    let by_id = id_cmp a.id b.id in
    let within = second_ties by_kind (ordering_then by_place by_id) ties in
    λ i. record {
      kind = same_kind_text a.kind b.kind
          (first_ties by_kind (ordering_then by_place by_id) ties) i;
      place = same_text a.place b.place (first_ties by_place by_id within) i;
      id = same_id_from_tie a.id b.id (second_ties by_place by_id within) i;
    }

pub hold_group_cmp_total : IsTotalOrder hold_group_cmp
hold_group_cmp_total =
    then_total (on_total group_rank nat_cmp_total)
    (then_total (on_total group_name nat_list_cmp_total) (on_total group_number nat_cmp_total))

then_tied : (o : Ordering) → o ≡ ordering_then o Equal
then_tied Less = refl
then_tied Equal = refl
then_tied Greater = refl

at_name : (name place : List ℕ)
    → same_name name place ≡ is_eq (ordering_then (name_cmp place name) Equal)
at_name name place = same_name_ties_back name place ∙ ap is_eq (then_tied (name_cmp place name))

in_group_of_kind : (group : HoldGroup) (kind : HoldKind) (place : List ℕ) (id : Id)
    → is_in_hold_group group (record { kind = kind; place = place; id = id })
    ≡ is_eq (hold_group_cmp (hold_group (record { kind = kind; place = place; id = id })) group)
in_group_of_kind (AtPoint point) Tested place id = refl
in_group_of_kind (AtPoint point) Ground place id = refl
in_group_of_kind (AtPoint point) Crew place id = refl
in_group_of_kind (AtPoint point) kind place id = at_name point place
in_group_of_kind (AtSection section) Tested place id = at_name section place
in_group_of_kind (AtSection section) Ground place id = at_name section place
in_group_of_kind (AtSection section) kind place id = refl
in_group_of_kind (CrewsOf own) Crew place id = same_id_ties_back own id
in_group_of_kind (CrewsOf own) kind place id = refl

-- a hold is in its group and in no other
pub in_hold_group : (group : HoldGroup) (hold : Hold)
    → is_in_hold_group group hold ≡ is_eq (hold_group_cmp (hold_group hold) group)
in_hold_group group hold = in_group_of_kind group hold.kind hold.place hold.id
