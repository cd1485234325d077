use Rattle.std.proofs.Common.{◌≡◌, ◌∙◌, ◌++◌, ◌∷◌, [], List, None, Some, ap, subst, sym}
use Rattle.std.specs.List.{list_any}
use Rattle.std.specs.List.Sorted.{IsStrictlySortedBy}
use Rattle.std.proofs.lemmas.List.{append-nil, append_assoc}
use Rattle.clr_rules.specs.Hold.{hold_group_cmp, is_in_hold_group}
use Rattle.clr_rules.specs.declared.hold.HoldGroup.{HoldGroup}
use Rattle.clr_rules.specs.declared.hold.HoldGroup.TheVariants.{CrewsOf}
use Rattle.clr_book.proofs.NearGroups.{at_points, at_sections, crew_groups, in_near_groups, near_groups_rise}
use Rattle.clr_book.proofs.near.rows.groups_near.Goals as goal

pub returns-in-Some-clause-rising : goal.returns-in-Some-clause-rising
returns-in-Some-clause-rising c =
    let points = c.args.beside.now in
    let sections = c.args.fence.now in
    let all : c.push.new.self.items ≡ at_points points ++ (at_sections sections ++ crew_groups (Some c.in-Some.id)) =
    c.in_ok-push-in-Some.ensures.items
    ∙ ap (λ (groups : List HoldGroup). groups ++ CrewsOf c.in-Some.id ∷ []) (c.in_ok-extend_from_slice.ensures.items ∙ (λ i. c.in_ok-groups.ensures i ++ (c.deref.ensures.value ∙ c.in_ok-sections.ensures) i))
    ∙ append_assoc (at_points points) (at_sections sections) (CrewsOf c.in-Some.id ∷ []) in
    subst (λ (groups : List HoldGroup). IsStrictlySortedBy hold_group_cmp groups) (sym all) (near_groups_rise points sections (Some c.in-Some.id) c.requires.points c.requires.sections)

pub returns-in-Some-clause-same : goal.returns-in-Some-clause-same
returns-in-Some-clause-same c hold =
    let points = c.args.beside.now in
    let sections = c.args.fence.now in
    let all : c.push.new.self.items ≡ at_points points ++ (at_sections sections ++ crew_groups (Some c.in-Some.id)) =
    c.in_ok-push-in-Some.ensures.items
    ∙ ap (λ (groups : List HoldGroup). groups ++ CrewsOf c.in-Some.id ∷ []) (c.in_ok-extend_from_slice.ensures.items ∙ (λ i. c.in_ok-groups.ensures i ++ (c.deref.ensures.value ∙ c.in_ok-sections.ensures) i))
    ∙ append_assoc (at_points points) (at_sections sections) (CrewsOf c.in-Some.id ∷ []) in
    rw c.in-Some.is (ap (λ (groups : List HoldGroup). list_any (λ group. is_in_hold_group group hold) groups) all ∙ in_near_groups hold points sections (Some c.in-Some.id))

pub returns-clause-rising : goal.returns-clause-rising
returns-clause-rising c =
    let points = c.args.beside.now in
    let sections = c.args.fence.now in
    let all : c.extend_from_slice.new.self.items ≡ at_points points ++ (at_sections sections ++ crew_groups None) =
    c.in_ok-extend_from_slice.ensures.items ∙ (λ i. c.in_ok-groups.ensures i ++ (c.deref.ensures.value ∙ c.in_ok-sections.ensures) i)
    ∙ ap (λ (groups : List HoldGroup). at_points points ++ groups) (sym (append-nil (at_sections sections))) in
    subst (λ (groups : List HoldGroup). IsStrictlySortedBy hold_group_cmp groups) (sym all) (near_groups_rise points sections None c.requires.points c.requires.sections)

pub returns-clause-same : goal.returns-clause-same
returns-clause-same c hold =
    let points = c.args.beside.now in
    let sections = c.args.fence.now in
    let all : c.extend_from_slice.new.self.items ≡ at_points points ++ (at_sections sections ++ crew_groups None) =
    c.in_ok-extend_from_slice.ensures.items ∙ (λ i. c.in_ok-groups.ensures i ++ (c.deref.ensures.value ∙ c.in_ok-sections.ensures) i)
    ∙ ap (λ (groups : List HoldGroup). at_points points ++ groups) (sym (append-nil (at_sections sections))) in
    rw c.in-None.is (ap (λ (groups : List HoldGroup). list_any (λ group. is_in_hold_group group hold) groups) all ∙ in_near_groups hold points sections None)
