-- The holds: what is at points and sections for a clearance, and which crews are signed on to
-- it.
use Rattle.std.specs.Prelude.{ℕ, Bool, false, not, ◌&&◌, ◌||◌, if◌then◌else◌, List, [], ◌∷◌, ◌++◌}
use Rattle.std.specs.Prelude.{filter, map, Option, None, Some, fold, is_some}
use Rattle.clr_net.specs.Prelude.{list_any, same_name}
use Rattle.std.specs.Ordering.{is_eq, is_lt, ordering_then}
use Rattle.clr_order.specs.declared.held.Held.{Held}
use Rattle.clr_shelf.specs.Rows.{row_of}
use Rattle.clr_rules.specs.Id.{Id, id_cmp, same_id}
use Rattle.clr_rules.specs.Hold.{hold_cmp}
use Rattle.clr_rules.specs.HoldKind.{all_hold_kinds, is_crew, is_point_kind, is_section_kind}
use Rattle.clr_rules.specs.HoldKind.{kind_cmp}
use Rattle.clr_rules.specs.declared.hold.Hold.{Hold}
use Rattle.clr_rules.specs.declared.hold_kind.HoldKind.{HoldKind}
use Rattle.clr_rules.specs.declared.hold_kind.HoldKind.TheVariants.{HeldOpen, Block, Control, Tag}

abbrev pub hold_key : Hold → Hold
hold_key h = h

abbrev pub hold_of : Id → HoldKind → List ℕ → Hold
hold_of c kind place = record { kind = kind; place = place; id = c }

-- whether a clearance has a hold of this kind at this place
abbrev pub has_hold : List Hold → Id → HoldKind → List ℕ → Bool
has_hold holds c kind place = is_some (row_of hold_cmp hold_key (hold_of c kind place) holds)

-- whether a clearance is the one that is meant, if one is
abbrev pub is_own : Option Id → Id → Bool
is_own None id = false
is_own (Some c) id = same_id c id

-- the holds of a clearance
unfoldable pub holds_of : List Hold → Id → List Hold
holds_of holds c = filter (λ h. same_id c h.id) holds

abbrev pub same_kind : HoldKind → HoldKind → Bool
same_kind a b = is_eq (kind_cmp a b)

-- the places where a clearance has holds of a kind, in the order of names
unfoldable pub places_of : List Hold → Id → HoldKind → List (List ℕ)
places_of holds c kind =
    map (λ h. h.place) (filter (λ h. same_id c h.id && same_kind kind h.kind) holds)

-- whether a clearance has a hold of this kind anywhere
unfoldable pub has_some_hold : List Hold → Id → HoldKind → Bool
has_some_hold holds c kind = list_any (λ h. same_id c h.id && same_kind kind h.kind) holds

-- whether a clearance has any hold
unfoldable pub has_any_hold : List Hold → Id → Bool
has_any_hold holds c = list_any (λ h. same_id c h.id) holds

-- a hold at a point that keeps a clearance from closing it: any but its own HeldOpen.
-- 1910.269(m)(3)(xiii)
abbrev pub hinders : Id → List ℕ → Hold → Bool
hinders c p h =
    (is_point_kind h.kind && same_name p h.place)
    && not (same_id c h.id && same_kind HeldOpen h.kind)

-- of two holds the first: that of the lesser clearance, then that of the first kind, in the kinds'
-- own order
abbrev pub stands_before : Hold → Hold → Bool
stands_before a b = is_lt (ordering_then (id_cmp a.id b.id) (kind_cmp a.kind b.kind))

abbrev pub earlier_hold : Option Hold → Hold → Option Hold
earlier_hold None h = Some h
earlier_hold (Some first) h = Some (if stands_before h first then h else first)

-- the first of these holds
abbrev pub first_hold : List Hold → Option Hold
first_hold holds = fold earlier_hold None holds

-- the first hold that keeps a clearance from closing a point
unfoldable pub hindering_hold : List Hold → Id → List ℕ → Option Hold
hindering_hold holds c p = first_hold (filter (hinders c p) holds)

-- the names of a list, each once, where it comes first
unfoldable pub first_of_each : List (List ℕ) → List (List ℕ)
first_of_each [] = []
first_of_each (p ∷ ps) = p ∷ filter (λ q. not (same_name p q)) (first_of_each ps)

-- what a clearance has at a point that it holds open
abbrev pub held_at : List Hold → Id → List ℕ → Held
held_at holds c p =
    record {
      point = p;
      block = has_hold holds c Block p;
      control = has_hold holds c Control p;
      tag = has_hold holds c Tag p;
    }

-- of these points those that a clearance holds open, in the order of their first appearance, with
-- what it has there
unfoldable pub held_among : List Hold → Id → List (List ℕ) → List Held
held_among holds c points =
    map (held_at holds c) (filter (has_hold holds c HeldOpen) (first_of_each points))

-- which holds are near: at a point, at a section, and the crews of a clearance. Holds go by kind: a
-- point and a section may have one name
abbrev pub is_near_hold : (List ℕ → Bool) → (List ℕ → Bool) → Option Id → Hold → Bool
is_near_hold inside beside own h =
    (is_point_kind h.kind && beside h.place)
    || ((is_section_kind h.kind && inside h.place) || (is_crew h.kind && is_own own h.id))

-- the holds by kind, in the kinds' own order, those of a kind in their order: by place, then by
-- clearance
abbrev pub of_kinds : List HoldKind → List Hold → List Hold
of_kinds [] holds = []
of_kinds (kind ∷ kinds) holds = filter (λ h. same_kind kind h.kind) holds ++ of_kinds kinds holds

abbrev pub in_kind_order : List Hold → List Hold
in_kind_order holds = of_kinds all_hold_kinds holds
