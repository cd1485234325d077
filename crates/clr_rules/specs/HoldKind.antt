-- The kinds of holds: where they are, and their two orders.
use Rattle.std.specs.Prelude.{◌≡◌, ℕ, Bool, true, false, List, [], ◌∷◌, codes, find, refl, Option}
use Rattle.std.specs.Prelude.{Some, unwrap_or, bytes_eq}
use Rattle.std.specs.Cmp.{IsTotalOrder}
use Rattle.std.specs.Ordering.{nat_cmp}
use Rattle.std.specs.declared.cmp.Ordering.{Ordering}
use Rattle.std.specs.declared.cmp.Ordering.TheVariants.{Equal}
use Rattle.std.proofs.Common.{sym, ◌∙◌, ap}
use Rattle.std.proofs.lemmas.Cmp.{on_total, nat_list_cmp_total, nat_cmp_total}
use Rattle.clr_net.specs.Prelude.{name_cmp}
use Rattle.clr_shelf.specs.Ties.{same_text}
use Rattle.clr_rules.specs.declared.hold_kind.HoldKind.{HoldKind}
use Rattle.clr_rules.specs.declared.hold_kind.HoldKind.TheVariants.{HeldOpen, Block, Control, Tag}
use Rattle.clr_rules.specs.declared.hold_kind.HoldKind.TheVariants.{Tested, Ground, Crew}

-- the kinds that are at switching points, and keep them from being closed
abbrev pub is_point_kind : HoldKind → Bool
is_point_kind HeldOpen = true
is_point_kind Block = true
is_point_kind Control = true
is_point_kind Tag = true
is_point_kind Tested = false
is_point_kind Ground = false
is_point_kind Crew = false

-- the kinds that are at sections
abbrev pub is_section_kind : HoldKind → Bool
is_section_kind Tested = true
is_section_kind Ground = true
is_section_kind HeldOpen = false
is_section_kind Block = false
is_section_kind Control = false
is_section_kind Tag = false
is_section_kind Crew = false

-- the kind that is at neither
abbrev pub is_crew : HoldKind → Bool
is_crew Crew = true
is_crew HeldOpen = false
is_crew Block = false
is_crew Control = false
is_crew Tag = false
is_crew Tested = false
is_crew Ground = false

-- the place of a kind in the order of their declaration
abbrev pub kind_place : HoldKind → ℕ
kind_place HeldOpen = 0
kind_place Block = 1
kind_place Control = 2
kind_place Tag = 3
kind_place Tested = 4
kind_place Ground = 5
kind_place Crew = 6

-- THE KINDS' OWN ORDER, that of their declaration: views, and the refusal that names a hold
abbrev pub kind_cmp : HoldKind → HoldKind → Ordering
kind_cmp a b = nat_cmp (kind_place a) (kind_place b)

abbrev pub hold_kind_text : HoldKind → List ℕ
hold_kind_text HeldOpen = codes "HeldOpen"
hold_kind_text Block = codes "Block"
hold_kind_text Control = codes "Control"
hold_kind_text Tag = codes "Tag"
hold_kind_text Tested = codes "Tested"
hold_kind_text Ground = codes "Ground"
hold_kind_text Crew = codes "Crew"

-- THE ORDER OF THEIR TEXTS (Block, Control, Crew, Ground, HeldOpen, Tag, Tested): keys, in lists,
-- tables and edits
abbrev pub kind_text_cmp : HoldKind → HoldKind → Ordering
kind_text_cmp a b = name_cmp (hold_kind_text a) (hold_kind_text b)

-- all kinds, in the order of their declaration
abbrev pub all_hold_kinds : List HoldKind
all_hold_kinds = HeldOpen ∷ Block ∷ Control ∷ Tag ∷ Tested ∷ Ground ∷ Crew ∷ []

pub kind_cmp_total : IsTotalOrder kind_cmp
kind_cmp_total = on_total kind_place nat_cmp_total

pub kind_text_cmp_total : IsTotalOrder kind_text_cmp
kind_text_cmp_total = on_total hold_kind_text nat_list_cmp_total

-- the kind that a text names
abbrev pub hold_kind_named : List ℕ → Option HoldKind
hold_kind_named text = find (λ kind. bytes_eq (hold_kind_text kind) text) all_hold_kinds

named_by_text : (kind : HoldKind) → hold_kind_named (hold_kind_text kind) ≡ Some kind
named_by_text HeldOpen = refl
named_by_text Block = refl
named_by_text Control = refl
named_by_text Tag = refl
named_by_text Tested = refl
named_by_text Ground = refl
named_by_text Crew = refl

-- kinds that tie are one
pub same_kind_text : (a b : HoldKind) → kind_text_cmp a b ≡ Equal → a ≡ b
same_kind_text a b ties =
    ap (λ o. unwrap_or o a) (sym (named_by_text a)
    ∙ ap hold_kind_named (same_text (hold_kind_text a) (hold_kind_text b) ties)
    ∙ named_by_text b)
