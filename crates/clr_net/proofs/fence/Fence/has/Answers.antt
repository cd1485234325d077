use Rattle.std.proofs.Common.{◌≡◌, ◌∙◌, Bor, List, map, ap, is_some}
use Rattle.clr_net.specs.Prelude.{same_name, SectionRow, section_names}
use Rattle.clr_net.proofs.Places.{is_some-position}
use Rattle.clr_net.proofs.ListFacts.{map-map}
use Rattle.clr_net.proofs.fence.Fence.has.Goals as goal

-- the names of the rows behind references
names_behind : (rows : List (Bor SectionRow)) → section_names (map (λ (row : Bor SectionRow). row.now) rows) ≡ map (λ (row : Bor SectionRow). row.now.name) rows
names_behind rows = map-map (λ (row : SectionRow). row.name) (λ (row : Bor SectionRow). row.now) rows

pub place_of-requires : goal.place_of-requires
place_of-requires c =
    rw (c.deref.ensures.value, ← names_behind c.self.inside.sections.items) c.self.invariant.0

pub returns : goal.returns
returns c =
    c.is_some.ensures ∙ ap is_some c.place_of.ensures ∙ rw (c.deref.ensures.value, ← names_behind c.self.inside.sections.items, ← c.self.view_is)
    (is_some-position (same_name c.args.name.now) (section_names (map (λ (row : Bor SectionRow). row.now) c.self.inside.sections.items)))
