-- THE MARKS OF LIVE SECTIONS, and the links over which they spread from the sources.
use Rattle.std.specs.Prelude.{◌≡◌, ℕ, Bool, List, filter, map}
use Rattle.clr_net.specs.Grid.{Grid, section_names}
use Rattle.clr_net.specs.Index.{place_in}
use Rattle.clr_net.specs.declared.point.PointRow.{PointRow}
use Rattle.clr_net.specs.declared.section.SectionRow.{SectionRow}
use Rattle.clr_rules.specs.Live.{is_closed_point}
use Rattle.clr_rules.specs.declared.point_state.PointState.{PointState}
use Rattle.clr_view.specs.Spread.{is_marked}
use Rattle.clr_view.specs.declared.spread.Link.{Link}

-- the mark at the place of a section
abbrev pub section_mark : List SectionRow → List Bool → List ℕ → Bool
section_mark sections marks s = is_marked marks (place_in (section_names sections) s)

-- marks are of the sections that pass a test
abbrev pub AreMarksOf : (List ℕ → Bool) → List SectionRow → List Bool → Type 0
AreMarksOf test sections marks = (s : List ℕ) → section_mark sections marks s ≡ test s

-- the places of a point's ends
abbrev pub link_of : List SectionRow → PointRow → Link
link_of sections p = record {
  from = place_in (section_names sections) p.from_end;
  to = place_in (section_names sections) p.to_end;
}

-- those of the points that are closed
abbrev pub closed_links : Grid → List PointState → List Link
closed_links g states =
    map (link_of g.sections) (filter (λ p. is_closed_point states p.name) g.points)

abbrev pub source_marks : Grid → List Bool
source_marks g = map (λ (row : SectionRow). row.source) g.sections
