-- A network that grows: a section or a point more, put among the others by its name.
use Rattle.std.specs.Prelude.{ℕ, Bool, true, ◌&&◌, not, nat_lt, List, ◌∷◌, ◌++◌, length, filter}
use Rattle.std.specs.Prelude.{Option, Some, None}
use Rattle.std.specs.Ordering.{is_lt, is_gt}
use Rattle.clr_net.specs.Prelude.{name_cmp, has_name, SectionRow, PointRow}
use Rattle.clr_net.specs.Grid.{Grid, section_names, point_names, has_ends, has_one_section}
use Rattle.clr_net.specs.declared.addition.Addition.{Addition}

-- rows with one more, by name: those of lower names, the row, and those of higher names
unfoldable pub with_named : {Row : Type 0} → (Row → List ℕ) → Row → List Row → List Row
with_named name_of row rows =
    filter (λ other. is_lt (name_cmp (name_of other) (name_of row))) rows
    ++ row ∷ filter (λ other. is_gt (name_cmp (name_of other) (name_of row))) rows

-- a network with a section more
abbrev pub with_section : SectionRow → Grid → Grid
with_section row g = record g { sections = with_named (λ other. other.name) row g.sections }

-- a network with a point more
abbrev pub with_point : PointRow → Grid → Grid
with_point p g = record g { points = with_named (λ other. other.name) p g.points }

-- whether a section can be added: its name is new, and there are fewer than 5,000
abbrev pub fits_section : Grid → SectionRow → Bool
fits_section g row = not (has_name (section_names g.sections) row.name)
    && nat_lt (length g.sections) 5000

-- whether a point can be added: its name is new, there are fewer than 10,000, and it joins two
-- different sections
abbrev pub fits_point : Grid → PointRow → Bool
fits_point g p = not (has_name (point_names g.points) p.name)
    && (nat_lt (length g.points) 10000
    && (has_ends (section_names g.sections) p && not (has_one_section p)))

-- a network with a section more, if there is one to add
abbrev pub with_new_section : Option SectionRow → Grid → Grid
with_new_section None g = g
with_new_section (Some row) g = with_section row g

-- whether it can be added
abbrev pub fits_new_section : Grid → Option SectionRow → Bool
fits_new_section g None = true
fits_new_section g (Some row) = fits_section g row

-- a network with what is added to it
abbrev pub with_addition : Addition → Grid → Grid
with_addition added g = with_point added.point (with_new_section added.section g)

-- whether it can be added: the section first, which may be an end of the point
abbrev pub fits_addition : Grid → Addition → Bool
fits_addition g added = fits_new_section g added.section
    && fits_point (with_new_section added.section g) added.point
