-- The lines that a fence prints.
use Rattle.std.specs.Prelude.{ℕ, List, [], ◌∷◌, ◌++◌}
use Rattle.std.specs.List.{flat_map}
use Rattle.clr_net.specs.declared.section.SectionRow.{SectionRow}

-- a name and a line feed
abbrev pub line_of : List ℕ → List ℕ
line_of name = name ++ 10 ∷ []

-- the names of the sections, each on a line
abbrev pub lines_of : List SectionRow → List ℕ
lines_of sections = flat_map (λ section. line_of section.name) sections
