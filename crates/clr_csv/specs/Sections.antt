-- The file of the sections.
use Rattle.std.specs.Prelude.{ℕ, List, [], ◌∷◌, codes, Result, Ok}
use Rattle.clr_net.specs.declared.section.SectionRow.{SectionRow}
use Rattle.clr_csv.specs.declared.columns.ColumnFault.{ColumnFault}
use Rattle.clr_csv.specs.declared.fault.CsvFault.{CsvFault}
use Rattle.clr_csv.specs.Columns.{name_in, yes_no_in}
use Rattle.clr_net.specs.Results.{◌>>=◌}
use Rattle.clr_csv.specs.Rows.{Fields, rows_of}

abbrev pub section_header : Fields
section_header = codes "section" ∷ codes "source" ∷ []

-- a section's row
abbrev pub section_in : Fields → Result SectionRow ColumnFault
section_in fields = do
  name ← name_in 1 fields
  source ← yes_no_in 2 fields
  Ok (record { name = name; source = source })

-- the sections of a file, or its first fault
abbrev pub sections_of : List ℕ → Result (List SectionRow) CsvFault
sections_of = rows_of section_header section_in
