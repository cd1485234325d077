-- The three files of a network and its staff, and their rows.
use Rattle.std.specs.Prelude.{◌≡◌, ◌⊎◌, ℕ, List, Option, Result, Ok, Err, IfSome, OnErr}
use Rattle.clr_net.specs.declared.section.SectionRow.{SectionRow}
use Rattle.clr_net.specs.declared.point.PointRow.{PointRow}
use Rattle.clr_staff.specs.declared.employee.StaffRow.{StaffRow}
use Rattle.clr_csv.specs.Points.{points_of}
use Rattle.clr_csv.specs.Sections.{sections_of}
use Rattle.clr_csv.specs.StaffRows.{staff_of}
use Rattle.clr_csv.specs.declared.fault.CsvFault.{CsvFault}
use Rattle.clr_csv.specs.declared.fault.CsvFault.TheVariants as csv
use Rattle.clr_net.specs.Results.{◌>>=◌}
use Rattle.clr_args.specs.declared.asked.Files.{Files}
use Rattle.clr_edge.specs.Answers.{After}
use Rattle.clr_edge.specs.Fault.{IsOfFile}
use Rattle.clr_edge.specs.Files.{IsUnread, told_of}
use Rattle.clr_edge.specs.declared.fault.Fault.{Fault}
use Rattle.clr_edge.specs.declared.fault.Fault.TheVariants.{File, Memory}
use Rattle.clr_edge.specs.declared.fault.ImportFile.{ImportFile}
use Rattle.clr_edge.specs.declared.fault.ImportFile.TheVariants.{Sections, Points, Staff}
use Rattle.clr_commands.specs.Answers.{Gives}
use Rattle.clr_edge.specs.Paths.{AtPaths, HasCauseAt}
use Rattle.clr_commands.specs.declared.import.Rows.{Rows}
use Rattle.clr_commands.specs.declared.import.Texts.{Texts}

-- the bytes of the three files
pub record Contents : Type 0 where
  pub sections : List ℕ
  pub points : List ℕ
  pub staff : List ℕ

-- their rows
pub record FileRows : Type 0 where
  pub sections : List SectionRow
  pub points : List PointRow
  pub staff : List StaffRow

abbrev pub contents_of : Texts → Contents
contents_of texts = record {
  sections = texts.sections.items;
  points = texts.points.items;
  staff = texts.staff.items;
}

abbrev pub lists_of : Rows → FileRows
lists_of rows = record {
  sections = rows.sections.items;
  points = rows.points.items;
  staff = rows.staff.items;
}

-- the rows of three files, or the first fault of the first of them that has one
abbrev pub rows_of : Contents → Result FileRows Fault
rows_of files = do
  sections ← told_of Sections (sections_of files.sections)
  points ← told_of Points (points_of files.points)
  staff ← told_of Staff (staff_of files.staff)
  Ok (record { sections = sections; points = points; staff = staff })

-- one of them went unread, or memory ran out
abbrev pub IsUnreadFile : Fault → Type 0
IsUnreadFile fault = IsUnread Sections fault ⊎ IsUnread Points fault ⊎ IsUnread Staff fault

-- the fault is one of a file
abbrev pub IsOfAnyFile : Fault → Type 0
IsOfAnyFile fault = IsOfFile Sections fault ⊎ IsOfFile Points fault ⊎ IsOfFile Staff fault

-- what was read of three files: what they give, as far as their bytes are known
abbrev pub AreRead : Option (List ℕ) → Option (List ℕ) → Option (List ℕ) → Result FileRows Fault
    → Type 0
AreRead sections points staff read = IfSome sections (λ s. IfSome points (λ p. IfSome staff (λ e.
    Gives IsUnreadFile (λ rows. rows) (rows_of (record { sections = s; points = p; staff = e }))
    read)))

-- the same of the files at three paths, of which one is reported as unread only where it failed
pub record AreReadAt (at : AtPaths) (files : Files) (read : Result FileRows Fault) : Type 0 where
  pub rows : AreRead (at.bytes files.sections.now) (at.bytes files.points.now)
      (at.bytes files.staff.now) read
  pub sections_cause : HasCauseAt at files.sections.now Sections read
  pub points_cause : HasCauseAt at files.points.now Points read
  pub staff_cause : HasCauseAt at files.staff.now Staff read

abbrev pub as_lists : Result Rows Fault → Result FileRows Fault
as_lists (Ok rows) = Ok (lists_of rows)
as_lists (Err fault) = Err fault

-- the same with the bytes that give them
abbrev pub rows_told : Result (Rows × Texts) Fault → Result FileRows Fault
rows_told (Ok read) = Ok (lists_of read.0)
rows_told (Err fault) = Err fault

-- why bytes that are in memory give no rows: they do not fail to be read
abbrev pub of_memory : ImportFile → CsvFault → Fault
of_memory file csv.NoMemory = Memory
of_memory file csv.ReadFailed = Memory
of_memory file cause = File file cause

-- these are the bytes of the files at three paths, as far as those are known
pub record AreKnown (at : List ℕ → Option (List ℕ)) (files : Files) (texts : Contents)
    : Type 0 where
  pub sections : IfSome (at files.sections.now) (λ known. texts.sections ≡ known)
  pub points : IfSome (at files.points.now) (λ known. texts.points ≡ known)
  pub staff : IfSome (at files.staff.now) (λ known. texts.staff ≡ known)

-- WHAT IS ANSWERED OF THREE FILES: their fault, and then nothing else was done, as `Nothing` says;
-- or what `Is` says of their rows
pub record AnswersFiles {T : Type 0} (at : AtPaths) (files : Files) (Nothing : Type 0)
    (Is : FileRows → Result T Fault → Type 0) (result : Result T Fault) : Type 0 where
  pub read : Result FileRows Fault
  pub are_read : AreReadAt at files read
  pub answer : After read Is result
  pub nothing : OnErr read Nothing
