-- What `fence` answers over a network: the lines of the fence, or the first fault of its words.
use Rattle.std.specs.Prelude.{◌≡◌, ◌⊎◌, ℕ, if◌then◌else◌, List, [], ◌∷◌, Option, Some, None, Result}
use Rattle.std.specs.Prelude.{Ok, Err, IfSome, String, map}
use Rattle.std.specs.declared.alloc.Global.{Global}
use Rattle.clr_net.specs.Names.{has_name}
use Rattle.clr_net.specs.NameText.{read_name}
use Rattle.clr_net.specs.Grid.{Grid, section_names, point_names}
use Rattle.clr_net.specs.Fence.{fence_of}
use Rattle.clr_net.specs.Network.{IsGridOf, first_fault}
use Rattle.clr_csv.specs.Points.{points_of}
use Rattle.clr_csv.specs.Sections.{sections_of}
use Rattle.clr_net.specs.declared.section.SectionRow.{SectionRow}
use Rattle.clr_net.specs.declared.point.PointRow.{PointRow}
use Rattle.clr_net.specs.declared.net_fault.NetFault.{NetFault}
use Rattle.clr_net.specs.declared.name.NameFault.{NameFault}
use Rattle.clr_net.specs.Results.{◌>>=◌}
use Rattle.clr_edge.specs.Answers.{After}
use Rattle.clr_args.specs.declared.asked.FenceArgs.{FenceArgs}
use Rattle.clr_edge.specs.Fault.{of_name, of_network}
use Rattle.clr_edge.specs.Files.{IsUnread, told_of}
use Rattle.clr_commands.specs.Answers.{IsMemory, Prints}
use Rattle.clr_commands.specs.Lines.{lines_of}
use Rattle.clr_edge.specs.Paths.{AtPaths, HasCauseAt}
use Rattle.clr_edge.specs.declared.fault.ImportFile.TheVariants.{Sections, Points}
use Rattle.clr_edge.specs.declared.fault.Fault.{Fault}
use Rattle.clr_edge.specs.declared.fault.Fault.TheVariants.{UnknownSection, UnknownPoint}

-- the name that an argument reads as
abbrev pub argument : Result (List ℕ) NameFault → Result (List ℕ) Fault
argument (Ok name) = Ok name
argument (Err cause) = Err (of_name cause)

-- a name, if it is one of these
abbrev pub name_among : List (List ℕ) → (List ℕ → Fault) → List ℕ → Result (List ℕ) Fault
name_among names unknown name = if has_name names name then Ok name else Err (unknown name)

-- the section that a word names
abbrev pub section_named : Grid → List ℕ → Result (List ℕ) Fault
section_named g word = do
  name ← argument (read_name word)
  name_among (section_names g.sections) UnknownSection name

-- the point that a word names
abbrev pub point_named : Grid → List ℕ → Result (List ℕ) Fault
point_named g word = do
  name ← argument (read_name word)
  name_among (point_names g.points) UnknownPoint name

-- the points that words name, from the left
unfoldable pub points_named : Grid → List (List ℕ) → Result (List (List ℕ)) Fault
points_named g [] = Ok []
points_named g (word ∷ words) = do
  name ← point_named g word
  names ← points_named g words
  Ok (name ∷ names)

-- the lines of the fence of the section that a word names, cut at the points that words name
abbrev pub fence_lines : Grid → List ℕ → List (List ℕ) → Result (List ℕ) Fault
fence_lines g work cut = do
  section ← section_named g work
  points ← points_named g cut
  Ok (lines_of (fence_of g section points).sections)

-- What `fence` answers of rows whose first fault is this, if they have one: the fault, or the lines
-- of the fence in the network of the rows.
abbrev pub IsFenceOf : Option NetFault → List SectionRow → List PointRow → List ℕ → List (List ℕ)
    → Result (List ℕ) Fault → Type 0
IsFenceOf (Some cause) sections points work cut told = told ≡ Err (of_network cause)
IsFenceOf None sections points work cut told = (g : Grid) × IsGridOf sections points g
    × (told ≡ fence_lines g work cut)

-- the same as a call answers it
abbrev pub FencesRows : List SectionRow → List PointRow → List ℕ → List (List ℕ)
    → Result (String Global) Fault → Type 0
FencesRows sections points work cut =
    Prints IsMemory (IsFenceOf (first_fault sections points) sections points work cut)

-- What `fence` answers of the bytes of its two files: the first fault of the sections, then that of
-- the points, or what it answers of their rows.
abbrev pub IsFenceOfFiles : List ℕ → List ℕ → List ℕ → List (List ℕ) → Result (List ℕ) Fault
    → Type 0
IsFenceOfFiles section_file point_file work cut =
    After (told_of Sections (sections_of section_file)) (λ sections.
    After (told_of Points (points_of point_file)) (λ points.
    IsFenceOf (first_fault sections points) sections points work cut))

-- the same as a call answers it; a file may go unread in place of the answer
abbrev pub FencesFiles : List ℕ → List ℕ → List ℕ → List (List ℕ) → Result (String Global) Fault
    → Type 0
FencesFiles section_file point_file work cut =
    Prints (λ fault. IsUnread Sections fault ⊎ IsUnread Points fault)
    (IsFenceOfFiles section_file point_file work cut)

-- the same of the files at their paths, of which one is reported as unread only where it failed
pub record FencesAt (at : AtPaths) (args : FenceArgs) (result : Result (String Global) Fault)
    : Type 0 where
  pub answer : IfSome (at.bytes args.sections.now) (λ section_file.
      IfSome (at.bytes args.points.now) (λ point_file.
      FencesFiles section_file point_file args.work.now (map (λ word. word.now) args.cut.items)
      result))
  pub sections_cause : HasCauseAt at args.sections.now Sections result
  pub points_cause : HasCauseAt at args.points.now Points result
