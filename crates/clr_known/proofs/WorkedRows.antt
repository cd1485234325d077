-- The files of the worked network, read: their rows are the worked network and the worked staff.
use Rattle.std.proofs.Common.{arith, ◌≡◌, ◌∙◌, [], ◌∷◌, ap, refl, subst, List, Ok, Result, ℕ}
use Rattle.std.specs.Prelude.{true, false, Some, None}
use Rattle.std.specs.Char.{encode_utf8}
use Rattle.std.specs.List.Sorted.{IsPermutation}
use Rattle.std.specs.Str.{chars, is_utf8}
use Rattle.std.proofs.lemmas.List.Sorted.{IsPermutation-trans}
use Rattle.csv.proofs.OnLiterals.{csv_on_literals}
use Rattle.csv.specs.Records.{field_at}
use Rattle.clr_csv.specs.Points.{points_of}
use Rattle.clr_csv.specs.Rows.{row_of, rows_from, rows_in, rows_of}
use Rattle.clr_csv.specs.Sections.{sections_of}
use Rattle.clr_staff.specs.Staff.{IsStaffOf}
use Rattle.clr_csv.specs.StaffRows.{staff_of}
use Rattle.clr_staff.specs.declared.employee.Role.TheVariants.{Operator, Field, Charge}
use Rattle.clr_staff.specs.declared.employee.StaffRow.{StaffRow}
use Rattle.clr_net.specs.Grid.{Grid}
use Rattle.clr_net.specs.Network.{IsGridOf}
use Rattle.clr_net.specs.declared.point.PointRow.{PointRow}
use Rattle.clr_net.specs.declared.section.SectionRow.{SectionRow}
use Rattle.clr_examples.specs.Worked.{G, H, L1, L2, L3, OPS, REED, DALE, JONES, KIM, BOSS, worked_net, worked_staff}
use Rattle.clr_csv.specs.declared.fault.CsvFault.{CsvFault}
use Rattle.clr_edge.specs.Files.{told_of}
use Rattle.clr_edge.specs.declared.fault.ImportFile.{ImportFile}
use Rattle.clr_known.specs.Known.{point_file, section_file, staff_file}
use Rattle.clr_known.proofs.OneList.{one_list}

abbrev pub file_sections : List SectionRow
file_sections =
    record { name = G; source = true }
    ∷ record { name = L1; source = false }
    ∷ record { name = L2; source = false }
    ∷ record { name = L3; source = false }
    ∷ record { name = H; source = true } ∷ []

abbrev pub file_staff : List StaffRow
file_staff =
    record { name = OPS; role = Operator; supervisor = None }
    ∷ record { name = REED; role = Field; supervisor = None }
    ∷ record { name = DALE; role = Field; supervisor = None }
    ∷ record { name = JONES; role = Charge; supervisor = Some BOSS }
    ∷ record { name = KIM; role = Charge; supervisor = None }
    ∷ record { name = BOSS; role = Charge; supervisor = None } ∷ []

pub sections_read : sections_of section_file ≡ Ok file_sections
unfolding csv_on_literals rows_of rows_in rows_from row_of is_utf8 chars encode_utf8 field_at
sections_read = refl

pub points_read : points_of point_file ≡ Ok (Grid.points worked_net)
unfolding csv_on_literals rows_of rows_in rows_from row_of is_utf8 chars encode_utf8 field_at
points_read = refl

pub staff_read : staff_of staff_file ≡ Ok file_staff
unfolding csv_on_literals rows_of rows_in rows_from row_of is_utf8 chars encode_utf8 field_at
staff_read = refl

-- the rows that are given are those that the bytes read as
pub rows_are : {A : Type 0} (file : ImportFile) (read : List ℕ → Result (List A) CsvFault) (bytes known : List ℕ) (rows found : List A)
    → bytes ≡ known → read known ≡ Ok rows → told_of file (read bytes) ≡ Ok found → rows ≡ found
rows_are {A} file read bytes known rows found same is told =
    let given : told_of file (Ok rows) ≡ Ok found =
    subst (λ (r : Result (List A) CsvFault). told_of file r ≡ Ok found) (ap read same ∙ is) told in
    cc given

sections_moved : IsPermutation (Grid.sections worked_net) file_sections
sections_moved = record {
  moves = (1, 4) ∷ (2, 4) ∷ (3, 4) ∷ [];
  below = (omega arith, omega arith, (omega arith, omega arith, (omega arith, omega arith, tt)));
  is = refl;
}

staff_moved : IsPermutation worked_staff file_staff
staff_moved = record {
  moves = (0, 5) ∷ (1, 2) ∷ (2, 3) ∷ (3, 4) ∷ (4, 5) ∷ [];
  below = (omega arith, omega arith, (omega arith, omega arith, (omega arith, omega arith, (omega arith, omega arith, (omega arith, omega arith, tt)))));
  is = refl;
}

-- the network of the rows, in the order of their names
pub is_worked_net : (g : Grid) → IsGridOf file_sections (Grid.points worked_net) g → g ≡ worked_net
is_worked_net g is =
    let sections : Grid.sections g ≡ Grid.sections worked_net =
    one_list (λ (row : SectionRow). row.name) (Grid.sections worked_net) (Grid.sections g)
    (IsPermutation-trans _ _ _ sections_moved is.all_sections) refl is.network.sections_rise in
    let points : Grid.points g ≡ Grid.points worked_net =
    one_list (λ (row : PointRow). row.name) (Grid.points worked_net) (Grid.points g) is.all_points refl is.network.points_rise in
    λ i. record { sections = sections i; points = points i }

-- and the staff
pub is_worked_staff : (staff : List StaffRow) → IsStaffOf file_staff staff → staff ≡ worked_staff
is_worked_staff staff is =
    one_list (λ (row : StaffRow). row.name) worked_staff staff (IsPermutation-trans _ _ _ staff_moved is.all_rows) refl is.is_staff.names_rise
