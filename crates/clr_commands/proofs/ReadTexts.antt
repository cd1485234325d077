-- The rows of files at paths, with the bytes that give them.
use Rattle.std.proofs.Common.{◌≡◌, ◌≢◌, ◌⊎◌, ◌∙◌, ap, arith, inl, inr, length, refl, subst, sym, true, false, ℕ, List, Option, Result, Ok, Err}
use Rattle.std.specs.Prelude.{Bool, IfOk, IfSome, IsErrAnd, IsErrOf, None, Some, if◌then◌else◌, nat_le, nat_lt}
use Rattle.std.proofs.lemmas.Bool.Decides.{nat_tests}
use Rattle.clr_csv.specs.Points.{points_of}
use Rattle.clr_csv.specs.Rows.{rows_in, rows_of as file_rows, within_limit}
use Rattle.clr_csv.specs.Sections.{sections_of}
use Rattle.clr_csv.specs.StaffRows.{staff_of}
use Rattle.clr_csv.specs.declared.fault.CsvFault.{CsvFault}
use Rattle.clr_csv.specs.declared.fault.CsvFault.TheVariants as csv
use Rattle.clr_net.specs.declared.section.SectionRow.{SectionRow}
use Rattle.clr_net.specs.declared.point.PointRow.{PointRow}
use Rattle.clr_staff.specs.declared.employee.StaffRow.{StaffRow}
use Rattle.clr_args.specs.declared.asked.Files.{Files}
use Rattle.clr_edge.specs.Fault.{IsOfFile, of_file}
use Rattle.clr_edge.specs.Files.{GivesRows, IsUnread, told_of}
use Rattle.clr_edge.specs.declared.fault.Fault.{Fault}
use Rattle.clr_edge.specs.declared.fault.Fault.TheVariants.{File, Memory}
use Rattle.clr_edge.specs.declared.fault.ImportFile.{ImportFile}
use Rattle.clr_edge.specs.declared.fault.ImportFile.TheVariants.{Points, Sections, Staff}
use Rattle.clr_commands.specs.Import.{AreRead, AreReadAt, Contents, FileRows, of_memory, rows_of, rows_told}
use Rattle.clr_edge.specs.Paths.{AtPaths, HasCauseAt}
use Rattle.clr_commands.specs.declared.import.Rows.{Rows}
use Rattle.clr_commands.specs.declared.import.Texts.{Texts}

-- a fault, where it is no excused one, is what the bytes of a file come to, as far as they are known
abbrev pub GivesFault : {A : Type 0} → ImportFile → (List ℕ → Result A CsvFault) → Option (List ℕ) → Fault → Type 0
GivesFault file read known fault = IfSome known (λ bytes. (IsUnread file fault → ⊥) → told_of file (read bytes) ≡ Err fault)

-- ---- one file

over_limit : (n : ℕ) → nat_lt 4194304 n ≡ true → nat_le n 4194304 ≡ false
over_limit n long = grind (arith, nat_tests)

pub sections-long : (bytes : List ℕ) → nat_lt 4194304 (length bytes) ≡ true → sections_of bytes ≡ Err csv.TooLong
unfolding file_rows
sections-long bytes long = let over = over_limit (length bytes) long in rw over

pub points-long : (bytes : List ℕ) → nat_lt 4194304 (length bytes) ≡ true → points_of bytes ≡ Err csv.TooLong
unfolding file_rows
points-long bytes long = let over = over_limit (length bytes) long in rw over

pub staff-long : (bytes : List ℕ) → nat_lt 4194304 (length bytes) ≡ true → staff_of bytes ≡ Err csv.TooLong
unfolding file_rows
staff-long bytes long = let over = over_limit (length bytes) long in rw over

-- its bytes could not be read
pub unread-fault : {A : Type 0} (file : ImportFile) (read : List ℕ → Result A CsvFault) (known : Option (List ℕ)) (fault passed : Fault)
    → ((bytes : List ℕ) → nat_lt 4194304 (length bytes) ≡ true → read bytes ≡ Err csv.TooLong)
    → IfSome known (λ bytes. IsUnread file fault ⊎ ((fault ≡ File file csv.TooLong) × (nat_lt 4194304 (length bytes) ≡ true)))
    → passed ≡ fault → GivesFault file read known passed
unread-fault file read None fault passed long gives same = tt
unread-fault file read (Some bytes) fault passed long (inl unread) same = λ other. absurd (other (subst (IsUnread file) (sym same) unread))
unread-fault file read (Some bytes) fault passed long (inr (is, over)) same = λ other. ap (told_of file) (long bytes over) ∙ ap Err (sym (same ∙ is))

memory-told : {A : Type 0} (file : ImportFile) (told : Result A CsvFault) (cause : CsvFault)
    → (cause ≢ csv.ReadFailed → cause ≢ csv.NoMemory → told ≡ Err cause) → (IsUnread file (of_memory file cause) → ⊥)
    → told_of file told ≡ Err (of_memory file cause)
memory-told file told csv.ReadFailed gives other = absurd (other (inl refl))
memory-told file told csv.NoMemory gives other = absurd (other (inl refl))
memory-told file told csv.TooLong gives other = ap (told_of file) (gives (λ e. cc e) (λ e. cc e))
memory-told file told csv.Header gives other = ap (told_of file) (gives (λ e. cc e) (λ e. cc e))
memory-told file told (csv.NotText row) gives other = ap (told_of file) (gives (λ e. cc e) (λ e. cc e))
memory-told file told (csv.FieldCount row) gives other = ap (told_of file) (gives (λ e. cc e) (λ e. cc e))
memory-told file told (csv.BadName row column) gives other = ap (told_of file) (gives (λ e. cc e) (λ e. cc e))
memory-told file told (csv.BadWord row column) gives other = ap (told_of file) (gives (λ e. cc e) (λ e. cc e))

-- they give no rows
pub memory-gives : {A : Type 0} (file : ImportFile) (told : Result A CsvFault) (cause : CsvFault) (fault : Fault) → fault ≡ of_memory file cause
    → (cause ≢ csv.ReadFailed → cause ≢ csv.NoMemory → told ≡ Err cause) → (IsUnread file fault → ⊥) → told_of file told ≡ Err fault
memory-gives file told cause fault is gives = subst (λ (f : Fault). (IsUnread file f → ⊥) → told_of file told ≡ Err f) (sym is) (memory-told file told cause gives)

pub known-fault : {A : Type 0} (file : ImportFile) (read : List ℕ → Result A CsvFault) (known : Option (List ℕ)) (bytes found : List ℕ) (fault : Fault)
    → IfSome known (λ it. bytes ≡ it) → found ≡ bytes → ((IsUnread file fault → ⊥) → told_of file (read found) ≡ Err fault) → GivesFault file read known fault
known-fault file read None bytes found fault are same gives = tt
known-fault file read (Some known) bytes found fault are same gives =
    subst (λ (it : List ℕ). (IsUnread file fault → ⊥) → told_of file (read it) ≡ Err fault) (same ∙ are) gives

pub memory-of_file : (file : ImportFile) (cause : CsvFault) → IsOfFile file (of_memory file cause)
memory-of_file file csv.ReadFailed = (csv.NoMemory, refl)
memory-of_file file csv.NoMemory = (csv.NoMemory, refl)
memory-of_file file csv.TooLong = (csv.TooLong, refl)
memory-of_file file csv.Header = (csv.Header, refl)
memory-of_file file (csv.NotText row) = (csv.NotText row, refl)
memory-of_file file (csv.FieldCount row) = (csv.FieldCount row, refl)
memory-of_file file (csv.BadName row column) = (csv.BadName row column, refl)
memory-of_file file (csv.BadWord row column) = (csv.BadWord row column, refl)

pub memory-read : (file other : ImportFile) (cause : CsvFault) → of_memory file cause ≡ File other csv.ReadFailed → ⊥
memory-read file other csv.ReadFailed e = cc e
memory-read file other csv.NoMemory e = cc e
memory-read file other csv.TooLong e = cc e
memory-read file other csv.Header e = cc e
memory-read file other (csv.NotText row) e = cc e
memory-read file other (csv.FieldCount row) e = cc e
memory-read file other (csv.BadName row column) e = cc e
memory-read file other (csv.BadWord row column) e = cc e

-- a fault that is passed on is not another
pub none-cause : {T : Type 0} (P : Type 0) (fault wanted : Fault) (result : Result T Fault) → IsErrAnd result (λ cause. cause ≡ fault) → (fault ≡ wanted → ⊥)
    → IsErrOf result wanted → P
none-cause P fault wanted (Ok value) is other e = absurd is
none-cause P fault wanted (Err cause) is other e = let same : cause ≡ wanted = cc e in absurd (other (sym is ∙ same))

pub gives-passed : {A T : Type 0} (file : ImportFile) (read : List ℕ → Result (List A) CsvFault) (view : T → List A) (known : Option (List ℕ))
    (result : Result T Fault) (fault : Fault) → IsErrAnd result (λ cause. cause ≡ fault) → GivesFault file read known fault
    → IfSome known (λ bytes. GivesRows file view (told_of file (read bytes)) result)
gives-passed file read view known (Ok value) fault is gives = absurd is
gives-passed file read view known (Err cause) fault is gives = subst (λ (f : Fault). GivesFault file read known f) (sym is) gives

-- what was read of bytes, by the bytes that they are
pub read-as : {A : Type 0} (read : List ℕ → Result A CsvFault) (found bytes : List ℕ) (result : Result A CsvFault) → found ≡ bytes → read found ≡ result
    → read bytes ≡ result
read-as read found bytes result same is = subst (λ (it : List ℕ). read it ≡ result) same is

pub told-as : {A : Type 0} (file : ImportFile) (read : List ℕ → Result A CsvFault) (found bytes : List ℕ) (rows : A) → found ≡ bytes
    → told_of file (read found) ≡ Ok rows → told_of file (read bytes) ≡ Ok rows
told-as file read found bytes rows same is = subst (λ (it : List ℕ). told_of file (read it) ≡ Ok rows) same is

-- the bytes that are known
pub known-bytes : (known : Option (List ℕ)) (bytes : List ℕ) (P : List ℕ → Type 0) → IfSome known (λ it. (bytes ≡ it) × P it) → IfSome known (λ it. bytes ≡ it)
known-bytes None bytes P are = tt
known-bytes (Some it) bytes P are = are.0

-- bytes that are known give the rows
pub known-rows : {A : Type 0} (file : ImportFile) (read : List ℕ → Result (List A) CsvFault) (known : Option (List ℕ)) (bytes : List ℕ) (rows : List A)
    → IfSome known (λ it. bytes ≡ it) → told_of file (read bytes) ≡ Ok rows → IfSome known (λ it. told_of file (read it) ≡ Ok rows)
known-rows file read None bytes rows are gives = tt
known-rows file read (Some known) bytes rows are gives = subst (λ (it : List ℕ). told_of file (read it) ≡ Ok rows) are gives

-- ---- all three

module _ (s p e : Option (List ℕ)) (fault : Fault) where
  pub sections-fault : GivesFault Sections sections_of s fault → AreRead s p e (Err fault)
  sections-fault gives = by s p e gives
    where
      by : (s p e : Option (List ℕ)) → GivesFault Sections sections_of s fault → AreRead s p e (Err fault)
      by None p e gives = tt
      by (Some s) None e gives = tt
      by (Some s) (Some p) None gives = tt
      by (Some s) (Some p) (Some e) gives = λ other. let told = gives (λ unread. other (inl unread)) in rw told

  pub points-fault : (sections : List SectionRow) → IfSome s (λ bytes. told_of Sections (sections_of bytes) ≡ Ok sections)
      → GivesFault Points points_of p fault → AreRead s p e (Err fault)
  points-fault sections are gives = by s p e are gives
    where
      by : (s p e : Option (List ℕ)) → IfSome s (λ bytes. told_of Sections (sections_of bytes) ≡ Ok sections) → GivesFault Points points_of p fault → AreRead s p e (Err fault)
      by None p e are gives = tt
      by (Some s) None e are gives = tt
      by (Some s) (Some p) None are gives = tt
      by (Some s) (Some p) (Some e) are gives = λ other. let told = gives (λ unread. other (inr (inl unread))) in rw (are, told)

  pub staff-fault : (sections : List SectionRow) (points : List PointRow) → IfSome s (λ bytes. told_of Sections (sections_of bytes) ≡ Ok sections)
      → IfSome p (λ bytes. told_of Points (points_of bytes) ≡ Ok points) → GivesFault Staff staff_of e fault → AreRead s p e (Err fault)
  staff-fault sections points are too gives = by s p e are too gives
    where
      by : (s p e : Option (List ℕ)) → IfSome s (λ bytes. told_of Sections (sections_of bytes) ≡ Ok sections)
          → IfSome p (λ bytes. told_of Points (points_of bytes) ≡ Ok points) → GivesFault Staff staff_of e fault → AreRead s p e (Err fault)
      by None p e are too gives = tt
      by (Some s) None e are too gives = tt
      by (Some s) (Some p) None are too gives = tt
      by (Some s) (Some p) (Some e) are too gives = λ other. let told = gives (λ unread. other (inr (inr unread))) in rw (are, too, told)

pub all-rows : (s p e : Option (List ℕ)) (rows : FileRows) → IfSome s (λ bytes. told_of Sections (sections_of bytes) ≡ Ok rows.sections)
    → IfSome p (λ bytes. told_of Points (points_of bytes) ≡ Ok rows.points) → IfSome e (λ bytes. told_of Staff (staff_of bytes) ≡ Ok rows.staff)
    → AreRead s p e (Ok rows)
all-rows None p e rows sections points staff = tt
all-rows (Some s) None e rows sections points staff = tt
all-rows (Some s) (Some p) None rows sections points staff = tt
all-rows (Some s) (Some p) (Some e) rows sections points staff = rw (sections, points, staff)

pub texts-rows : (texts : Contents) (rows : FileRows) → told_of Sections (sections_of texts.sections) ≡ Ok rows.sections
    → told_of Points (points_of texts.points) ≡ Ok rows.points → told_of Staff (staff_of texts.staff) ≡ Ok rows.staff → rows_of texts ≡ Ok rows
texts-rows texts rows sections points staff = rw (sections, points, staff)

pub read-all : (at : AtPaths) (files : Files) (rows : FileRows) → IfSome (at.bytes files.sections.now) (λ bytes. told_of Sections (sections_of bytes) ≡ Ok rows.sections)
    → IfSome (at.bytes files.points.now) (λ bytes. told_of Points (points_of bytes) ≡ Ok rows.points)
    → IfSome (at.bytes files.staff.now) (λ bytes. told_of Staff (staff_of bytes) ≡ Ok rows.staff) → AreReadAt at files (Ok rows)
read-all at files rows sections points staff = record {
  rows = all-rows _ _ _ rows sections points staff;
  sections_cause = λ is. absurd (cc is);
  points_cause = λ is. absurd (cc is);
  staff_cause = λ is. absurd (cc is);
}

-- ---- the causes

of_file-other : (file other : ImportFile) (cause : CsvFault) → (file ≡ other → ⊥) → of_file file cause ≡ File other csv.ReadFailed → ⊥
of_file-other file other csv.NoMemory apart e = cc e
of_file-other file other csv.ReadFailed apart e = let same : file ≡ other = cc e in apart same
of_file-other file other csv.TooLong apart e = cc e
of_file-other file other csv.Header apart e = cc e
of_file-other file other (csv.NotText row) apart e = cc e
of_file-other file other (csv.FieldCount row) apart e = cc e
of_file-other file other (csv.BadName row column) apart e = cc e
of_file-other file other (csv.BadWord row column) apart e = cc e

no_cause : {T : Type 0} (P : Type 0) (file other : ImportFile) (fault : Fault) → (file ≡ other → ⊥) → IsOfFile file fault
    → IsErrOf {T = T} (Err fault) (File other csv.ReadFailed) → P
no_cause P file other fault apart (cause, is) e =
    let same : fault ≡ File other csv.ReadFailed = cc e in absurd (of_file-other file other cause apart (sym is ∙ same))

cause_as : {T U : Type 0} (P : Type 0) (fault wanted : Fault) → (IsErrOf {T = T} (Err fault) wanted → P) → IsErrOf {T = U} (Err fault) wanted → P
cause_as P fault wanted cause e = let same : fault ≡ wanted = cc e in cause (ap Err same)

module _ (at : AtPaths) (files : Files) (result : Result (Rows × Texts) Fault) (fault : Fault) where
  passed_as : IsErrAnd result (λ cause. cause ≡ fault) → AreReadAt at files (Err fault) → AreReadAt at files (rows_told result)
  passed_as is are = by result is
    where
      by : (result : Result (Rows × Texts) Fault) → IsErrAnd result (λ cause. cause ≡ fault) → AreReadAt at files (rows_told result)
      by (Ok value) is = absurd is
      by (Err cause) is = subst (λ (f : Fault). AreReadAt at files (Err f)) (sym is) are

  pub unread-sections : {T : Type 0} → IsErrAnd result (λ cause. cause ≡ fault) → GivesFault Sections sections_of (at.bytes files.sections.now) fault
      → IsOfFile Sections fault → (IsErrOf {T = T} (Err fault) (File Sections csv.ReadFailed) → at.fails files.sections.now) → AreReadAt at files (rows_told result)
  unread-sections is gives of cause = passed_as is (record {
    rows = sections-fault _ _ _ fault gives;
    sections_cause = cause_as _ fault _ cause;
    points_cause = no_cause _ Sections Points fault (λ e. cc e) of;
    staff_cause = no_cause _ Sections Staff fault (λ e. cc e) of;
  })

  pub unread-points : {T : Type 0} (sections : List SectionRow) → IsErrAnd result (λ cause. cause ≡ fault)
      → IfSome (at.bytes files.sections.now) (λ bytes. told_of Sections (sections_of bytes) ≡ Ok sections)
      → GivesFault Points points_of (at.bytes files.points.now) fault
      → IsOfFile Points fault → (IsErrOf {T = T} (Err fault) (File Points csv.ReadFailed) → at.fails files.points.now) → AreReadAt at files (rows_told result)
  unread-points sections is are gives of cause = passed_as is (record {
    rows = points-fault _ _ _ fault sections are gives;
    sections_cause = no_cause _ Points Sections fault (λ e. cc e) of;
    points_cause = cause_as _ fault _ cause;
    staff_cause = no_cause _ Points Staff fault (λ e. cc e) of;
  })

  pub unread-staff : {T : Type 0} (sections : List SectionRow) (points : List PointRow) → IsErrAnd result (λ cause. cause ≡ fault)
      → IfSome (at.bytes files.sections.now) (λ bytes. told_of Sections (sections_of bytes) ≡ Ok sections)
      → IfSome (at.bytes files.points.now) (λ bytes. told_of Points (points_of bytes) ≡ Ok points)
      → GivesFault Staff staff_of (at.bytes files.staff.now) fault
      → IsOfFile Staff fault → (IsErrOf {T = T} (Err fault) (File Staff csv.ReadFailed) → at.fails files.staff.now) → AreReadAt at files (rows_told result)
  unread-staff sections points is are too gives of cause = passed_as is (record {
    rows = staff-fault _ _ _ fault sections points are too gives;
    sections_cause = no_cause _ Staff Sections fault (λ e. cc e) of;
    points_cause = no_cause _ Staff Points fault (λ e. cc e) of;
    staff_cause = cause_as _ fault _ cause;
  })
