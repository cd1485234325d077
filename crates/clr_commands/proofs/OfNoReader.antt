-- What is answered of rows is no fault of a file or of standard input.
use Rattle.std.proofs.Common.{◌≡◌, ◌∙◌, ap, inl, inr, refl, sym, subst, Bool, true, false, List, [], ◌∷◌, ℕ, Result, Ok, Err}
use Rattle.std.specs.Prelude.{◌≢◌, Option, Some, None, if◌then◌else◌, IfErr, IfSome, IsErrAnd, option_map}
use Rattle.clr_net.specs.Grid.{Grid, point_names, section_names}
use Rattle.clr_net.specs.Names.{has_name}
use Rattle.clr_net.specs.NameText.{read_name}
use Rattle.clr_net.specs.Network as network
use Rattle.clr_net.specs.declared.section.SectionRow.{SectionRow}
use Rattle.clr_net.specs.declared.point.PointRow.{PointRow}
use Rattle.clr_net.specs.declared.name.NameFault.{NameFault}
use Rattle.clr_net.specs.declared.name.NameFault.TheVariants as name
use Rattle.clr_net.specs.declared.net_fault.NetFault.{NetFault}
use Rattle.clr_net.specs.declared.net_fault.NetFault.TheVariants as net
use Rattle.clr_staff.specs.Staff as staff
use Rattle.clr_csv.specs.declared.fault.CsvFault.{CsvFault}
use Rattle.clr_staff.specs.declared.staff_fault.StaffFault.{StaffFault}
use Rattle.clr_staff.specs.declared.staff_fault.StaffFault.TheVariants as staff_fault
use Rattle.clr_net.specs.Results.{◌>>=◌}
use Rattle.clr_edge.specs.Answers.{unless}
use Rattle.clr_edge.specs.Fault.{of_file, of_network, of_staff}
use Rattle.clr_commands.specs.Fence.{IsFenceOf, argument, fence_lines, name_among, point_named, points_named, section_named}
use Rattle.clr_edge.specs.declared.fault.Fault.{Fault}
use Rattle.clr_edge.specs.declared.fault.Fault.TheVariants.{File, Input, Memory, UnknownPoint, UnknownSection}
use Rattle.clr_edge.specs.declared.fault.Fault.TheVariants as found
use Rattle.clr_edge.specs.Files.{HasCause}
use Rattle.clr_commands.specs.Import.{FileRows, IsOfAnyFile}
use Rattle.clr_commands.specs.Run.{rows_fault}
use Rattle.clr_csv.specs.declared.fault.CsvFault.TheVariants.{ReadFailed}
use Rattle.clr_csv.specs.declared.fault.CsvFault.TheVariants as csv
use Rattle.clr_edge.specs.declared.fault.InputFault.TheVariants as input
use Rattle.clr_edge.specs.declared.fault.ImportFile.{ImportFile}

abbrev pub is_of_reader : Fault → Bool
is_of_reader (File file cause) = true
is_of_reader (Input cause) = true
is_of_reader cause = false

-- the answer is no fault of a file or of standard input
abbrev pub IsOfNoReader : {A : Type 0} → Result A Fault → Type 0
IsOfNoReader result = IfErr result (λ fault. is_of_reader fault ≡ false)

pub of_network-no_reader : (cause : NetFault) → is_of_reader (of_network cause) ≡ false
of_network-no_reader net.NoSections = refl
of_network-no_reader net.TooLarge = refl
of_network-no_reader (net.SectionTwice row) = refl
of_network-no_reader (net.PointTwice row) = refl
of_network-no_reader (net.UnknownEnd row) = refl
of_network-no_reader (net.SameEnds row) = refl
of_network-no_reader net.NoMemory = refl

argument-no_reader : (read : Result (List ℕ) NameFault) → IsOfNoReader (argument read)
argument-no_reader (Ok text) = tt
argument-no_reader (Err name.Empty) = refl
argument-no_reader (Err name.TooLong) = refl
argument-no_reader (Err (name.BadByte place)) = refl
argument-no_reader (Err name.NoMemory) = refl

then-no_reader : {A B : Type 0} (step : Result A Fault) (next : A → Result B Fault) → IsOfNoReader step
    → ((value : A) → IsOfNoReader (next value)) → IsOfNoReader (step >>= next)
then-no_reader (Ok value) next first rest = rest value
then-no_reader (Err fault) next first rest = first

section_named-no_reader : (g : Grid) (word : List ℕ) → IsOfNoReader (section_named g word)
section_named-no_reader g word = then-no_reader (argument (read_name word)) (name_among (section_names g.sections) UnknownSection)
    (argument-no_reader (read_name word)) (λ n. by (has_name (section_names g.sections) n) n)
  where
    by : (is_known : Bool) (n : List ℕ) → IsOfNoReader {A = List ℕ} (if is_known then Ok n else Err (UnknownSection n))
    by true n = tt
    by false n = refl

point_named-no_reader : (g : Grid) (word : List ℕ) → IsOfNoReader (point_named g word)
point_named-no_reader g word = then-no_reader (argument (read_name word)) (name_among (point_names g.points) UnknownPoint)
    (argument-no_reader (read_name word)) (λ n. by (has_name (point_names g.points) n) n)
  where
    by : (is_known : Bool) (n : List ℕ) → IsOfNoReader {A = List ℕ} (if is_known then Ok n else Err (UnknownPoint n))
    by true n = tt
    by false n = refl

points_named-no_reader : (g : Grid) (words : List (List ℕ)) → IsOfNoReader (points_named g words)
unfolding points_named
points_named-no_reader g [] = tt
points_named-no_reader g (word ∷ words) =
    then-no_reader (point_named g word) (λ n. points_named g words >>= (λ more. Ok (n ∷ more))) (point_named-no_reader g word)
    (λ n. then-no_reader (points_named g words) (λ more. Ok (n ∷ more)) (points_named-no_reader g words) (λ more. tt))

fence_lines-no_reader : (g : Grid) (work : List ℕ) (cut : List (List ℕ)) → IsOfNoReader (fence_lines g work cut)
fence_lines-no_reader g work cut =
    then-no_reader (section_named g work) _ (section_named-no_reader g work)
    (λ section. then-no_reader (points_named g cut) _ (points_named-no_reader g cut) (λ points. tt))

is_fence-no_reader : (first : Option NetFault) (sections : List SectionRow) (points : List PointRow) (work : List ℕ) (cut : List (List ℕ))
    (told : Result (List ℕ) Fault) → IsFenceOf first sections points work cut told → IsOfNoReader told
is_fence-no_reader None sections points work cut told (g, is, e) =
    let P : Result (List ℕ) Fault → Type 0 = λ r. IsOfNoReader r in subst P (sym e) (fence_lines-no_reader g work cut)
is_fence-no_reader (Some cause) sections points work cut told e =
    let P : Result (List ℕ) Fault → Type 0 = λ r. IsOfNoReader r in subst P (sym e) (of_network-no_reader cause)

-- a fault of no file is not this one
no_reader-absurd : (fault : Fault) (file : ImportFile) (cause : CsvFault) → is_of_reader fault ≡ false
    → fault ≡ File file cause → ⊥
no_reader-absurd fault file cause none e = cc (sym none ∙ ap is_of_reader e)

no_reader-from_rows : (fault : Fault) (sections : List SectionRow) (points : List PointRow) (work : List ℕ) (cut : List (List ℕ))
    → (fault ≢ Memory → IsFenceOf (network.first_fault sections points) sections points work cut (Err fault)) → is_of_reader fault ≡ false
no_reader-from_rows Memory sections points work cut told = refl
no_reader-from_rows (File file cause) sections points work cut told =
    is_fence-no_reader _ sections points work cut (Err (File file cause)) (told (λ e. cc e))
no_reader-from_rows (found.Network cause) sections points work cut told = refl
no_reader-from_rows (found.Staff cause) sections points work cut told = refl
no_reader-from_rows (found.UnknownEmployee row) sections points work cut told = refl
no_reader-from_rows (found.Name cause) sections points work cut told = refl
no_reader-from_rows (found.UnknownSection section) sections points work cut told = refl
no_reader-from_rows (found.UnknownPoint point) sections points work cut told = refl
no_reader-from_rows (Input cause) sections points work cut told =
    is_fence-no_reader _ sections points work cut (Err (Input cause)) (told (λ e. cc e))
no_reader-from_rows (found.Store cause) sections points work cut told = refl
no_reader-from_rows (found.Journal cause) sections points work cut told = refl
no_reader-from_rows (found.Verify cause) sections points work cut told = refl
no_reader-from_rows (found.Update obstacle) sections points work cut told = refl
no_reader-from_rows found.NoSuch sections points work cut told = refl
no_reader-from_rows found.NoWay sections points work cut told = refl
no_reader-from_rows found.Output sections points work cut told = refl
no_reader-from_rows found.Listen sections points work cut told = refl
no_reader-from_rows found.Accept sections points work cut told = refl
no_reader-from_rows (found.SameFile file) sections points work cut told = refl

fault_in : {T : Type 0} → Fault → Result T Fault → Fault
fault_in other (Ok value) = other
fault_in other (Err fault) = fault

-- a fault of no reader reports no file as unread
pub HasCause-none : {T : Type 0} (fault : Fault) (file : ImportFile) (result : Result T Fault) (before after : ℕ)
    → is_of_reader fault ≡ false → IsErrAnd result (λ cause. cause ≡ fault) → HasCause file result before after
unfolding fault_in
HasCause-none fault file (Ok value) before after none is = absurd is
HasCause-none fault file (Err cause) before after none is =
    λ e. absurd (no_reader-absurd fault file ReadFailed none (sym is ∙ ap (fault_in cause) e))

-- the answer of rows reports no file as unread
pub HasCause-rows : {T : Type 0} (fault : Fault) (sections : List SectionRow) (points : List PointRow) (work : List ℕ) (cut : List (List ℕ))
    (file : ImportFile) (result : Result T Fault) (before after : ℕ)
    → (fault ≢ Memory → IsFenceOf (network.first_fault sections points) sections points work cut (Err fault))
    → IsErrAnd result (λ cause. cause ≡ fault) → HasCause file result before after
HasCause-rows fault sections points work cut file result before after told is =
    HasCause-none fault file result before after (no_reader-from_rows fault sections points work cut told) is

-- the faults of a network and of a staff
of_staff-no_reader : (cause : StaffFault) → is_of_reader (of_staff cause) ≡ false
of_staff-no_reader (staff_fault.Twice row) = refl
of_staff-no_reader (staff_fault.UnknownSupervisor row) = refl
of_staff-no_reader (staff_fault.OwnSupervisor row) = refl
of_staff-no_reader staff_fault.TooMany = refl
of_staff-no_reader staff_fault.NoMemory = refl

network-no_reader : (first : Option NetFault) → IfSome (option_map of_network first) (λ fault. is_of_reader fault ≡ false)
network-no_reader None = tt
network-no_reader (Some cause) = of_network-no_reader cause

staff-no_reader : (first : Option StaffFault) → IfSome (option_map of_staff first) (λ fault. is_of_reader fault ≡ false)
staff-no_reader None = tt
staff-no_reader (Some cause) = of_staff-no_reader cause

unless-no_reader : {A : Type 0} (first : Option Fault) (rest : Result A Fault) → IfSome first (λ fault. is_of_reader fault ≡ false)
    → IsOfNoReader rest → IsOfNoReader (unless first rest)
unless-no_reader None rest none others = others
unless-no_reader (Some fault) rest none others = none

-- a fault of the rows of three files is none of the input
pub rows_fault-no_input : (rows : FileRows) (fault : Fault) → (fault ≢ Memory → rows_fault rows ≡ Err fault) → fault ≡ Input input.ReadFailed → ⊥
rows_fault-no_input rows fault is e =
    let other : fault ≢ Memory = λ m. cc (sym e ∙ m) in
    let none : IsOfNoReader (rows_fault rows) =
    unless-no_reader (option_map of_network (network.first_fault rows.sections rows.points)) _ (network-no_reader (network.first_fault rows.sections rows.points))
    (unless-no_reader (option_map of_staff (staff.first_fault rows.staff)) _ (staff-no_reader (staff.first_fault rows.staff)) tt) in
    let no : is_of_reader fault ≡ false = subst (λ (r : Result (Unit {0}) Fault). IsOfNoReader r) (is other) none in
    cc (sym no ∙ ap is_of_reader e)

-- nor is one of a file
file-no_input : (file : ImportFile) (cause : CsvFault) (fault : Fault) → fault ≡ of_file file cause → fault ≡ Input input.ReadFailed → ⊥
file-no_input file csv.ReadFailed fault is e = cc (sym is ∙ e)
file-no_input file csv.TooLong fault is e = cc (sym is ∙ e)
file-no_input file csv.Header fault is e = cc (sym is ∙ e)
file-no_input file (csv.NotText row) fault is e = cc (sym is ∙ e)
file-no_input file (csv.FieldCount row) fault is e = cc (sym is ∙ e)
file-no_input file (csv.BadName row column) fault is e = cc (sym is ∙ e)
file-no_input file (csv.BadWord row column) fault is e = cc (sym is ∙ e)
file-no_input file csv.NoMemory fault is e = cc (sym is ∙ e)

pub any_file-no_input : (fault : Fault) → IsOfAnyFile fault → fault ≡ Input input.ReadFailed → ⊥
any_file-no_input fault (inl (cause, is)) e = file-no_input _ cause fault is e
any_file-no_input fault (inr (inl (cause, is))) e = file-no_input _ cause fault is e
any_file-no_input fault (inr (inr (cause, is))) e = file-no_input _ cause fault is e
