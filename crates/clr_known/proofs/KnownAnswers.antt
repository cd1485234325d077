-- What `migrate`, `run` and `init` answer of a machine of which this much is known.
use Rattle.std.proofs.Common.{◌≡◌, ◌∙◌, ℕ, ap, inl, inr, refl, subst, sym, List, Option, Some, Result, Ok, Err}
use Rattle.std.specs.Borrow.{Bor}
use Rattle.std.specs.Fmt.{digits}
use Rattle.std.specs.Prelude.{◌⊎◌, IfErr, IfOk, IfSome, IsErrAnd, None, OnOk, String, string_bytes}
use Rattle.std.specs.Result.{result_and}
use Rattle.std.specs.declared.alloc.Global.{Global}
use Rattle.sqlite.specs.Held.{Held, state}
use Rattle.sqlite_trees.specs.declared.store.Store.{Ghosts}
use Rattle.clr_net.specs.Grid.{Grid}
use Rattle.clr_net.specs.declared.point.PointRow.{PointRow}
use Rattle.clr_net.specs.declared.section.SectionRow.{SectionRow}
use Rattle.clr_staff.specs.declared.employee.StaffRow.{StaffRow}
use Rattle.clr_rules.specs.Register.{Register, opening}
use Rattle.clr_examples.specs.Worked.{worked_net, worked_opening}
use Rattle.clr_desk.specs.Faults.{FailsAsStore}
use Rattle.clr_load.specs.Stored.{HasTables}
use Rattle.clr_load.specs.Tables.{tables_of}
use Rattle.clr_csv.specs.declared.fault.CsvFault.{CsvFault}
use Rattle.clr_net.specs.Results.{◌>>=◌}
use Rattle.clr_edge.specs.Answers.{After}
use Rattle.clr_edge.specs.Files.{told_of}
use Rattle.clr_edge.specs.declared.fault.ImportFile.TheVariants.{Points, Sections, Staff}
use Rattle.clr_edge.specs.Database.{HasRegister, IsDatabaseFault, IsMade, IsOfStore}
use Rattle.clr_keeping.specs.Keeping.{IsNotReadAlone, Works, plain_keeper, unlogged}
use Rattle.clr_keeping.specs.TakenUp.{Logs}
use Rattle.clr_edge.specs.Visit.{Alone, Closed, Comes, Done, Ending, MakesRegister, MovesRegister, Opening, Shutting, Visits, reported}
use Rattle.clr_edge.specs.declared.fault.DatabaseFault.TheVariants.{NoMemory}
use Rattle.clr_edge.specs.declared.fault.Fault.{Fault}
use Rattle.clr_edge.specs.declared.fault.Fault.TheVariants.{Journal, Memory}
use Rattle.clr_edge.specs.declared.fault.JournalFault.TheVariants.{Missing}
use Rattle.clr_commands.specs.Answers.{Gives}
use Rattle.clr_commands.specs.Import.{AreRead, Contents, FileRows, IsUnreadFile, rows_of}
use Rattle.clr_commands.specs.Init.{Stores, counts_of}
use Rattle.clr_commands.specs.Migrate.{Migrates, PrintsMoved}
use Rattle.clr_commands.specs.Replies.{AnswersInput}
use Rattle.clr_commands.specs.Run.{IsOfInput, IsOpeningOf, RunsAlone, RunsOver, printed_after}
use Rattle.clr_commands.specs.declared.replies.Printed.{Printed}
use Rattle.clr_known.specs.Known.{IsAlwaysClean, IsRunOfJones, IsVersionTwo, KnowsJones, StoresWorked}
use Rattle.clr_known.specs.Known.{jones_register, point_file, section_file, staff_file, worked_counts}
use Rattle.clr_edge.proofs.Databases.{IsOfStore-of, IsOfStore-of_database, first_fault-of, visits-as}
use Rattle.clr_known.proofs.WorkedRows.{file_sections, file_staff, is_worked_net, is_worked_staff, points_read, sections_read, staff_read}

-- the rows of the three files
abbrev pub worked_rows : FileRows
worked_rows = record { sections = file_sections; points = Grid.points worked_net; staff = file_staff }

abbrev pub worked_files : Contents
worked_files = record { sections = section_file; points = point_file; staff = staff_file }

abbrev rows_with : Result (List SectionRow) CsvFault → Result (List PointRow) CsvFault → Result (List StaffRow) CsvFault → Result FileRows Fault
rows_with s p e = do
  sections ← told_of Sections s
  points ← told_of Points p
  staff ← told_of Staff e
  Ok (record { sections = sections; points = points; staff = staff })

pub rows_read : rows_of worked_files ≡ Ok worked_rows
rows_read = λ i. rows_with (sections_read i) (points_read i) (staff_read i)

pub counts_known : counts_of worked_rows ≡ Ok worked_counts
unfolding digits
counts_known = refl

-- the line of counts, where the rows are a network and a staff
counts_given : (text : List ℕ) → counts_of worked_rows ≡ Ok text → text ≡ worked_counts
counts_given text counts = cc (sym counts ∙ counts_known)

pub opening_given : (R : Register) → IsOpeningOf worked_rows R → R ≡ worked_opening
opening_given R is =
    is.register ∙ (λ i. opening (is_worked_net is.net is.is_network i) (is_worked_staff is.team is.is_staff i))

printed_moved : (moved : Done) (result : Result (String Global) Fault) → IfErr moved IsDatabaseFault → PrintsMoved moved result → IsVersionTwo result
printed_moved moved (Ok text) of prints = prints.1
printed_moved moved (Err fault) of prints = subst (λ (d : Done). IfErr d IsDatabaseFault) prints of

-- memory may run out before the move
without_memory : (result : Result (String Global) Fault) → result ≡ Err Memory → IsVersionTwo result
without_memory result is = subst (λ (r : Result (String Global) Fault). IsVersionTwo r) (sym is) (NoMemory, refl)

-- what was printed stays, however its database was closed
still_given : (input : List ℕ) (printed : Result Printed Fault) (closed : Closed) → IsRunOfJones input printed
    → IsRunOfJones input (printed_after printed closed)
still_given input (Ok printed) closed runs = runs
still_given input (Err fault) closed runs = runs

-- why a register is not taken up
database_of_store : (fault : Fault) → IsDatabaseFault fault → IsOfStore fault
database_of_store fault (cause, is) = subst (λ (f : Fault). IsOfStore f) (sym is) (IsOfStore-of_database cause)

-- what is read of files that are the worked ones
pub known_read : (s p e : Option (List ℕ)) → s ≡ Some section_file → p ≡ Some point_file → e ≡ Some staff_file
    → (read : Result FileRows Fault) → AreRead s p e read → Gives IsUnreadFile (λ rows. rows) (rows_of worked_files) read
known_read s p e sections points staff read are =
    subst (λ (e : Option (List ℕ)). AreRead (Some section_file) (Some point_file) e read) staff
    (subst (λ (p : Option (List ℕ)). AreRead (Some section_file) p e read) points
    (subst (λ (s : Option (List ℕ)). AreRead s p e read) sections are))

module _ {T : Type 0} (g : Ghosts T) (clean : IsAlwaysClean g) where
  -- a register that was made is that of the worked network
  tables_told : (told closed : Closed) (after : Held T) (R : Register) → R ≡ worked_opening → reported (result_and told closed) ≡ Ok tt
      → OnOk told (HasTables (state g after).now (tables_of R)) → HasTables (state g after).now (tables_of worked_opening)
  tables_told (Ok value) closed after R is whole made = subst (λ (S : Register). HasTables (state g after).now (tables_of S)) is made
  tables_told (Err cause) closed after R is whole made = absurd (cc whole)

  made_clean : (told : Closed) (before after : Held T) (R : Register) → OnOk told (IsMade g before R after)
      → OnOk told (HasTables (state g after).now (tables_of R))
  made_clean (Ok value) before after R made = made.tables (clean after)
  made_clean (Err cause) before after R made = tt

  tables_made : (R : Register) (before after : Held T) (stored : Done) (closed : Closed) → R ≡ worked_opening → stored ≡ Ok tt
      → MakesRegister g R stored before after closed → HasTables (state g after).now (tables_of worked_opening)
  tables_made R before after stored closed is ok makes =
      tables_told makes.told closed after R is (sym makes.result_is ∙ ok) (made_clean makes.told before after R makes.made)

  module _ {M : Type 0} (opens : Opening M T) (shuts : Shutting M) (ends : Ending M T) where
    -- the tables were moved, or why not
    pub move_given : KnowsJones g opens → (path : List ℕ) (result : Result (String Global) Fault) (old new : M)
        → Migrates (Comes opens shuts ends path (Alone (MovesRegister g))) result old new → IsVersionTwo result
    move_given knows path result old new (inl (is, same)) = without_memory result is
    move_given knows path result old new (inr (moved, prints, inl (cause, is, shut))) =
        printed_moved moved result (subst (λ (d : Done). IfErr d IsDatabaseFault) (sym is) (cause, refl)) prints
    move_given knows path result old new (inr (moved, prints, inr visit)) =
        let moves = visit.does.1 in
        printed_moved moved result
        (first_fault-of moves.told visit.closed moved (λ fault. IsDatabaseFault fault) moves.result_is
        (moves.known jones_register (knows _ _ _ _ visit.opened) (clean visit.after)) (λ cause. (cause, refl))) prints

    not_taken_up : (input : List ℕ) (before after : Held T) (fault : Fault) → HasRegister g jones_register before
        → IsNotReadAlone g before fault after → IsOfStore fault ⊎ (fault ≡ Journal Missing) ⊎ IsOfInput (Some input) fault
    not_taken_up input before after fault has (inl refused) = inl (database_of_store fault (refused.known _ has (clean after)))
    not_taken_up input before after fault has (inr (inl unplaced)) =
        inl (IsOfStore-of unplaced.lacks.cause fault unplaced.lacks.fault_is)
    not_taken_up input before after fault has (inr (inr misses)) = inr (inl misses.fault_is)

    ran_given : (input : List ℕ) (printed : Result Printed Fault) (old new : M) (before after : Held T) → HasRegister g jones_register before
        → (IsErrAnd printed (λ fault. (new ≡ old) × IsNotReadAlone g before fault after) × Unit {0})
        ⊎ Works (unlogged g) (RunsAlone (Some input) (Held T) (plain_keeper g) printed) old new before after → IsRunOfJones input printed
    ran_given input (Ok printed) old new before after has (inl refused) = absurd refused.0
    ran_given input (Err fault) old new before after has (inl refused) = not_taken_up input before after fault has refused.0.1
    ran_given input (Err fault) old new before after has (inr it) = inr (inr it.did.1.answer)
    ran_given input (Ok printed) old new before after has (inr it) =
        let (bytes, is_input, answers, put) = it.did.1.answer in (
          it.left.book.register,
          answers.told,
          printed,
          subst (λ (S : Register). AnswersInput FailsAsStore S it.left.book.register input answers.told printed) (it.taken_up.1.0.is_register _ has (clean it.taken.store))
              (subst (λ (b : List ℕ). AnswersInput FailsAsStore it.taken.book.register it.left.book.register b answers.told printed) is_input.0 answers.run),
          refl,
        )

    -- the input was answered over the register, as far as its bytes are known
    pub run_given : {J C : Type 0} (logs : Logs M J C) → KnowsJones g opens → (path : List ℕ) (input : Option (List ℕ)) (result : Result Printed Fault) (old new : M)
        → Comes opens shuts ends path (RunsOver logs g None input) result old new
        → IfSome input (λ bytes. IsRunOfJones bytes result)
    run_given logs knows path None result old new comes = tt
    run_given logs knows path (Some bytes) result old new (inl (cause, is, shut)) =
        subst (λ (r : Result Printed Fault). IsRunOfJones bytes r) (sym is) (inl (IsOfStore-of_database cause))
    run_given logs knows path (Some bytes) result old new (inr visit) =
        let runs = visit.does in
        subst (λ (r : Result Printed Fault). IsRunOfJones bytes r) (sym runs.result_is)
        (still_given bytes runs.told visit.closed
        (ran_given bytes runs.told visit.middle visit.later visit.before visit.after (knows _ _ _ _ visit.opened) runs.works))

    stored_given : (path : List ℕ) (R : Register) (stored : Done) (old new : M) → R ≡ worked_opening → stored ≡ Ok tt
        → Comes opens shuts ends path (Alone (MakesRegister g R)) stored old new
        → Visits opens ends path (λ (middle : M) before after (closed : Closed) (later : M).
        HasTables (state g after).now (tables_of worked_opening)) old new
    stored_given path R stored old new is ok (inl (cause, failed, shut)) = absurd (cc (sym ok ∙ failed))
    stored_given path R stored old new is ok (inr visit) =
        visits-as opens ends path _ _ old new (λ middle before after closed later opened it. tables_made R before after stored closed is ok it.1) visit

    rows_stored : (path : List ℕ) (rows : FileRows) (result : Result (String Global) Fault) (old new : M) → worked_rows ≡ rows
        → Stores (λ R. Comes opens shuts ends path (Alone (MakesRegister g R))) rows result old new
        → StoresWorked g opens ends path result old new
    rows_stored path rows (Err fault) old new is stores = tt
    rows_stored path rows (Ok text) old new is (inl (refuses, same)) = absurd refuses
    rows_stored path rows (Ok text) old new is (inr (R, opening_of, stored, (ok, counts), comes)) = (
      counts_given (string_bytes text) (subst (λ (r : FileRows). counts_of r ≡ Ok (string_bytes text)) (sym is) counts),
      stored_given path R stored old new (opening_given R (subst (λ (r : FileRows). IsOpeningOf r R) (sym is) opening_of)) ok comes,
    )

    -- the register of the worked files was stored
    pub read_given : (path : List ℕ) (read : Result FileRows Fault) (result : Result (String Global) Fault) (old new : M)
        → Gives IsUnreadFile (λ rows. rows) (rows_of worked_files) read
        → After read (λ rows result. Stores (λ R. Comes opens shuts ends path (Alone (MakesRegister g R))) rows result old new) result
        → StoresWorked g opens ends path result old new
    read_given path (Ok rows) result old new gives stores = rows_stored path rows result old new (cc (sym rows_read ∙ gives)) stores
    read_given path (Err fault) result old new gives is =
        subst (λ (r : Result (String Global) Fault). StoresWorked g opens ends path r old new) (sym is) tt

-- the line of counts, wherever the register was stored
pub counted : {M T : Type 0} (g : Ghosts T) (makes : Opening M T) (ends : Ending M T) (path : List ℕ)
    (result : Result (String Global) Fault) (old new : M) → StoresWorked g makes ends path result old new
    → IfOk result (λ text. string_bytes text ≡ worked_counts)
counted g makes ends path (Ok text) old new stores = stores.0
counted g makes ends path (Err fault) old new stores = tt
