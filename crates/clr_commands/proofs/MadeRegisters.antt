-- What is answered of the rows of three files, and the register that `init` makes of them.
use Rattle.std.proofs.Common.{◌≡◌, ◌≢◌, ◌∙◌, ap, inl, inr, length, refl, subst, sym, ℕ, List, Result, Ok, Err}
use Rattle.std.specs.Prelude.{Some, None, IsErrAnd, Option, String}
use Rattle.std.specs.Borrow.{Bor}
use Rattle.std.specs.declared.alloc.Global.{Global}
use Rattle.clr_net.specs.Grid.{Grid}
use Rattle.clr_net.specs.Network as network
use Rattle.clr_staff.specs.Staff as staff
use Rattle.clr_staff.specs.declared.employee.StaffRow.{StaffRow}
use Rattle.clr_rules.specs.Register.{Register, opening}
use Rattle.clr_args.specs.declared.asked.Files.{Files}
use Rattle.clr_args.specs.declared.asked.InitArgs.{InitArgs}
use Rattle.clr_args.specs.declared.asked.StoredArgs.{StoredArgs}
use Rattle.clr_rules.specs.declared.place.Place.{Place}
use Rattle.clr_keeping.specs.Beginning.{BeginsFirst, IsOfBegun}
use Rattle.clr_keeping.specs.TakenUp.{Logs}
use Rattle.clr_edge.specs.Visit.{Done}
use Rattle.clr_edge.specs.declared.fault.Fault.{Fault}
use Rattle.clr_edge.specs.declared.fault.Fault.TheVariants.{Memory}
use Rattle.clr_commands.specs.Answers.{Answers, GivesText, IsMemory}
use Rattle.clr_commands.specs.First.{files_of, first_place, made_at}
use Rattle.clr_commands.specs.Import.{AnswersFiles, AreReadAt, Contents, FileRows, lists_of}
use Rattle.clr_commands.specs.Init.{InitsAt, InitsIn, InitsInto, InitsRows, IsBuilt, MakingAt, PrintsStored, RefusesRows, StoresWith, WithJournal, counts_line, counts_of}
use Rattle.clr_edge.specs.Paths.{AtPaths}
use Rattle.clr_commands.specs.Run.{IsOpeningOf, IsRunOf, rows_fault}
use Rattle.clr_commands.specs.declared.import.Rows.{Rows}
use Rattle.clr_commands.specs.declared.replies.Printed.{Printed}

-- the rows were read
pub AnswersFiles-rows : {T : Type 0} (at : AtPaths) (files : Files) (Nothing : Type 0) (Is : FileRows → Result T Fault → Type 0) (result : Result T Fault)
    (rows : Rows) → AreReadAt at files (Ok (lists_of rows)) → Is (lists_of rows) result → AnswersFiles at files Nothing Is result
AnswersFiles-rows at files Nothing Is result rows are is = record { read = Ok (lists_of rows); are_read = are; answer = is; nothing = tt }

-- they were not
pub AnswersFiles-fault : {T : Type 0} (at : AtPaths) (files : Files) (Nothing : Type 0) (Is : FileRows → Result T Fault → Type 0) (result : Result T Fault)
    (fault : Fault) → AreReadAt at files (Err fault) → IsErrAnd result (λ cause. cause ≡ fault) → Nothing → AnswersFiles at files Nothing Is result
AnswersFiles-fault at files Nothing Is (Ok value) fault are is nothing = absurd is
AnswersFiles-fault at files Nothing Is (Err cause) fault are is nothing =
    record { read = Err fault; are_read = are; answer = ap Err is; nothing = nothing }

-- what is asked for: no register, one without a journal, one with a journal
module _ {M : Type 0} (at : AtPaths) (Comes : List ℕ → Register → Done → M → M → Type 0) (With : WithJournal M) (args : InitArgs)
    (result : Result (String Global) Fault) (old new : M) where
  pub InitsAt-counted : args.stored ≡ None → AnswersFiles at args.files (new ≡ old) (InitsRows Comes None old new) result → InitsAt at Comes With args result old new
  InitsAt-counted none answers = subst (λ (it : Option StoredArgs). InitsIn at Comes With args.files it result old new) (sym none) answers

  pub InitsAt-stored : (stored : StoredArgs) → args.stored ≡ Some stored → InitsInto at Comes With args.files stored.database.now stored.journal result old new
      → InitsAt at Comes With args result old new
  InitsAt-stored stored some inits = subst (λ (it : Option StoredArgs). InitsIn at Comes With args.files it result old new) (sym some) inits

module _ {M : Type 0} (at : AtPaths) (Comes : List ℕ → Register → Done → M → M → Type 0) (With : WithJournal M) (files : Files) (database : List ℕ)
    (journal : Option (Bor (List ℕ))) (result : Result (String Global) Fault) (old new : M) where
  pub InitsInto-plain : journal ≡ None → AnswersFiles at files (new ≡ old) (InitsRows Comes (Some database) old new) result
      → InitsInto at Comes With files database journal result old new
  InitsInto-plain none answers = subst (λ (it : Option (Bor (List ℕ))). InitsInto at Comes With files database it result old new) (sym none) answers

  pub InitsInto-logged : (path : Bor (List ℕ)) → journal ≡ Some path → With at files database path.now result old new
      → InitsInto at Comes With files database journal result old new
  InitsInto-logged path some inits = subst (λ (it : Option (Bor (List ℕ))). InitsInto at Comes With files database it result old new) (sym some) inits

-- rows of which no register is stored
pub RefusesRows-fault : {T : Type 0} (rows : FileRows) (result : Result T Fault) (fault : Fault) → IsErrAnd result (λ cause. cause ≡ fault)
    → (fault ≢ Memory → rows_fault rows ≡ Err fault) → IsErrAnd result (RefusesRows rows)
RefusesRows-fault rows (Ok text) fault is told = absurd is
RefusesRows-fault rows (Err cause) fault is told = subst (λ (f : Fault). f ≢ Memory → rows_fault rows ≡ Err f) (sym is) told

-- nor where memory ran out before
pub RefusesRows-memory : {T : Type 0} (rows : FileRows) (result : Result T Fault) → IsErrAnd result (λ cause. cause ≡ Memory) → IsErrAnd result (RefusesRows rows)
RefusesRows-memory rows result is = RefusesRows-fault rows result Memory is (λ other. absurd (other refl))

-- the line of counts of a network and a staff
pub counts_of-rows : (rows : FileRows) (text : List ℕ) (sections points employees : ℕ) → network.first_fault rows.sections rows.points ≡ None
    → staff.first_fault rows.staff ≡ None → sections ≡ length rows.sections → points ≡ length rows.points → employees ≡ length rows.staff
    → text ≡ counts_line sections points employees → counts_of rows ≡ Ok text
counts_of-rows rows text sections points employees net team s p e line =
    let same : text ≡ counts_line (length rows.sections) (length rows.points) (length rows.staff) = line ∙ (λ i. counts_line (s i) (p i) (e i)) in
    rw (net, team) (ap Ok (sym same))

-- the opening register of rows that were built
pub IsOpeningOf-built : (rows : FileRows) (net : Grid) (team : List StaffRow) (line : List ℕ) → IsBuilt rows net team line → IsOpeningOf rows (opening net team)
IsOpeningOf-built rows net team line built =
    record { net = net; team = team; is_network = built.is_network; is_staff = built.is_staff; register = refl }

-- the fault of rows is that of their counts
pub counts_of-fault : (rows : FileRows) (result : Result (String Global) Fault) (fault : Fault) → IsErrAnd result (λ cause. cause ≡ fault)
    → (fault ≢ Memory → rows_fault rows ≡ Err fault) → GivesText IsMemory (counts_of rows) result
counts_of-fault rows (Ok text) fault is told = absurd is
counts_of-fault rows (Err cause) fault is told =
    subst (λ (f : Fault). (IsMemory f → ⊥) → counts_of rows ≡ Err f) (sym is) (λ other. let first = told other in rw first)

-- or could not be
pub PrintsStored-fault : (IsOf : Fault → Type 0) (rows : FileRows) (result : Result (String Global) Fault) (fault : Fault) → IsErrAnd result (λ cause. cause ≡ fault)
    → IsOf fault → PrintsStored IsOf rows (Err fault) result
PrintsStored-fault IsOf rows (Ok text) fault is of = absurd is
PrintsStored-fault IsOf rows (Err cause) fault is of = (ap Err (sym is), subst (λ (f : Fault). IsOf f) (sym is) of)

-- with a journal, at its first place
pub StoresWith-begun : {M J C : Type 0} (logs : Logs M J C) (Makes : MakingAt M) (texts : Contents) (rows : FileRows) (database journal : List ℕ)
    (result : Result (String Global) Fault) (old new : M) (time : C) (moment : ℕ) (R : Register) (first : Place) (stored : Done)
    → logs.steps.has_time old time → logs.shows time moment → IsOpeningOf rows R
    → first ≡ first_place (files_of texts) (made_at moment database journal) → PrintsStored IsOfBegun rows stored result
    → BeginsFirst logs journal first (Makes database R first) stored old new → StoresWith logs Makes texts rows database journal result old new
StoresWith-begun logs Makes texts rows database journal result old new time moment R first stored timed shown opens is prints begun = inr (record {
  time = time;
  timed = timed;
  moment = moment;
  shown = shown;
  register = R;
  opening_of = opens;
  stored = stored;
  prints = prints;
  begun = subst (λ (p : Place). BeginsFirst logs journal p (Makes database R p) stored old new) is begun;
})

-- rows of which no run is answered
pub IsRunOf-rows : (input : Option (List ℕ)) (rows : FileRows) (result : Result Printed Fault) (fault : Fault) → IsErrAnd result (λ cause. cause ≡ fault)
    → (fault ≢ Memory → rows_fault rows ≡ Err fault) → Answers IsMemory (λ printed. printed) (IsRunOf input rows) result
IsRunOf-rows input rows (Ok value) fault is told = absurd is
IsRunOf-rows input rows (Err cause) fault is told =
    λ other. inl (subst (λ (f : Fault). rows_fault rows ≡ Err f) (sym is) (told (λ memory. other (is ∙ memory))))
