-- Faults of databases that are known to have a register.
use Rattle.std.proofs.Common.{◌≡◌, ◌↔◌, ◌∙◌, ◌⊎◌, ℕ, List, None, Option, Some, ⊎_elim, arith, inl, inr, refl, subst, sym, Result, Ok, Err}
use Rattle.std.proofs.lemmas.Option.{none-some}
use Rattle.std.specs.Prelude.{false, IfErr, IsErrAnd, IsTrue, OnOk, pos}
use Rattle.sqlite.specs.Held.{Held, state}
use Rattle.sqlite.specs.State.{HasCleanDisk, State, Survives}
use Rattle.sqlite_trees.specs.declared.store.Store.{Ghosts}
use Rattle.sqlite_trees.specs.Tree.{Trees}
use Rattle.clr_load.specs.declared.table_name.TableName.{TableName}
use Rattle.clr_load.specs.declared.table_name.TableName.TheVariants as tables
use Rattle.clr_book.specs.Book.{Shelved}
use Rattle.clr_edge.specs.AtFault.{table_at_fault}
use Rattle.clr_desk.specs.Opening.{IsRegisterOf, OpensAs}
use Rattle.clr_desk.specs.Faults.{IsOfCommand, of_store as desk_of_store}
use Rattle.clr_desk.specs.declared.desk_fault.DeskFault.{DeskFault}
use Rattle.clr_desk.specs.declared.desk_fault.DeskFault.TheVariants as desk
use Rattle.clr_rules.specs.Fit.{IsFit}
use Rattle.clr_rules.specs.Register.{Register}
use Rattle.clr_load.specs.Cause.{SqlHasCause}
use Rattle.clr_store.specs.Contract.{RefusesOpening}
use Rattle.clr_store.specs.Moving.{RefusesToMove}
use Rattle.clr_load.specs.declared.fault.StoreFault.{StoreFault}
use Rattle.clr_load.specs.declared.fault.StoreFault.TheVariants as store
use Rattle.clr_load.specs.RowsRead.{Rows, read_version, rows_read}
use Rattle.clr_load.specs.Tables.{Tables, tables_of}
use Rattle.clr_edge.specs.Fault.{of_database, of_desk, of_store}
use Rattle.clr_edge.specs.declared.fault.DatabaseFault.{DatabaseFault}
use Rattle.clr_edge.specs.declared.fault.DatabaseFault.TheVariants as database
use Rattle.clr_edge.specs.declared.fault.Fault.{Fault}
use Rattle.clr_edge.specs.Database.{IsAsBefore, IsDatabaseFault, IsOfStore, IsOfUnfit, RefusesTables}
use Rattle.clr_edge.specs.Visit.{Closed, Ending, Opening, Visits, first_fault}

-- tables that are opened read as rows
pub rows_of-opened : (told : Result Rows TableName) (book : Shelved) → OpensAs (λ (b : Shelved). b.register) told (Ok book)
    → (rows : Rows) × (told ≡ Ok rows) × IsRegisterOf rows book.register
rows_of-opened (Ok rows) book opens = (rows, refl, opens.0)
rows_of-opened (Err bad) book opens = absurd opens

-- a fault of the desk's commands is reported as one of the database
pub command_fault : (fault : DeskFault) → IsOfCommand fault → IsDatabaseFault (of_desk fault)
command_fault (desk.Store store.Sql) is = (database.Sql, refl)
command_fault (desk.Store (store.WrongVersion n)) is = absurd is
command_fault (desk.Store (store.BadRow table)) is = absurd is
command_fault (desk.Store store.NoMemory) is = absurd is
command_fault (desk.Store store.OtherTables) is = absurd is
command_fault desk.Journal is = absurd is
command_fault desk.NoMemory is = (database.NoMemory, refl)

-- a store that was shut is refused by the database; one that was open, as is said of it
pub IsOfCommand-shut : (Open : Type 0) (fault : DeskFault) → Open ⊎ IsOfCommand fault → (Open → IsOfCommand fault) → IsOfCommand fault
IsOfCommand-shut Open fault (inl open_then) is = is open_then
IsOfCommand-shut Open fault (inr refused) is = refused

-- the tables of a register are of the version that is read
pub read_version-tables_of : (R : Register) → read_version (tables_of R).meta ≡ Ok (pos 2)
unfolding read_version
read_version-tables_of R = refl

-- so only the database itself refuses them
pub version_fault : (R : Register) (fault : StoreFault) → RefusesOpening (tables_of R) fault → IsDatabaseFault (of_store fault)
version_fault R store.Sql is = (database.Sql, refl)
version_fault R (store.WrongVersion n) (is, other) = let both = sym (read_version-tables_of R) ∙ is in absurd (other (cc both))
version_fault R (store.BadRow table) is = let both = sym (read_version-tables_of R) ∙ is in absurd (cc both)
version_fault R store.NoMemory is = (database.NoMemory, refl)
version_fault R store.OtherTables is = absurd (is refl)

moved_fault : (fault : StoreFault) → (fault ≡ store.OtherTables → ⊥) → RefusesToMove (Ok (pos 2)) fault → IsDatabaseFault (of_store fault)
moved_fault store.Sql none is = (database.Sql, refl)
moved_fault (store.WrongVersion n) none (is, one, two) = absurd (two (cc is))
moved_fault (store.BadRow tables.Meta) none is = absurd (cc is)
moved_fault (store.BadRow tables.Point) none is = absurd (cc is)
moved_fault (store.BadRow tables.Section) none is = absurd is
moved_fault (store.BadRow tables.NetworkPoint) none is = absurd is
moved_fault (store.BadRow tables.Staff) none is = absurd is
moved_fault (store.BadRow tables.Clearance) none is = absurd is
moved_fault (store.BadRow tables.Step) none is = absurd is
moved_fault (store.BadRow tables.Hold) none is = absurd is
moved_fault (store.BadRow tables.Journal) none is = absurd is
moved_fault store.NoMemory none is = (database.NoMemory, refl)
moved_fault store.OtherTables none is = absurd (none refl)

-- and only the database itself refuses to move them
pub move_fault : (R : Register) (fault : StoreFault) → (fault ≡ store.OtherTables → ⊥) → RefusesToMove (read_version (tables_of R).meta) fault → IsDatabaseFault (of_store fault)
move_fault R fault none refused = moved_fault fault none (subst (λ read. RefusesToMove read fault) (read_version-tables_of R) refused)

-- what two calls leave that commit nothing
pub survives_on : (s t u : State) → Survives s t (λ _. ⊥) → Survives t u (λ _. ⊥) → Survives s u (λ _. ⊥)
survives_on s t u first later =
    let clean : HasCleanDisk u → HasCleanDisk t = λ c. omega (arith, later.clean, c) in
    record {
      clean = omega (arith, first.clean, later.clean);
      shield = λ h. later.shield (first.shield h);
      counts = omega (arith, first.counts, later.counts);
      limit = later.limit ∙ first.limit;
      closes = λ c before.
          ⊎_elim
          (λ between. ⊎_elim (λ after. inl after) (λ more. inr (omega (arith, first.counts, more))) (later.closes c between))
          (λ more. inr (omega (arith, later.counts, more))) (first.closes (clean c) before);
      crash = λ c db leaves. ⊎_elim (λ between. first.crash (clean c) db between) (λ none. absurd none) (later.crash c db leaves);
    }

-- the disk was clean before, if it is afterwards
pub was_clean : (s t : State) (Commits : Trees → Type 0) → Survives s t Commits → HasCleanDisk t → HasCleanDisk s
was_clean s t Commits survives clean = omega (arith, survives.clean, clean)

-- a fault that was reported, and one that is passed on
pub IfErr-was : {T : Type 0} (told : Result T Fault) (fault : Fault) (P : Fault → Type 0) → told ≡ Err fault → IfErr told P → P fault
IfErr-was {T} told fault P was holds = let Q : Result T Fault → Type 0 = λ r. IfErr r P in subst Q was holds

pub IfErr-passed : {T : Type 0} (result : Result T Fault) (fault : Fault) (P : Fault → Type 0) → IsErrAnd result (λ cause. cause ≡ fault) → P fault
    → IfErr result P
IfErr-passed (Ok value) fault P is holds = absurd is
IfErr-passed (Err cause) fault P is holds = subst P (sym is) holds

-- a fault of the store, reported by the desk
pub of_desk-of_store : (cause : StoreFault) → of_desk (desk_of_store cause) ≡ of_store cause
of_desk-of_store store.Sql = refl
of_desk-of_store (store.WrongVersion n) = refl
of_desk-of_store (store.BadRow table) = refl
of_desk-of_store store.NoMemory = refl
of_desk-of_store store.OtherTables = refl

-- the database itself may refuse any version
pub RefusesOpening-of_command : (t : Tables) (cause : StoreFault) → IsOfCommand (desk_of_store cause) → RefusesOpening t cause
RefusesOpening-of_command t store.Sql is = tt
RefusesOpening-of_command t (store.WrongVersion n) is = absurd is
RefusesOpening-of_command t (store.BadRow table) is = absurd is
RefusesOpening-of_command t store.NoMemory is = tt
RefusesOpening-of_command t store.OtherTables is = absurd is

pub OnOk-then : {T P Q : Type 0} (result : Result T Fault) → (P → Q) → OnOk result P → OnOk result Q
OnOk-then (Ok value) from is = from is
OnOk-then (Err fault) from is = tt

pub OnOk-any : {T : Type 0} (result : Result T Fault) (P : Type 0) → P → OnOk result P
OnOk-any (Ok value) P holds = holds
OnOk-any (Err fault) P holds = tt

pub OnOk-was : {T : Type 0} (result : Result T Fault) (value : T) (P : Type 0) → result ≡ Ok value → OnOk result P → P
OnOk-was {T} result value P was holds = let Q : Result T Fault → Type 0 = λ r. OnOk r P in subst Q was holds

-- a register that is good and staffed is not refused, unless memory ran out
pub unfit_fault : (R : Register) (cause : StoreFault) → IsFit R → (cause ≡ store.NoMemory) ⊎ IsOfUnfit R cause → IsDatabaseFault (of_store cause)
unfit_fault R cause fit (inl memory) = rw memory (database.NoMemory, refl)
unfit_fault R cause fit (inr unfit) = absurd (unfit.bad fit)

-- what a register that is not good is refused with has no cause in the database
pub SqlHasCause-unfit : (R : Register) (cause : StoreFault) (old new : State) → (cause ≡ store.NoMemory) ⊎ IsOfUnfit R cause → SqlHasCause old new cause
SqlHasCause-unfit R cause old new (inl memory) = rw memory tt
SqlHasCause-unfit R cause old new (inr unfit) = rw unfit.named tt

-- tables of a register that is not good are refused
pub RefusesTables-unfit : (t : Tables) (book : Shelved) (cause : StoreFault) → OpensAs (λ (b : Shelved). b.register) (rows_read t) (Ok book)
    → (cause ≡ store.NoMemory) ⊎ IsOfUnfit book.register cause → RefusesTables t cause
RefusesTables-unfit t book cause opens (inl memory) = inl (rw memory tt)
RefusesTables-unfit t book cause opens (inr unfit) = inr (inr (book, opens, unfit))

-- a table at fault is that of a register that is not good
pub unfit_told : (R : Register) (found : Option TableName) (table : TableName) → found ≡ Some table → found ≡ table_at_fault R
    → (found ≡ None) ↔ IsFit R → IsOfUnfit R (store.BadRow table)
unfit_told R found table is told exact = record {
  bad = λ fit. none-some table (sym (exact.1 fit) ∙ is);
  table = table;
  first = sym told ∙ is;
  named = refl;
}

-- the first of two faults is one of either
pub first_fault-of : {T : Type 0} (told : Result T Fault) (closed : Closed) (result : Result T Fault) (P : Fault → Type 0)
    → result ≡ first_fault told closed → IfErr told P → ((cause : DatabaseFault) → P (of_database cause)) → IfErr result P
first_fault-of {T} told closed result P is one other = let Q : Result T Fault → Type 0 = λ r. IfErr r P in subst Q (sym is) (of told closed one)
  where
    of : (told : Result T Fault) (closed : Closed) → IfErr told P → IfErr (first_fault told closed) P
    of (Ok value) (Ok done) one = tt
    of (Ok value) (Err cause) one = other cause
    of (Err fault) closed one = one

-- a visit, by what comes of what was done over the database
pub visits-as : {M T : Type 0} (opens : Opening M T) (ends : Ending M T) (path : List ℕ) (P Q : M → Held T → Held T → Closed → M → Type 0) (old new : M)
    → ((middle : M) (before after : Held T) (closed : Closed) (later : M) → opens old path before middle → P middle before after closed later
    → Q middle before after closed later) → Visits opens ends path P old new → Visits opens ends path Q old new
visits-as opens ends path P Q old new from visit = record {
  before = visit.before;
  after = visit.after;
  closed = visit.closed;
  middle = visit.middle;
  later = visit.later;
  opened = visit.opened;
  mode = visit.mode;
  does = from visit.middle visit.before visit.after visit.closed visit.later visit.opened visit.does;
  ended = visit.ended;
}

pub IfErr-from : {T : Type 0} (result : Result T Fault) (P Q : Fault → Type 0) → ((fault : Fault) → P fault → Q fault) → IfErr result P → IfErr result Q
IfErr-from (Ok value) P Q from is = tt
IfErr-from (Err fault) P Q from is = from fault is

-- a fault of the store
pub IsOfStore-of : (cause : StoreFault) (fault : Fault) → fault ≡ of_store cause → IsOfStore fault
IsOfStore-of store.Sql fault is = inr (store.Sql, is)
IsOfStore-of (store.WrongVersion n) fault is = inr (store.WrongVersion n, is)
IsOfStore-of (store.BadRow table) fault is = inr (store.BadRow table, is)
IsOfStore-of store.NoMemory fault is = inl is
IsOfStore-of store.OtherTables fault is = inr (store.OtherTables, is)

pub IsOfStore-of_database : (cause : DatabaseFault) → IsOfStore (of_database cause)
IsOfStore-of_database database.NoMemory = inl refl
IsOfStore-of_database database.Sql = inr (store.Sql, refl)

-- outside a transaction a connection shows what is committed
abbrev pub IsSettled : State → Type 0
IsSettled s = s.in_transaction ≡ false → IsTrue s.is_open → s.now ≡ s.committed

-- so where it shows the same, the same is committed
pub IsAsBefore-settled : {S : Type 0} (g : Ghosts S) (before after : Held S) → after.in_transaction ≡ before.in_transaction
    → (HasCleanDisk (state g after) → IsTrue (state g after).is_open → (state g after).now ≡ (state g before).now)
    → IsSettled (state g before) → IsSettled (state g after) → IsAsBefore g before after
IsAsBefore-settled g before after mode same was is = record {
  mode = mode;
  same = same;
  committed = λ clean was_open is_open auto. sym (is (mode ∙ auto) is_open) ∙ (same clean is_open ∙ was auto was_open);
}
