-- A book that is opened: from what the store loads to the register.
use Rattle.std.proofs.Common.{◌≡◌, ◌∙◌, inl, inr, None, Some, ap, subst, sym, Result, Ok, Err}
use Rattle.clr_book.specs.Book.{Shelved}
use Rattle.clr_net.specs.Grid.{Grid}
use Rattle.clr_net.specs.Network.{IsGridOf}
use Rattle.clr_rules.specs.Good.{IsGood}
use Rattle.clr_rules.specs.Register.{Register}
use Rattle.sqlite.specs.State.{State}
use Rattle.clr_load.specs.Cause.{SqlHasCause}
use Rattle.clr_load.specs.Filling.{GivesInto}
use Rattle.clr_load.specs.Fault.{IsOfDatabase}
use Rattle.clr_load.specs.declared.fault.StoreFault.{StoreFault}
use Rattle.clr_load.specs.declared.fault.StoreFault.TheVariants.{Sql, WrongVersion, BadRow, NoMemory, OtherTables}
use Rattle.clr_load.specs.RowsRead.{Rows, rows_of, rows_read}
use Rattle.clr_load.specs.Tables.{tables_of}
use Rattle.clr_load.specs.TypedRows.{IsTyped}
use Rattle.clr_load.specs.declared.table_name.TableName.{TableName}
use Rattle.clr_load.proofs.TablesRead.{tables_are_read, tables_read_as_no_others}
use Rattle.clr_desk.specs.Opening.{FailsToOpen, HasNetworkOf, IsRegisterOf, OpensAs, bad_table}
use Rattle.clr_desk.proofs.Filled.{opens_again}

abbrev bad_or : TableName → Result Rows TableName → TableName
bad_or other (Ok rows) = other
bad_or other (Err bad) = bad

-- rows that were not loaded
pub not_loaded : {X : Type 0} (has : X → Rows → Type 0) (told : Result Rows TableName) (fault : StoreFault) → GivesInto has told (Err fault)
    → OpensAs (λ (book : Shelved). book.register) told (Err fault)
not_loaded has (Ok rows) (BadRow name) gives = cc
not_loaded has (Err bad) (BadRow name) gives = ap (bad_or bad) gives
not_loaded has (Ok rows) Sql gives = tt
not_loaded has (Err bad) Sql gives = tt
not_loaded has (Ok rows) NoMemory gives = tt
not_loaded has (Err bad) NoMemory gives = tt
not_loaded has told (WrongVersion n) gives = absurd gives
not_loaded has told OtherTables gives = absurd gives

-- rows that were loaded, and gave no book
pub fails_to_open : (told : Result Rows TableName) (rows : Rows) (fault : StoreFault) → told ≡ Ok rows → FailsToOpen rows fault
    → OpensAs (λ (book : Shelved). book.register) told (Err fault)
fails_to_open told rows fault is fails = subst (λ (read : Result Rows TableName). OpensAs (λ (book : Shelved). book.register) read (Err fault)) (sym is) (at fails)
  where
    at : FailsToOpen rows fault → OpensAs (λ (book : Shelved). book.register) (Ok rows) (Err fault)
    at (inl memory) = subst (λ (f : StoreFault). OpensAs (λ (book : Shelved). book.register) (Ok rows) (Err f)) (sym memory) tt
    at (inr bad) = subst (λ (f : StoreFault). OpensAs (λ (book : Shelved). book.register) (Ok rows) (Err f)) (sym bad.2) bad.1

-- rows that were loaded, and gave a book
pub loaded : (told : Result Rows TableName) (rows : Rows) (book : Shelved) → told ≡ Ok rows → IsRegisterOf rows book.register
    → bad_table rows ≡ None → OpensAs (λ (b : Shelved). b.register) told (Ok book)
loaded told rows book is register none =
    subst (λ (read : Result Rows TableName). OpensAs (λ (b : Shelved). b.register) read (Ok book)) (sym is) (register, none)

pub network_loaded : (told : Result Rows TableName) (rows : Rows) (g : Grid) → told ≡ Ok rows → IsGridOf rows.sections rows.points g
    → HasNetworkOf told g
network_loaded told rows g is built = subst (λ (read : Result Rows TableName). HasNetworkOf read g) (sym is) built

-- rows that are loaded are not refused as `Sql`
pub opened_cause : (rows : Rows) (fault : StoreFault) (old new : State) → FailsToOpen rows fault → SqlHasCause old new fault
opened_cause rows fault old new (inl memory) = rw memory tt
opened_cause rows fault old new (inr bad) = rw bad.2 tt

-- the tables of a good register open as this register
pub opened_again : (R : Register) → IsGood R → (book : Shelved) (told : Result Rows TableName) → rows_read (tables_of R) ≡ told
    → OpensAs (λ (book : Shelved). book.register) told (Ok book) → book.register ≡ R
opened_again R good book (Ok rows) is opens =
    let same : rows ≡ rows_of R = tables_read_as_no_others R rows good.besides.points_known.states good.said.in_order is in
    let again = opens_again R good in
    again.register book.register (subst (λ (l : Rows). IsRegisterOf l book.register) same opens.0)
opened_again R good book (Err bad) is opens = absurd opens

-- the rows of a good register are opened, unless the database fails or memory runs out
opens_good : (R : Register) → IsGood R → (fault : StoreFault) → OpensAs (λ (book : Shelved). book.register) (Ok (rows_of R)) (Err fault)
    → IsOfDatabase fault
opens_good R good Sql opens = tt
opens_good R good NoMemory opens = tt
opens_good R good (BadRow name) opens =
    let bad : None ≡ Some name = sym (opens_again R good).no_fault ∙ opens in
    absurd cc
opens_good R good (WrongVersion n) opens = absurd opens
opens_good R good OtherTables opens = absurd opens

-- so are its tables, where each value is of its type
pub fails_by_database : (R : Register) → IsGood R → IsTyped R → (fault : StoreFault)
    → OpensAs (λ (book : Shelved). book.register) (rows_read (tables_of R)) (Err fault) → IsOfDatabase fault
fails_by_database R good typed fault opens =
    opens_good R good fault
    (subst (λ (read : Result Rows TableName). OpensAs (λ (book : Shelved). book.register) read (Err fault))
    (tables_are_read R good.besides.points_known.states good.said.in_order typed) opens)
