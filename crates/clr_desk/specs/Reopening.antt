-- OPENING AGAIN WHAT A CRASH LEFT: which register it is, and how its commands go on.
use Rattle.std.specs.Prelude.{◌≡◌, ◌≤◌, ◌+◌, ℕ, IsTrue, List, ◌++◌, drop, length, take}
use Rattle.std.specs.Prelude.{Result, Ok, Err}
use Rattle.std.specs.List.{list_all}
use Rattle.sqlite.specs.Effect.{Database, IsDatabase}
use Rattle.sqlite.specs.Tree.{Trees}
use Rattle.clr_book.specs.Book.{Shelved}
use Rattle.clr_rules.specs.Good.{IsGood}
use Rattle.clr_rules.specs.Register.{Register}
use Rattle.clr_rules.specs.Run.{after_all, replies}
use Rattle.clr_rules.specs.declared.command.Command.{Command}
use Rattle.clr_load.specs.Contract.{GivesBack, GivesRows}
use Rattle.clr_load.specs.Fault.{IsOfDatabase}
use Rattle.clr_load.specs.Stored.{AreTables, HasTables}
use Rattle.clr_load.specs.declared.fault.StoreFault.{StoreFault}
use Rattle.clr_load.specs.declared.rows.Rows.{Rows as Loaded}
use Rattle.clr_store.specs.Contract.{RefusesOpening}
use Rattle.clr_load.specs.RowsRead.{rows_read}
use Rattle.clr_load.specs.Tables.{tables_of}
use Rattle.clr_load.specs.TypedRows.{IsTyped, is_typed_command}
use Rattle.clr_desk.specs.Crash.{AreAfterSome}
use Rattle.clr_desk.specs.Opening.{OpensAs}

-- this register is opened, unless the database fails or memory runs out
abbrev pub OpensBack : Register → Result Shelved StoreFault → Type 0
OpensBack S (Ok book) = book.register ≡ S
OpensBack S (Err fault) = IsOfDatabase fault

-- A REGISTER COMES BACK from a database: it has the tables, and whatever the calls that open it
-- answer of them, it is this register, unless the database fails or memory runs out
pub record ComesBack (S : Register) (db : Database) : Type 0 where
  pub has : HasTables db (tables_of S)
  -- the store is opened,
  pub opens : (fault : StoreFault) → RefusesOpening (tables_of S) fault
      → IsOfDatabase fault
  -- it loads the rows of the register,
  pub loads : (told : Result Loaded StoreFault) → GivesRows (rows_read (tables_of S)) told
      → GivesBack S told
  -- and a desk is opened with it
  pub register : (told : Result Shelved StoreFault)
      → OpensAs (λ (book : Shelved). book.register) (rows_read (tables_of S)) told
      → OpensBack S told

-- the tables of a good register, in a database that is opened, come back
abbrev pub TablesComeBack : Type 0
TablesComeBack = (S : Register) → IsGood S → IsTyped S → (db : Database) → IsDatabase db
    → AreTables db.trees (tables_of S) → ComesBack S db

-- A RUN GOES ON where a crash left it: the register that its first commands left comes back, those
-- that were answered and at most one more, and with the commands after them the replies and the
-- register are those of a run without a stop
pub record GoesOnFrom (R : Register) (commands : List Command) (least : ℕ)
    (db : Database) : Type 0 where
  pub count : ℕ
  pub answered : least ≤ count
  pub one_more : count ≤ least + 1
  pub within : count ≤ length commands
  pub back : ComesBack (after_all R (take count commands)) db
  pub replied : replies R commands ≡ replies R (take count commands)
      ++ replies (after_all R (take count commands)) (drop count commands)
  pub left : after_all R commands
      ≡ after_all (after_all R (take count commands)) (drop count commands)

-- what a crash leaves of a run, in a database that is opened on it, goes on
abbrev pub RunsGoOnAfterACrash : Type 0
RunsGoOnAfterACrash = (R : Register) (commands : List Command) (least : ℕ) (trees : Trees)
    → IsGood R → IsTyped R → IsTrue (list_all is_typed_command commands)
    → AreAfterSome R commands least trees
    → (db : Database) → IsDatabase db → db.trees ≡ trees → GoesOnFrom R commands least db
