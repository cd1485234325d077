-- WHAT AN ARCHIVE LEAVES in the tables.
use Rattle.std.specs.Prelude.{ℕ}
use Rattle.sqlite.specs.Effect.{Database}
use Rattle.sqlite.specs.Tree.{Trees}
use Rattle.clr_changes.specs.Archive.{archived}
use Rattle.clr_load.specs.Stored.{AreTables, HasTables}
use Rattle.clr_rules.specs.Register.{Register}
use Rattle.clr_load.specs.Tables.{tables_of}

-- where the tables were those of a register, the trees have those of the register after an archive
abbrev pub AreArchived : Database → ℕ → Register → Trees → Type 0
AreArchived old before R trees = HasTables old (tables_of R)
    → AreTables trees (tables_of (archived before R))
