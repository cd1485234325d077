-- What is kept nowhere.
use Rattle.std.proofs.Common.{◌≡◌, List, Ok, ap, arith, inl, refl}
use Rattle.std.specs.Prelude.{⊤}
use Rattle.sqlite.specs.Schema.{Schema}
use Rattle.clr_rules.specs.declared.change.Edit.{Edit}
use Rattle.clr_load.specs.declared.layout.Layout.{Layout}
use Rattle.clr_load.specs.declared.layout.Layout.TheVariants.{AsMade, AsMadeLogged, AsMoved, AsMovedLogged, OfOne}
use Rattle.clr_load.specs.Schema.{no_schema, schema_in}
use Rattle.clr_load.specs.Stored.{HasTables}
use Rattle.clr_load.specs.Tables.{Tables}
use Rattle.clr_load.specs.TableEdits.{tables_edited}
use Rattle.clr_store.specs.Transaction.{Transacts}
use Rattle.clr_desk.specs.Commit.{StaysSaved, no_database, nothing}

-- the tables of a register are more than none
more_than_none : (l : Layout) → no_schema ≡ schema_in l → ⊥
more_than_none OfOne is = let tables = ap (λ (s : Schema). s.tables) is in cc
more_than_none AsMade is = let tables = ap (λ (s : Schema). s.tables) is in cc
more_than_none AsMoved is = let tables = ap (λ (s : Schema). s.tables) is in cc
more_than_none AsMadeLogged is = let tables = ap (λ (s : Schema). s.tables) is in cc
more_than_none AsMovedLogged is = let tables = ap (λ (s : Schema). s.tables) is in cc

has_no_tables : (t : Tables) → HasTables no_database t → ⊥
has_no_tables t has = more_than_none has.layout has.here.holds.schema

pub commits_nothing : (edits : List Edit) → Transacts {X = Unit {0}} (λ _ _. ⊤) StaysSaved nothing nothing (tables_edited edits) (Ok tt)
commits_nothing edits = record {
  made = λ clean t has. absurd (has_no_tables t has);
  saved = λ clean. (refl, refl);
  none = λ clean shown. tt;
  fault = tt;
  was_open = λ clean shown. shown;
  crash = record {
    clean = omega arith;
    shield = λ shielded. shielded;
    counts = omega arith;
    limit = refl;
    closes = λ clean before. inl before;
    crash = λ clean trees left. inl left;
  };
}
