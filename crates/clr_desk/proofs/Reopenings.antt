-- What a crash left is opened again, and its commands go on.
use Rattle.std.proofs.Common.{◌≡◌, ◌∙◌, List, [], ◌∷◌, drop, take, Result, Ok, Err, ap, refl, subst, sym}
use Rattle.std.specs.Prelude.{pos}
use Rattle.std.proofs.lemmas.List.{take-append-drop}
use Rattle.sqlite.specs.Tree.{Trees}
use Rattle.clr_book.specs.Book.{Shelved}
use Rattle.clr_rules.specs.Good.{IsGood}
use Rattle.clr_rules.specs.Register.{Register}
use Rattle.clr_rules.specs.Run.{after, after_all, replies}
use Rattle.clr_rules.specs.declared.command.Command.{Command}
use Rattle.clr_rules.proofs.edits.Runs.{runs_go_on}
use Rattle.clr_rules.proofs.keeps.EveryKind.{commands_keep_good}
use Rattle.clr_load.specs.Fault.{IsOfDatabase}
use Rattle.clr_load.specs.Stored.{AreTables}
use Rattle.clr_load.specs.declared.fault.StoreFault.{StoreFault}
use Rattle.clr_load.specs.declared.fault.StoreFault.TheVariants.{Sql, WrongVersion, BadRow, NoMemory, OtherTables}
use Rattle.clr_load.proofs.AllGiven.{gives_back}
use Rattle.clr_load.proofs.Reopened.{opened_with}
use Rattle.clr_store.specs.Contract.{RefusesOpening}
use Rattle.clr_load.specs.RowsRead.{read_version, rows_read}
use Rattle.clr_load.specs.Tables.{tables_of}
use Rattle.clr_load.specs.TypedRows.{IsTyped}
use Rattle.clr_load.proofs.TablesRead.{tables_are_read}
use Rattle.clr_desk.specs.Opening.{OpensAs}
use Rattle.clr_desk.specs.Reopening.{OpensBack, RunsGoOnAfterACrash, TablesComeBack}
use Rattle.clr_desk.proofs.RowsOpened.{fails_by_database, opened_again}
use Rattle.clr_desk.proofs.TypedRegisters.{first_typed, run_typed}

-- the version of the tables is the one that is read
version_is : (S : Register) → read_version (tables_of S).meta ≡ Ok (pos 2)
unfolding read_version
version_is S = refl

refused_by_database : (S : Register) (fault : StoreFault) → RefusesOpening (tables_of S) fault → IsOfDatabase fault
refused_by_database S Sql refused = tt
refused_by_database S (WrongVersion n) (is, other) = let both = sym (version_is S) ∙ is in absurd (other (cc both))
refused_by_database S (BadRow table) refused = let both = sym (version_is S) ∙ refused in absurd cc
refused_by_database S NoMemory refused = tt
refused_by_database S OtherTables refused = absurd (refused refl)

opens_back : (S : Register) → IsGood S → IsTyped S → (told : Result Shelved StoreFault)
    → OpensAs (λ (book : Shelved). book.register) (rows_read (tables_of S)) told → OpensBack S told
opens_back S good typed (Ok book) opens = opened_again S good book (rows_read (tables_of S)) refl opens
opens_back S good typed (Err fault) opens = fails_by_database S good typed fault opens

pub tables_come_back : TablesComeBack
tables_come_back S good typed db is are = record {
  has = opened_with db.trees (tables_of S) db are is refl;
  opens = refused_by_database S;
  loads = λ told gives. gives_back S (rows_read (tables_of S)) told (tables_are_read S good.besides.points_known.states good.said.in_order typed) gives;
  register = opens_back S good typed;
}

run_good : (R : Register) (commands : List Command) → IsGood R → IsGood (after_all R commands)
unfolding after_all
run_good R [] good = good
run_good R (q ∷ commands) good = run_good (after R q) commands (commands_keep_good R q good)

pub runs_go_on_after_a_crash : RunsGoOnAfterACrash
runs_go_on_after_a_crash R commands least trees good typed all left db is same =
    let n = left.0 in
    let on = runs_go_on R (take n commands) (drop n commands) in
    let whole = take-append-drop n commands in
    record {
      count = n;
      answered = left.1;
      one_more = left.2;
      within = left.3;
      back = tables_come_back (after_all R (take n commands)) (run_good R (take n commands) good)
          (run_typed R (take n commands) typed (first_typed commands n all)) db is
          (subst (λ (t : Trees). AreTables t (tables_of (after_all R (take n commands)))) (sym same) left.4);
      replied = ap (replies R) (sym whole) ∙ on.replied;
      left = ap (after_all R) (sym whole) ∙ on.register;
    }
