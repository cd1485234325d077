-- What `migrate` does to tables of version 1 that have the register of JONES/1.
use Rattle.std.proofs.Common.{◌≡◌, ◌∙◌, ℕ, ap, inl, inr, refl, subst, sym, true, List, Result, Ok, Err}
use Rattle.std.specs.Prelude.{IfErr, OnOk, String, is_ok, pos}
use Rattle.std.specs.Str.{is_utf8, chars}
use Rattle.std.specs.Char.{encode_utf8}
use Rattle.std.specs.declared.alloc.Global.{Global}
use Rattle.sqlite.specs.Held.{Held, state}
use Rattle.sqlite_trees.specs.declared.store.Store.{Ghosts}
use Rattle.clr_rules.proofs.Common.{in_fence, reaches, row_of, with_row, without_row, new_steps, greatest_number, steps_in, steps_of, has_any_hold, has_some_hold, holds_of}
use Rattle.clr_rules.proofs.Common.{after_edits, touching_names, held_among, hindering_hold, first_of_each, places_of, after_all}
use Rattle.clr_rules.specs.declared.command.Command.{Command}
use Rattle.clr_examples.specs.Worked.{worked_opening}
use Rattle.clr_load.specs.RowsRead.{all_read, read_placed, read_version}
use Rattle.clr_load.specs.TableLaws.{HasNoJumper}
use Rattle.clr_load.specs.Tables.{Tables, tables_by, tables_of, version_one}
use Rattle.clr_load.specs.declared.table_name.TableName.TheVariants.{Meta, Section, Point, Staff, Clearance, Step, Hold, NetworkPoint, Journal}
use Rattle.clr_load.specs.Contract.{old_points}
use Rattle.clr_load.specs.Stored.{HasTables}
use Rattle.clr_load.specs.declared.fault.StoreFault.{StoreFault}
use Rattle.clr_load.specs.declared.fault.StoreFault.TheVariants.{Sql, WrongVersion, BadRow, NoMemory, OtherTables}
use Rattle.clr_store.specs.Moving.{RefusesMove}
use Rattle.clr_edge.specs.Database.{IsDatabaseFault, IsMoved, IsUnmoved}
use Rattle.clr_edge.specs.Fault.{of_store}
use Rattle.clr_edge.specs.Visit.{Alone, Closed, Comes, Done, Ending, MovesRegister, Opening, Shutting, Visits, first_fault}
use Rattle.clr_edge.specs.declared.fault.DatabaseFault.TheVariants as database
use Rattle.clr_edge.specs.declared.fault.Fault.{Fault}
use Rattle.clr_commands.specs.Migrate.{Migrates, PrintsMoved}
use Rattle.clr_known.specs.Known.{IsAlwaysClean, IsVersionTwo, jones_register}
use Rattle.clr_known.specs.OldTables.{HasOldJones, KnowsOldJones, MovesJones, first_step_tables}
use Rattle.clr_known.proofs.JonesRegister.{jones_commands, lines_ask}
use Rattle.clr_edge.proofs.Databases.{first_fault-of, visits-as}
use Rattle.clr_known.proofs.OldTables.{tables_are}

-- the network of the register has no jumper
no_jumper_known : HasNoJumper (after_all worked_opening jones_commands)
unfolding in_fence reaches row_of with_row without_row new_steps greatest_number steps_in steps_of has_any_hold has_some_hold holds_of first_of_each places_of after_edits touching_names held_among hindering_hold after_all
no_jumper_known = refl

no_jumper : HasNoJumper jones_register
unfolding jones_register
no_jumper = subst (λ (commands : List Command). HasNoJumper (after_all worked_opening commands)) (sym lines_ask) no_jumper_known

-- ---- the version and each point read, so only the database may refuse
version_read : read_version first_step_tables.meta ≡ Ok (pos 1)
unfolding read_version
version_read = refl

points_read : is_ok (old_points first_step_tables) ≡ true
unfolding all_read read_placed is_utf8 chars encode_utf8
points_read = refl

refused : (cause : StoreFault) → RefusesMove first_step_tables cause → IsDatabaseFault (of_store cause)
refused Sql refuses = (database.Sql, refl)
refused NoMemory refuses = (database.NoMemory, refl)
refused (BadRow Meta) refuses = absurd (cc (sym version_read ∙ refuses))
refused (BadRow Section) refuses = absurd refuses
refused (BadRow Point) refuses = absurd (cc (sym points_read ∙ ap is_ok refuses.1))
refused (BadRow Staff) refuses = absurd refuses
refused (BadRow Clearance) refuses = absurd refuses
refused (BadRow Step) refuses = absurd refuses
refused (BadRow Hold) refuses = absurd refuses
refused (BadRow NetworkPoint) refuses = absurd refuses
refused (BadRow Journal) refuses = absurd refuses
refused (WrongVersion n) refuses = absurd (refuses.1 (cc (sym refuses.0 ∙ version_read)))
refused OtherTables refuses = absurd (refuses refl)

module _ {M T : Type 0} (g : Ghosts T) (clean : IsAlwaysClean g) (opens : Opening M T) (shuts : Shutting M) (ends : Ending M T)
    (knows : KnowsOldJones g opens) where
  unmoved : (before after : Held T) (fault : Fault) → HasOldJones (state g before).now → IsUnmoved g before fault after → IsDatabaseFault fault
  unmoved before after fault has it =
      let refuses = it.refuses (clean after) (tables_by version_one jones_register) has in
      subst (λ (f : Fault). IsDatabaseFault f) (sym it.told_is) (refused it.fault (subst (λ (t : Tables). RefusesMove t it.fault) tables_are refuses))

  moved_tables : (told : Done) (closed : Closed) (before after : Held T) → HasOldJones (state g before).now → first_fault told closed ≡ Ok tt
      → OnOk told (IsMoved g before after) → HasTables (state g after).now (tables_of jones_register)
  moved_tables (Ok value) closed before after has whole moved = moved.register (clean after) jones_register no_jumper has
  moved_tables (Err fault) closed before after has whole moved = absurd (cc whole)

  told_fault : (told : Done) (before after : Held T) → HasOldJones (state g before).now → IfErr told (λ fault. IsUnmoved g before fault after) → IfErr told IsDatabaseFault
  told_fault (Ok value) before after has it = tt
  told_fault (Err fault) before after has it = unmoved before after fault has it

  -- the tables are those of the register
  moved_so : (path : List ℕ) (moved : Done) (old new : M) → moved ≡ Ok tt → Comes opens shuts ends path (Alone (MovesRegister g)) moved old new
      → Visits opens ends path (λ (middle : M) before after (closed : Closed) (later : M). HasTables (state g after).now (tables_of jones_register)) old new
  moved_so path moved old new ok (inl (cause, failed, shut)) = absurd (cc (sym ok ∙ failed))
  moved_so path moved old new ok (inr visit) =
      visits-as opens ends path _ _ old new (λ middle before after closed later opened it.
      moved_tables it.1.told closed before after (knows _ _ _ _ opened) (sym it.1.result_is ∙ ok) it.1.moved) visit

  -- or only the database refused
  database_so : (path : List ℕ) (moved : Done) (old new : M) → Comes opens shuts ends path (Alone (MovesRegister g)) moved old new → IfErr moved IsDatabaseFault
  database_so path moved old new (inl (cause, failed, shut)) = subst (λ (d : Done). IfErr d IsDatabaseFault) (sym failed) (cause, refl)
  database_so path moved old new (inr visit) =
      let moves = visit.does.1 in
      first_fault-of moves.told visit.closed moved (λ fault. IsDatabaseFault fault) moves.result_is
      (told_fault moves.told visit.before visit.after (knows _ _ _ _ visit.opened) moves.unmoved) (λ cause. (cause, refl))

  printed_so : (path : List ℕ) (moved : Done) (result : Result (String Global) Fault) (old new : M) → PrintsMoved moved result
      → Comes opens shuts ends path (Alone (MovesRegister g)) moved old new → MovesJones g opens ends path result old new
  printed_so path moved (Ok text) old new prints comes = (prints.1, moved_so path moved old new prints.0 comes)
  printed_so path moved (Err fault) old new prints comes = subst (λ (d : Done). IfErr d IsDatabaseFault) prints (database_so path moved old new comes)

  pub old_moved : (path : List ℕ) (result : Result (String Global) Fault) (old new : M)
      → Migrates (Comes opens shuts ends path (Alone (MovesRegister g))) result old new → MovesJones g opens ends path result old new
  old_moved path result old new (inl (is, same)) = subst (λ (r : Result (String Global) Fault). MovesJones g opens ends path r old new) (sym is) (database.NoMemory, refl)
  old_moved path result old new (inr (moved, prints, comes)) = printed_so path moved result old new prints comes

-- what is printed, of any such move
pub version_two : {M T : Type 0} (g : Ghosts T) (opens : Opening M T) (ends : Ending M T) (path : List ℕ) (result : Result (String Global) Fault) (old new : M)
    → MovesJones g opens ends path result old new → IsVersionTwo result
version_two g opens ends path (Ok text) old new moves = moves.0
version_two g opens ends path (Err fault) old new moves = moves
