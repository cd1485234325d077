-- One command: what its answer changes in the register, in the tables and in what a crash leaves.
use Rattle.std.proofs.Common.{◌≡◌, ◌∙◌, false, List, [], sym, ap, subst}
use Rattle.std.specs.Prelude.{⊤}
use Rattle.sqlite.specs.State.{State, Survives}
use Rattle.sqlite.proofs.StateLemmas.{survives_weaker}
use Rattle.clr_net.specs.Grid.{Grid}
use Rattle.clr_rules.specs.Answer.{Answer, answer}
use Rattle.clr_rules.specs.Command.{is_jumper}
use Rattle.clr_rules.specs.Edits.{after_edits}
use Rattle.clr_rules.specs.Good.{IsGood}
use Rattle.clr_book.specs.Own.{asked_answer, asked_near}
use Rattle.clr_rules.specs.Register.{Register}
use Rattle.clr_rules.specs.Run.{after}
use Rattle.clr_rules.specs.declared.change.Edit.{Edit}
use Rattle.clr_rules.specs.declared.command.Command.{Command}
use Rattle.clr_rules.proofs.edits.PlainEdits.{answers_with_plain}
use Rattle.clr_book.proofs.Enough.{own_rows_are_enough}
use Rattle.clr_book.specs.Growth.{network_after_all}
use Rattle.clr_book.proofs.BookEdits.{plain_network}
use Rattle.clr_store.specs.Transaction.{AreTurned}
use Rattle.clr_load.specs.Stored.{AreTables}
use Rattle.clr_load.specs.TableEdits.{tables_edited}
use Rattle.clr_load.specs.Tables.{tables_of}
use Rattle.clr_load.proofs.TableChanges.{tables_follow_edits}
use Rattle.clr_desk.specs.Asking.{near_after, near_network}
use Rattle.clr_desk.specs.Crash.{AreAfter}
use Rattle.clr_desk.specs.Faults.{IsOfCommand, of_store}
use Rattle.clr_desk.specs.declared.desk_fault.DeskFault.{DeskFault}
use Rattle.clr_load.specs.Fault.{IsOfDatabase}
use Rattle.clr_load.specs.declared.fault.StoreFault.{StoreFault}
use Rattle.clr_load.specs.declared.fault.StoreFault.TheVariants.{Sql, WrongVersion, BadRow, NoMemory, OtherTables}

-- ---- a command that is not accepted

edited_by_none : (R : Register) (edits : List Edit) → edits ≡ [] → after_edits edits R ≡ R
unfolding after_edits
edited_by_none R edits none = ap (λ es. after_edits es R) none

-- a command that has no edits changes nothing
pub nothing_changes : (R : Register) (q : Command) (edits : List Edit) → edits ≡ Answer.edits (asked_answer R q) → edits ≡ [] → R ≡ near_after R q
nothing_changes R q edits is none = sym (edited_by_none R (Answer.edits (asked_answer R q)) (sym is ∙ none))

-- nor does it add to a network
pub nothing_added : (R : Register) (q : Command) (edits : List Edit) (g : Grid) → edits ≡ Answer.edits (asked_answer R q) → edits ≡ [] → g ≡ near_network R q g
unfolding network_after_all
nothing_added R q edits g is none = ap (λ es. network_after_all es g) (sym none ∙ is)

-- only a jumper does
pub only_jumpers_add : (R : Register) (q : Command) (g : Grid) → is_jumper q.kind ≡ false → near_network R q g ≡ g
only_jumpers_add R q g plain =
    let near = asked_near R q in
    plain_network (Answer.edits (asked_answer R q)) g (answers_with_plain near.known near.rows q plain)

-- ---- a good register

pub near_is_whole : (R : Register) (q : Command) → IsGood R → asked_answer R q ≡ answer R q
near_is_whole R q good = sym (own_rows_are_enough R q good)

pub near_after_is_after : (R : Register) (q : Command) → IsGood R → near_after R q ≡ after R q
near_after_is_after R q good = ap (λ (a : Answer). after_edits a.edits R) (near_is_whole R q good)

-- the edited tables are those of the register after the command
pub tables_after : (R : Register) (q : Command) (edits : List Edit) → edits ≡ Answer.edits (asked_answer R q) → IsGood R
    → tables_edited edits (tables_of R) ≡ tables_of (after R q)
tables_after R q edits is good =
    sym (tables_follow_edits R edits good.said.in_order good.besides.points_known.states)
    ∙ ap (λ es. tables_of (after_edits es R)) is ∙ ap tables_of (near_after_is_after R q good)

-- what a crash of its commit leaves
pub crash_after : (old new : State) (R : Register) (q : Command) (edits : List Edit) → edits ≡ Answer.edits (asked_answer R q)
    → Survives old new (AreTurned (λ _ _. ⊤) (tables_edited edits) old.now) → Survives old new (AreAfter old.now R q)
crash_after old new R q edits is survives =
    survives_weaker old new (AreTurned (λ _ _. ⊤) (tables_edited edits) old.now) (AreAfter old.now R q)
    (λ clean db edited good has. subst (AreTables db) (tables_after R q edits is good) (edited (tables_of R) has).0) survives

-- ---- a fault

-- a fault of the database is one that a command may meet
of_database : (cause : StoreFault) → IsOfDatabase cause → IsOfCommand (of_store cause)
of_database Sql h = tt
of_database NoMemory h = tt
of_database (WrongVersion n) h = absurd h
of_database (BadRow name) h = absurd h
of_database OtherTables h = absurd h

pub of_command : (cause : StoreFault) (fault : DeskFault) → IsOfDatabase cause → fault ≡ of_store cause → IsOfCommand fault
of_command cause fault h is = subst IsOfCommand (sym is) (of_database cause h)
