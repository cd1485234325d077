-- What a run over a register answers.
use Rattle.std.proofs.Common.{◌≡◌, ◌∙◌, ap, inl, inr, refl, subst, sym, ℕ, List, Option, Result, Ok, Err}
use Rattle.std.specs.Prelude.{Some, None, IfSome, IsErrAnd, IsErrOf, option_map}
use Rattle.clr_stream.specs.Failures.{Rose}
use Rattle.clr_desk.specs.Taking.{Taking}
use Rattle.clr_desk.specs.declared.desk.Desk.{Desk}
use Rattle.clr_level.specs.declared.fault.OpeningFault.{OpeningFault}
use Rattle.clr_level.specs.declared.fault.OpeningFault.TheVariants as opening
use Rattle.clr_level.specs.declared.keeper.Keeper.{Keeper}
use Rattle.clr_chain.specs.declared.fault.ChainFault.{ChainFault}
use Rattle.clr_chain.specs.declared.fault.ChainFault.TheVariants as chain
use Rattle.clr_load.specs.declared.fault.StoreFault.{StoreFault}
use Rattle.clr_load.specs.declared.fault.StoreFault.TheVariants as store
use Rattle.sqlite.specs.State.{State}
use Rattle.clr_desk.specs.Faults.{IsOfKeeper}
use Rattle.clr_desk.specs.declared.desk_fault.DeskFault.{DeskFault}
use Rattle.clr_desk.specs.declared.desk_fault.DeskFault.TheVariants as desk
use Rattle.clr_edge.specs.Fault.{of_desk, of_store}
use Rattle.clr_edge.specs.Journals.{of_chain}
use Rattle.clr_keeping.specs.Keeping.{IsDoneOver}
use Rattle.clr_keeping.specs.TakenUp.{IsOfTakingUp, of_opening}
use Rattle.clr_edge.specs.Visit.{Closed}
use Rattle.clr_edge.specs.declared.fault.Fault.{Fault}
use Rattle.clr_edge.specs.declared.fault.Fault.TheVariants.{Input}
use Rattle.clr_edge.specs.declared.fault.InputFault.TheVariants.{ReadFailed}
use Rattle.clr_keeping.specs.declared.taking_up.Opened.{Opened}
use Rattle.clr_keeping.specs.declared.taking_up.Opened.TheVariants.{Logged, Plain}
use Rattle.clr_commands.specs.Answers.{Answers, IsMemory}
use Rattle.clr_commands.specs.Faults.{FailsAsSubcommand, IsOfSubcommand}
use Rattle.clr_commands.specs.Import.{FileRows}
use Rattle.clr_commands.specs.Replies.{PrintsAnswers, answers, asked_lines, readings_of}
use Rattle.clr_commands.specs.Run.{IsOpeningOf, IsRunOf, ReadsInput, RunsOnDesk, ended_by, printed_after, rows_fault}
use Rattle.clr_commands.specs.declared.replies.Printed.{Printed}
use Rattle.clr_commands.proofs.Faults.{answers_plain, database_plain, input_plain}

-- ---- the input

-- a fault that is passed on has the cause that it had
pub passed_cause : {T U : Type 0} (P : Type 0) (fault wanted : Fault) (result : Result U Fault)
    → (IsErrOf {T = T} (Err fault) wanted → P) → IsErrAnd result (λ cause. cause ≡ fault) → IsErrOf result wanted → P
passed_cause P fault wanted (Ok value) cause is = absurd is
passed_cause P fault wanted (Err passed) cause is = λ e. let same : passed ≡ wanted = cc e in cause (ap Err (sym is ∙ same))

-- the input was not read, where the fault is of something else
pub ReadsInput-other : {X : Type 0} (input : Option (List ℕ)) (n n' : ℕ) (before after : X) (result : Result Printed Fault) (fault : Fault)
    → (fault ≡ Input ReadFailed → ⊥) → IsErrAnd result (λ cause. cause ≡ fault) → after ≡ before → ReadsInput input n n' before after result
ReadsInput-other input n n' before after (Ok value) fault other is same = absurd is
ReadsInput-other input n n' before after (Err cause) fault other is same = record {
  cause = λ e. let failed : cause ≡ Input ReadFailed = cc e in absurd (other (sym is ∙ failed));
  waits = inl same;
}

-- the input of a run over a desk
pub ReadsInput-desk : {K X : Type 0} (fails : DeskFault → Type 0) (kept : K → State) (takes : Taking K) (old new : Desk K) (input : Option (List ℕ)) (n n' : ℕ)
    (before after : X) (result : Result Printed Fault) → RunsOnDesk fails kept takes old new input result
    → (IsErrOf result (Input ReadFailed) → Rose n n') → ReadsInput input n n' before after result
ReadsInput-desk fails kept takes old new input n n' before after (Ok printed) runs rose = record { cause = rose; waits = tt }
ReadsInput-desk fails kept takes old new input n n' before after (Err fault) runs rose = record { cause = rose; waits = inr runs }

-- a fault of the store is none of the input
of_store-no_input : (cause : StoreFault) (fault : Fault) → fault ≡ of_store cause → fault ≡ Input ReadFailed → ⊥
of_store-no_input store.Sql fault is e = cc (sym is ∙ e)
of_store-no_input (store.WrongVersion n) fault is e = cc (sym is ∙ e)
of_store-no_input (store.BadRow table) fault is e = cc (sym is ∙ e)
of_store-no_input store.NoMemory fault is e = cc (sym is ∙ e)
of_store-no_input store.OtherTables fault is e = cc (sym is ∙ e)

-- nor is one of a register that is not taken up
desk-no_input : (cause : DeskFault) (fault : Fault) → fault ≡ of_desk cause → fault ≡ Input ReadFailed → ⊥
desk-no_input desk.NoMemory fault is e = cc (sym is ∙ e)
desk-no_input desk.Journal fault is e = cc (sym is ∙ e)
desk-no_input (desk.Store cause) fault is e = of_store-no_input cause fault is e

chain-no_input : (cause : ChainFault) (fault : Fault) → fault ≡ of_chain cause → fault ≡ Input ReadFailed → ⊥
chain-no_input chain.OpenFailed fault is e = cc (sym is ∙ e)
chain-no_input chain.NoMemory fault is e = cc (sym is ∙ e)
chain-no_input (chain.OtherRules number) fault is e = cc (sym is ∙ e)
chain-no_input chain.OtherRegister fault is e = cc (sym is ∙ e)
chain-no_input chain.TooShort fault is e = cc (sym is ∙ e)
chain-no_input (chain.Differs number) fault is e = cc (sym is ∙ e)
chain-no_input (chain.BadLine number) fault is e = cc (sym is ∙ e)

opening-no_input : (cause : OpeningFault) (fault : Fault) → fault ≡ of_opening cause → fault ≡ Input ReadFailed → ⊥
opening-no_input (opening.OtherRules number) fault is e = cc (sym is ∙ e)
opening-no_input opening.OtherRegister fault is e = cc (sym is ∙ e)
opening-no_input opening.TooShort fault is e = cc (sym is ∙ e)
opening-no_input (opening.Differs number) fault is e = cc (sym is ∙ e)
opening-no_input (opening.BadLine number) fault is e = cc (sym is ∙ e)
opening-no_input (opening.Desk cause) fault is e = desk-no_input cause fault is e

pub taking_up-no_input : (fault : Fault) → IsOfTakingUp fault → fault ≡ Input ReadFailed → ⊥
taking_up-no_input fault (inl (cause, is)) e = desk-no_input cause fault is e
taking_up-no_input fault (inr (inl missing)) e = cc (sym missing ∙ e)
taking_up-no_input fault (inr (inr (inl (cause, is)))) e = chain-no_input cause fault is e
taking_up-no_input fault (inr (inr (inr (cause, is)))) e = opening-no_input cause fault is e

-- closing its database reads no more of it
pub ReadsInput-closed : {X : Type 0} (input : Option (List ℕ)) (n n' : ℕ) (before after : X) (printed : Result Printed Fault)
    (closed : Closed) (result : Result Printed Fault) → result ≡ printed_after printed closed
    → ReadsInput input n n' before after printed → ReadsInput input n n' before after result
ReadsInput-closed input n n' before after printed closed result is reads =
    subst (λ (r : Result Printed Fault). ReadsInput input n n' before after r) (sym is) (by printed reads)
  where
    by : (run : Result Printed Fault) → ReadsInput input n n' before after run → ReadsInput input n n' before after (printed_after run closed)
    by (Ok run) reads = record { cause = λ e. absurd (cc e); waits = tt }
    by (Err fault) reads = reads

-- ---- over a desk

-- what is done over a desk alone is no step of a machine
pub done_alone : {M K J C : Type 0} (m : M) (P : Desk K → Desk K → Type 0) (Q : Desk (Keeper K J C) → Desk (Keeper K J C) → Type 0) (old new : Opened K J C)
    → IsDoneOver P Q old new → IsDoneOver (λ taken left. (m ≡ m) × P taken left) (λ taken left. (m ≡ m) × Q taken left) old new
done_alone m P Q (Plain old) (Plain new) did = (refl, did)
done_alone m P Q (Logged old) (Logged new) did = (refl, did)
done_alone m P Q (Plain old) (Logged new) did = absurd did
done_alone m P Q (Logged old) (Plain new) did = absurd did

-- over a desk whose changes are kept nowhere, no fault but want of memory ends it
ended_memory : (ended : Option DeskFault) → IfSome ended (IsOfKeeper (λ _. ⊥)) → IfSome (option_map of_desk ended) IsMemory
ended_memory None cause = tt
ended_memory (Some (desk.Store store.Sql)) cause = absurd cause
ended_memory (Some (desk.Store (store.WrongVersion n))) cause = absurd cause
ended_memory (Some (desk.Store (store.BadRow table))) cause = absurd cause
ended_memory (Some (desk.Store store.NoMemory)) cause = absurd cause
ended_memory (Some (desk.Store store.OtherTables)) cause = absurd cause
ended_memory (Some desk.Journal) cause = absurd cause
ended_memory (Some desk.NoMemory) cause = refl

prints_memory : (texts : List (List ℕ)) (ended : Option DeskFault) (printed : Printed) → IfSome ended (IsOfKeeper (λ _. ⊥))
    → PrintsAnswers texts ended printed → IfSome printed.fault IsMemory
prints_memory texts ended printed cause (inl (all, same)) = subst (λ (f : Option Fault). IfSome f IsMemory) (sym same) (ended_memory ended cause)
prints_memory texts ended printed cause (inr some) = subst (λ (f : Option Fault). IfSome f IsMemory) (sym some.memory) refl

-- the run of rows whose opening register it is over
pub IsRunOf-run : {K : Type 0} (kept : K → State) (takes : Taking K) (old new : Desk K) (rows : FileRows) (input : Option (List ℕ)) (result : Result Printed Fault)
    → rows_fault rows ≡ Ok tt → IsOpeningOf rows old.book.register → RunsOnDesk (λ _. ⊥) kept takes old new input result
    → Answers IsMemory (λ printed. printed) (IsRunOf input rows) result
IsRunOf-run kept takes old new rows input (Ok printed) none opens (bytes, is_input, over, put) = (
  none,
  old.book.register,
  opens,
  record {
    left = new.book.register;
    bytes = bytes;
    told = over.told;
    is_input = is_input;
    answers = over.run;
    fault = prints_memory (answers (readings_of (asked_lines bytes)) over.told) over.run.ended printed over.run.cause over.run.prints;
  },
)
IsRunOf-run kept takes old new rows input (Err fault) none opens of = λ other. inr (none, of)

-- ---- which faults are reported

pub FailsAsSubcommand-desk : {K : Type 0} (fails : DeskFault → Type 0) (kept : K → State) (takes : Taking K) (old new : Desk K) (input : Option (List ℕ))
    (result : Result Printed Fault) → RunsOnDesk fails kept takes old new input result → FailsAsSubcommand result
FailsAsSubcommand-desk fails kept takes old new input (Ok printed) (bytes, is_input, over, put) = answers_plain over.run
FailsAsSubcommand-desk fails kept takes old new input (Err fault) of = input_plain input fault of

ended_plain : (fault : Option Fault) (closed : Closed) → IfSome fault IsOfSubcommand → IfSome (ended_by fault closed) IsOfSubcommand
ended_plain (Some fault) closed plain = plain
ended_plain None (Ok value) plain = tt
ended_plain None (Err cause) plain = database_plain cause

-- what closing adds to them
pub FailsAsSubcommand-closed : (printed : Result Printed Fault) (closed : Closed) (result : Result Printed Fault) → result ≡ printed_after printed closed
    → FailsAsSubcommand printed → FailsAsSubcommand result
FailsAsSubcommand-closed printed closed result is plain = subst (λ (r : Result Printed Fault). FailsAsSubcommand r) (sym is) (by printed plain)
  where
    by : (printed : Result Printed Fault) → FailsAsSubcommand printed → FailsAsSubcommand (printed_after printed closed)
    by (Ok run) plain = ended_plain run.fault closed plain
    by (Err fault) plain = plain

pub FailsAsSubcommand-passed : (result : Result Printed Fault) (fault : Fault) → IsErrAnd result (λ cause. cause ≡ fault) → IsOfSubcommand fault
    → FailsAsSubcommand result
FailsAsSubcommand-passed (Ok value) fault is of = absurd is
FailsAsSubcommand-passed (Err cause) fault is of = subst (λ (f : Fault). IsOfSubcommand f) (sym is) of
