-- What a subcommand may answer is no fault of the output or of listening.
use Rattle.std.proofs.Common.{◌≡◌, ◌∙◌, ap, inl, inr, refl, subst, sym, Bool, true, false, ℕ, List, Result, Ok, Err}
use Rattle.std.specs.Prelude.{IfErr, IfSome, IsErrAnd, None, Option, Some, option_map}
use Rattle.clr_net.specs.declared.name.NameFault.TheVariants as name
use Rattle.clr_net.specs.declared.net_fault.NetFault.TheVariants as net
use Rattle.clr_csv.specs.declared.fault.CsvFault.{CsvFault}
use Rattle.clr_csv.specs.declared.fault.CsvFault.TheVariants as csv
use Rattle.clr_staff.specs.declared.staff_fault.StaffFault.TheVariants as staff
use Rattle.clr_load.specs.declared.fault.StoreFault.{StoreFault}
use Rattle.clr_load.specs.declared.fault.StoreFault.TheVariants as store
use Rattle.clr_desk.specs.declared.desk_fault.DeskFault.{DeskFault}
use Rattle.clr_desk.specs.declared.desk_fault.DeskFault.TheVariants as desk
use Rattle.clr_edge.specs.Database.{IsOfStore}
use Rattle.clr_edge.specs.Fault.{IsOfFile, of_database, of_desk, of_file, of_store}
use Rattle.clr_edge.specs.Visit.{Closed, first_fault}
use Rattle.clr_edge.specs.declared.fault.DatabaseFault.{DatabaseFault}
use Rattle.clr_edge.specs.declared.fault.DatabaseFault.TheVariants as database
use Rattle.clr_edge.proofs.Databases.{first_fault-of}
use Rattle.clr_chain.specs.declared.fault.ChainFault.{ChainFault}
use Rattle.clr_chain.specs.declared.fault.ChainFault.TheVariants as chain
use Rattle.clr_chain.specs.declared.fault.NewFault.{NewFault}
use Rattle.clr_chain.specs.declared.fault.NewFault.TheVariants as unbegun
use Rattle.clr_level.specs.declared.fault.OpeningFault.{OpeningFault}
use Rattle.clr_level.specs.declared.fault.OpeningFault.TheVariants as opening
use Rattle.clr_checking.specs.declared.fault.CheckFault.{CheckFault}
use Rattle.clr_checking.specs.declared.fault.CheckFault.TheVariants as check
use Rattle.clr_keeping.specs.Beginning.{IsOfBegun}
use Rattle.clr_edge.specs.Journals.{IsOfBeginning, of_chain, of_new}
use Rattle.clr_keeping.specs.TakenUp.{IsOfTakingUp, of_opening}
use Rattle.clr_edge.specs.declared.fault.Fault.{Fault}
use Rattle.clr_edge.specs.declared.fault.Fault.TheVariants.{Accept, Journal, Listen, Memory, Output, SameFile, Update}
use Rattle.clr_edge.specs.declared.fault.JournalFault.{JournalFault}
use Rattle.clr_update.specs.declared.obstacle.Obstacle.{Obstacle}
use Rattle.clr_edge.specs.declared.fault.ImportFile.{ImportFile}
use Rattle.clr_commands.specs.Faults.{IsOfSubcommand}
use Rattle.clr_rules.specs.Register.{Register}
use Rattle.clr_rules.specs.declared.reply.Reply.{Reply}
use Rattle.clr_commands.specs.Replies.{AnswersInput, PrintsAnswers, answers, asked_lines, readings_of}
use Rattle.clr_commands.specs.Import.{IsOfAnyFile}
use Rattle.clr_commands.specs.Run.{IsOfInput}
use Rattle.clr_commands.specs.declared.replies.Printed.{Printed}
use Rattle.clr_commands.specs.Stored.{IsOfOrder}
use Rattle.clr_keeping.specs.Parts.{IsOfPart}
use Rattle.clr_commands.specs.Verify.{IsOfCheck, of_check}
use Rattle.clr_commands.specs.WayBack.{IsOfWayBack}

abbrev is_plain : Fault → Bool
is_plain Output = false
is_plain Listen = false
is_plain Accept = false
is_plain (SameFile file) = false
is_plain fault = true

plain : (fault : Fault) → is_plain fault ≡ true → IsOfSubcommand fault
plain fault is = (
  λ e. cc (sym is ∙ ap is_plain e),
  λ e. cc (sym is ∙ ap is_plain e),
  λ e. cc (sym is ∙ ap is_plain e),
  λ file e. cc (sym is ∙ ap is_plain e),
)

plain_as : (fault found : Fault) → fault ≡ found → is_plain found ≡ true → IsOfSubcommand fault
plain_as fault found e is = plain fault (ap is_plain e ∙ is)

pub of_store_plain : (cause : StoreFault) → IsOfSubcommand (of_store cause)
of_store_plain store.Sql = plain _ refl
of_store_plain (store.WrongVersion n) = plain _ refl
of_store_plain (store.BadRow table) = plain _ refl
of_store_plain store.NoMemory = plain _ refl
of_store_plain store.OtherTables = plain _ refl

pub of_desk_plain : (cause : DeskFault) → IsOfSubcommand (of_desk cause)
of_desk_plain desk.NoMemory = plain _ refl
of_desk_plain desk.Journal = plain _ refl
of_desk_plain (desk.Store cause) = of_store_plain cause

of_file_plain : (file : ImportFile) (cause : CsvFault) → IsOfSubcommand (of_file file cause)
of_file_plain file csv.ReadFailed = plain _ refl
of_file_plain file csv.TooLong = plain _ refl
of_file_plain file csv.Header = plain _ refl
of_file_plain file (csv.NotText row) = plain _ refl
of_file_plain file (csv.FieldCount row) = plain _ refl
of_file_plain file (csv.BadName row column) = plain _ refl
of_file_plain file (csv.BadWord row column) = plain _ refl
of_file_plain file csv.NoMemory = plain _ refl

-- the faults that parts may answer
pub memory_plain : (fault : Fault) → fault ≡ Memory → IsOfSubcommand fault
memory_plain fault e = plain_as fault Memory e refl

pub journal_plain : (fault : Fault) (cause : JournalFault) → fault ≡ Journal cause → IsOfSubcommand fault
journal_plain fault cause is = plain_as fault (Journal cause) is refl

pub database_plain : (cause : DatabaseFault) → IsOfSubcommand (of_database cause)
database_plain database.NoMemory = plain _ refl
database_plain database.Sql = plain _ refl

pub closed_plain : {T : Type 0} (told : Result T Fault) (closed : Closed) (result : Result T Fault) → result ≡ first_fault told closed → IfErr told IsOfSubcommand
    → IfErr result IsOfSubcommand
closed_plain told closed result is plain = first_fault-of told closed result (λ fault. IsOfSubcommand fault) is plain database_plain

pub obstacle_plain : (fault : Fault) (cause : Obstacle) → fault ≡ Update cause → IsOfSubcommand fault
obstacle_plain fault cause is = plain_as fault (Update cause) is refl

pub order_plain : (fault : Fault) → IsOfOrder fault → IsOfSubcommand fault
order_plain fault (inl memory) = memory_plain fault memory
order_plain fault (inr none) = plain_as fault _ none refl

pub way_back_plain : (fault : Fault) → IsOfWayBack fault → IsOfSubcommand fault
way_back_plain fault (inl memory) = memory_plain fault memory
way_back_plain fault (inr (inl none)) = plain_as fault _ none refl
way_back_plain fault (inr (inr hangs)) = plain_as fault _ hangs refl

-- those of journals
of_chain_plain : (cause : ChainFault) → IsOfSubcommand (of_chain cause)
of_chain_plain chain.OpenFailed = plain _ refl
of_chain_plain chain.NoMemory = plain _ refl
of_chain_plain (chain.OtherRules number) = plain _ refl
of_chain_plain chain.OtherRegister = plain _ refl
of_chain_plain chain.TooShort = plain _ refl
of_chain_plain (chain.Differs number) = plain _ refl
of_chain_plain (chain.BadLine number) = plain _ refl

of_new_plain : (cause : NewFault) → IsOfSubcommand (of_new cause)
of_new_plain unbegun.HasBytes = plain _ refl
of_new_plain unbegun.WriteFailed = plain _ refl
of_new_plain unbegun.TooLong = plain _ refl
of_new_plain unbegun.NoMemory = plain _ refl

of_opening_plain : (cause : OpeningFault) → IsOfSubcommand (of_opening cause)
of_opening_plain (opening.OtherRules number) = plain _ refl
of_opening_plain opening.OtherRegister = plain _ refl
of_opening_plain opening.TooShort = plain _ refl
of_opening_plain (opening.Differs number) = plain _ refl
of_opening_plain (opening.BadLine number) = plain _ refl
of_opening_plain (opening.Desk cause) = of_desk_plain cause

pub of_check_plain : (cause : CheckFault) → IsOfSubcommand (of_check cause)
of_check_plain check.OtherRegister = plain _ refl
of_check_plain (check.BadLine number) = plain _ refl
of_check_plain (check.Differs number) = plain _ refl
of_check_plain check.TooShort = plain _ refl
of_check_plain (check.Reply number) = plain _ refl
of_check_plain (check.Tables found) = plain _ refl
of_check_plain check.NoMemory = plain _ refl

pub taking_up_plain : (fault : Fault) → IsOfTakingUp fault → IsOfSubcommand fault
taking_up_plain fault (inl (cause, is)) = subst (λ (f : Fault). IsOfSubcommand f) (sym is) (of_desk_plain cause)
taking_up_plain fault (inr (inl missing)) = plain_as fault _ missing refl
taking_up_plain fault (inr (inr (inl (cause, is)))) = subst (λ (f : Fault). IsOfSubcommand f) (sym is) (of_chain_plain cause)
taking_up_plain fault (inr (inr (inr (cause, is)))) = subst (λ (f : Fault). IsOfSubcommand f) (sym is) (of_opening_plain cause)

pub beginning_plain : (fault : Fault) → IsOfBeginning fault → IsOfSubcommand fault
beginning_plain fault (inl unopened) = plain_as fault _ unopened refl
beginning_plain fault (inr (cause, is)) = subst (λ (f : Fault). IsOfSubcommand f) (sym is) (of_new_plain cause)

pub begun_plain : (fault : Fault) → IsOfBegun fault → IsOfSubcommand fault
begun_plain fault (inl of) = beginning_plain fault of
begun_plain fault (inr begun) = plain_as fault _ begun refl

pub part_plain : (fault : Fault) → IsOfPart fault → IsOfSubcommand fault
part_plain fault (inl memory) = memory_plain fault memory
part_plain fault (inr (inl unopened)) = plain_as fault _ unopened refl
part_plain fault (inr (inr (inl unread))) = plain_as fault _ unread refl
part_plain fault (inr (inr (inr (inl long)))) = plain_as fault _ long refl
part_plain fault (inr (inr (inr (inr (inl (number, bad)))))) = plain_as fault _ bad refl
part_plain fault (inr (inr (inr (inr (inr (number, other)))))) = plain_as fault _ other refl

pub check_plain : (fault : Fault) → IsOfCheck fault → IsOfSubcommand fault
check_plain fault (inl of) = part_plain fault of
check_plain fault (inr (inl others)) = plain_as fault _ others refl
check_plain fault (inr (inr (cause, is))) = subst (λ (f : Fault). IsOfSubcommand f) (sym is) (of_check_plain cause)

pub store_plain : (fault : Fault) → IsOfStore fault → IsOfSubcommand fault
store_plain fault (inl memory) = memory_plain fault memory
store_plain fault (inr (cause, is)) = plain_as fault _ is refl

pub input_plain : (input : Option (List ℕ)) (fault : Fault) → IsOfInput input fault → IsOfSubcommand fault
input_plain input fault (inl memory) = memory_plain fault memory
input_plain input fault (inr (inl failed)) = plain_as fault _ failed refl
input_plain input fault (inr (inr (long, known))) = plain_as fault _ long refl

-- a fault that was reported, if one was
pub told_plain : (fault : Option Fault) (cause : Option DeskFault) → fault ≡ option_map of_desk cause → IfSome fault IsOfSubcommand
told_plain fault None e = subst (λ (f : Option Fault). IfSome f IsOfSubcommand) (sym e) tt
told_plain fault (Some cause) e = subst (λ (f : Option Fault). IfSome f IsOfSubcommand) (sym e) (of_desk_plain cause)

-- the fault that ended what is printed
printed_plain : (texts : List (List ℕ)) (ended : Option DeskFault) (printed : Printed) → PrintsAnswers texts ended printed → IfSome printed.fault IsOfSubcommand
printed_plain texts ended printed (inl (all, same)) = told_plain printed.fault ended same
printed_plain texts ended printed (inr some) = subst (λ (f : Option Fault). IfSome f IsOfSubcommand) (sym some.memory) (plain _ refl)

pub answers_plain : {fails : DeskFault → Type 0} {R S : Register} {input : List ℕ} {told : List Reply} {printed : Printed}
    → AnswersInput fails R S input told printed → IfSome printed.fault IsOfSubcommand
answers_plain {input} {told} {printed} is =
    printed_plain (answers (readings_of (asked_lines input)) told) is.ended printed is.prints

pub file_plain : (file : ImportFile) (fault : Fault) → IsOfFile file fault → IsOfSubcommand fault
file_plain file fault (cause, is) = subst (λ (f : Fault). IsOfSubcommand f) (sym is) (of_file_plain file cause)

pub any_file_plain : (fault : Fault) → IsOfAnyFile fault → IsOfSubcommand fault
any_file_plain fault (inl is) = file_plain _ fault is
any_file_plain fault (inr (inl is)) = file_plain _ fault is
any_file_plain fault (inr (inr is)) = file_plain _ fault is

-- a fault that is passed on
pub passed : {T : Type 0} (result : Result T Fault) (found : Fault) → IsErrAnd result (λ cause. cause ≡ found)
    → IsOfSubcommand found → IfErr result IsOfSubcommand
passed (Ok value) found is of = tt
passed (Err cause) found is of = subst (λ (f : Fault). IsOfSubcommand f) (sym is) of

-- what holds of each fault holds of the one that there is
pub each_plain : {T : Type 0} (result : Result T Fault) (P : Fault → Type 0) → ((fault : Fault) → P fault → IsOfSubcommand fault)
    → IfErr result P → IfErr result IsOfSubcommand
each_plain (Ok value) P of is = tt
each_plain (Err fault) P of is = of fault is
