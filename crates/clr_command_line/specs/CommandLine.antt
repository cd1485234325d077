-- What a command line does: what its words ask for is carried out and reported.
use Rattle.std.specs.Prelude.{◌≡◌, ◌⊎◌, ℕ, List, None, Result, IfErr}
use Rattle.std.specs.Prelude.{String, codes, string_bytes}
use Rattle.std.specs.declared.alloc.Global.{Global}
use Rattle.std.specs.declared.io.ErrorKind.{ErrorKind}
use Rattle.std.specs.declared.io.ErrorKind.TheVariants.{OutOfMemory}
use Rattle.clr_stream.specs.Streams.{Sends, Stream}
use Rattle.clr_args.specs.Parsed.{Parses}
use Rattle.clr_args.specs.declared.asked.Asked.{Asked}
use Rattle.clr_args.specs.declared.asked.Asked.TheVariants as asked
use Rattle.clr_args.specs.declared.parsing.Parsed.{Parsed}
use Rattle.clr_args.specs.declared.parsing.Parsed.TheVariants as parsed
use Rattle.clr_keeping.specs.Beginning.{MakesRegisterAt}
use Rattle.clr_edge.specs.Visit.{Alone, Comes, Done, MakesRegister}
use Rattle.clr_edge.specs.declared.fault.Fault.{Fault}
use Rattle.clr_edge.specs.declared.fault.Fault.TheVariants.{Memory}
use Rattle.clr_commands.specs.Archive.{ArchivesAt}
use Rattle.clr_commands.specs.Check.{ChecksAt}
use Rattle.clr_commands.specs.Faults.{FailsAsSubcommand, IsOfSubcommand}
use Rattle.clr_commands.specs.Fence.{FencesAt}
use Rattle.clr_commands.specs.Init.{InitsAt, InitsWith}
use Rattle.clr_commands.specs.Migrate.{MigratesAt}
use Rattle.clr_commands.specs.NextPart.{BeginsNext}
use Rattle.clr_commands.specs.Run.{ReadsInput, RunsAsked, RunsKept}
use Rattle.clr_commands.specs.Serve.{ServesAt}
use Rattle.clr_commands.specs.Stored.{PrintsBoard, PrintsOrder}
use Rattle.clr_commands.specs.Verify.{ReadsPlaced, VerifiesAt, VerifiesFromAt}
use Rattle.clr_commands.specs.Update.{UpdatesFiles}
use Rattle.clr_commands.specs.WayBack.{PrintsWayBack}
use Rattle.clr_commands.specs.declared.replies.Printed.{Printed}
use Rattle.clr_keeping.specs.Journal.{PrintsParts}
use Rattle.clr_command_line.specs.Around.{Around, Steps}
use Rattle.clr_command_line.specs.OwnFiles.{NamesOthers, NamesOwn, UnlessMemory}
use Rattle.clr_command_line.specs.Report.{Reports, ReportsFault, ReportsRun, ReportsServed}
use Rattle.clr_command_line.specs.Report.{ReportsText}

-- all that a command line may change: the machine, standard input and the two writers
pub record Moment (M I : Type 0) : Type 0 where
  pub machine : M
  pub input : I
  pub output : Stream
  pub errors : Stream

abbrev pub moment : {M I : Type 0} → M → I → Stream → Stream → Moment M I
moment machine input output errors =
    record { machine = machine; input = input; output = output; errors = errors }

-- nothing was opened, and the input was not read
abbrev pub IsUntouched : {M I : Type 0} → Moment M I → Moment M I → Type 0
IsUntouched before after = (after.machine ≡ before.machine) × (after.input ≡ before.input)

-- an answer is reported, and this came of the machine by it; the input is not read
abbrev pub ComesTo : {M I : Type 0} → (Result (String Global) Fault → M → M → Type 0) → ℕ
    → Moment M I → Moment M I → Type 0
ComesTo Does status before after = (answer : Result (String Global) Fault)
    × Does answer before.machine after.machine × IfErr answer IsOfSubcommand
    × (after.input ≡ before.input)
    × Reports answer status before.output after.output before.errors after.errors

-- over the steps of a machine, and what is seen of the files at paths and of the input
module _ {M S L R W I J C : Type 0} (by : Steps M S L R W J C) (around : Around I) where
  open by use {logs, tables, makes, opens, shuts, ends, net, seen}
  open around use {files, owns, spares, remaining, failures}

  -- what `run` printed is reported, and the input is read for it
  abbrev pub RunComesTo : (Result Printed Fault → M → M → Type 0) → ℕ → Moment M I → Moment M I
      → Type 0
  RunComesTo Does status before after = (answer : Result Printed Fault)
      × Does answer before.machine after.machine × FailsAsSubcommand answer
      × ReadsInput (remaining before.input) (failures before.input) (failures after.input)
      before.input after.input answer
      × ReportsRun answer status before.output after.output before.errors after.errors

  -- WHAT IS ASKED FOR IS CARRIED OUT, and reported: each subcommand makes its own visit of a
  -- database, and one that names none leaves the machine as it was. A server, an archive and a journal
  -- write as they go.
  abbrev pub CarriesOut : Asked → ℕ → Moment M I → Moment M I → Type 0
  CarriesOut (asked.Fence args) status before after = ComesTo
      (λ answer old new. FencesAt files args answer × (new ≡ old)) status before after
  CarriesOut (asked.Check three) status before after = ComesTo
      (λ answer old new. ChecksAt files three answer × (new ≡ old)) status before after
  CarriesOut (asked.Init args) status before after = ComesTo
      (InitsAt files (λ path register. Comes makes shuts ends path
      (Alone (MakesRegister tables register)))
      (InitsWith logs (λ path register first. Comes makes shuts ends path
      (Alone (MakesRegisterAt tables register first)))) args) status before after
  CarriesOut (asked.Run args) status before after = RunComesTo
      (RunsAsked files (RunsKept logs tables opens shuts ends (remaining before.input)) args
      (remaining before.input)) status before after
  CarriesOut (asked.Order args) status before after = ComesTo
      (Comes opens shuts ends args.database.now (PrintsOrder tables args)) status before after
  CarriesOut (asked.Board args) status before after = ComesTo
      (Comes opens shuts ends args.database.now (PrintsBoard tables args)) status before after
  CarriesOut (asked.WayBack args) status before after = ComesTo
      (Comes opens shuts ends args.database.now (PrintsWayBack tables args)) status before after
  CarriesOut (asked.Serve args) status before after =
      (served : Done) × (reported : Stream) × (after.input ≡ before.input)
      × ServesAt logs net seen files args before.output after.output before.errors reported
      tables opens shuts ends served before.machine after.machine
      × ReportsServed served status reported after.errors
  CarriesOut (asked.Journal args) status before after =
      (printed : Done) × IsUntouched before after
      × PrintsParts files args before.output after.output printed
      × ReportsServed printed status before.errors after.errors
  CarriesOut (asked.NextPart args) status before after = ComesTo
      (BeginsNext logs tables opens shuts ends args) status before after
  CarriesOut (asked.Verify args) status before after = ComesTo
      (VerifiesAt files args (Comes opens shuts ends args.database.now (ReadsPlaced tables)))
      status before after
  CarriesOut (asked.VerifyFrom args) status before after = ComesTo
      (VerifiesFromAt files args (Comes opens shuts ends args.copy.now (ReadsPlaced tables))
      (Comes opens shuts ends args.database.now (ReadsPlaced tables))) status before after
  CarriesOut (asked.Update args) status before after = ComesTo
      (UpdatesFiles files logs tables opens shuts ends args) status before after
  CarriesOut (asked.Archive args) status before after =
      (archived : Done) × (after.input ≡ before.input)
      × ArchivesAt logs tables opens shuts ends args before.output after.output archived
      before.machine after.machine
      × ReportsServed archived status before.errors after.errors
  CarriesOut (asked.Migrate args) status before after = ComesTo
      (MigratesAt logs tables opens shuts ends args) status before after

  -- a file that is named beside a database is one of its own, or memory ran out: nothing is done
  abbrev pub RefusesOwn : Asked → ℕ → Moment M I → Moment M I → Type 0
  RefusesOwn asked status before after = (fault : Fault) × UnlessMemory (NamesOwn owns asked) fault
      × IsUntouched before after × (after.output ≡ before.output)
      × ReportsFault fault status before.errors after.errors

  -- what words come to is done: help goes to the output, and why words do not parse to the errors
  abbrev pub DoesParsed : Parsed → ℕ → Moment M I → Moment M I → Type 0
  DoesParsed (parsed.Asked asked) status before after = RefusesOwn asked status before after
      ⊎ (NamesOthers spares asked × CarriesOut asked status before after)
  DoesParsed (parsed.Help text) status before after = IsUntouched before after
      × ReportsText (string_bytes text) None status before.output after.output before.errors
      after.errors
  DoesParsed (parsed.Unread text) status before after = IsUntouched before after
      × (status ≡ 2) × (after.output ≡ before.output)
      × Sends before.errors after.errors (string_bytes text)

  -- WHAT A COMMAND LINE DOES: what its words come to, of which the first is the program's name,
  -- unless memory runs out
  abbrev pub AnswersWords : List (List ℕ) → ℕ → Moment M I → Moment M I → Type 0
  AnswersWords words status before after =
      (IsUntouched before after × (after.output ≡ before.output)
      × ReportsFault Memory status before.errors after.errors)
      ⊎ ((parsed : Parsed) × Parses words parsed × DoesParsed parsed status before after)

-- why the program has no words: memory ran out, or an argument is no text
abbrev pub ReportsNoWords : ErrorKind → ℕ → Stream → Stream → Type 0
ReportsNoWords OutOfMemory status errors errors' = ReportsFault Memory status errors errors'
ReportsNoWords _ status errors errors' = (status ≡ 2)
    × Sends errors errors' (codes "error: an argument is not UTF-8 text\n")

-- what it does without words
abbrev pub AnswersNone : {M I : Type 0} → ErrorKind → ℕ → Moment M I → Moment M I → Type 0
AnswersNone kind status before after = IsUntouched before after
    × (after.output ≡ before.output) × ReportsNoWords kind status before.errors after.errors
