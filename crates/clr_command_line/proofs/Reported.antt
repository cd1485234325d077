-- What is reported is what every command line keeps to.
use Rattle.std.proofs.Common.{◌≡◌, ◌⊎◌, ◌∙◌, ℕ, List, Result, Ok, Err, ap, arith, inl, inr, refl, subst, sym}
use Rattle.std.specs.Prelude.{◌≢◌, IfErr, IfSome, IsSomeAnd, Option, Some, None, String}
use Rattle.std.specs.declared.alloc.Global.{Global}
use Rattle.std.specs.declared.io.ErrorKind.{ErrorKind}
use Rattle.std.specs.declared.io.ErrorKind.TheVariants.{OutOfMemory}
use Rattle.clr_args.specs.Parsed.{MayAnswer, Parses}
use Rattle.clr_args.proofs.ParsedWords.{MayAnswer-parsed}
use Rattle.clr_args.specs.declared.asked.Asked.{Asked}
use Rattle.clr_args.specs.declared.asked.Asked.TheVariants as asked
use Rattle.clr_args.specs.declared.asked.Files.{Files}
use Rattle.clr_args.specs.declared.asked.RunArgs.TheVariants as run
use Rattle.clr_args.specs.declared.asked.StoredArgs.{StoredArgs}
use Rattle.clr_args.specs.declared.parsing.Parsed.{Parsed}
use Rattle.clr_args.specs.declared.parsing.Parsed.TheVariants as parsed
use Rattle.clr_edge.specs.Visit.{Done}
use Rattle.clr_edge.specs.declared.fault.Fault.{Fault}
use Rattle.clr_edge.specs.declared.fault.Fault.TheVariants.{Memory, Output}
use Rattle.clr_commands.specs.Connections.{ReportsFirst}
use Rattle.clr_commands.specs.Faults.{FailsAsSubcommand, IsOfSubcommand}
use Rattle.clr_keeping.specs.Journal.{IsSent}
use Rattle.clr_commands.specs.declared.replies.Printed.{Printed}
use Rattle.clr_commands.proofs.Archived.{HasWritten, archive_written}
use Rattle.clr_commands.proofs.Written.{Writes, serve_written}
use Rattle.clr_stream.specs.Streams.{Stream}
use Rattle.clr_command_line.specs.Around.{Around, Steps}
use Rattle.clr_command_line.specs.CommandLine.{AnswersNone, CarriesOut, DoesParsed, Moment}
use Rattle.clr_command_line.specs.OwnFiles.{NamesOwn, OwnsFile, OwnsJournal, OwnsMade, UnlessMemory}
use Rattle.clr_command_line.specs.Report.{HasServed, IsFaulted, IsReported, Reports, ReportsFault, ReportsRun, ReportsServed, ReportsText}

-- a fault, at which nothing went to the output
pub reported_fault : (fault : Fault) (status : ℕ) (output output' errors errors' : Stream) → fault ≢ Output → output' ≡ output
    → ReportsFault fault status errors errors' → IsReported status output output' errors errors'
reported_fault fault status output output' errors errors' other same (one, line) = record {
  statuses = omega (arith, one);
  answered = λ zero. absurd (omega (arith, zero, one));
  faulted = λ _. (fault, errors, line, inl (refl, inr (other, inl same)));
  unread = λ two. absurd (omega (arith, one, two));
}

-- a text, and the fault that ended it
reported_text : (text : List ℕ) (fault : Option Fault) (status : ℕ) (output output' errors errors' : Stream) → IfSome fault IsOfSubcommand
    → ReportsText text fault status output output' errors errors' → IsReported status output output' errors errors'
reported_text text None status output output' errors errors' own (inl (out, (zero, same))) = record {
  statuses = omega (arith, zero);
  answered = λ _. (out.1, inl same);
  faulted = λ one. absurd (omega (arith, zero, one));
  unread = λ two. absurd (omega (arith, zero, two));
}
reported_text text (Some fault) status output output' errors errors' own (inl (out, (one, line))) = record {
  statuses = omega (arith, one);
  answered = λ zero. absurd (omega (arith, zero, one));
  faulted = λ _. (fault, errors, line, inl (refl, inr (own.0, inr (text, out))));
  unread = λ two. absurd (omega (arith, one, two));
}
reported_text text fault status output output' errors errors' own (inr (cut, (one, line))) = record {
  statuses = omega (arith, one);
  answered = λ zero. absurd (omega (arith, zero, one));
  faulted = λ _. (Output, errors, line, inl (refl, inl (refl, cut.1)));
  unread = λ two. absurd (omega (arith, one, two));
}

-- an answer
reported : (answer : Result (String Global) Fault) (status : ℕ) (output output' errors errors' : Stream) → IfErr answer IsOfSubcommand
    → Reports answer status output output' errors errors' → IsReported status output output' errors errors'
reported (Ok text) status output output' errors errors' own reports = reported_text _ None status output output' errors errors' tt reports
reported (Err fault) status output output' errors errors' own (same, line) =
    reported_fault fault status output output' errors errors' own.0 same line

reported_run : (answer : Result Printed Fault) (status : ℕ) (output output' errors errors' : Stream) → FailsAsSubcommand answer
    → ReportsRun answer status output output' errors errors' → IsReported status output output' errors errors'
reported_run (Ok printed) status output output' errors errors' own reports =
    reported_text _ printed.fault status output output' errors errors' own reports
reported_run (Err fault) status output output' errors errors' own (same, line) =
    reported_fault fault status output output' errors errors' own.0 same line

-- what went out before the fault of a server
written_before : (port count : ℕ) (fault : Fault) (output output' errors middle : Stream) → Writes port count (Err fault) output output' errors middle
    → ((middle ≡ errors) × IsFaulted fault output output') ⊎ ((fault ≢ Output) × HasServed output output' errors middle)
written_before port count fault output output' errors middle (inl (other, same, quiet)) = inl (quiet, inr (other, inl same))
written_before port count fault output output' errors middle (inr (inl (is_output, cut, quiet))) = inl (quiet, inl (is_output, cut.1))
written_before port count fault output output' errors middle (inr (inr (other, began, (n, reported)))) =
    inr (other, record { port = port; count = n; began = began; reported = reported })

-- a server that came to its end
reported_served : (port count : ℕ) (served : Done) (status : ℕ) (output output' errors middle errors' : Stream)
    → Writes port count served output output' errors middle → ReportsServed served status middle errors' → IsReported status output output' errors errors'
reported_served port count (Ok value) status output output' errors middle errors' (began, reported) (zero, same) = record {
  statuses = omega (arith, zero);
  answered = λ _. (
    began.1,
    inr (record { port = port; count = count; began = began; reported = subst (λ (s : Stream). ReportsFirst count errors s) (sym same) reported }),
  );
  faulted = λ one. absurd (omega (arith, zero, one));
  unread = λ two. absurd (omega (arith, zero, two));
}
reported_served port count (Err fault) status output output' errors middle errors' wrote (one, line) = record {
  statuses = omega (arith, one);
  answered = λ zero. absurd (omega (arith, zero, one));
  faulted = λ _. (fault, middle, line, written_before port count fault output output' errors middle wrote);
  unread = λ two. absurd (omega (arith, one, two));
}

-- an archive
reported_archive : (archived : Done) (status : ℕ) (output output' errors errors' : Stream) → HasWritten output output' archived
    → ReportsServed archived status errors errors' → IsReported status output output' errors errors'
reported_archive (Ok value) status output output' errors errors' (text, went) (zero, same) = record {
  statuses = omega (arith, zero);
  answered = λ _. (went.1, inl same);
  faulted = λ one. absurd (omega (arith, zero, one));
  unread = λ two. absurd (omega (arith, zero, two));
}
reported_archive (Err fault) status output output' errors errors' wrote (one, line) = record {
  statuses = omega (arith, one);
  answered = λ zero. absurd (omega (arith, zero, one));
  faulted = λ _. (fault, errors, line, inl (refl, wrote));
  unread = λ two. absurd (omega (arith, one, two));
}

unread : (status : ℕ) (output output' errors errors' : Stream) → status ≡ 2 → output' ≡ output → IsReported status output output' errors errors'
unread status output output' errors errors' two same = record {
  statuses = omega (arith, two);
  answered = λ zero. absurd (omega (arith, zero, two));
  faulted = λ one. absurd (omega (arith, one, two));
  unread = λ _. same;
}

file_other : (owns : List ℕ → List ℕ → Type 0) (database : List ℕ) (files : Files) (fault : Fault) → OwnsFile owns database files fault → fault ≢ Output
file_other owns database files fault (inl (own, is)) e = cc (sym is ∙ e)
file_other owns database files fault (inr (inl (own, is))) e = cc (sym is ∙ e)
file_other owns database files fault (inr (inr (own, is))) e = cc (sym is ∙ e)

part_other : (owns : List ℕ → List ℕ → Type 0) (database : List ℕ) (found : Option (List ℕ)) (fault : Fault)
    → IsSomeAnd found (λ path. OwnsJournal owns database path fault) → fault ≢ Output
part_other owns database None fault own e = absurd own
part_other owns database (Some path) fault (own, is) e = cc (sym is ∙ e)

made_other : (owns : List ℕ → List ℕ → Type 0) (stored : Option StoredArgs) (files : Files) (fault : Fault)
    → IsSomeAnd stored (λ made. OwnsMade owns made files fault) → fault ≢ Output
made_other owns None files fault own e = absurd own
made_other owns (Some made) files fault (inl own) e = file_other owns made.database.now files fault own e
made_other owns (Some made) files fault (inr (inl (own, is))) e = cc (sym is ∙ e)
made_other owns (Some made) files fault (inr (inr (own, is))) e = cc (sym is ∙ e)

-- the fault of a file of the database is not of the output
own_other : (owns : List ℕ → List ℕ → Type 0) (what : Asked) (fault : Fault) → UnlessMemory (NamesOwn owns what) fault → fault ≢ Output
own_other owns what fault (inl memory) e = cc (sym memory ∙ e)
own_other owns (asked.Init args) fault (inr own) e = made_other owns args.stored args.files fault own e
own_other owns (asked.Run (run.Stored args)) fault (inr (own, is)) e = cc (sym is ∙ e)
own_other owns (asked.Serve args) fault (inr (inl (own, is))) e = cc (sym is ∙ e)
own_other owns (asked.Serve args) fault (inr (inr (own, is))) e = cc (sym is ∙ e)
own_other owns (asked.Verify args) fault (inr (inl (own, is))) e = cc (sym is ∙ e)
own_other owns (asked.Verify args) fault (inr (inr (inl (place, own)))) e = part_other owns args.database.now _ fault own e
own_other owns (asked.Verify args) fault (inr (inr (inr own))) e = file_other owns args.database.now args.files fault own e
own_other owns (asked.VerifyFrom args) fault (inr (inl (own, is))) e = cc (sym is ∙ e)
own_other owns (asked.VerifyFrom args) fault (inr (inr (inl (own, is)))) e = cc (sym is ∙ e)
own_other owns (asked.VerifyFrom args) fault (inr (inr (inr (inl (place, own))))) e = part_other owns args.database.now _ fault own e
own_other owns (asked.VerifyFrom args) fault (inr (inr (inr (inr (place, own))))) e = part_other owns args.copy.now _ fault own e
own_other owns (asked.Update args) fault (inr (inl own)) e = file_other owns args.database.now args.files fault own e
own_other owns (asked.Update args) fault (inr (inr (own, is))) e = cc (sym is ∙ e)
own_other owns (asked.Archive args) fault (inr (own, is)) e = cc (sym is ∙ e)
own_other owns (asked.NextPart args) fault (inr (inl (own, is))) e = cc (sym is ∙ e)
own_other owns (asked.NextPart args) fault (inr (inr (own, is))) e = cc (sym is ∙ e)
own_other owns (asked.Migrate args) fault (inr (own, is)) e = cc (sym is ∙ e)
own_other owns what fault (inr own) e = absurd own

-- a journal that was printed
is_of_output : (fault : Fault) → (fault ≡ Output) ⊎ (fault ≢ Output)
is_of_output Output = inl refl
is_of_output fault = inr (λ e. cc e)

printed_before : (fault : Fault) (output output' : Stream) → IsSent output output' (Err fault) → (fault ≡ Output) ⊎ (fault ≢ Output) → IsFaulted fault output output'
printed_before fault output output' sent (inl is) = inl (is, sent.failed (ap Err is))
printed_before fault output output' sent (inr other) = inr (other, sent.before other)

reported_journal : (printed : Done) (status : ℕ) (output output' errors errors' : Stream) → IsSent output output' printed
    → ReportsServed printed status errors errors' → IsReported status output output' errors errors'
reported_journal (Ok value) status output output' errors errors' sent (zero, same) = record {
  statuses = omega (arith, zero);
  answered = λ _. (sent.done, inl same);
  faulted = λ one. absurd (omega (arith, zero, one));
  unread = λ two. absurd (omega (arith, zero, two));
}
reported_journal (Err fault) status output output' errors errors' sent (one, line) = record {
  statuses = omega (arith, one);
  answered = λ zero. absurd (omega (arith, zero, one));
  faulted = λ _. (fault, errors, line, inl (refl, printed_before fault output output' sent (is_of_output fault)));
  unread = λ two. absurd (omega (arith, one, two));
}

module _ {M S L R W I J C : Type 0} (by : Steps M S L R W J C) (around : Around I) where
  open by use {logs, tables, opens, shuts, ends, net, seen}
  open around use {files, owns}

  carried_out : (what : Asked) (status : ℕ) (before after : Moment M I)
      → CarriesOut by around what status before after
      → IsReported status before.output after.output before.errors after.errors
  carried_out (asked.Fence args) status before after (answer, does, own, untouched, reports) = reported answer status _ _ _ _ own reports
  carried_out (asked.Check three) status before after (answer, does, own, untouched, reports) = reported answer status _ _ _ _ own reports
  carried_out (asked.Init args) status before after (answer, does, own, untouched, reports) = reported answer status _ _ _ _ own reports
  carried_out (asked.Run args) status before after (answer, does, own, reads, reports) = reported_run answer status _ _ _ _ own reports
  carried_out (asked.Order args) status before after (answer, does, own, untouched, reports) = reported answer status _ _ _ _ own reports
  carried_out (asked.Board args) status before after (answer, does, own, untouched, reports) = reported answer status _ _ _ _ own reports
  carried_out (asked.WayBack args) status before after (answer, does, own, untouched, reports) = reported answer status _ _ _ _ own reports
  carried_out (asked.Serve args) status before after (served, middle, untouched, serves, reports) =
      reported_served args.port args.count served status before.output after.output before.errors middle after.errors
      (serve_written logs net seen before.output after.output before.errors middle files args tables opens shuts ends served
      before.machine after.machine serves) reports
  carried_out (asked.Journal args) status before after (printed, untouched, prints, reports) = reported_journal printed status _ _ _ _ prints.sent reports
  carried_out (asked.NextPart args) status before after (answer, does, own, untouched, reports) = reported answer status _ _ _ _ own reports
  carried_out (asked.Verify args) status before after (answer, does, own, untouched, reports) = reported answer status _ _ _ _ own reports
  carried_out (asked.VerifyFrom args) status before after (answer, does, own, untouched, reports) = reported answer status _ _ _ _ own reports
  carried_out (asked.Update args) status before after (answer, does, own, untouched, reports) = reported answer status _ _ _ _ own reports
  carried_out (asked.Archive args) status before after (archived, untouched, archives, reports) =
      reported_archive archived status _ _ _ _
      (archive_written before.output after.output logs tables opens shuts ends args archived before.machine after.machine archives) reports
  carried_out (asked.Migrate args) status before after (answer, does, own, untouched, reports) = reported answer status _ _ _ _ own reports

  pub does : (what : Parsed) (status : ℕ) (before after : Moment M I)
      → DoesParsed by around what status before after
      → IsReported status before.output after.output before.errors after.errors
  does (parsed.Asked what) status before after (inl (fault, own, untouched, same, line)) =
      reported_fault fault status _ _ _ _ (own_other owns what fault own) same line
  does (parsed.Asked what) status before after (inr (others, is)) = carried_out what status before after is
  does (parsed.Help text) status before after (untouched, is) = reported_text _ None status _ _ _ _ tt is
  does (parsed.Unread text) status before after (untouched, two, same, line) = unread status _ _ _ _ two same

  -- the status is 0 only for words that may have an answer
  pub MayAnswer-does : (words : List (List ℕ)) (what : Parsed) (status : ℕ) (before after : Moment M I) → Parses words what
      → DoesParsed by around what status before after → status ≡ 0 → MayAnswer words
  MayAnswer-does words (parsed.Asked what) status before after is is_done zero =
      MayAnswer-parsed words (parsed.Asked what) is (λ unread. unread)
  MayAnswer-does words (parsed.Help text) status before after is is_done zero =
      MayAnswer-parsed words (parsed.Help text) is (λ unread. unread)
  MayAnswer-does words (parsed.Unread text) status before after is (untouched, two, same, line) zero = absurd (omega (arith, zero, two))

pub memory_is_no_output : Memory ≢ Output
memory_is_no_output = λ e. cc e

-- the same where there are no words
pub IsReported-no_words : {M I : Type 0} (cause : ErrorKind) (status : ℕ) (before after : Moment M I) → AnswersNone cause status before after
    → IsReported status before.output after.output before.errors after.errors
IsReported-no_words OutOfMemory status before after (untouched, same, line) = reported_fault Memory status _ _ _ _ memory_is_no_output same line
IsReported-no_words _ status before after (untouched, same, (two, line)) = unread status _ _ _ _ two same
