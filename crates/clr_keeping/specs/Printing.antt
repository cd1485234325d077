-- HOW FAR A JOURNAL WAS PRINTED.
use Rattle.std.specs.Prelude.{◌≡◌, ◌≢◌, ◌⊎◌, ℕ, Bool, true, false, List, [], ◌∷◌, ◌++◌, None, Err}
use Rattle.std.specs.Prelude.{IfSome, Ok, Option, Some, string_bytes}
use Rattle.clr_journal.specs.Lines.{ended_lines}
use Rattle.clr_stream.specs.Streams.{IsCut, Stream, WentOut}
use Rattle.clr_rules.specs.Id.{Id}
use Rattle.clr_journal.specs.Line.{Entry}
use Rattle.clr_chain.specs.Walking.{Step, bad, holds}
use Rattle.clr_log.specs.Commands.{commands_about, commands_text}
use Rattle.clr_log.specs.Walked.{Serve, held_entries, holding, older_with, walked_log}
use Rattle.clr_verify.specs.Replay.{open_entries}
use Rattle.clr_args.specs.declared.asked.JournalArgs.{JournalArgs}
use Rattle.clr_edge.specs.Visit.{Done}
use Rattle.clr_edge.specs.declared.fault.Fault.{Fault}
use Rattle.clr_edge.specs.declared.fault.Fault.TheVariants.{Memory, Output}
use Rattle.clr_keeping.specs.Journal.{SentSome, ends_as, journal_text, wanted_in}
use Rattle.clr_edge.specs.Lines.{ends_whole}
use Rattle.clr_keeping.specs.Parts.{BeginBy, BeginsPart, BreaksAfter, GoOnBy, IsOfReading}
use Rattle.clr_keeping.specs.Parts.{IsUnreadPart, part_steps, walked}
use Rattle.clr_keeping.specs.declared.journal.Kind.{Kind}
use Rattle.clr_keeping.specs.declared.journal.Kind.TheVariants.{Commands, Log}
use Rattle.clr_keeping.specs.declared.journal.Printing.{Printing}

-- the lines that held, of which the newest come first
unfoldable pub older_after : List Entry → List Step → List Entry
older_after older [] = older
older_after older (step ∷ rest) = older_after (older_with older step) rest

-- the number of the first line that does not hold its sum
abbrev pub first_bad : List Step → Option ℕ
first_bad [] = None
first_bad (holds entry ∷ rest) = first_bad rest
first_bad (bad n ∷ rest) = Some n

-- the same with one more line
abbrev pub bad_with : Option ℕ → Step → Option ℕ
bad_with (Some n) step = Some n
bad_with None (holds entry) = None
bad_with None (bad n) = Some n

-- this text is that of these steps; of the commands all but the open one are in it
abbrev pub IsText : JournalArgs → Option Id → List Step → List ℕ → Kind → Type 0
IsText args wanted steps text (Log log) = (args.commands ≡ false) × (log.wanted ≡ wanted)
    × (log.clock ≡ args.offset.minutes)
    × Serve wanted (held_entries log.held.items) (older_after [] steps)
    × (text ≡ walked_log wanted args.offset.minutes steps)
IsText args wanted steps text (Commands it) = (args.commands ≡ true) × (it.wanted ≡ wanted)
    × ((rest : List Entry) → commands_text (commands_about wanted (holding steps ++ rest))
    ≡ text ++ commands_text (commands_about wanted (open_entries it.last ++ rest)))

-- a text went out, or it is empty and nothing did; no call of the output failed
pub record SentOut (output output' : Stream) (text : List ℕ) : Type 0 where
  pub went : WentOut output output' text ⊎ ((text ≡ []) × (output' ≡ output))
  pub failures : output'.failures ≡ output.failures
  pub stalls : output'.stalls ≡ output.stalls

-- AFTER THESE STEPS what went out and what is held are their text
pub record HasPrinted (args : JournalArgs) (output : Stream) (steps : List Step) (it : Printing)
    (output' : Stream) : Type 0 where
  pub wanted : Option Id
  pub wanted_is : wanted_in args ≡ Ok wanted
  pub sent : List ℕ
  pub went : SentOut output output' sent
  pub text : IsText args wanted steps (sent ++ string_bytes it.text) it.kind
  pub bad_is : it.bad ≡ first_bad steps

-- a front of the text of these steps went out, and the output failed
abbrev pub IsCutOf : JournalArgs → Stream → Stream → List Step → Type 0
IsCutOf args output output' steps = (wanted : Option Id) × (wanted_in args ≡ Ok wanted)
    × IsCut output output' (journal_text args wanted steps)

-- FROM ONE STATE TO ANOTHER these steps were printed, whatever was printed before them
pub record PrintsOn (old : Printing) (before : Stream) (steps : List Step) (new : Printing)
    (after : Stream) : Type 0 where
  pub printed : (args : JournalArgs) (output : Stream) (had : List Step)
      → HasPrinted args output had old before → HasPrinted args output (had ++ steps) new after

-- THEY WERE NOT, for this fault: the output failed within the text of these steps, or it has what
-- went out before
pub record FailsOn (old : Printing) (before : Stream) (steps : List Step) (fault : Fault)
    (after : Stream) : Type 0 where
  pub sent : fault ≢ Output → (args : JournalArgs) (output : Stream) (had : List Step)
      → HasPrinted args output had old before → SentSome output after
  pub cut : fault ≡ Output → (args : JournalArgs) (output : Stream) (had : List Step)
      → HasPrinted args output had old before → IsCutOf args output after (had ++ steps)

-- the lines of a part were printed, and half a line at its end: all, where its bytes are known
pub record PrintsPart (left : Option (List ℕ)) (old : Printing) (before : Stream) (new : Printing)
    (after : Stream) : Type 0 where
  pub lines : List (List ℕ)
  pub is_whole : Bool
  pub all : IfSome left (λ bytes. (ended_lines bytes ≡ lines) × (ends_whole bytes ≡ is_whole))
  pub prints : PrintsOn old before (part_steps old.walk.end lines is_whole) new after
  pub end : new.walk.end ≡ (walked old.walk.end lines).1
  pub id : new.walk.id ≡ old.walk.id

-- they were not: the output failed, or a line was not read
pub record FailsWithin (left : Option (List ℕ)) (old : Printing) (before : Stream) (fault : Fault)
    (after : Stream) : Type 0 where
  pub steps : List Step
  pub some : IfSome left (λ bytes.
      BeginsPart old.walk.end (ended_lines bytes) (ends_whole bytes) steps)
  pub why : (fault ≡ Output) ⊎ IsOfReading fault
  pub fails : FailsOn old before steps fault after

-- the further parts were printed
pub record PrintsMore (parts : Option (List (List ℕ))) (old : Printing) (before : Stream)
    (new : Printing) (after : Stream) : Type 0 where
  pub steps : List Step
  pub go_on : IfSome parts (λ known. GoOnBy old.walk.id old.walk.end known steps)
  pub prints : PrintsOn old before steps new after

-- they were not: the output failed, or one was not read, or is refused by its first line
pub record FailsMore (parts : Option (List (List ℕ))) (old : Printing) (before : Stream)
    (fault : Fault) (after : Stream) : Type 0 where
  pub steps : List Step
  pub begin : IfSome parts (λ known. BeginBy old.walk.id old.walk.end known steps)
  pub why : (fault ≡ Output) ⊎ IsUnreadPart fault
      ⊎ IfSome parts (λ known. BreaksAfter old.walk.id old.walk.end known fault)
  pub fails : FailsOn old before steps fault after

-- the text of all steps went out, and the end is as it is; or a front of it did, and the output
-- failed; or memory ran out
abbrev pub PrintsAll : JournalArgs → Stream → Stream → List Step → Done → Type 0
PrintsAll args output output' steps result = (wanted : Option Id)
    × (wanted_in args ≡ Ok wanted)
    × ((WentOut output output' (journal_text args wanted steps) × (result ≡ ends_as steps))
    ⊎ ((result ≡ Err Output) × IsCut output output' (journal_text args wanted steps))
    ⊎ ((result ≡ Err Memory) × SentSome output output'))
