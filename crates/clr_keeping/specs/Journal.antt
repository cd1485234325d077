-- WHAT `journal` PRINTS, by the bytes of the parts: the switching log, or the commands alone.
use Rattle.std.specs.Prelude.{◌≡◌, ◌≢◌, ◌⊎◌, ◌∷◌, [], ℕ, List, Option, None, Some, Result, Ok, Err, map}
use Rattle.std.specs.Prelude.{IfErr, IsErrOf, IsSomeAnd, OnOk, if◌then◌else◌, option_map}
use Rattle.std.specs.Prelude.{slice_get, true}
use Rattle.std.specs.Borrow.{Bor}
use Rattle.clr_stream.specs.Streams.{HasFailed, IsCut, Stream, WentOut}
use Rattle.clr_rules.specs.Id.{Id}
use Rattle.clr_rules.specs.IdText.{read_id}
use Rattle.clr_chain.specs.Walking.{Step, bad, holds}
use Rattle.clr_log.specs.Walked.{walked_commands, walked_log}
use Rattle.clr_args.specs.declared.asked.JournalArgs.{JournalArgs}
use Rattle.clr_edge.specs.declared.fault.Fault.{Fault}
use Rattle.clr_edge.specs.declared.fault.Fault.TheVariants.{Journal, NoSuch, Output}
use Rattle.clr_edge.specs.declared.fault.JournalFault.TheVariants.{BadLine, OpenFailed, ReadFailed}
use Rattle.clr_edge.specs.Visit.{Done}
use Rattle.clr_keeping.specs.Parts.{Breaks, HasFront, HasSteps, IsOfPart, IsUnreadPart}
use Rattle.clr_edge.specs.Paths.{AtPaths}

-- the clearance that a word names, if one was given
abbrev pub some_or_none : Option Id → Result (Option Id) Fault
some_or_none None = Err NoSuch
some_or_none (Some c) = Ok (Some c)

abbrev pub wanted_clearance : Option (List ℕ) → Result (Option Id) Fault
wanted_clearance None = Ok None
wanted_clearance (Some word) = some_or_none (read_id word)

abbrev pub wanted_in : JournalArgs → Result (Option Id) Fault
wanted_in args = wanted_clearance (option_map (λ word. word.now) args.clearance)

-- the log, or the commands alone
abbrev pub journal_text : JournalArgs → Option Id → List Step → List ℕ
journal_text args wanted steps = if args.commands then walked_commands wanted steps
    else walked_log wanted args.offset.minutes steps

-- THE END: a fault names the first line that does not hold its sum
abbrev pub ends_as : List Step → Done
ends_as [] = Ok tt
ends_as (holds entry ∷ rest) = ends_as rest
ends_as (bad n ∷ rest) = Err (Journal (BadLine n))

-- the bytes of the further parts, where all are known
abbrev pub all_known : List (Option (List ℕ)) → Option (List (List ℕ))
all_known [] = Some []
all_known (None ∷ rest) = None
all_known (Some bytes ∷ rest) = option_map (λ more. bytes ∷ more) (all_known rest)

abbrev pub parts_known : AtPaths → JournalArgs → Option (List (List ℕ))
parts_known at args = all_known (map (λ path. at.bytes path.now) args.parts.items)

-- ALL OF A JOURNAL WAS PRINTED, whose parts are known, and the end is as it is
pub record PrintsKnown (args : JournalArgs) (first_part : List ℕ) (parts : List (List ℕ))
    (output output' : Stream) (result : Done) : Type 0 where
  pub steps : List Step
  pub has_steps : HasSteps first_part parts steps
  pub wanted : Option Id
  pub wanted_is : wanted_in args ≡ Ok wanted
  pub printed : WentOut output output' (journal_text args wanted steps)
  pub result_is : result ≡ ends_as steps

-- a front of it was, as far as it was read, and then the output failed
pub record CutsKnown (args : JournalArgs) (first_part : List ℕ) (parts : List (List ℕ))
    (output output' : Stream) : Type 0 where
  pub steps : List Step
  pub begins : HasFront first_part parts steps
  pub wanted : Option Id
  pub wanted_is : wanted_in args ≡ Ok wanted
  pub cut : IsCut output output' (journal_text args wanted steps)

-- WHAT WAS PRINTED of a journal whose parts are known: all of it; or a front of it, and then the output
-- failed; or memory ran out, or a part went unread, or one is refused by its first line
abbrev pub PrintsAt : Option (List ℕ) → Option (List (List ℕ)) → JournalArgs → Stream → Stream
    → Done → Type 0
PrintsAt (Some first_part) (Some parts) args output output' result =
    (PrintsKnown args first_part parts output output' result)
    ⊎ ((result ≡ Err Output) × CutsKnown args first_part parts output output')
    ⊎ ((fault : Fault) × (result ≡ Err fault)
    × (IsUnreadPart fault ⊎ Breaks first_part parts fault))
PrintsAt first_part parts args output output' result = Unit {0}

-- a part could not be opened, or a read of it failed
abbrev pub FailsOne : AtPaths → JournalArgs → Type 0
FailsOne at args = at.fails args.path.now
    ⊎ ((place : ℕ) × IsSomeAnd (slice_get args.parts.items place) (λ path. at.fails path.now))

-- something went out and was flushed, or nothing went out
abbrev pub SentSome : Stream → Stream → Type 0
SentSome output output' = (output' ≡ output) ⊎ ((front : List ℕ) × WentOut output output' front)

-- what went out before a fault that is not of the output was flushed; one of the output has a cause
pub record IsSent (output output' : Stream) (result : Done) : Type 0 where
  pub done : OnOk result (output'.flushed ≡ true)
  pub before : IfErr result (λ fault. fault ≢ Output → SentSome output output')
  pub failed : IsErrOf result Output → HasFailed output output'

-- THE ANSWER: no clearance is named by the word, and nothing is opened; or the journal is printed. A
-- part that is reported as unread has a cause
pub record PrintsParts (at : AtPaths) (args : JournalArgs) (output output' : Stream)
    (result : Done) : Type 0 where
  pub printed : ((wanted_in args ≡ Err NoSuch) × (result ≡ Err NoSuch) × (output' ≡ output))
      ⊎ PrintsAt (at.bytes args.path.now) (parts_known at args) args output output' result
  pub sent : IsSent output output' result
  pub unopened : IsErrOf result (Journal OpenFailed) → FailsOne at args
  pub unread : IsErrOf result (Journal ReadFailed) → FailsOne at args

-- of a fault that says so, one of the further parts could not be opened, or a read of it failed
abbrev pub FailsAny : AtPaths → List (Bor (List ℕ)) → Fault → Type 0
FailsAny at parts fault = (fault ≡ Journal OpenFailed) ⊎ (fault ≡ Journal ReadFailed)
    → (place : ℕ) × IsSomeAnd (slice_get parts place) (λ path. at.fails path.now)

-- the faults of printing
abbrev pub IsOfPrinting : Fault → Type 0
IsOfPrinting fault = (fault ≡ Output) ⊎ IsOfPart fault

-- the faults of `journal`
abbrev pub IsOfJournal : Fault → Type 0
IsOfJournal fault = (fault ≡ NoSuch) ⊎ IsOfPrinting fault
