-- THE LAWS OF ARCHIVES. Each is proved, by a law in src/archive_laws.rt.
use Rattle.std.specs.Prelude.{◌≡◌, ◌⊎◌, ◌≤◌, ℕ, Bool, true, false, List, [], Contains, Some}
use Rattle.clr_rules.specs.Agreement.{Agree}
use Rattle.clr_rules.specs.Answer.{answer}
use Rattle.clr_rules.specs.Fences.{clearance_fence}
use Rattle.clr_rules.specs.Good.{IsGood}
use Rattle.clr_rules.specs.Isolation.{LeftAlone}
use Rattle.clr_rules.specs.Prelude.{Id, Register, list_any, record_of, steps_of}
use Rattle.clr_rules.specs.Records.{is_open}
use Rattle.clr_rules.specs.Staffed.{IsStaffed}
use Rattle.clr_rules.specs.laws.ClosedSteps.{AreOneBut}
use Rattle.clr_changes.specs.Archive.{archived, gives_up, printed_records}
use Rattle.clr_changes.specs.Deeds.{Deed, after_deeds}
use Rattle.clr_changes.specs.Unarchived.{AreMade, ShowNoneGone, ShowsNoneOf, answers_among}
use Rattle.clr_changes.specs.Unarchived.{is_update, unarchived}
use Rattle.clr_rules.specs.declared.command.Command.{Command}
use Rattle.clr_rules.specs.declared.record.Record.{Record}
use Rattle.clr_rules.specs.declared.step_row.StepRow.{StepRow}

-- GOOD AND STAFFED AGAIN
pub record ArchivesKeepGood : Type 0 where
  pub good : (before : ℕ) (R : Register) → IsGood R → IsGood (archived before R)
  pub staffed : (before : ℕ) (R : Register) → IsStaffed R → IsStaffed (archived before R)

-- WHAT IS OPEN KEEPS ALL THAT IS ITS OWN: no open record gives up its steps. Of each clearance that
-- does not, record, steps, holds, hands and fence are as they were, and each point that it holds is
-- open. Of one that does, the steps alone go
pub record ArchivesTakeClosedSteps : Type 0 where
  pub keeps_open : (before : ℕ) (R : Register) (c : Id) (r : Record)
      → record_of R.records c ≡ Some r → is_open r.phase ≡ true → gives_up before R c ≡ false
  pub left : (before : ℕ) (R : Register) (c : Id) → IsGood R → gives_up before R c ≡ false
      → LeftAlone c R (archived before R)
  pub gone : (before : ℕ) (R : Register) (c : Id) → gives_up before R c ≡ true
      → steps_of (Register.steps (archived before R)) c ≡ []
  pub fences : (before : ℕ) (R : Register) (c : Id)
      → clearance_fence (archived before R) c ≡ clearance_fence R c

-- NO STEP IS LOST: each is in the register after it, or its record is printed with it
abbrev pub NoStepIsLost : Type 0
NoStepIsLost = (before : ℕ) (R : Register) (row : StepRow) → Contains R.steps row
    → Contains (Register.steps (archived before R)) row
    ⊎ ((r : Record) × Contains (printed_records before R) r × Contains (steps_of R.steps r.id) row)

-- ONLY A SHOW IS ANSWERED OTHERWISE: a command that is about no record that gave up its steps has
-- the same reply and the same edits; and so has a command about such a one, but for a show
abbrev pub OnlyShowsDiffer : Type 0
OnlyShowsDiffer =
    (before : ℕ) (R : Register) (q : Command) → IsGood R → ShowsNoneOf (gives_up before R) q.kind
    → answer (archived before R) q ≡ answer R q

-- AS IF NOTHING WERE ARCHIVED: the commands among deeds have the same answers, and at the end the
-- registers are one but for the steps of records that are closed
pub record GoAsUnarchived (R : Register) (deeds : List Deed) : Type 0 where
  pub answers : answers_among R deeds ≡ answers_among R (unarchived deeds)
  pub gone : Id → Bool
  pub rest : AreOneBut gone (after_deeds R deeds) (after_deeds R (unarchived deeds))

-- DEEDS GO AS IF NOTHING WERE ARCHIVED, whenever that is done, if no command among them shows a
-- clearance that gave up its steps, and each update can be made and leaves an operator
abbrev pub DeedsGoAsUnarchived : Type 0
DeedsGoAsUnarchived =
    (R : Register) (deeds : List Deed) → IsGood R → ShowNoneGone (λ c. false) R deeds
    → AreMade R deeds → GoAsUnarchived R deeds

-- of commands and archives alone nothing has to be made
abbrev pub WithoutUpdatesAreMade : Type 0
WithoutUpdatesAreMade =
    (R : Register) (deeds : List Deed) → list_any is_update deeds ≡ false → AreMade R deeds

-- AGREEMENT NEAR A CLEARANCE IS KEPT by an archive on either side, as long as the clearance does
-- not give up its steps: in each register it has the same of itself and of what is near
pub record ArchivesKeepAgreement : Type 0 where
  pub alone : (c : Id) (inside : List ℕ → Bool) (before : ℕ) (R : Register)
      → gives_up before R c ≡ false → Agree c inside R (archived before R)
  pub first : (c : Id) (inside : List ℕ → Bool) (before : ℕ) (R S : Register)
      → gives_up before R c ≡ false → Agree c inside R S → Agree c inside (archived before R) S
  pub both : (c : Id) (inside : List ℕ → Bool) (before : ℕ) (R S : Register)
      → Agree c inside R S → Agree c inside (archived before R) (archived before S)

-- ARCHIVES ADD UP: one of a later moment has what is left of an earlier one to do, and one of the
-- same moment nothing
pub record ArchivesAddUp : Type 0 where
  pub later : (before later : ℕ) (R : Register) → before ≤ later
      → archived later (archived before R) ≡ archived later R
  pub again : (before : ℕ) (R : Register) → archived before (archived before R) ≡ archived before R
  pub nothing : (before : ℕ) (R : Register) → IsGood R
      → printed_records before (archived before R) ≡ []
