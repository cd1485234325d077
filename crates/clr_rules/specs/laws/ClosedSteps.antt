-- The steps of closed records bind nothing, as a law: they may be kept or given up.
use Rattle.std.specs.Prelude.{◌≡◌, Bool, true, false, not, List, [], ◌∷◌, filter, Option, None}
use Rattle.std.specs.Prelude.{Some}
use Rattle.clr_rules.specs.Answer.{answer}
use Rattle.clr_rules.specs.Command.{named_clearance}
use Rattle.clr_rules.specs.Good.{IsGood}
use Rattle.clr_rules.specs.Prelude.{Command, Record, Id, Register, record_of}
use Rattle.clr_rules.specs.Records.{is_closed}
use Rattle.clr_rules.specs.Run.{after, after_all, replies}
use Rattle.clr_rules.specs.Staffed.{IsStaffed}

-- a register without the steps of some clearances
abbrev pub without_steps_of : (Id → Bool) → Register → Register
without_steps_of gone R = record R { steps = filter (λ row. not (gone row.id)) R.steps }

-- each of some clearances has a record, and it is Closed
abbrev pub AreClosed : (Id → Bool) → Register → Type 0
AreClosed gone R =
    (c : Id) → gone c ≡ true
    → (r : Record) × (record_of R.records c ≡ Some r) × (is_closed r.phase ≡ true)

-- TWO REGISTERS ARE ONE BUT FOR THE STEPS of some clearances, which are closed
pub record AreOneBut (gone : Id → Bool) (R S : Register) : Type 0 where
  pub closed : AreClosed gone R
  pub rest : without_steps_of gone R ≡ without_steps_of gone S

-- a command that names none of these clearances
abbrev pub NamesNoneOf : (Id → Bool) → Option Id → Type 0
NamesNoneOf gone None = Unit {0}
NamesNoneOf gone (Some c) = gone c ≡ false

unfoldable pub AllNameNoneOf : (Id → Bool) → List Command → Type 0
AllNameNoneOf gone [] = Unit {0}
AllNameNoneOf gone (q ∷ commands) =
    NamesNoneOf gone (named_clearance q.kind) × AllNameNoneOf gone commands

-- THE STEPS OF CLOSED RECORDS BIND NOTHING: where two good registers are one but for the steps of
-- some closed records, a command that is about none of these has the same reply and the same edits
-- in both, and they are one but for these steps after it
abbrev pub ClosedStepsBindNothing : Type 0
ClosedStepsBindNothing =
    (gone : Id → Bool) (R S : Register) (q : Command) → IsGood R → IsGood S → AreOneBut gone R S
    → NamesNoneOf gone (named_clearance q.kind)
    → (answer R q ≡ answer S q) × AreOneBut gone (after R q) (after S q)

-- and so it is of all commands of a run
abbrev pub ClosedStepsBindNoRun : Type 0
ClosedStepsBindNoRun =
    (gone : Id → Bool) (R S : Register) (commands : List Command) → IsGood R → IsGood S
    → AreOneBut gone R S → AllNameNoneOf gone commands
    → (replies R commands ≡ replies S commands)
    × AreOneBut gone (after_all R commands) (after_all S commands)

-- THESE STEPS MAY GO: a good register is good without them, a staffed one staffed, and it is one
-- with the register that keeps them, but for them
pub record ClosedStepsMayGo : Type 0 where
  pub good : (gone : Id → Bool) (R : Register) → IsGood R → AreClosed gone R
      → IsGood (without_steps_of gone R)
  pub staffed : (gone : Id → Bool) (R : Register) → IsStaffed R → AreClosed gone R
      → IsStaffed (without_steps_of gone R)
  pub one_but : (gone : Id → Bool) (R : Register) → AreClosed gone R
      → AreOneBut gone R (without_steps_of gone R)
