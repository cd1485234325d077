-- EXAMPLES OF ARCHIVES: JONES/1 is given up and Closed at 116, and KIM/1 is ordered at 118. An
-- archive takes the steps of the one and leaves those of the other.
use Rattle.std.specs.Prelude.{◌≡◌, ℕ, true, false, List, [], ◌∷◌, ◌++◌, codes, None, Some, refl}
use Rattle.clr_rules.specs.Answer.{Answer, answer}
use Rattle.clr_rules.specs.Prelude.{Register, Task, Waiting}
use Rattle.clr_rules.specs.declared.command.Kind.TheVariants.{Cancel, Instruct, Request, Show}
use Rattle.clr_rules.specs.declared.phase.Phase.TheVariants.{Requested, Closed}
use Rattle.clr_rules.specs.declared.refusal.Refusal.TheVariants.{WrongPhase}
use Rattle.clr_rules.specs.declared.reply.Reply.TheVariants.{Accepted, Shown}
use Rattle.clr_rules.specs.declared.step_row.StepRow.{StepRow}
use Rattle.clr_changes.specs.Archive.{archived, gives_up, printed_records}
use Rattle.clr_changes.specs.Deeds.{Deed}
use Rattle.clr_examples.specs.Runs.{giving_up}
use Rattle.clr_examples.specs.Worked.{JONES, KIM, L2, OPS, Saying, jones_1, kim_1, kim_is_ordered}
use Rattle.clr_examples.specs.Worked.{refused, register_after, s2_opened, said_at, does, says}
use Rattle.clr_examples.specs.Worked.{step_runs, S3, S4, T1}
use Rattle.clr_examples.specs.WorkedRows.{jones_card, jones_record, step_row}
use Rattle.clr_examples.specs.Updates.{update_rules}
use Rattle.clr_order.specs.declared.action.Action.TheVariants as actions

abbrev pub one_closed : List Saying
one_closed =
    s2_opened ++ giving_up ++ step_runs jones_1 1 (codes "CLOSE S2") ++ kim_is_ordered

abbrev pub beside_kim : Register
beside_kim = register_after one_closed

-- the steps of KIM/1 are left, and both records
abbrev pub kim_step : ℕ → Task → StepRow
kim_step n task = step_row kim_1 1 n task Waiting None

-- a Released record is open, and keeps its steps, however long ago it was released
abbrev pub is_released : Register
is_released = register_after (s2_opened ++
    says JONES (Cancel jones_1) ∷ [])

-- which record is printed, and what is left
pub what_is_left :
    -- at its last moment it is not past
    (printed_records 116 beside_kim ≡ [])
    -- a second later it is, and printed
    × (printed_records 117 beside_kim ≡ jones_record Closed 116 ∷ [])
    × (Register.steps (archived 117 beside_kim) ≡
    kim_step 1 (does actions.Open S3) ∷ kim_step 2 (does actions.Block S3)
    ∷ kim_step 3 (does actions.Tag S3) ∷ kim_step 4 (does actions.Open S4)
    ∷ kim_step 5 (does actions.Block S4) ∷ kim_step 6 (does actions.Control S4)
    ∷ kim_step 7 (does actions.Tag S4) ∷ kim_step 8 (does actions.Open T1)
    ∷ kim_step 9 (does actions.Tag T1) ∷ [])
    × (gives_up 4102444799 is_released jones_1 ≡ false)
unfolding update_rules
what_is_left = (refl, refl, refl, refl)

pub records_stay : Register.records (archived 117 beside_kim) ≡ Register.records beside_kim
records_stay = refl

-- what is answered after it
pub after_it :
    -- numbers go on: the next clearance of JONES is the second
    (Answer.reply (answer (archived 117 beside_kim) (said_at 200 (says JONES (Request L2))))
    ≡ Accepted (record {
      clearance = record { requester = JONES; number = 2 };
      phase = Requested;
      holder = JONES;
      round = 0;
      done = 0;
      steps = 0;
    }))
    -- A SHOW OF JONES/1 has no steps; all else that is said of it is refused as before
    × (Answer.reply (answer (archived 117 beside_kim) (said_at 0 (says OPS (Show jones_1))))
    ≡ Shown (record {
      card = jones_card Closed 0 0 0;
      crews = [];
      fence = [];
      holds = [];
      points = [];
      steps = [];
      work = Some L2;
    }))
    × (answer (archived 117 beside_kim) (said_at 200 (says OPS (Instruct jones_1 1)))
    ≡ refused WrongPhase)
unfolding update_rules
after_it = (refl, refl, refl)

abbrev pub goes_on : List Deed
goes_on =
    Deed.command (said_at 150 (says KIM (Show kim_1))) ∷ Deed.archive 117
    ∷ Deed.command (said_at 200 (says OPS (Instruct kim_1 1)))
    ∷ Deed.command (said_at 200 (says OPS (Instruct jones_1 1)))
    ∷ Deed.command (said_at 200 (says KIM (Show kim_1))) ∷ []

-- what the laws of archives ask for is met (more in `proofs/ArchiveExamples`): JONES/1 gives up
-- its steps, and KIM/1 does not
pub archive_premises :
    (gives_up 117 beside_kim jones_1 ≡ true)
    × (gives_up 117 beside_kim kim_1 ≡ false)
unfolding update_rules
archive_premises = (refl, refl)
