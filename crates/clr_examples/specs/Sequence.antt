-- EXAMPLES OF SEQUENCE: which check of a command speaks first. In each example a check applies
-- together with the next one of the same command that may, and the reply is the first one's.
use Rattle.std.specs.Prelude.{◌≡◌, ℕ, false, true, List, [], ◌∷◌, ◌++◌, codes, Some, refl}
use Rattle.clr_rules.specs.Answer.{answer}
use Rattle.clr_rules.specs.Prelude.{Id, Register}
use Rattle.clr_examples.specs.Worked.{BOSS, C1, DALE, JONES, KIM, L2, L3, OPS, REED, S2, S3}
use Rattle.clr_examples.specs.Worked.{Saying, ZZ, isolating_l2, l2_ungrounded}
use Rattle.clr_examples.specs.Worked.{answer_after, c1_is_off, c1_is_on, does, jones_1, kim_1}
use Rattle.clr_examples.specs.Worked.{l2_asked, l2_granted, l2_grounded, l2_ordered, l2_released}
use Rattle.clr_examples.specs.Worked.{l2_restoring, l2_tested, ops_1, refused, register_after}
use Rattle.clr_examples.specs.Worked.{s2_opened, s2_tagged, s3_unblocked, said_at, says}
use Rattle.clr_examples.specs.Worked.{step_is_repeated, worked_opening, the_rules}
use Rattle.clr_rules.specs.declared.command.Kind.TheVariants.{Request, Order, Instruct, Repeat}
use Rattle.clr_rules.specs.declared.command.Kind.TheVariants.{Report, Grant, Test, Ground, Unground}
use Rattle.clr_rules.specs.declared.command.Kind.TheVariants.{SignOn, SignOff, Transfer, Release}
use Rattle.clr_rules.specs.declared.command.Kind.TheVariants.{Cancel, Restore, Amend, Switch, Show}
use Rattle.clr_rules.specs.declared.refusal.Refusal.TheVariants.{UnknownCaller, WrongRole}
use Rattle.clr_rules.specs.declared.refusal.Refusal.TheVariants.{UnknownSection, TooManyClearances}
use Rattle.clr_rules.specs.declared.refusal.Refusal.TheVariants.{UnknownClearance, NotHolder}
use Rattle.clr_rules.specs.declared.refusal.Refusal.TheVariants.{Earlier, WrongPhase, EmptyOrder}
use Rattle.clr_rules.specs.declared.refusal.Refusal.TheVariants.{NoStep, OutOfTurn, StepState}
use Rattle.clr_rules.specs.declared.refusal.Refusal.TheVariants.{InHand, Held, RepeatDiffers}
use Rattle.clr_rules.specs.declared.refusal.Refusal.TheVariants.{WrongReporter, StepsLeft}
use Rattle.clr_rules.specs.declared.refusal.Refusal.TheVariants.{OutsideFence, NotTested, Grounded}
use Rattle.clr_rules.specs.declared.refusal.Refusal.TheVariants.{NotGrounded, CrewsOn, CrewState}
use Rattle.clr_rules.specs.declared.refusal.Refusal.TheVariants.{BadTransfer, NotAttested}
use Rattle.clr_rules.specs.declared.hold_kind.HoldKind.TheVariants.{HeldOpen}
use Rattle.clr_rules.specs.declared.phase.Phase.TheVariants.{Requested}
use Rattle.clr_rules.specs.declared.refusal.Refusal.{Refusal}
use Rattle.clr_order.specs.declared.action.Action.TheVariants as actions

-- after all this was said, what is said next is refused
abbrev pub tells : List Saying → Saying → Refusal → Type 0
tells said next refusal = answer_after said next ≡ refused refusal

-- the same, said at moment 0, which is before all that was said
abbrev pub tells_early : List Saying → Saying → Refusal → Type 0
tells_early said next refusal = answer (register_after said) (said_at 0 next) ≡ refused refusal

-- a requester has a clearance of the last number, and no other
abbrev pub last_number : List ℕ → Register
last_number requester = record worked_opening {
  records =
      record {
        id = record { requester = requester; number = 9999 };
        holder = requester;
        work = Some L2;
        phase = Requested;
        last = 100;
      } ∷ [];
}

abbrev pub tells_at_last : List ℕ → Saying → Refusal → Type 0
tells_at_last requester next refusal =
    answer (last_number requester) (said_at 101 next) ≡ refused refusal

abbrev pub jones_9 : Id
jones_9 = record { requester = JONES; number = 9 }

-- OPS has a point in hand for a switch order of its own
abbrev pub in_hand_of_ops : List ℕ → List Saying
in_hand_of_ops point =
    says OPS (Switch (does actions.Open point ∷ [])) ∷ says OPS (Instruct ops_1 1) ∷ []

-- of each command the checks in the order in which they speak

-- a request
pub request :
    tells [] (says ZZ (Request ZZ)) UnknownCaller
    × tells [] (says OPS (Request ZZ)) WrongRole
    × tells_at_last JONES (says JONES (Request ZZ)) UnknownSection
    × tells_at_last JONES (says JONES (Request L2)) TooManyClearances
unfolding the_rules
request = (refl, refl, refl, refl)

-- an isolating order
pub order :
    tells [] (says ZZ (Order jones_1 [] [])) UnknownCaller
    × tells [] (says REED (Order jones_1 [] [])) WrongRole
    × tells [] (says OPS (Order jones_1 [] [])) UnknownClearance
    × tells_early l2_ordered (says OPS (Order jones_1 [] [])) Earlier
    × tells l2_ordered (says OPS (Order jones_1 [] [])) WrongPhase
    × tells l2_asked (says OPS (Order jones_1 [] [])) EmptyOrder
unfolding the_rules
order = (refl, refl, refl, refl, refl, refl)

-- an instruction
pub instruct :
    tells [] (says ZZ (Instruct jones_1 1)) UnknownCaller
    × tells [] (says REED (Instruct jones_1 1)) WrongRole
    × tells [] (says OPS (Instruct jones_1 1)) UnknownClearance
    × tells_early l2_granted (says OPS (Instruct jones_1 1)) Earlier
    × tells l2_granted (says OPS (Instruct jones_1 7)) WrongPhase
    × tells l2_ordered (says OPS (Instruct jones_1 7)) NoStep
    × tells l2_ordered (says OPS (Instruct jones_1 2)) OutOfTurn
    -- the step is done, and OPS has its point in hand
    × tells (s2_opened ++ in_hand_of_ops S2) (says OPS (Instruct jones_1 1)) StepState
    -- KIM's step closes S3, which JONES holds open and OPS has in hand
    × tells (l2_granted ++ s3_unblocked
    ++ in_hand_of_ops S3) (says OPS (Instruct kim_1 3)) (InHand ops_1)
    × tells (l2_granted
    ++ s3_unblocked) (says OPS (Instruct kim_1 3)) (Held jones_1 HeldOpen)
unfolding the_rules
instruct = (refl, refl, refl, refl, refl, refl, refl, refl, refl, refl)

-- a repeat
pub repeat :
    tells [] (says ZZ (Repeat jones_1 1 [])) UnknownCaller
    × tells [] (says OPS (Repeat jones_1 1 [])) WrongRole
    × tells [] (says REED (Repeat jones_1 1 [])) UnknownClearance
    × tells_early l2_granted (says REED (Repeat jones_1 1 [])) Earlier
    × tells l2_granted (says REED (Repeat jones_1 7 [])) WrongPhase
    × tells l2_ordered (says REED (Repeat jones_1 7 [])) NoStep
    -- the step waits, and the text is not its own
    × tells l2_ordered (says REED (Repeat jones_1 1 [])) StepState
    × tells (l2_ordered ++ says OPS (Instruct jones_1 1)
    ∷ []) (says REED (Repeat jones_1 1 [])) RepeatDiffers
unfolding the_rules
repeat = (refl, refl, refl, refl, refl, refl, refl, refl)

-- a report
pub report :
    tells [] (says ZZ (Report jones_1 1 true)) UnknownCaller
    × tells [] (says OPS (Report jones_1 1 true)) WrongRole
    × tells [] (says REED (Report jones_1 1 true)) UnknownClearance
    × tells_early l2_granted (says REED (Report jones_1 1 true)) Earlier
    × tells l2_granted (says REED (Report jones_1 7 true)) WrongPhase
    × tells l2_ordered (says REED (Report jones_1 7 true)) NoStep
    -- the step is given out, and nobody has repeated it
    × tells (l2_ordered ++ says OPS (Instruct jones_1 1)
    ∷ []) (says REED (Report jones_1 1 true)) StepState
    × tells (l2_ordered
    ++ step_is_repeated jones_1 1 (codes "OPEN S2"))
    (says (codes "DALE") (Report jones_1 1 true)) WrongReporter
unfolding the_rules
report = (refl, refl, refl, refl, refl, refl, refl, refl)

-- a grant
pub grant :
    tells [] (says ZZ (Grant jones_1)) UnknownCaller
    × tells [] (says REED (Grant jones_1)) WrongRole
    × tells [] (says OPS (Grant jones_1)) UnknownClearance
    × tells_early l2_granted (says OPS (Grant jones_1)) Earlier
    -- the order was given up with steps left
    × tells (s2_opened ++ says JONES (Cancel jones_1)
    ∷ []) (says OPS (Grant jones_1)) WrongPhase
    × tells s2_tagged (says OPS (Grant jones_1)) StepsLeft
unfolding the_rules
grant = (refl, refl, refl, refl, refl, refl)

-- a test
pub test :
    tells [] (says ZZ (Test jones_1 L2 true)) UnknownCaller
    × tells [] (says OPS (Test jones_1 L2 true)) WrongRole
    × tells [] (says JONES (Test jones_1 L2 true)) UnknownClearance
    × tells_early l2_granted (says KIM (Test jones_1 L2 true)) NotHolder
    × tells_early l2_ordered (says JONES (Test jones_1 L2 true)) Earlier
    × tells l2_ordered (says JONES (Test jones_1 L3 true)) WrongPhase
    × tells l2_granted (says JONES (Test jones_1 L3 true)) OutsideFence
unfolding the_rules
test = (refl, refl, refl, refl, refl, refl, refl)

-- a ground
pub ground_section :
    tells [] (says ZZ (Ground jones_1 L2)) UnknownCaller
    × tells [] (says OPS (Ground jones_1 L2)) WrongRole
    × tells [] (says JONES (Ground jones_1 L2)) UnknownClearance
    × tells_early l2_granted (says KIM (Ground jones_1 L2)) NotHolder
    × tells_early l2_ordered (says JONES (Ground jones_1 L2)) Earlier
    × tells l2_ordered (says JONES (Ground jones_1 L3)) WrongPhase
    × tells l2_granted (says JONES (Ground jones_1 L3)) OutsideFence
    -- a ground is on, and a later test found the section live
    × tells (l2_grounded ++ says JONES (Test jones_1 L2 false)
    ∷ []) (says JONES (Ground jones_1 L2)) NotTested
    × tells l2_grounded (says JONES (Ground jones_1 L2)) Grounded
unfolding the_rules
ground_section = (refl, refl, refl, refl, refl, refl, refl, refl, refl)

-- a ground taken off
pub unground :
    tells [] (says ZZ (Unground jones_1 L2)) UnknownCaller
    × tells [] (says OPS (Unground jones_1 L2)) WrongRole
    × tells [] (says JONES (Unground jones_1 L2)) UnknownClearance
    × tells_early l2_grounded (says KIM (Unground jones_1 L2)) NotHolder
    × tells_early l2_ordered (says JONES (Unground jones_1 L2)) Earlier
    × tells l2_ordered (says JONES (Unground jones_1 L3)) WrongPhase
    × tells l2_granted (says JONES (Unground jones_1 L3)) OutsideFence
    × tells l2_tested (says JONES (Unground jones_1 L2)) NotGrounded
    × tells c1_is_on (says JONES (Unground jones_1 L2)) CrewsOn
unfolding the_rules
unground = (refl, refl, refl, refl, refl, refl, refl, refl, refl)

-- a crew signed on
pub sign_on :
    tells [] (says ZZ (SignOn jones_1 C1)) UnknownCaller
    × tells [] (says OPS (SignOn jones_1 C1)) WrongRole
    × tells [] (says JONES (SignOn jones_1 C1)) UnknownClearance
    × tells_early l2_grounded (says KIM (SignOn jones_1 C1)) NotHolder
    × tells_early l2_ordered (says JONES (SignOn jones_1 C1)) Earlier
    × tells l2_ordered (says JONES (SignOn jones_1 C1)) WrongPhase
    × tells l2_granted (says JONES (SignOn jones_1 C1)) NotTested
    × tells l2_tested (says JONES (SignOn jones_1 C1)) NotGrounded
    × tells c1_is_on (says JONES (SignOn jones_1 C1)) CrewState
unfolding the_rules
sign_on = (refl, refl, refl, refl, refl, refl, refl, refl, refl)

-- a crew signed off
pub sign_off :
    tells [] (says ZZ (SignOff jones_1 C1)) UnknownCaller
    × tells [] (says OPS (SignOff jones_1 C1)) WrongRole
    × tells [] (says JONES (SignOff jones_1 C1)) UnknownClearance
    × tells_early c1_is_on (says KIM (SignOff jones_1 C1)) NotHolder
    × tells_early l2_ordered (says JONES (SignOff jones_1 C1)) Earlier
    × tells l2_ordered (says JONES (SignOff jones_1 C1)) WrongPhase
    × tells l2_grounded (says JONES (SignOff jones_1 C1)) CrewState
unfolding the_rules
sign_off = (refl, refl, refl, refl, refl, refl, refl)

-- a transfer
pub transfer :
    tells [] (says ZZ (Transfer jones_1 KIM false)) UnknownCaller
    × tells [] (says JONES (Transfer jones_1 KIM false)) UnknownClearance
    × tells_early l2_granted (says KIM (Transfer jones_1 KIM false)) NotHolder
    × tells_early l2_released (says JONES (Transfer jones_1 KIM false)) Earlier
    × tells l2_released (says JONES (Transfer jones_1 JONES false)) WrongPhase
    × tells l2_granted (says JONES (Transfer jones_1 JONES false)) BadTransfer
unfolding the_rules
transfer = (refl, refl, refl, refl, refl, refl)

-- a release
pub release :
    tells [] (says ZZ (Release jones_1 true true)) UnknownCaller
    × tells [] (says OPS (Release jones_1 true true)) WrongRole
    × tells [] (says JONES (Release jones_1 false false)) UnknownClearance
    × tells_early l2_granted (says KIM (Release jones_1 true true)) NotHolder
    × tells_early l2_ordered (says JONES (Release jones_1 true true)) Earlier
    × tells l2_ordered (says JONES (Release jones_1 true true)) WrongPhase
    -- a crew is on, and the ground
    × tells c1_is_on (says JONES (Release jones_1 true true)) CrewsOn
    × tells c1_is_off (says JONES (Release jones_1 false true)) Grounded
    × tells l2_tested (says JONES (Release jones_1 false true)) NotAttested
unfolding the_rules
release = (refl, refl, refl, refl, refl, refl, refl, refl, refl)

-- a cancel
pub cancel :
    tells [] (says ZZ (Cancel jones_1)) UnknownCaller
    × tells [] (says REED (Cancel jones_1)) WrongRole
    × tells [] (says JONES (Cancel jones_1)) UnknownClearance
    × tells_early l2_asked (says KIM (Cancel jones_1)) NotHolder
    × tells_early l2_granted (says JONES (Cancel jones_1)) Earlier
    -- a restoring step is given out
    × tells (l2_restoring ++ says OPS (Instruct jones_1 1)
    ∷ []) (says JONES (Cancel jones_1)) WrongPhase
    × tells (l2_ordered ++ says OPS (Instruct jones_1 1)
    ∷ []) (says JONES (Cancel jones_1)) StepState
unfolding the_rules
cancel = (refl, refl, refl, refl, refl, refl, refl)

-- a restoring order
pub restore :
    tells [] (says ZZ (Restore jones_1 [])) UnknownCaller
    × tells [] (says REED (Restore jones_1 [])) WrongRole
    × tells [] (says OPS (Restore jones_1 [])) UnknownClearance
    × tells_early l2_granted (says OPS (Restore jones_1 [])) Earlier
    × tells l2_granted (says OPS (Restore jones_1 [])) WrongPhase
    × tells l2_released (says OPS (Restore jones_1 [])) EmptyOrder
unfolding the_rules
restore = (refl, refl, refl, refl, refl, refl)

-- an amended step
pub amend :
    tells [] (says ZZ (Amend jones_1 1)) UnknownCaller
    × tells [] (says REED (Amend jones_1 1)) WrongRole
    × tells [] (says OPS (Amend jones_1 1)) UnknownClearance
    × tells_early l2_granted (says OPS (Amend jones_1 1)) Earlier
    × tells l2_granted (says OPS (Amend jones_1 7)) WrongPhase
    × tells l2_restoring (says OPS (Amend jones_1 7)) NoStep
    -- the first step waits, but it is no Close; KIM's third is one, but it is amended already
    × tells l2_restoring (says OPS (Amend jones_1 1)) StepState
    × tells (s3_unblocked ++ says OPS (Amend kim_1 3)
    ∷ []) (says OPS (Amend kim_1 3)) StepState
    × tells (s3_unblocked ++ says OPS (Instruct kim_1 3)
    ∷ []) (says OPS (Amend kim_1 3)) StepState
unfolding the_rules
amend = (refl, refl, refl, refl, refl, refl, refl, refl, refl)

-- a switch order
pub switch :
    tells [] (says ZZ (Switch [])) UnknownCaller
    × tells_at_last JONES (says JONES (Switch [])) WrongRole
    × tells_at_last OPS (says OPS (Switch [])) TooManyClearances
    × tells [] (says OPS (Switch [])) EmptyOrder
unfolding the_rules
switch = (refl, refl, refl, refl)

-- a view
pub show :
    tells [] (says ZZ (Show jones_1)) UnknownCaller
    × tells [] (says JONES (Show jones_1)) UnknownClearance
unfolding the_rules
show = (refl, refl)

-- ONE WORD, NAME, NUMBER OR SECOND OFF: each of these would be accepted with another
pub near_misses :
    -- all are notified, and not all are clear
    tells l2_ungrounded (says JONES (Release jones_1 true false)) NotAttested
    -- a supervisor, where there is no emergency
    × tells l2_granted (says BOSS (Transfer jones_1 KIM false)) NotHolder
    -- who has handed the clearance on
    × tells (l2_granted ++ says BOSS (Transfer jones_1 KIM true)
    ∷ []) (says JONES (Release jones_1 true true)) NotHolder
    -- the text of the step after it
    × tells (l2_ordered ++ says OPS (Instruct jones_1 1)
    ∷ []) (says REED (Repeat jones_1 1 (codes "OPEN S3"))) RepeatDiffers
    -- another than who repeated the step
    × tells (l2_ordered ++ step_is_repeated jones_1 1 (codes "OPEN S2"))
    (says DALE (Report jones_1 1 true)) WrongReporter
    -- JONES asked at 100
    × (answer (register_after l2_asked)
    (said_at 99 (says OPS (Order jones_1 (S2 ∷ S3 ∷ []) isolating_l2))) ≡ refused Earlier)
    -- a number that the requester has not reached
    × tells l2_granted (says JONES (Release jones_9 true true)) UnknownClearance
unfolding the_rules
near_misses = (refl, refl, refl, refl, refl, refl, refl)
