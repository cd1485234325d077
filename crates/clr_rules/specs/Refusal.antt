-- Refusals, their numbers and their names.
use Rattle.std.specs.Prelude.{ℕ, List, codes}
use Rattle.clr_rules.specs.declared.refusal.Refusal.{Refusal}
use Rattle.clr_rules.specs.declared.refusal.Refusal.TheVariants.{UnknownCaller, WrongRole}
use Rattle.clr_rules.specs.declared.refusal.Refusal.TheVariants.{UnknownSection, TooManyClearances}
use Rattle.clr_rules.specs.declared.refusal.Refusal.TheVariants.{UnknownClearance, NotHolder}
use Rattle.clr_rules.specs.declared.refusal.Refusal.TheVariants.{Earlier, WrongPhase, EmptyOrder}
use Rattle.clr_rules.specs.declared.refusal.Refusal.TheVariants.{LongOrder, PointTwice}
use Rattle.clr_rules.specs.declared.refusal.Refusal.TheVariants.{SourceInside, NotOnFence}
use Rattle.clr_rules.specs.declared.refusal.Refusal.TheVariants.{StepsWrong, UnknownPoint, NoStep}
use Rattle.clr_rules.specs.declared.refusal.Refusal.TheVariants.{OutOfTurn, StepState, InHand, Held}
use Rattle.clr_rules.specs.declared.refusal.Refusal.TheVariants.{RepeatDiffers, WrongReporter}
use Rattle.clr_rules.specs.declared.refusal.Refusal.TheVariants.{StepsLeft, OutsideFence, NotTested}
use Rattle.clr_rules.specs.declared.refusal.Refusal.TheVariants.{Grounded, NotGrounded, CrewsOn}
use Rattle.clr_rules.specs.declared.refusal.Refusal.TheVariants.{CrewState, BadTransfer}
use Rattle.clr_rules.specs.declared.refusal.Refusal.TheVariants.{NotAttested, PointExists}
use Rattle.clr_rules.specs.declared.refusal.Refusal.TheVariants.{CrossesFence, NetworkFull}
use Rattle.clr_rules.specs.declared.refusal.Refusal.TheVariants.{SameEnds}

abbrev pub number_of : Refusal → ℕ
number_of UnknownCaller = 1
number_of WrongRole = 2
number_of UnknownSection = 3
number_of TooManyClearances = 4
number_of UnknownClearance = 5
number_of NotHolder = 6
number_of Earlier = 7
number_of WrongPhase = 8
number_of EmptyOrder = 9
number_of LongOrder = 10
number_of PointTwice = 11
number_of (SourceInside section) = 12
number_of (NotOnFence point) = 13
number_of (StepsWrong point) = 14
number_of (UnknownPoint point) = 15
number_of NoStep = 16
number_of OutOfTurn = 17
number_of StepState = 18
number_of (InHand by) = 19
number_of (Held by kind) = 20
number_of RepeatDiffers = 21
number_of WrongReporter = 22
number_of StepsLeft = 23
number_of OutsideFence = 24
number_of NotTested = 25
number_of Grounded = 26
number_of NotGrounded = 27
number_of CrewsOn = 28
number_of CrewState = 29
number_of BadTransfer = 30
number_of NotAttested = 31
number_of PointExists = 32
number_of (CrossesFence by) = 33
number_of NetworkFull = 34
number_of SameEnds = 35

-- the name of a refusal, in capitals
abbrev pub refusal_name : Refusal → List ℕ
refusal_name UnknownCaller = codes "UNKNOWN_CALLER"
refusal_name WrongRole = codes "WRONG_ROLE"
refusal_name UnknownSection = codes "UNKNOWN_SECTION"
refusal_name TooManyClearances = codes "TOO_MANY_CLEARANCES"
refusal_name UnknownClearance = codes "UNKNOWN_CLEARANCE"
refusal_name NotHolder = codes "NOT_HOLDER"
refusal_name Earlier = codes "EARLIER"
refusal_name WrongPhase = codes "WRONG_PHASE"
refusal_name EmptyOrder = codes "EMPTY_ORDER"
refusal_name LongOrder = codes "LONG_ORDER"
refusal_name PointTwice = codes "POINT_TWICE"
refusal_name (SourceInside section) = codes "SOURCE_INSIDE"
refusal_name (NotOnFence point) = codes "NOT_ON_FENCE"
refusal_name (StepsWrong point) = codes "STEPS_WRONG"
refusal_name (UnknownPoint point) = codes "UNKNOWN_POINT"
refusal_name NoStep = codes "NO_STEP"
refusal_name OutOfTurn = codes "OUT_OF_TURN"
refusal_name StepState = codes "STEP_STATE"
refusal_name (InHand by) = codes "IN_HAND"
refusal_name (Held by kind) = codes "HELD"
refusal_name RepeatDiffers = codes "REPEAT_DIFFERS"
refusal_name WrongReporter = codes "WRONG_REPORTER"
refusal_name StepsLeft = codes "STEPS_LEFT"
refusal_name OutsideFence = codes "OUTSIDE_FENCE"
refusal_name NotTested = codes "NOT_TESTED"
refusal_name Grounded = codes "GROUNDED"
refusal_name NotGrounded = codes "NOT_GROUNDED"
refusal_name CrewsOn = codes "CREWS_ON"
refusal_name CrewState = codes "CREW_STATE"
refusal_name BadTransfer = codes "BAD_TRANSFER"
refusal_name NotAttested = codes "NOT_ATTESTED"
refusal_name PointExists = codes "POINT_EXISTS"
refusal_name (CrossesFence by) = codes "CROSSES_FENCE"
refusal_name NetworkFull = codes "NETWORK_FULL"
refusal_name SameEnds = codes "SAME_ENDS"
