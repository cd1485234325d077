-- EXAMPLES OF PHASES AND ROLES: what each command is answered in each phase of a clearance, and
-- from each role.
use Rattle.std.specs.Prelude.{◌≡◌, false, true, List, [], ◌∷◌, ◌++◌, map, codes, Option, Some, None}
use Rattle.std.specs.Prelude.{refl}
use Rattle.clr_rules.specs.Answer.{Answer}
use Rattle.clr_examples.specs.Worked.{C1, JONES, KIM, L2, OPS, REED, S2, S3, S4, Saying}
use Rattle.clr_examples.specs.Worked.{answer_after, c1_is_on, does, isolating_l2, jones_1, kim_1}
use Rattle.clr_examples.specs.Worked.{l2_asked, l2_granted, l2_grounded, l2_isolated, l2_ordered}
use Rattle.clr_examples.specs.Worked.{l2_released, l2_restoring, l2_tested, ops_1, restoring_l2}
use Rattle.clr_examples.specs.Worked.{s2_opened, s3_unblocked, says, step_is_repeated, step_runs}
use Rattle.clr_examples.specs.Worked.{the_rules}
use Rattle.clr_rules.specs.declared.command.Kind.TheVariants.{Request, Order, Instruct, Repeat}
use Rattle.clr_rules.specs.declared.command.Kind.TheVariants.{Report, Grant, Test, Ground, Unground}
use Rattle.clr_rules.specs.declared.command.Kind.TheVariants.{SignOn, SignOff, Transfer, Release}
use Rattle.clr_rules.specs.declared.command.Kind.TheVariants.{Cancel, Restore, Amend, Switch, Show}
use Rattle.clr_rules.specs.declared.refusal.Refusal.TheVariants.{WrongRole, NotHolder, WrongPhase}
use Rattle.clr_rules.specs.declared.refusal.Refusal.TheVariants.{StepState, StepsLeft, NotTested}
use Rattle.clr_rules.specs.declared.refusal.Refusal.TheVariants.{NotGrounded, CrewState}
use Rattle.clr_rules.specs.declared.command.Kind.{Kind}
use Rattle.clr_rules.specs.declared.refusal.Refusal.{Refusal}
use Rattle.clr_rules.specs.declared.reply.Reply.{Reply}
use Rattle.clr_rules.specs.declared.reply.Reply.TheVariants.{Accepted, Shown, Refused, Added}
use Rattle.clr_order.specs.declared.action.Action.TheVariants as actions

-- what a reply refuses for, if it does
abbrev pub refusal_in : Reply → Option Refusal
refusal_in (Refused refusal) = Some refusal
refusal_in (Accepted card) = None
refusal_in (Shown view) = None
refusal_in (Added point) = None

abbrev pub refused_after : List Saying → Saying → Option Refusal
refused_after said next = refusal_in (Answer.reply (answer_after said next))

-- JONES has given the request up: JONES/1 is Closed
abbrev pub l2_closed : List Saying
l2_closed = l2_asked ++ says JONES (Cancel jones_1) ∷ []

-- what is said of JONES/1 while it is Requested, Ordered, Granted, Released, Restoring, and Closed
abbrev pub by_phase : Saying → List (Option Refusal)
by_phase next =
    map (λ said. refused_after said next) (l2_asked ∷ l2_ordered ∷ l2_granted ∷ l2_released
    ∷ l2_restoring ∷ l2_closed ∷ [])

-- of these six phases all but one refuse a command for the phase
abbrev pub but_requested : Option Refusal → List (Option Refusal)
but_requested told =
    told ∷ Some WrongPhase ∷ Some WrongPhase ∷ Some WrongPhase ∷ Some WrongPhase ∷ Some WrongPhase
    ∷ []

abbrev pub but_ordered : Option Refusal → List (Option Refusal)
but_ordered told =
    Some WrongPhase ∷ told ∷ Some WrongPhase ∷ Some WrongPhase ∷ Some WrongPhase ∷ Some WrongPhase
    ∷ []

abbrev pub but_granted : Option Refusal → List (Option Refusal)
but_granted told =
    Some WrongPhase ∷ Some WrongPhase ∷ told ∷ Some WrongPhase ∷ Some WrongPhase ∷ Some WrongPhase
    ∷ []

abbrev pub but_released : Option Refusal → List (Option Refusal)
but_released told =
    Some WrongPhase ∷ Some WrongPhase ∷ Some WrongPhase ∷ told ∷ Some WrongPhase ∷ Some WrongPhase
    ∷ []

abbrev pub but_restoring : Option Refusal → List (Option Refusal)
but_restoring told =
    Some WrongPhase ∷ Some WrongPhase ∷ Some WrongPhase ∷ Some WrongPhase ∷ told ∷ Some WrongPhase
    ∷ []

-- steps run while the clearance is Ordered or Restoring
abbrev pub but_running : Option Refusal → List (Option Refusal)
but_running told =
    Some WrongPhase ∷ told ∷ Some WrongPhase ∷ Some WrongPhase ∷ told ∷ Some WrongPhase ∷ []

-- orders, and their grant
pub orders :
    (by_phase (says OPS (Order jones_1 (S2 ∷ S3 ∷ []) isolating_l2)) ≡ but_requested None)
    × (by_phase (says OPS (Grant jones_1)) ≡ but_ordered (Some StepsLeft))
    × (by_phase (says OPS (Restore jones_1 restoring_l2)) ≡ but_released None)
unfolding the_rules
orders = (refl, refl, refl)

-- steps
pub steps :
    (by_phase (says OPS (Instruct jones_1 1)) ≡ but_running None)
    × (by_phase (says REED (Repeat jones_1 1 (codes "OPEN S2")))
    ≡ but_running (Some StepState))
    × (by_phase (says REED (Report jones_1 1 true)) ≡ but_running (Some StepState))
    × (by_phase (says OPS (Amend jones_1 1)) ≡ but_restoring (Some StepState))
unfolding the_rules
steps = (refl, refl, refl, refl)

-- work in the fence
pub work :
    (by_phase (says JONES (Test jones_1 L2 true)) ≡ but_granted None)
    × (by_phase (says JONES (Ground jones_1 L2)) ≡ but_granted (Some NotTested))
    × (by_phase (says JONES (Unground jones_1 L2)) ≡ but_granted (Some NotGrounded))
    × (by_phase (says JONES (SignOn jones_1 C1)) ≡ but_granted (Some NotTested))
    × (by_phase (says JONES (SignOff jones_1 C1)) ≡ but_granted (Some CrewState))
unfolding the_rules
work = (refl, refl, refl, refl, refl)

-- what the holder does with the clearance
pub holders :
    -- the holder hands on what is not released yet, gives up what is not granted yet, and releases
    -- what is granted
    (by_phase (says JONES (Transfer jones_1 KIM false))
    ≡ None ∷ None ∷ None ∷ Some WrongPhase ∷ Some WrongPhase ∷ Some WrongPhase ∷ [])
    × (by_phase (says JONES (Cancel jones_1))
    ≡ None ∷ None ∷ Some WrongPhase ∷ Some WrongPhase ∷ Some WrongPhase ∷ Some WrongPhase ∷ [])
    × (by_phase (says JONES (Release jones_1 true true)) ≡ but_granted None)
unfolding the_rules
holders = (refl, refl, refl)

-- a view is given in each
pub views :
    by_phase (says REED (Show jones_1)) ≡ None ∷ None ∷ None ∷ None ∷ None ∷ None ∷ []
unfolding the_rules
views = refl

-- OPS's switch order is Switching: its steps run, it is cancelled, and no more
abbrev pub s4_switching : List Saying
s4_switching = says OPS (Switch (does actions.Open S4 ∷ [])) ∷ []

abbrev pub while_switching : Saying → Option Refusal
while_switching next = refused_after s4_switching next

-- a switch order
pub switch_orders :
    (while_switching (says OPS (Instruct ops_1 1)) ≡ None)
    × (while_switching (says REED (Repeat ops_1 1 (codes "OPEN S4"))) ≡ Some StepState)
    × (while_switching (says REED (Report ops_1 1 true)) ≡ Some StepState)
    × (while_switching (says OPS (Cancel ops_1)) ≡ None)
    × (while_switching (says OPS (Order ops_1 (S4 ∷ []) (does actions.Open S4 ∷ [])))
    ≡ Some WrongPhase)
    × (while_switching (says OPS (Grant ops_1)) ≡ Some WrongPhase)
    × (while_switching (says OPS (Transfer ops_1 KIM false)) ≡ Some WrongPhase)
    × (while_switching (says OPS (Restore ops_1 (does actions.Close S4 ∷ [])))
    ≡ Some WrongPhase)
    × (while_switching (says OPS (Amend ops_1 1)) ≡ Some WrongPhase)
unfolding the_rules
switch_orders = (refl, refl, refl, refl, refl, refl, refl, refl, refl)

-- what is said by an operator, by the field, and by who may be in charge
abbrev pub by_role : List Saying → Kind → List (Option Refusal)
by_role said kind = map (λ caller. refused_after said (says caller kind)) (OPS ∷ REED ∷ JONES ∷ [])

abbrev pub for_operators : List (Option Refusal)
for_operators = None ∷ Some WrongRole ∷ Some WrongRole ∷ []

abbrev pub for_the_field : List (Option Refusal)
for_the_field = Some WrongRole ∷ None ∷ Some WrongRole ∷ []

abbrev pub for_who_is_in_charge : List (Option Refusal)
for_who_is_in_charge = Some WrongRole ∷ Some WrongRole ∷ None ∷ []

-- what operators say
pub operators :
    (by_role l2_asked (Order jones_1 (S2 ∷ S3 ∷ []) isolating_l2) ≡ for_operators)
    × (by_role l2_ordered (Instruct jones_1 1) ≡ for_operators)
    × (by_role l2_isolated (Grant jones_1) ≡ for_operators)
    × (by_role l2_released (Restore jones_1 restoring_l2) ≡ for_operators)
    × (by_role s3_unblocked (Amend kim_1 3) ≡ for_operators)
    × (by_role [] (Switch (does actions.Open S4 ∷ [])) ≡ for_operators)
unfolding the_rules
operators = (refl, refl, refl, refl, refl, refl)

-- what the field says
pub field :
    (by_role (l2_ordered ++ says OPS (Instruct jones_1 1)
    ∷ []) (Repeat jones_1 1 (codes "OPEN S2")) ≡ for_the_field)
    × (by_role (l2_ordered
    ++ step_is_repeated jones_1 1 (codes "OPEN S2")) (Report jones_1 1 true) ≡ for_the_field)
unfolding the_rules
field = (refl, refl)

-- what who may be in charge says
pub in_charge :
    (by_role [] (Request L2) ≡ for_who_is_in_charge)
    × (by_role l2_granted (Test jones_1 L2 true) ≡ for_who_is_in_charge)
    × (by_role l2_tested (Ground jones_1 L2) ≡ for_who_is_in_charge)
    × (by_role l2_grounded (Unground jones_1 L2) ≡ for_who_is_in_charge)
    × (by_role l2_grounded (SignOn jones_1 C1) ≡ for_who_is_in_charge)
    × (by_role c1_is_on (SignOff jones_1 C1) ≡ for_who_is_in_charge)
    × (by_role l2_granted (Release jones_1 true true) ≡ for_who_is_in_charge)
unfolding the_rules
in_charge = (refl, refl, refl, refl, refl, refl, refl)

-- what several roles say
pub several :
    -- these ask who holds the clearance, and not for one role; a view is anybody's
    (by_role l2_ordered (Cancel jones_1) ≡ Some NotHolder ∷ Some WrongRole ∷ None ∷ [])
    × (by_role l2_ordered (Transfer jones_1 KIM false)
    ≡ Some NotHolder ∷ Some NotHolder ∷ None ∷ [])
    × (by_role l2_ordered (Show jones_1) ≡ None ∷ None ∷ None ∷ [])
unfolding the_rules
several = (refl, refl, refl)

-- what is said of a step of JONES/1 while it is Waiting, Instructed, Repeated, and Done
abbrev pub by_state : Saying → List (Option Refusal)
by_state next = map (λ said. refused_after said next)
    (l2_ordered ∷ (l2_ordered ++ says OPS (Instruct jones_1 1) ∷ [])
    ∷ (l2_ordered ++ step_is_repeated jones_1 1 (codes "OPEN S2")) ∷ s2_opened ∷ [])

-- and of a closing step of KIM/1
abbrev pub closing_by_state : Saying → List (Option Refusal)
closing_by_state next = map (λ said. refused_after said next)
    (s3_unblocked ∷ (s3_unblocked ++ says OPS (Instruct kim_1 3) ∷ [])
    ∷ (s3_unblocked ++ step_is_repeated kim_1 3 (codes "CLOSE S3"))
    ∷ (s3_unblocked ++ step_runs kim_1 3 (codes "CLOSE S3")) ∷ [])

-- steps, in each state
pub states :
    (by_state (says OPS (Instruct jones_1 1))
    ≡ None ∷ Some StepState ∷ Some StepState ∷ Some StepState ∷ [])
    × (by_state (says REED (Repeat jones_1 1 (codes "OPEN S2")))
    ≡ Some StepState ∷ None ∷ None ∷ Some StepState ∷ [])
    × (by_state (says REED (Report jones_1 1 true))
    ≡ Some StepState ∷ Some StepState ∷ None ∷ Some StepState ∷ [])
    × (by_state (says JONES (Cancel jones_1))
    ≡ None ∷ Some StepState ∷ Some StepState ∷ None ∷ [])
    × (closing_by_state (says OPS (Amend kim_1 3))
    ≡ None ∷ Some StepState ∷ Some StepState ∷ Some StepState ∷ [])
unfolding the_rules
states = (refl, refl, refl, refl, refl)
