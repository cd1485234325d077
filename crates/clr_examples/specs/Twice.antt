-- EXAMPLES OF COMMANDS SAID TWICE in the worked network, at one moment: the reply to each. Every
-- kind that can be accepted is here, so the premises of the laws can be met.
use Rattle.std.specs.Prelude.{◌≡◌, ℕ, ◌+◌, true, false, List, [], ◌∷◌, ◌++◌, length, codes, refl}
use Rattle.clr_examples.specs.Jumpers.{J1, X1, lays}
use Rattle.clr_examples.specs.Worked.{BOSS, C1, JONES, KIM, L1, L2, OPS, REED, S2, S3, S4, Saying}
use Rattle.clr_examples.specs.Worked.{c1_is_off, c1_is_on, does, isolating_l2, jones_1, kim_1}
use Rattle.clr_examples.specs.Worked.{l2_asked, l2_granted, l2_grounded, l2_isolated, l2_ordered}
use Rattle.clr_examples.specs.Worked.{l2_released, l2_tested, l2_ungrounded, ops_1, register_after}
use Rattle.clr_examples.specs.Worked.{restoring_l2, s3_unblocked, said_at, says, step_is_repeated}
use Rattle.clr_examples.specs.Worked.{the_rules}
use Rattle.clr_examples.specs.WorkedRows.{jones_card, kim_card, ops_card}
use Rattle.clr_rules.specs.Id.{Id}
use Rattle.clr_rules.specs.Run.{replies}
use Rattle.clr_rules.specs.declared.command.Command.{Command}
use Rattle.clr_rules.specs.declared.phase.Phase.TheVariants.{Requested, Ordered, Granted, Released}
use Rattle.clr_rules.specs.declared.phase.Phase.TheVariants.{Restoring, Switching, Closed}
use Rattle.clr_rules.specs.declared.reply.Card.{Card}
use Rattle.clr_rules.specs.declared.reply.Reply.{Reply}
use Rattle.clr_rules.specs.declared.reply.Reply.TheVariants.{Accepted, Refused, Added}
use Rattle.clr_order.specs.declared.action.Action.TheVariants as actions
use Rattle.clr_rules.specs.declared.command.Kind.TheVariants as kinds
use Rattle.clr_rules.specs.declared.refusal.Refusal.TheVariants as refusals

abbrev pub both_replies : List Saying → Command → List Reply
both_replies said q = replies (register_after said) (q ∷ q ∷ [])

-- the replies to what is said next, and to the same again
abbrev pub twice : List Saying → Saying → List Reply
twice said next = both_replies said (said_at (100 + length said) next)

-- JONES/1 in the charge of another
abbrev pub in_charge_of : List ℕ → Card
in_charge_of holder = record (jones_card Granted 1 6 6) { holder = holder }

abbrev pub jones_2 : Id
jones_2 = record { requester = JONES; number = 2 }

abbrev pub ops_2 : Id
ops_2 = record { requester = OPS; number = 2 }

-- requests and switch orders make a second record
pub two_records :
    (twice [] (says JONES (kinds.Request L2))
    ≡ Accepted (jones_card Requested 0 0 0)
    ∷ Accepted (record (jones_card Requested 0 0 0) { clearance = jones_2 }) ∷ [])
    × (twice [] (says OPS (kinds.Switch (does actions.Open S4 ∷ [])))
    ≡ Accepted (ops_card Switching 1 0 1)
    ∷ Accepted (record (ops_card Switching 1 0 1) { clearance = ops_2 }) ∷ [])
unfolding the_rules
two_records = (refl, refl)

-- repeats and tests have the same reply twice
pub same_replies :
    (twice (l2_ordered ++ says OPS (kinds.Instruct jones_1 1) ∷ [])
    (says REED (kinds.Repeat jones_1 1 (codes "OPEN S2")))
    ≡ Accepted (jones_card Ordered 1 0 6) ∷ Accepted (jones_card Ordered 1 0 6) ∷ [])
    × (twice l2_granted (says JONES (kinds.Test jones_1 L2 true))
    ≡ Accepted (jones_card Granted 1 6 6) ∷ Accepted (jones_card Granted 1 6 6) ∷ [])
    -- a test that finds the line live takes the one that found it dead, both times
    × (twice l2_tested (says JONES (kinds.Test jones_1 L2 false))
    ≡ Accepted (jones_card Granted 1 6 6) ∷ Accepted (jones_card Granted 1 6 6) ∷ [])
unfolding the_rules
same_replies = (refl, refl, refl)

-- refused by the phase that the first one made
pub phases :
    (twice l2_asked (says OPS (kinds.Order jones_1 (S2 ∷ S3 ∷ []) isolating_l2))
    ≡ Accepted (jones_card Ordered 1 0 6) ∷ Refused refusals.WrongPhase ∷ [])
    × (twice l2_isolated (says OPS (kinds.Grant jones_1))
    ≡ Accepted (jones_card Granted 1 6 6) ∷ Refused refusals.WrongPhase ∷ [])
    × (twice l2_ungrounded (says JONES (kinds.Release jones_1 true true))
    ≡ Accepted (jones_card Released 1 6 6) ∷ Refused refusals.WrongPhase ∷ [])
    × (twice l2_asked (says JONES (kinds.Cancel jones_1))
    ≡ Accepted (jones_card Closed 0 0 0) ∷ Refused refusals.WrongPhase ∷ [])
    × (twice l2_released (says OPS (kinds.Restore jones_1 restoring_l2))
    ≡ Accepted (jones_card Restoring 2 0 6) ∷ Refused refusals.WrongPhase ∷ [])
unfolding the_rules
phases = (refl, refl, refl, refl, refl)

-- refused by the state of the step, or since the order has ended
pub steps :
    (twice l2_ordered (says OPS (kinds.Instruct jones_1 1))
    ≡ Accepted (jones_card Ordered 1 0 6) ∷ Refused refusals.StepState ∷ [])
    × (twice (l2_ordered ++ step_is_repeated jones_1 1 (codes "OPEN S2"))
    (says REED (kinds.Report jones_1 1 true))
    ≡ Accepted (jones_card Ordered 1 1 6) ∷ Refused refusals.StepState ∷ [])
    -- and so are those of a step that was not done
    × (twice (l2_ordered ++ step_is_repeated jones_1 1 (codes "OPEN S2"))
    (says REED (kinds.Report jones_1 1 false))
    ≡ Accepted (jones_card Ordered 1 0 6) ∷ Refused refusals.StepState ∷ [])
    -- but the last step of a switch order ends it
    × (twice (says OPS (kinds.Switch (does actions.Open S4 ∷ []))
    ∷ step_is_repeated ops_1 1 (codes "OPEN S4"))
    (says REED (kinds.Report ops_1 1 true))
    ≡ Accepted (ops_card Closed 1 1 1) ∷ Refused refusals.WrongPhase ∷ [])
    × (twice s3_unblocked (says OPS (kinds.Amend kim_1 3))
    ≡ Accepted (kim_card Restoring 2 2 9) ∷ Refused refusals.StepState ∷ [])
unfolding the_rules
steps = (refl, refl, refl, refl, refl)

-- refused by what is on or off
pub work :
    (twice l2_tested (says JONES (kinds.Ground jones_1 L2))
    ≡ Accepted (jones_card Granted 1 6 6) ∷ Refused refusals.Grounded ∷ [])
    × (twice c1_is_off (says JONES (kinds.Unground jones_1 L2))
    ≡ Accepted (jones_card Granted 1 6 6) ∷ Refused refusals.NotGrounded ∷ [])
    × (twice l2_grounded (says JONES (kinds.SignOn jones_1 C1))
    ≡ Accepted (jones_card Granted 1 6 6) ∷ Refused refusals.CrewState ∷ [])
    × (twice c1_is_on (says JONES (kinds.SignOff jones_1 C1))
    ≡ Accepted (jones_card Granted 1 6 6) ∷ Refused refusals.CrewState ∷ [])
unfolding the_rules
work = (refl, refl, refl, refl)

-- refused by the holder, or by the point that is there
pub holders_and_points :
    (twice l2_granted (says JONES (kinds.Transfer jones_1 KIM false))
    ≡ Accepted (in_charge_of KIM) ∷ Refused refusals.NotHolder ∷ [])
    -- a supervisor who takes a clearance over is its holder the second time
    × (twice l2_granted (says BOSS (kinds.Transfer jones_1 BOSS true))
    ≡ Accepted (in_charge_of BOSS) ∷ Refused refusals.BadTransfer ∷ [])
    × (twice [] (lays OPS J1 L1 L2) ≡ Added J1 ∷ Refused refusals.PointExists ∷ [])
    × (twice [] (lays OPS J1 L1 X1) ≡ Added J1 ∷ Refused refusals.PointExists ∷ [])
unfolding the_rules
holders_and_points = (refl, refl, refl, refl)

-- accepted again, since other commands came between
pub later :
    replies (register_after l2_ordered)
    (said_at 102 (says OPS (kinds.Instruct jones_1 1))
    ∷ said_at 102 (says REED (kinds.Repeat jones_1 1 (codes "OPEN S2")))
    ∷ said_at 102 (says REED (kinds.Report jones_1 1 false))
    ∷ said_at 102 (says OPS (kinds.Instruct jones_1 1)) ∷ [])
    ≡ Accepted (jones_card Ordered 1 0 6) ∷ Accepted (jones_card Ordered 1 0 6)
    ∷ Accepted (jones_card Ordered 1 0 6) ∷ Accepted (jones_card Ordered 1 0 6) ∷ []
unfolding the_rules
later = refl
