-- EXAMPLES OF CHANGES: each kind of command accepted in the worked network, with
-- its reply and all its edits.
use Rattle.std.specs.Prelude.{◌≡◌, ℕ, true, false, List, [], ◌∷◌, ◌++◌, codes, Some, None, refl}
use Rattle.clr_net.specs.declared.point.Position.TheVariants.{Opened, Closed as Shut}
use Rattle.clr_rules.specs.Prelude.{Waiting, Instructed, Repeated, Done, hold_of}
use Rattle.clr_rules.specs.Answer.{Answer}
use Rattle.clr_examples.specs.Worked.{BOSS, C1, DALE, JONES, KIM, L2, L3, OPS, REED, S2, S3, S4}
use Rattle.clr_examples.specs.Worked.{Saying, T1, accepted, answer_after, c1_is_off, c1_is_on, does}
use Rattle.clr_examples.specs.Worked.{isolating_l2, isolating_l3, jones_1, kim_1, kim_asks}
use Rattle.clr_examples.specs.Worked.{kim_has_both, kim_is_granted, l2_asked, l2_blocked}
use Rattle.clr_examples.specs.Worked.{l2_granted, l2_grounded, l2_isolated, l2_ordered, l2_released}
use Rattle.clr_examples.specs.Worked.{l2_restoring, l2_tested, ops_1, restoring_l2, s2_opened}
use Rattle.clr_examples.specs.Worked.{s3_left, s3_opened, s3_unblocked, s4_blocked, says}
use Rattle.clr_examples.specs.Worked.{step_is_repeated, step_runs, the_rules}
use Rattle.clr_examples.specs.WorkedRows.{jones_card, jones_record, kim_card, kim_record, ops_card}
use Rattle.clr_examples.specs.WorkedRows.{ops_record, seen, step_row}
use Rattle.clr_rules.specs.declared.command.Kind.TheVariants.{Request, Order, Instruct, Repeat}
use Rattle.clr_rules.specs.declared.command.Kind.TheVariants.{Report, Grant, Test}
use Rattle.clr_rules.specs.declared.command.Kind.TheVariants.{Ground as LayGround, Unground, SignOn}
use Rattle.clr_rules.specs.declared.command.Kind.TheVariants.{SignOff, Transfer, Release, Cancel}
use Rattle.clr_rules.specs.declared.command.Kind.TheVariants.{Restore, Amend, Switch, Show}
use Rattle.clr_rules.specs.declared.change.Edit.TheVariants.{SetPosition, SetHand, PutHold}
use Rattle.clr_rules.specs.declared.change.Edit.TheVariants.{TakeHold, PutRecord, PutStep}
use Rattle.clr_rules.specs.declared.hold_kind.HoldKind.TheVariants.{HeldOpen, Block, Control, Tag}
use Rattle.clr_rules.specs.declared.hold_kind.HoldKind.TheVariants.{Tested, Ground, Crew}
use Rattle.clr_rules.specs.declared.phase.Phase.TheVariants.{Requested, Ordered, Granted, Released}
use Rattle.clr_rules.specs.declared.phase.Phase.TheVariants.{Restoring, Switching, Closed}
use Rattle.clr_rules.specs.declared.record.Record.{Record}
use Rattle.clr_rules.specs.declared.reply.Card.{Card}
use Rattle.clr_rules.specs.declared.reply.Reply.TheVariants.{Accepted, Shown}
use Rattle.clr_order.specs.declared.action.Action.TheVariants as actions

-- a request makes a record; the numbers are counted for each requester
pub request :
    (answer_after [] (says JONES (Request L2))
    ≡ accepted (jones_card Requested 0 0 0) (PutRecord (jones_record Requested 100) ∷ []))
    -- JONES has one clearance already, and KIM has none: JONES's next is JONES/2, and KIM's first
    -- is KIM/1
    × (answer_after l2_granted (says JONES (Request L3)) ≡ accepted
    (record {
      clearance = record { requester = JONES; number = 2 };
      phase = Requested;
      holder = JONES;
      round = 0;
      done = 0;
      steps = 0;
    })
    (PutRecord
    (record {
      id = record { requester = JONES; number = 2 };
      holder = JONES;
      work = Some L3;
      phase = Requested;
      last = 121;
    }) ∷ []))
    × (answer_after l2_granted (says KIM (Request L3))
    ≡ accepted (kim_card Requested 0 0 0) (PutRecord (kim_record Requested 121) ∷ []))
unfolding the_rules
request = (refl, refl, refl)

-- an order puts its steps
pub order :
    (answer_after l2_asked (says OPS (Order jones_1 (S2 ∷ S3 ∷ []) isolating_l2))
    ≡ accepted (jones_card Ordered 1 0 6)
    (PutRecord (jones_record Ordered 101)
    ∷ PutStep (step_row jones_1 1 1 (does actions.Open S2) Waiting None)
    ∷ PutStep (step_row jones_1 1 2 (does actions.Open S3) Waiting None)
    ∷ PutStep (step_row jones_1 1 3 (does actions.Block S2) Waiting None)
    ∷ PutStep (step_row jones_1 1 4 (does actions.Block S3) Waiting None)
    ∷ PutStep (step_row jones_1 1 5 (does actions.Tag S2) Waiting None)
    ∷ PutStep (step_row jones_1 1 6 (does actions.Tag S3) Waiting None)
    ∷ []))
    -- an order at a point that is controlled from afar, and at one that can be neither locked nor
    -- controlled
    × (Answer.reply (answer_after kim_asks (says OPS (Order kim_1 (S3 ∷ S4 ∷ T1 ∷ []) isolating_l3)))
    ≡ Accepted (kim_card Ordered 1 0 9))
unfolding the_rules
order = (refl, refl)

-- an instruction takes the point in hand
pub instruct :
    answer_after l2_ordered (says OPS (Instruct jones_1 1)) ≡ accepted (jones_card Ordered 1 0 6)
    (SetHand S2 (Some jones_1) ∷ PutRecord (jones_record Ordered 102)
    ∷ PutStep (step_row jones_1 1 1 (does actions.Open S2) Instructed None) ∷ [])
unfolding the_rules
instruct = refl

-- a repeat names the reader, a later one another
pub repeat :
    (answer_after (l2_ordered ++ says OPS (Instruct jones_1 1)
    ∷ []) (says REED (Repeat jones_1 1 (codes "OPEN S2"))) ≡ accepted (jones_card Ordered 1 0 6)
    (PutRecord (jones_record Ordered 103)
    ∷ PutStep (step_row jones_1 1 1 (does actions.Open S2) Repeated (Some REED)) ∷ []))
    -- a second repeat hands the step to another reader
    × (answer_after (l2_ordered
    ++ step_is_repeated jones_1 1 (codes "OPEN S2"))
    (says DALE (Repeat jones_1 1 (codes "OPEN S2")))
    ≡ accepted (jones_card Ordered 1 0 6)
    (PutRecord (jones_record Ordered 104)
    ∷ PutStep (step_row jones_1 1 1 (does actions.Open S2) Repeated (Some DALE)) ∷ []))
unfolding the_rules
repeat = (refl, refl)

-- the report of a step that isolates is done
pub report_isolating :
    (answer_after (l2_ordered
    ++ step_is_repeated jones_1 1 (codes "OPEN S2")) (says REED (Report jones_1 1 true))
    ≡ accepted (jones_card Ordered 1 1 6)
    (SetPosition S2 Opened ∷ SetHand S2 None ∷ PutHold (hold_of jones_1 HeldOpen S2)
    ∷ PutRecord (jones_record Ordered 104)
    ∷ PutStep (step_row jones_1 1 1 (does actions.Open S2) Done (Some REED)) ∷ []))
    × (answer_after (s3_opened
    ++ step_is_repeated jones_1 3 (codes "BLOCK S2")) (says REED (Report jones_1 3 true))
    ≡ accepted (jones_card Ordered 1 3 6)
    (SetHand S2 None ∷ PutHold (hold_of jones_1 Block S2) ∷ PutRecord (jones_record Ordered 110)
    ∷ PutStep (step_row jones_1 1 3 (does actions.Block S2) Done (Some REED)) ∷ []))
    × (answer_after (s4_blocked
    ++ step_is_repeated kim_1 6 (codes "CONTROL S4")) (says REED (Report kim_1 6 true))
    ≡ accepted (kim_card Ordered 1 6 9)
    (SetHand S4 None ∷ PutHold (hold_of kim_1 Control S4) ∷ PutRecord (kim_record Ordered 119)
    ∷ PutStep (step_row kim_1 1 6 (does actions.Control S4) Done (Some REED)) ∷ []))
    × (answer_after (l2_blocked
    ++ step_is_repeated jones_1 5 (codes "TAG S2")) (says REED (Report jones_1 5 true))
    ≡ accepted (jones_card Ordered 1 5 6)
    (SetHand S2 None ∷ PutHold (hold_of jones_1 Tag S2) ∷ PutRecord (jones_record Ordered 116)
    ∷ PutStep (step_row jones_1 1 5 (does actions.Tag S2) Done (Some REED)) ∷ []))
unfolding the_rules
report_isolating = (refl, refl, refl, refl)

-- S2 has no tag and no block any more
abbrev pub s2_unblocked : List Saying
s2_unblocked =
    l2_restoring ++ step_runs jones_1 1 (codes "UNTAG S2")
    ++ step_runs jones_1 2 (codes "UNBLOCK S2")

-- the report of a step that restores is done
pub report_restoring :
    (answer_after (l2_restoring
    ++ step_is_repeated jones_1 1 (codes "UNTAG S2")) (says REED (Report jones_1 1 true))
    ≡ accepted (jones_card Restoring 2 1 6)
    (SetHand S2 None ∷ TakeHold (hold_of jones_1 Tag S2) ∷ PutRecord (jones_record Restoring 130)
    ∷ PutStep (step_row jones_1 2 1 (does actions.Untag S2) Done (Some REED)) ∷ []))
    × (answer_after (s3_left ++ step_runs kim_1 4 (codes "UNTAG S4")
    ++ step_is_repeated kim_1 5 (codes "UNCONTROL S4")) (says REED (Report kim_1 5 true))
    ≡ accepted (kim_card Restoring 2 5 9)
    (SetHand S4 None ∷ TakeHold (hold_of kim_1 Control S4) ∷ PutRecord (kim_record Restoring 147)
    ∷ PutStep (step_row kim_1 2 5 (does actions.Uncontrol S4) Done (Some REED)) ∷ []))
    × (answer_after (l2_restoring ++ step_runs jones_1 1 (codes "UNTAG S2")
    ++ step_is_repeated jones_1 2 (codes "UNBLOCK S2")) (says REED (Report jones_1 2 true))
    ≡ accepted (jones_card Restoring 2 2 6)
    (SetHand S2 None ∷ TakeHold (hold_of jones_1 Block S2) ∷ PutRecord (jones_record Restoring 133)
    ∷ PutStep (step_row jones_1 2 2 (does actions.Unblock S2) Done (Some REED)) ∷ []))
    × (answer_after (s2_unblocked
    ++ step_is_repeated jones_1 3 (codes "CLOSE S2")) (says REED (Report jones_1 3 true))
    ≡ accepted (jones_card Restoring 2 3 6)
    (SetPosition S2 Shut ∷ SetHand S2 None ∷ TakeHold (hold_of jones_1 HeldOpen S2)
    ∷ PutRecord (jones_record Restoring 136)
    ∷ PutStep (step_row jones_1 2 3 (does actions.Close S2) Done (Some REED)) ∷ []))
    -- a point that is left stays open, and is held no longer
    × (answer_after (s3_unblocked ++ says OPS (Amend kim_1 3)
    ∷ step_is_repeated kim_1 3 (codes "LEAVE S3")) (says REED (Report kim_1 3 true))
    ≡ accepted (kim_card Restoring 2 3 9)
    (SetHand S3 None ∷ TakeHold (hold_of kim_1 HeldOpen S3) ∷ PutRecord (kim_record Restoring 141)
    ∷ PutStep (step_row kim_1 2 3 (does actions.Leave S3) Done (Some REED)) ∷ []))
    -- the last step of a restoring order closes the record
    × (answer_after (s2_unblocked ++ step_runs jones_1 3 (codes "CLOSE S2")
    ++ step_runs jones_1 4 (codes "UNTAG S3") ++ step_runs jones_1 5 (codes "UNBLOCK S3")
    ++ step_is_repeated jones_1 6 (codes "CLOSE S3")) (says REED (Report jones_1 6 true))
    ≡ accepted (jones_card Closed 2 6 6)
    (SetPosition S3 Shut ∷ SetHand S3 None ∷ TakeHold (hold_of jones_1 HeldOpen S3)
    ∷ PutRecord (jones_record Closed 145)
    ∷ PutStep (step_row jones_1 2 6 (does actions.Close S3) Done (Some REED)) ∷ []))
unfolding the_rules
report_restoring = (refl, refl, refl, refl, refl, refl)

-- the report of a switch order's step
pub report_switching :
    -- a switch order opens a point and does not hold it; its last step closes it
    (answer_after (says OPS (Switch (does actions.Open S4 ∷ []))
    ∷ step_is_repeated ops_1 1 (codes "OPEN S4")) (says REED (Report ops_1 1 true))
    ≡ accepted (ops_card Closed 1 1 1)
    (SetPosition S4 Opened ∷ SetHand S4 None ∷ PutRecord (ops_record Closed 103)
    ∷ PutStep (step_row ops_1 1 1 (does actions.Open S4) Done (Some REED)) ∷ []))
    -- what a switch order closes loses the order's own HeldOpen: the edit is made though there is
    -- none
    × (answer_after (says OPS (Switch (does actions.Close S4 ∷ []))
    ∷ step_is_repeated ops_1 1 (codes "CLOSE S4")) (says REED (Report ops_1 1 true))
    ≡ accepted (ops_card Closed 1 1 1)
    (SetPosition S4 Shut ∷ SetHand S4 None ∷ TakeHold (hold_of ops_1 HeldOpen S4)
    ∷ PutRecord (ops_record Closed 103)
    ∷ PutStep (step_row ops_1 1 1 (does actions.Close S4) Done (Some REED)) ∷ []))
unfolding the_rules
report_switching = (refl, refl)

-- a step that was not done waits again, and has no reader
pub report_not_done :
    answer_after (l2_ordered
    ++ step_is_repeated jones_1 1 (codes "OPEN S2")) (says REED (Report jones_1 1 false))
    ≡ accepted (jones_card Ordered 1 0 6)
    (SetHand S2 None ∷ PutRecord (jones_record Ordered 104)
    ∷ PutStep (step_row jones_1 1 1 (does actions.Open S2) Waiting None) ∷ [])
unfolding the_rules
report_not_done = refl

-- a grant
pub grant :
    answer_after l2_isolated (says OPS (Grant jones_1))
    ≡ accepted (jones_card Granted 1 6 6) (PutRecord (jones_record Granted 120) ∷ [])
unfolding the_rules
grant = refl

-- a test, dead and live
pub test :
    (answer_after l2_granted (says JONES (Test jones_1 L2 true))
    ≡ accepted (jones_card Granted 1 6 6)
    (PutHold (hold_of jones_1 Tested L2) ∷ PutRecord (jones_record Granted 121) ∷ []))
    -- a section that is live loses its test: the edit is made though there is none
    × (answer_after l2_granted (says JONES (Test jones_1 L2 false))
    ≡ accepted (jones_card Granted 1 6 6)
    (TakeHold (hold_of jones_1 Tested L2) ∷ PutRecord (jones_record Granted 121) ∷ []))
unfolding the_rules
test = (refl, refl)

-- a ground
pub ground_section :
    answer_after l2_tested (says JONES (LayGround jones_1 L2)) ≡ accepted (jones_card Granted 1 6 6)
    (PutHold (hold_of jones_1 Ground L2) ∷ PutRecord (jones_record Granted 122) ∷ [])
unfolding the_rules
ground_section = refl

-- a ground is taken off: with it goes the test
pub unground :
    answer_after c1_is_off (says JONES (Unground jones_1 L2)) ≡ accepted (jones_card Granted 1 6 6)
    (TakeHold (hold_of jones_1 Ground L2) ∷ TakeHold (hold_of jones_1 Tested L2)
    ∷ PutRecord (jones_record Granted 125) ∷ [])
unfolding the_rules
unground = refl

-- a crew signed on
pub sign_on :
    answer_after l2_grounded (says JONES (SignOn jones_1 C1)) ≡ accepted (jones_card Granted 1 6 6)
    (PutHold (hold_of jones_1 Crew C1) ∷ PutRecord (jones_record Granted 123) ∷ [])
unfolding the_rules
sign_on = refl

-- a crew signed off
pub sign_off :
    answer_after c1_is_on (says JONES (SignOff jones_1 C1)) ≡ accepted (jones_card Granted 1 6 6)
    (TakeHold (hold_of jones_1 Crew C1) ∷ PutRecord (jones_record Granted 124) ∷ [])
unfolding the_rules
sign_off = refl

-- to KIM: the clearance keeps its name
abbrev pub handed_to_kim : ℕ → Record
handed_to_kim last =
    record { id = jones_1; holder = KIM; work = Some L2; phase = Granted; last = last }

abbrev pub kim_in_charge : Card
kim_in_charge =
    record { clearance = jones_1; phase = Granted; holder = KIM; round = 1; done = 6; steps = 6 }

-- a transfer by the holder, and by the holder's supervisor in an emergency
pub transfer :
    (answer_after l2_granted (says JONES (Transfer jones_1 KIM false))
    ≡ accepted kim_in_charge (PutRecord (handed_to_kim 121) ∷ []))
    -- in an emergency the holder's supervisor may
    × (answer_after l2_granted (says BOSS (Transfer jones_1 KIM true))
    ≡ accepted kim_in_charge (PutRecord (handed_to_kim 121) ∷ []))
unfolding the_rules
transfer = (refl, refl)

-- KIM has both sections of a fence tested, L3 first: the tests are taken in the order of their
-- names
abbrev pub both_tested : List Saying
both_tested = kim_has_both ++ says KIM (Test kim_1 L3 true) ∷ says KIM (Test kim_1 L2 true) ∷ []

-- a release takes the tests
pub release :
    (answer_after l2_tested (says JONES (Release jones_1 true true))
    ≡ accepted (jones_card Released 1 6 6)
    (TakeHold (hold_of jones_1 Tested L2) ∷ PutRecord (jones_record Released 122) ∷ []))
    × (answer_after both_tested (says KIM (Release kim_1 true true))
    ≡ accepted (kim_card Released 1 9 9)
    (TakeHold (hold_of kim_1 Tested L2) ∷ TakeHold (hold_of kim_1 Tested L3)
    ∷ PutRecord (kim_record Released 132) ∷ []))
unfolding the_rules
release = (refl, refl)

-- a cancel closes what holds nothing, and releases what does
pub cancel :
    (answer_after l2_asked (says JONES (Cancel jones_1))
    ≡ accepted (jones_card Closed 0 0 0) (PutRecord (jones_record Closed 101) ∷ []))
    -- nothing is held yet
    × (answer_after l2_ordered (says JONES (Cancel jones_1))
    ≡ accepted (jones_card Closed 1 0 6) (PutRecord (jones_record Closed 102) ∷ []))
    -- S2 is held open, and a restoring order has to undo it
    × (answer_after s2_opened (says JONES (Cancel jones_1))
    ≡ accepted (jones_card Released 1 1 6) (PutRecord (jones_record Released 105) ∷ []))
    -- OPS cancels a switch order
    × (answer_after (says OPS (Switch (does actions.Open S4 ∷ [])) ∷ []) (says OPS (Cancel ops_1))
    ≡ accepted (ops_card Closed 1 0 1)
    (PutRecord (ops_record Closed 101) ∷ []))
unfolding the_rules
cancel = (refl, refl, refl, refl)

-- a restoring order puts the steps of the second round
pub restore :
    answer_after l2_released (says OPS (Restore jones_1 restoring_l2))
    ≡ accepted (jones_card Restoring 2 0 6)
    (PutRecord (jones_record Restoring 127)
    ∷ PutStep (step_row jones_1 2 1 (does actions.Untag S2) Waiting None)
    ∷ PutStep (step_row jones_1 2 2 (does actions.Unblock S2) Waiting None)
    ∷ PutStep (step_row jones_1 2 3 (does actions.Close S2) Waiting None)
    ∷ PutStep (step_row jones_1 2 4 (does actions.Untag S3) Waiting None)
    ∷ PutStep (step_row jones_1 2 5 (does actions.Unblock S3) Waiting None)
    ∷ PutStep (step_row jones_1 2 6 (does actions.Close S3) Waiting None)
    ∷ [])
unfolding the_rules
restore = refl

-- an amended Close leaves the point
pub amend :
    answer_after s3_unblocked (says OPS (Amend kim_1 3)) ≡ accepted (kim_card Restoring 2 2 9)
    (PutRecord (kim_record Restoring 138)
    ∷ PutStep (step_row kim_1 2 3 (does actions.Leave S3) Waiting None) ∷ [])
unfolding the_rules
amend = refl

-- a switch order
pub switch :
    answer_after l2_granted (says OPS (Switch (does actions.Open S4 ∷ [])))
    ≡ accepted (ops_card Switching 1 0 1)
    (PutRecord (ops_record Switching 121)
    ∷ PutStep (step_row ops_1 1 1 (does actions.Open S4) Waiting None) ∷ [])
unfolding the_rules
switch = refl

-- a view: at the first step, beside another's holds, of a request
pub show :
    -- the first step of JONES's order is done: S2 is open and held
    (answer_after s2_opened (says DALE (Show jones_1)) ≡ record {
      reply = Shown (record {
        card = jones_card Ordered 1 1 6;
        crews = [];
        fence = L2 ∷ [];
        holds = hold_of jones_1 HeldOpen S2 ∷ [];
        points = record { point = S2; position = Opened; hand = None }
            ∷ record { point = S3; position = Shut; hand = None } ∷ [];
        steps = seen (does actions.Open S2) Done (Some REED) ∷ seen (does actions.Open S3) Waiting None
            ∷ seen (does actions.Block S2) Waiting None
            ∷ seen (does actions.Block S3) Waiting None ∷ seen (does actions.Tag S2) Waiting None
            ∷ seen (does actions.Tag S3) Waiting None ∷ [];
        work = Some L2;
      });
      edits = [];
    })
    -- JONES's crew is at work, and KIM holds S3 as well: the holds go by kind, in the kinds' own
    -- order, then by place, then by clearance; KIM's holds at S4 and T1 are elsewhere
    × (answer_after (c1_is_on ++ kim_is_granted) (says KIM (Show jones_1)) ≡ record {
      reply = Shown (record {
        card = jones_card Granted 1 6 6;
        crews = C1 ∷ [];
        fence = L2 ∷ [];
        holds = hold_of jones_1 HeldOpen S2 ∷ hold_of jones_1 HeldOpen S3 ∷ hold_of kim_1 HeldOpen S3
            ∷ hold_of jones_1 Block S2 ∷ hold_of jones_1 Block S3 ∷ hold_of kim_1 Block S3
            ∷ hold_of jones_1 Tag S2 ∷ hold_of jones_1 Tag S3 ∷ hold_of kim_1 Tag S3
            ∷ hold_of jones_1 Tested L2 ∷ hold_of jones_1 Ground L2 ∷ [];
        points = record { point = S2; position = Opened; hand = None }
            ∷ record { point = S3; position = Opened; hand = None } ∷ [];
        steps = seen (does actions.Open S2) Done (Some REED)
            ∷ seen (does actions.Open S3) Done (Some REED)
            ∷ seen (does actions.Block S2) Done (Some REED)
            ∷ seen (does actions.Block S3) Done (Some REED)
            ∷ seen (does actions.Tag S2) Done (Some REED)
            ∷ seen (does actions.Tag S3) Done (Some REED) ∷ [];
        work = Some L2;
      });
      edits = [];
    })
    -- a clearance that is only asked for has no fence
    × (answer_after l2_asked (says JONES (Show jones_1)) ≡ record {
      reply = Shown
          (record {
            card = jones_card Requested 0 0 0;
            crews = [];
            fence = [];
            holds = [];
            points = [];
            steps = [];
            work = Some L2;
          });
      edits = [];
    })
unfolding the_rules
show = (refl, refl, refl)
