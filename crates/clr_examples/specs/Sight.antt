-- EXAMPLES OF SIGHT: which commands are a clearance's own, which edits it sees as marks, what
-- covers a run, and what is near.
use Rattle.std.specs.Prelude.{◌≡◌, ℕ, Bool, true, false, List, [], ◌∷◌, ◌++◌, map, Some, None}
use Rattle.std.specs.Prelude.{length, refl}
use Rattle.clr_rules.specs.Prelude.{has_name, Waiting, Id, Register, hold_of, after_edits}
use Rattle.clr_net.specs.declared.point.Position.TheVariants.{Opened, Closed as Shut}
use Rattle.clr_rules.specs.Agreement.{part_near}
use Rattle.clr_examples.specs.Isolation.{in_l2, register_one, with_s4_switched}
use Rattle.clr_examples.specs.NearParts.{both_at_work, rows_near_jones}
use Rattle.clr_rules.specs.Near.{Near, near_of}
use Rattle.clr_rules.specs.Shown.{covers, is_own_command, marks_of, own, own_answers, items_shown}
use Rattle.clr_examples.specs.Worked.{C1, JONES, KIM, L1, L2, L3, OPS, S1, S2, S3, S4, Saying, T1}
use Rattle.clr_examples.specs.Worked.{ZZ, does, from_moment, isolating_l2_and_l3, jones_1, kim_1}
use Rattle.clr_examples.specs.Worked.{kim_asks, l2_asked, l2_ordered, ops_1, register_after}
use Rattle.clr_examples.specs.Worked.{said_at, says, worked_net, worked_staff, the_rules}
use Rattle.clr_examples.specs.WorkedRows.{jones_record, step_row}
use Rattle.clr_rules.specs.declared.change.Edit.TheVariants.{SetPosition, SetHand, PutHold}
use Rattle.clr_rules.specs.declared.change.Edit.TheVariants.{TakeHold, PutRecord, PutStep}
use Rattle.clr_rules.specs.declared.hold_kind.HoldKind.TheVariants.{HeldOpen, Block, Tag, Tested}
use Rattle.clr_rules.specs.declared.hold_kind.HoldKind.TheVariants.{Ground, Crew}
use Rattle.clr_rules.specs.declared.phase.Phase.TheVariants.{Ordered, Closed}
use Rattle.clr_rules.specs.declared.command.Kind.TheVariants.{Request, Order, Instruct, Cancel}
use Rattle.clr_rules.specs.declared.command.Kind.TheVariants.{Switch, Show}
use Rattle.clr_order.specs.declared.action.Action.TheVariants as actions

abbrev pub jones_2 : Id
jones_2 = record { requester = JONES; number = 2 }

-- OWN COMMANDS of JONES/1: those that name it, whoever says so, and JONES's requests; no request of
-- another, no switch order, and no command that names another clearance
pub own_commands :
    map (λ saying. is_own_command jones_1 (said_at 100 saying))
    (says OPS (Instruct jones_1 1) ∷ says KIM (Show jones_1) ∷ says JONES (Request L3)
    ∷ says KIM (Request L2) ∷ says JONES (Switch []) ∷ says OPS (Switch [])
    ∷ says JONES (Cancel jones_2) ∷ says JONES (Show kim_1) ∷ [])
    ≡ true ∷ true ∷ true ∷ false ∷ false ∷ false ∷ false ∷ false ∷ []
unfolding the_rules
own_commands = refl

-- each of them is answered: all 49 of the whole life
pub answered :
    length (own_answers jones_1 register_one with_s4_switched) ≡ 49
unfolding the_rules
answered = refl

-- marks, and what is none
pub marks_seen :
    -- MARKS on L2: of these edits the first of each two concerns L2, or a point with an end in it
    (marks_of worked_net in_l2
    (SetPosition S3 Opened ∷ SetPosition S4 Opened
    ∷ SetHand S2 (Some kim_1) ∷ SetHand S1 (Some kim_1)
    ∷ PutHold (hold_of kim_1 Block S3) ∷ PutHold (hold_of kim_1 Block S4)
    ∷ PutHold (hold_of kim_1 Ground L2) ∷ PutHold (hold_of kim_1 Ground L3)
    ∷ TakeHold (hold_of kim_1 Tag S2) ∷ TakeHold (hold_of kim_1 Tag T1)
    ∷ TakeHold (hold_of kim_1 Tested L2) ∷ TakeHold (hold_of kim_1 Tested L1) ∷ [])
    ≡ SetPosition S3 Opened ∷ SetHand S2 (Some kim_1) ∷ PutHold (hold_of kim_1 Block S3)
    ∷ PutHold (hold_of kim_1 Ground L2)
    ∷ TakeHold (hold_of kim_1 Tag S2) ∷ TakeHold (hold_of kim_1 Tested L2) ∷ [])
    -- a crew, a record and a step are none, even of JONES; nor is a hold at a section that has a
    -- point's name, or at a point that has a section's
    × (marks_of worked_net in_l2
    (PutHold (hold_of jones_1 Crew C1) ∷ TakeHold (hold_of jones_1 Crew L2)
    ∷ TakeHold (hold_of jones_1 Crew S2)
    ∷ PutHold (hold_of kim_1 Ground S3) ∷ PutHold (hold_of kim_1 Block L2)
    ∷ PutRecord (jones_record Ordered 100)
    ∷ PutStep (step_row jones_1 1 1 (does actions.Open S2) Waiting None) ∷ []) ≡ [])
    -- what two requests and another's show JONES/1: its requester's, with the section that is asked
    -- for, if there is one
    × (items_shown jones_1 in_l2 (register_after l2_asked)
    (from_moment 101 (says JONES (Request L3) ∷ says KIM (Request L2) ∷ says JONES (Request ZZ)
    ∷ []))
    ≡ own (said_at 101 (says JONES (Request L3))) (Some (record { name = L3; source = false }))
    ∷ own (said_at 103 (says JONES (Request ZZ))) None ∷ [])
unfolding the_rules
marks_seen = (refl, refl, refl)

-- COVERING: the wide order has L2 and L3 in its fence
abbrev pub wide_order_of : Id → Saying
wide_order_of c = says OPS (Order c (S2 ∷ S4 ∷ T1 ∷ []) isolating_l2_and_l3)

abbrev pub covered_after : List Saying → List (List ℕ) → List Saying → Bool
covered_after said names next =
    covers jones_1 (has_name names) (register_after said) (from_moment 200 next)

-- sets that cover a run, and sets that do not
pub covering :
    -- an order of JONES/1 while it is Requested, also where it is refused, since KIM may not order;
    -- while it is Ordered; and one of KIM/1
    (covered_after l2_asked (L2 ∷ []) (wide_order_of jones_1 ∷ []) ≡ false)
    × (covered_after l2_asked (L2
    ∷ []) (says KIM (Order jones_1 (S2 ∷ S4 ∷ T1 ∷ []) isolating_l2_and_l3) ∷ []) ≡ false)
    × (covered_after l2_ordered (L2 ∷ []) (wide_order_of jones_1 ∷ []) ≡ true)
    × (covered_after (l2_asked ++ kim_asks) (L2 ∷ []) (wide_order_of kim_1 ∷ []) ≡ true)
    -- its fence, at the first place and at the last; while it is Requested, and once it is Closed,
    -- it has none
    × (covered_after l2_ordered [] [] ≡ false)
    × (covered_after l2_ordered [] (says JONES (Cancel jones_1) ∷ []) ≡ false)
    × (covered_after l2_asked [] (says JONES (Show jones_1) ∷ []) ≡ true)
    × (covered_after (l2_ordered ++ says JONES (Cancel jones_1)
    ∷ []) [] (says JONES (Show jones_1) ∷ []) ≡ true)
unfolding the_rules
covering = (refl, refl, refl, refl, refl, refl, refl, refl)

-- what is near a clearance
pub near :
    -- agreement on its fence looks at the rows that its commands look at, KIM's
    -- holds at S3 among them
    (part_near (register_after both_at_work) jones_1 in_l2 ≡ rows_near_jones)
    -- a clearance that is Closed gives its record and its steps, and nothing of the network
    × (near_of (register_after (l2_ordered ++ says JONES (Cancel jones_1) ∷ []))
    (said_at 200 (says OPS (Show jones_1))) ≡ record {
      known = record { greatest = 1; fence = []; crossed = None };
      rows = record {
        net = record { sections = []; points = [] };
        staff = worked_staff;
        states = [];
        records = jones_record Closed 102 ∷ [];
        steps = step_row jones_1 1 1 (does actions.Open S2) Waiting None
            ∷ step_row jones_1 1 2 (does actions.Open S3) Waiting None
            ∷ step_row jones_1 1 3 (does actions.Block S2) Waiting None
            ∷ step_row jones_1 1 4 (does actions.Block S3) Waiting None
            ∷ step_row jones_1 1 5 (does actions.Tag S2) Waiting None
            ∷ step_row jones_1 1 6 (does actions.Tag S3) Waiting None ∷ [];
        holds = [];
      };
    })
    -- in a register that no commands make JONES/1 has a tag at S4, outside its fence: it is not
    -- near
    × (Register.holds
    (Near.rows (near_of
    (after_edits (PutHold (hold_of jones_1 Tag S4) ∷ []) (register_after l2_ordered))
    (said_at 200 (says OPS (Show jones_1))))) ≡ [])
unfolding the_rules
near = (refl, refl, refl)

-- a switch order gives its points as long as it is open, and also once it is Closed
abbrev pub near_ops : List Saying → Register
near_ops said =
    Near.rows (near_of (register_after (says OPS (Switch (does actions.Close S3 ∷ [])) ∷ said))
    (said_at 200 (says OPS (Show ops_1))))

-- what is near a switch order that is open
pub switch_orders :
    (Register.states (near_ops [])
    ≡ record { point = S3; position = Shut; hand = None } ∷ [])
    × (Register.states (near_ops (says OPS (Cancel ops_1) ∷ []))
    ≡ record { point = S3; position = Shut; hand = None } ∷ [])
    × (Register.holds (near_ops both_at_work)
    ≡ hold_of jones_1 Block S3 ∷ hold_of kim_1 Block S3
    ∷ hold_of jones_1 HeldOpen S3 ∷ hold_of kim_1 HeldOpen S3 ∷ hold_of jones_1 Tag S3
    ∷ hold_of kim_1 Tag S3 ∷ [])
unfolding the_rules
switch_orders = (refl, refl, refl)
