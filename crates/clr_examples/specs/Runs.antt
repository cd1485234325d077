-- EXAMPLES OF RUNS: what a whole life is answered, reply by reply, and the register that a list of
-- commands leaves. The replies of shorter runs are sessions.
use Rattle.std.specs.Prelude.{◌≡◌, ℕ, ◌+◌, true, false, List, [], ◌∷◌, ◌++◌, length, codes, Some}
use Rattle.std.specs.Prelude.{None, refl}
use Rattle.clr_net.specs.declared.point.Position.TheVariants.{Opened, Closed as Shut}
use Rattle.clr_rules.specs.Prelude.{Done, Id, Register, hand_of, hold_of}
use Rattle.clr_rules.specs.Fences.{clearance_fence}
use Rattle.clr_rules.specs.declared.hold_kind.HoldKind.TheVariants.{HeldOpen, Block, Tag, Tested}
use Rattle.clr_rules.specs.declared.hold_kind.HoldKind.TheVariants.{Ground as Grounding}
use Rattle.clr_rules.specs.Run.{replies}
use Rattle.clr_examples.specs.Worked.{C1, from_moment, jones_works_and_releases}
use Rattle.clr_examples.specs.Worked.{l2_is_restored}
use Rattle.clr_examples.specs.Worked.{G, H, JONES, L1, L2, L3, OPS, REED, S1, S2, S3, S4, Saying}
use Rattle.clr_examples.specs.Worked.{T1, does, jones_1, kim_1, kim_releases, l2_granted}
use Rattle.clr_examples.specs.Worked.{l2_ordered, ops_1, register_after, restoring_l3, s2_opened}
use Rattle.clr_examples.specs.Worked.{says, step_runs, worked_staff, s1_row, s2_row, s3_row, s4_row}
use Rattle.clr_examples.specs.Worked.{t1_row, the_rules}
use Rattle.clr_examples.specs.WorkedRows.{jones_card, jones_record, l2_steps_done, seen}
use Rattle.clr_rules.specs.declared.command.Kind.TheVariants.{Instruct, Repeat, Report, Cancel}
use Rattle.clr_rules.specs.declared.command.Kind.TheVariants.{Restore, Amend, Switch}
use Rattle.clr_rules.specs.declared.phase.Phase.{Phase}
use Rattle.clr_rules.specs.declared.phase.Phase.TheVariants.{Requested, Ordered, Granted, Released}
use Rattle.clr_rules.specs.declared.phase.Phase.TheVariants.{Restoring, Closed}
use Rattle.clr_rules.specs.declared.refusal.Refusal.TheVariants.{NotTested}
use Rattle.clr_rules.specs.declared.reply.Reply.{Reply}
use Rattle.clr_rules.specs.declared.reply.View.{View}
use Rattle.clr_rules.specs.declared.reply.Reply.TheVariants.{Accepted, Shown, Refused}
use Rattle.clr_order.specs.declared.action.Action.TheVariants as actions

-- the replies to what is said next
abbrev pub replies_after : List Saying → List Saying → List Reply
replies_after said next = replies (register_after said) (from_moment (100 + length said) next)

-- the replies to a step of JONES/1 that runs, all accepted: this many of six steps were done before
-- it, and one more is after it
abbrev pub jones_step_replies : Phase → ℕ → ℕ → List Reply
jones_step_replies phase round before =
    Accepted (jones_card phase round before 6) ∷ Accepted (jones_card phase round before 6)
    ∷ Accepted (jones_card phase round (before + 1) 6) ∷ []

-- THE WHOLE LIFE of JONES/1, 49 commands: asked for, ordered and isolated; granted, tested,
-- grounded and worked on; released and restored
abbrev pub jones_at_work : View
jones_at_work = record {
  card = jones_card Granted 1 6 6;
  crews = C1 ∷ [];
  fence = L2 ∷ [];
  holds = hold_of jones_1 HeldOpen S2 ∷ hold_of jones_1 HeldOpen S3 ∷ hold_of jones_1 Block S2
      ∷ hold_of jones_1 Block S3
      ∷ hold_of jones_1 Tag S2 ∷ hold_of jones_1 Tag S3 ∷ hold_of jones_1 Tested L2
      ∷ hold_of jones_1 Grounding L2 ∷ [];
  points = record { point = S2; position = Opened; hand = None }
      ∷ record { point = S3; position = Opened; hand = None } ∷ [];
  steps = seen (does actions.Open S2) Done (Some REED)
      ∷ seen (does actions.Open S3) Done (Some REED) ∷ seen (does actions.Block S2) Done (Some REED)
      ∷ seen (does actions.Block S3) Done (Some REED) ∷ seen (does actions.Tag S2) Done (Some REED)
      ∷ seen (does actions.Tag S3) Done (Some REED) ∷ [];
  work = Some L2;
}

pub the_whole_life : replies_after [] (l2_granted ++ jones_works_and_releases ++ l2_is_restored) ≡
    Accepted (jones_card Requested 0 0 0) ∷ Accepted (jones_card Ordered 1 0 6)
    ∷ jones_step_replies Ordered 1 0 ++ jones_step_replies Ordered 1 1
    ++ jones_step_replies Ordered 1 2
    ++ jones_step_replies Ordered 1 3 ++ jones_step_replies Ordered 1 4
    ++ jones_step_replies Ordered 1 5
    ++ Accepted (jones_card Granted 1 6 6)
    -- a test that finds L2 live, and a ground too early; a test that finds it dead, and the ground;
    -- the crew on, the view, the crew off
    ∷ Accepted (jones_card Granted 1 6 6) ∷ Refused NotTested ∷ Accepted (jones_card Granted 1 6 6)
    ∷ Accepted (jones_card Granted 1 6 6)
    ∷ Accepted (jones_card Granted 1 6 6) ∷ Shown jones_at_work
    ∷ Accepted (jones_card Granted 1 6 6)
    -- the ground off, the release, the restoring order
    ∷ Accepted (jones_card Granted 1 6 6) ∷ Accepted (jones_card Released 1 6 6)
    ∷ Accepted (jones_card Restoring 2 0 6)
    ∷ jones_step_replies Restoring 2 0 ++ jones_step_replies Restoring 2 1
    ++ jones_step_replies Restoring 2 2
    ++ jones_step_replies Restoring 2 3 ++ jones_step_replies Restoring 2 4
    ++ Accepted (jones_card Restoring 2 5 6) ∷ Accepted (jones_card Restoring 2 5 6)
    ∷ Accepted (jones_card Closed 2 6 6) ∷ []
unfolding the_rules
the_whole_life = refl

-- TWO CLEARANCES HOLD S3: KIM's restoring order would close it while JONES holds it, and leaves it
-- open instead
abbrev pub kim_restores : List Saying
kim_restores =
    says OPS (Restore kim_1 restoring_l3)
    ∷ step_runs kim_1 1 (codes "UNTAG S3") ++ step_runs kim_1 2 (codes "UNBLOCK S3")
    ++ says OPS (Instruct kim_1 3) ∷ says OPS (Amend kim_1 3)
    ∷ step_runs kim_1 3 (codes "LEAVE S3") ++ step_runs kim_1 4 (codes "UNTAG S4")
    ++ step_runs kim_1 5 (codes "UNCONTROL S4") ++ step_runs kim_1 6 (codes "UNBLOCK S4")
    ++ step_runs kim_1 7 (codes "CLOSE S4")
    ++ step_runs kim_1 8 (codes "UNTAG T1") ++ step_runs kim_1 9 (codes "LEAVE T1")

-- two clearances hold one point, and the first that is restored leaves it open
pub two_clearances :
    -- S4 is closed again; S3 and T1 are open
    (Register.states (register_after (l2_granted ++ kim_releases ++ kim_restores)) ≡
    record { point = S1; position = Shut; hand = None }
    ∷ record { point = S2; position = Opened; hand = None }
    ∷ record { point = S3; position = Opened; hand = None }
    ∷ record { point = S4; position = Shut; hand = None }
    ∷ record { point = T1; position = Opened; hand = None } ∷ [])
    -- and JONES's holds stay, at S3 too
    × (Register.holds (register_after (l2_granted ++ kim_releases ++ kim_restores)) ≡
    hold_of jones_1 Block S2 ∷ hold_of jones_1 Block S3 ∷ hold_of jones_1 HeldOpen S2
    ∷ hold_of jones_1 HeldOpen S3
    ∷ hold_of jones_1 Tag S2 ∷ hold_of jones_1 Tag S3 ∷ [])
unfolding the_rules
two_clearances = (refl, refl)

-- POINTS STAY IN HAND: OPS has S2 in hand for a switch order, and goes to work on S4 for another
abbrev pub ops_2 : Id
ops_2 = record { requester = OPS; number = 2 }

abbrev pub ops_at_two_points : List Saying
ops_at_two_points =
    says OPS (Switch (does actions.Close S2 ∷ [])) ∷ says OPS (Instruct ops_1 1)
    ∷ says OPS (Instruct jones_1 1)
    ∷ says OPS (Switch (does actions.Open S4 ∷ [])) ∷ says OPS (Instruct ops_2 1) ∷ []

-- while other orders run beside it, S2 stays in hand
pub side_by_side :
    hand_of (Register.states (register_after (l2_ordered ++ ops_at_two_points))) S2 ≡ Some ops_1
unfolding the_rules
side_by_side = refl

-- AN ORDER IS GIVEN UP after its first step: S2 alone is held, and is closed again
abbrev pub giving_up : List Saying
giving_up =
    says OPS (Instruct jones_1 2) ∷ says JONES (Cancel jones_1)
    ∷ says REED (Repeat jones_1 2 (codes "OPEN S3")) ∷ says REED (Report jones_1 2 false)
    ∷ says JONES (Cancel jones_1) ∷ says OPS (Restore jones_1 [])
    ∷ says OPS (Restore jones_1 (does actions.Untag S2 ∷ does actions.Close S2 ∷ []))
    ∷ says OPS (Restore jones_1 (does actions.Close S2 ∷ does actions.Close S3 ∷ []))
    ∷ says OPS (Restore jones_1 (does actions.Close S2 ∷ [])) ∷ []

-- its fence is still that of the first round while it is restored, and none once it is closed
pub order_given_up :
    (clearance_fence (register_after (s2_opened ++ giving_up)) jones_1 ≡ L2 ∷ [])
    × (clearance_fence
    (register_after (s2_opened ++ giving_up ++ step_runs jones_1 1 (codes "CLOSE S2"))) jones_1 ≡ [])
unfolding the_rules
order_given_up = (refl, refl)

-- A REGISTER THAT IS REACHED, whole: JONES has the clearance on L2
pub granted :
    register_after l2_granted ≡ record {
      net = record {
        sections =
            record { name = G; source = true } ∷ record { name = H; source = true }
            ∷ record { name = L1; source = false }
            ∷ record { name = L2; source = false } ∷ record { name = L3; source = false } ∷ [];
        points = s1_row Opened ∷ s2_row Opened ∷ s3_row Opened ∷ s4_row Opened ∷ t1_row Opened ∷ [];
      };
      staff = worked_staff;
      states = record { point = S1; position = Shut; hand = None }
          ∷ record { point = S2; position = Opened; hand = None }
          ∷ record { point = S3; position = Opened; hand = None }
          ∷ record { point = S4; position = Shut; hand = None }
          ∷ record { point = T1; position = Opened; hand = None } ∷ [];
      records = jones_record Granted 120 ∷ [];
      steps = l2_steps_done;
      holds = hold_of jones_1 Block S2 ∷ hold_of jones_1 Block S3 ∷ hold_of jones_1 HeldOpen S2
          ∷ hold_of jones_1 HeldOpen S3
          ∷ hold_of jones_1 Tag S2 ∷ hold_of jones_1 Tag S3 ∷ [];
    }
unfolding the_rules
granted = refl
