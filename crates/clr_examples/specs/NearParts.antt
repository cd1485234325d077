-- EXAMPLES OF NEAR PARTS: what a command looks at, and all that it does not. JONES works on L2,
-- with the crew C1; KIM works on L3 beside it, with the crew C2, and holds S3 as well.
use Rattle.std.specs.Prelude.{◌≡◌, ℕ, true, false, List, [], ◌∷◌, ◌++◌, codes, None, refl}
use Rattle.clr_net.specs.declared.point.Position.TheVariants.{Opened, Closed as Shut}
use Rattle.clr_rules.specs.Prelude.{hold_of}
use Rattle.clr_rules.specs.Near.{near_of}
use Rattle.clr_examples.specs.Worked.{C1, KIM, L2, L3, OPS, S2, S3, S4, Saying, T1, c1_is_on, does}
use Rattle.clr_examples.specs.Worked.{isolating_l3, jones_1, kim_1, kim_asks, kim_is_granted}
use Rattle.clr_examples.specs.Worked.{l2_granted, register_after, said_at, says, worked_staff}
use Rattle.clr_examples.specs.Worked.{s2_row, s3_row, s4_row, t1_row, the_rules}
use Rattle.clr_examples.specs.WorkedRows.{jones_record, kim_record, l2_steps_done}
use Rattle.clr_rules.specs.declared.command.Kind.TheVariants.{Request, Order, Test}
use Rattle.clr_rules.specs.declared.command.Kind.TheVariants.{Ground as LayGround, SignOn, Switch}
use Rattle.clr_rules.specs.declared.command.Kind.TheVariants.{Show}
use Rattle.clr_rules.specs.declared.hold_kind.HoldKind.TheVariants.{HeldOpen, Block, Tag, Tested}
use Rattle.clr_rules.specs.declared.hold_kind.HoldKind.TheVariants.{Ground, Crew}
use Rattle.clr_rules.specs.declared.phase.Phase.TheVariants.{Requested, Granted}
use Rattle.clr_rules.specs.Register.{Register}
use Rattle.clr_order.specs.declared.action.Action.TheVariants as actions

abbrev pub C2 : List ℕ
C2 = codes "C2"

abbrev pub both_at_work : List Saying
both_at_work =
    c1_is_on ++ kim_is_granted ++ says KIM (Test kim_1 L3 true) ∷ says KIM (LayGround kim_1 L3)
    ∷ says KIM (SignOn kim_1 C2) ∷ []

-- the rows that a command which names JONES/1 looks at: KIM's holds at S3 are near; KIM's record
-- and steps, KIM's holds at S4, T1 and L3 and KIM's crew are not
abbrev pub rows_near_jones : Register
rows_near_jones = record {
  net = record {
    sections = record { name = L2; source = false } ∷ [];
    points = s2_row Opened ∷ s3_row Opened ∷ [];
  };
  staff = worked_staff;
  states = record { point = S2; position = Opened; hand = None }
      ∷ record { point = S3; position = Opened; hand = None } ∷ [];
  records = jones_record Granted 123 ∷ [];
  steps = l2_steps_done;
  holds = hold_of jones_1 Block S2 ∷ hold_of jones_1 Block S3 ∷ hold_of kim_1 Block S3
      ∷ hold_of jones_1 Crew C1 ∷ hold_of jones_1 Ground L2
      ∷ hold_of jones_1 HeldOpen S2 ∷ hold_of jones_1 HeldOpen S3 ∷ hold_of kim_1 HeldOpen S3
      ∷ hold_of jones_1 Tag S2 ∷ hold_of jones_1 Tag S3
      ∷ hold_of kim_1 Tag S3 ∷ hold_of jones_1 Tested L2 ∷ [];
}

-- SHOW, or any command that names JONES/1: its fence is L2 alone
pub show :
    near_of (register_after both_at_work) (said_at 200 (says OPS (Show jones_1)))
    ≡ record {
      known = record { greatest = 1; fence = L2 ∷ []; crossed = None };
      rows = rows_near_jones;
    }
unfolding the_rules
show = refl

-- the near parts of commands that make something new: a request, an order, a switch order
pub making :
    -- REQUEST: the asked section's row, and the caller's greatest number
    (near_of (register_after both_at_work) (said_at 200 (says KIM (Request L3))) ≡ record {
      known = record { greatest = 1; fence = []; crossed = None };
      rows = record {
        net = record { sections = record { name = L3; source = false } ∷ []; points = [] };
        staff = worked_staff;
        states = [];
        records = [];
        steps = [];
        holds = [];
      };
    })
    -- ORDER: the fence that the order would make, here while JONES holds S3
    × (near_of (register_after (l2_granted ++ kim_asks))
    (said_at 200 (says OPS (Order kim_1 (S3 ∷ S4 ∷ T1 ∷ []) isolating_l3))) ≡ record {
      known = record { greatest = 1; fence = L3 ∷ []; crossed = None };
      rows = record {
        net = record {
          sections = record { name = L3; source = false } ∷ [];
          points = s3_row Opened ∷ s4_row Opened ∷ t1_row Opened ∷ [];
        };
        staff = worked_staff;
        states = record { point = S3; position = Opened; hand = None }
            ∷ record { point = S4; position = Shut; hand = None }
            ∷ record { point = T1; position = Opened; hand = None } ∷ [];
        records = kim_record Requested 121 ∷ [];
        steps = [];
        holds = hold_of jones_1 Block S3 ∷ hold_of jones_1 HeldOpen S3 ∷ hold_of jones_1 Tag S3
            ∷ [];
      };
    })
    -- SWITCH: the order's points, and all that is held there
    × (near_of (register_after l2_granted)
    (said_at 200 (says OPS (Switch (does actions.Close S3 ∷ does actions.Open S4 ∷ [])))) ≡ record {
      known = record { greatest = 0; fence = []; crossed = None };
      rows = record {
        net = record {
          sections = [];
          points = s3_row Opened ∷ s4_row Opened ∷ [];
        };
        staff = worked_staff;
        states = record { point = S3; position = Opened; hand = None }
            ∷ record { point = S4; position = Shut; hand = None } ∷ [];
        records = [];
        steps = [];
        holds = hold_of jones_1 Block S3 ∷ hold_of jones_1 HeldOpen S3 ∷ hold_of jones_1 Tag S3
            ∷ [];
      };
    })
unfolding the_rules
making = (refl, refl, refl)
