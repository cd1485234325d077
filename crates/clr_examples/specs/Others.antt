-- EXAMPLES OF WHAT DOES NOT SERVE AND WHAT DOES NOT HINDER: another's test, ground and crew;
-- another section; another employee; a hand of one's own.
use Rattle.std.specs.Prelude.{◌≡◌, ℕ, false, true, List, [], ◌∷◌, ◌++◌, codes, Some, None, map}
use Rattle.std.specs.Prelude.{Option, refl}
use Rattle.clr_net.specs.declared.point.Position.TheVariants.{Closed as Shut}
use Rattle.clr_rules.specs.Answer.{Answer, answer}
use Rattle.clr_rules.specs.Prelude.{after_edits}
use Rattle.clr_rules.specs.Register.{Register, opening}
use Rattle.clr_rules.specs.Holds.{hold_of, hindering_hold}
use Rattle.clr_examples.specs.Changes.{both_tested}
use Rattle.clr_examples.specs.Phases.{refusal_in, refused_after}
use Rattle.clr_examples.specs.Sequence.{tells}
use Rattle.clr_rules.specs.Run.{after_all}
use Rattle.clr_examples.specs.Worked.{BOSS, C1, JONES, KIM, L2, L3, OPS, REED, S2, S3, Saying, ZZ}
use Rattle.clr_examples.specs.Worked.{accepted, answer_after, c1_is_on, kim_is_ordered, refused}
use Rattle.clr_examples.specs.Worked.{does, from_moment, isolating_l2, jones_1, kim_1, l2_granted}
use Rattle.clr_examples.specs.Worked.{ops_1, register_after, s2_opened, said_at, says, step_runs}
use Rattle.clr_examples.specs.Worked.{worked_staff, point_row, the_rules}
use Rattle.clr_examples.specs.WorkedRows.{kim_card, kim_record}
use Rattle.clr_rules.specs.declared.command.Kind.TheVariants.{Request, Order, Instruct, Grant, Test}
use Rattle.clr_rules.specs.declared.command.Kind.TheVariants.{Ground as LayGround, Unground, SignOn}
use Rattle.clr_rules.specs.declared.command.Kind.TheVariants.{SignOff, Transfer, Release, Cancel}
use Rattle.clr_rules.specs.declared.command.Kind.TheVariants.{Restore, Switch}
use Rattle.clr_rules.specs.declared.change.Edit.TheVariants.{SetHand, PutHold, TakeHold, PutRecord}
use Rattle.clr_rules.specs.declared.hold.Hold.{Hold}
use Rattle.clr_rules.specs.declared.hold_kind.HoldKind.{HoldKind}
use Rattle.clr_rules.specs.declared.hold_kind.HoldKind.TheVariants.{HeldOpen, Block, Control, Tag}
use Rattle.clr_rules.specs.declared.hold_kind.HoldKind.TheVariants.{Tested, Ground, Crew}
use Rattle.clr_rules.specs.declared.phase.Phase.TheVariants.{Requested, Released, Closed}
use Rattle.clr_rules.specs.declared.refusal.Refusal.TheVariants.{NotHolder, NotTested, Grounded}
use Rattle.clr_rules.specs.declared.refusal.Refusal.TheVariants.{NotGrounded, CrewsOn, CrewState}
use Rattle.clr_rules.specs.declared.refusal.Refusal.TheVariants.{BadTransfer, Held}
use Rattle.clr_order.specs.declared.action.Action.TheVariants as actions

-- KIM has a clearance on L2 as well, at the same points
abbrev pub kim_beside : List Saying
kim_beside =
    says KIM (Request L2) ∷ says OPS (Order kim_1 (S2 ∷ S3 ∷ []) isolating_l2)
    ∷ step_runs kim_1 1 (codes "OPEN S2")
    ++ step_runs kim_1 2 (codes "OPEN S3") ++ step_runs kim_1 3 (codes "BLOCK S2")
    ++ step_runs kim_1 4 (codes "BLOCK S3")
    ++ step_runs kim_1 5 (codes "TAG S2") ++ step_runs kim_1 6 (codes "TAG S3")
    ++ says OPS (Grant kim_1) ∷ []

-- JONES has tested and grounded L2, and the crew C1 works there
abbrev pub beside_a_crew : List Saying
beside_a_crew = c1_is_on ++ kim_beside

-- holds of another clearance do not serve
pub anothers_do_not_serve :
    tells beside_a_crew (says KIM (LayGround kim_1 L2)) NotTested
    × tells (beside_a_crew ++ says KIM (Test kim_1 L2 true)
    ∷ []) (says KIM (SignOn kim_1 C1)) NotGrounded
    × tells beside_a_crew (says KIM (Unground kim_1 L2)) NotGrounded
    × tells beside_a_crew (says KIM (SignOff kim_1 C1)) CrewState
unfolding the_rules
anothers_do_not_serve = (refl, refl, refl, refl)

-- nor do they hinder what is KIM's own
pub anothers_do_not_hinder :
    (refused_after (beside_a_crew ++ says KIM (Test kim_1 L2 true)
    ∷ []) (says KIM (LayGround kim_1 L2)) ≡ None)
    × (refused_after beside_a_crew (says KIM (Release kim_1 true true)) ≡ None)
    × (refused_after (beside_a_crew ++ says KIM (Test kim_1 L2 true)
    ∷ says KIM (LayGround kim_1 L2) ∷ []) (says KIM (Unground kim_1 L2)) ≡ None)
    × (refused_after (beside_a_crew ++ says KIM (Test kim_1 L2 true)
    ∷ says KIM (LayGround kim_1 L2) ∷ []) (says KIM (SignOn kim_1 C1)) ≡ None)
    -- JONES holds S2 open, and KIM's order, which holds nothing, is closed where it is given up
    × (answer_after (s2_opened ++ kim_is_ordered) (says KIM (Cancel kim_1))
    ≡ accepted (kim_card Closed 1 0 9) (PutRecord (kim_record Closed 107) ∷ []))
    -- a release takes KIM's own test alone
    × (answer_after (beside_a_crew ++ says KIM (Test kim_1 L2 true)
    ∷ []) (says KIM (Release kim_1 true true)) ≡ accepted (kim_card Released 1 6 6)
    (TakeHold (hold_of kim_1 Tested L2)
    ∷ PutRecord (record (kim_record Released 146) { work = Some L2 }) ∷ []))
unfolding the_rules
anothers_do_not_hinder = (refl, refl, refl, refl, refl, refl)

-- KIM's fence has L2 and the work section L3, both tested; L2 is grounded
abbrev pub l2_beside_the_work : List Saying
l2_beside_the_work = both_tested ++ says KIM (LayGround kim_1 L2) ∷ []

-- and L3 too, and a crew is on
abbrev pub both_grounded : List Saying
both_grounded =
    l2_beside_the_work ++ says KIM (LayGround kim_1 L3) ∷ says KIM (SignOn kim_1 C1) ∷ []

-- where a crew works
pub work_sections :
    tells l2_beside_the_work (says KIM (SignOn kim_1 C1)) NotGrounded
    × tells (l2_beside_the_work ++ says KIM (Test kim_1 L3 false)
    ∷ []) (says KIM (SignOn kim_1 C1)) NotTested
    × tells both_grounded (says KIM (Unground kim_1 L3)) CrewsOn
    × (refused_after both_grounded (says KIM (Unground kim_1 L2)) ≡ None)
    -- any ground keeps the clearance from being released
    × tells l2_beside_the_work (says KIM (Release kim_1 true true)) Grounded
unfolding the_rules
work_sections = (refl, refl, refl, refl, refl)

-- who may hold a clearance, and who may hand it on
pub holders :
    tells l2_granted (says JONES (Transfer jones_1 ZZ false)) BadTransfer
    × tells l2_granted (says JONES (Transfer jones_1 OPS false)) BadTransfer
    × tells l2_granted (says JONES (Transfer jones_1 REED false)) BadTransfer
    × (refused_after l2_granted (says JONES (Transfer jones_1 BOSS false)) ≡ None)
    -- the holder may name an emergency too
    × (refused_after l2_granted (says JONES (Transfer jones_1 KIM true)) ≡ None)
    -- BOSS is the supervisor of JONES, who asked, and not of KIM, who holds the clearance now
    × tells (l2_granted ++ says JONES (Transfer jones_1 KIM false)
    ∷ []) (says BOSS (Transfer jones_1 BOSS true)) NotHolder
unfolding the_rules
holders = (refl, refl, refl, refl, refl, refl)

-- REGISTERS THAT NO COMMANDS MAKE show what a check says by itself

-- of one clearance's holds at a point the first is named: HeldOpen, then Block, then Control, then
-- Tag
abbrev pub first_at_s2 : List HoldKind → Option Hold
first_at_s2 kinds = hindering_hold (map (λ kind. hold_of jones_1 kind S2) kinds) kim_1 S2

pub made_registers :
    -- JONES/1 has S3 in hand already: a hand of its own does not hinder
    (refusal_in
    (Answer.reply
    (answer (after_edits (SetHand S3 (Some jones_1) ∷ []) (register_after s2_opened))
    (said_at 200 (says OPS (Instruct jones_1 2))))) ≡ None)
    -- S2 bears a tag of JONES/1, and is held open by KIM/1: the lesser clearance is named, although
    -- its hold is of a later kind
    × (answer (after_edits (PutHold (hold_of jones_1 Tag S2) ∷ PutHold (hold_of kim_1 HeldOpen S2)
    ∷ []) (register_after (says OPS (Switch (does actions.Close S2 ∷ [])) ∷ [])))
    (said_at 200 (says OPS (Instruct ops_1 1))) ≡ refused (Held jones_1 Tag))
    × (first_at_s2 (Block ∷ HeldOpen ∷ []) ≡ Some (hold_of jones_1 HeldOpen S2))
    × (first_at_s2 (Control ∷ Tag ∷ Block ∷ []) ≡ Some (hold_of jones_1 Block S2))
    × (first_at_s2 (Tag ∷ Control ∷ []) ≡ Some (hold_of jones_1 Control S2))
    × (first_at_s2 (Tested ∷ Ground ∷ Crew ∷ []) ≡ None)
    -- a clearance's own HeldOpen does not keep it from closing the point, and its own tag does
    × (hindering_hold (hold_of jones_1 HeldOpen S2 ∷ hold_of jones_1 Tag S2
    ∷ []) jones_1 S2 ≡ Some (hold_of jones_1 Tag S2))
    × (hindering_hold (hold_of jones_1 HeldOpen S2 ∷ []) jones_1 S2 ≡ None)
    -- a holder whom the staff lacks has no supervisor
    × (answer (after_edits
    (PutRecord (record {
      id = jones_1;
      holder = ZZ;
      work = Some L2;
      phase = Requested;
      last = 100;
    }) ∷ []) (register_after []))
    (said_at 200 (says BOSS (Transfer jones_1 BOSS true))) ≡ refused NotHolder)
unfolding the_rules
made_registers = (refl, refl, refl, refl, refl, refl, refl, refl, refl)

-- ONE NAME FOR TWO: a section A and a point A, which joins the section to M; the point P joins M to
-- the source G
abbrev pub A : List ℕ
A = codes "A"

abbrev pub M : List ℕ
M = codes "M"

abbrev pub P : List ℕ
P = codes "P"

abbrev pub one_name_opening : Register
one_name_opening = opening (record {
  sections =
      record { name = A; source = false } ∷ record { name = codes "G"; source = true }
      ∷ record { name = M; source = false } ∷ [];
  points = point_row A M A false false Shut
      ∷ record {
        name = P;
        from_end = codes "G";
        to_end = M;
        lockable = false;
        remote = false;
        position = Shut;
        jumper = false;
      } ∷ [];
}) worked_staff

-- KIM has a clearance on M, cut at P: the section A lies in its fence, and KIM tests it. JONES has
-- one on A, cut at the point A, and restores it
abbrev pub two_of_one_name : List Saying
two_of_one_name =
    says KIM (Request M)
    ∷ says OPS (Order kim_1 (P ∷ []) (does actions.Open P ∷ does actions.Tag P ∷ []))
    ∷ step_runs kim_1 1 (codes "OPEN P")
    ++ step_runs kim_1 2 (codes "TAG P") ++ says OPS (Grant kim_1) ∷ says KIM (Test kim_1 A true)
    ∷ says JONES (Request A)
    ∷ says OPS (Order jones_1 (A ∷ []) (does actions.Open A ∷ does actions.Tag A ∷ []))
    ∷ step_runs jones_1 1 (codes "OPEN A")
    ++ step_runs jones_1 2 (codes "TAG A") ++ says OPS (Grant jones_1)
    ∷ says JONES (Release jones_1 true true)
    ∷ says OPS (Restore jones_1 (does actions.Untag A ∷ does actions.Close A ∷ []))
    ∷ step_runs jones_1 1 (codes "UNTAG A")

-- KIM's test at the section A does not keep the point A from being closed
pub one_name :
    refusal_in (Answer.reply
    (answer (after_all one_name_opening (from_moment 100 two_of_one_name))
    (said_at 200 (says OPS (Instruct jones_1 2))))) ≡ None
unfolding the_rules
one_name = refl
