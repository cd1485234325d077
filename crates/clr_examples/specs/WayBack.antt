-- EXAMPLES OF THE WAY BACK: who says what until a record is Closed. DALE is the first employee in
-- the field, and OPS the only operator.
use Rattle.std.specs.Prelude.{◌≡◌, ℕ, true, false, List, [], ◌∷◌, ◌++◌, map, codes, None, refl}
use Rattle.clr_staff.specs.declared.employee.Role.TheVariants.{Field, Operator}
use Rattle.clr_staff.specs.declared.employee.StaffRow.{StaffRow}
use Rattle.clr_order.specs.Step.{Task}
use Rattle.clr_rules.specs.Id.{Id}
use Rattle.clr_rules.specs.Register.{opening}
use Rattle.clr_rules.specs.Run.{after_all}
use Rattle.clr_rules.specs.WayBack.{way_back}
use Rattle.clr_rules.specs.declared.command.Command.{Command}
use Rattle.clr_rules.specs.declared.command.Kind.TheVariants.{Instruct, Repeat, Report, SignOff}
use Rattle.clr_rules.specs.declared.command.Kind.TheVariants.{Unground, Release, Cancel, Restore}
use Rattle.clr_rules.specs.declared.command.Kind.TheVariants.{Amend, Switch}
use Rattle.clr_examples.specs.Worked.{C1, DALE, JONES, L2, OPS, S2, S3, S4, Saying, c1_is_on, does}
use Rattle.clr_examples.specs.Worked.{from_moment, jones_1, kim_1, kim_is_ordered, l2_asked}
use Rattle.clr_examples.specs.Worked.{l2_released, ops_1, register_after, s2_opened, s3_opened}
use Rattle.clr_examples.specs.Worked.{s3_unblocked, said_at, says, worked_net, worked_opening}
use Rattle.clr_examples.specs.Worked.{the_rules}
use Rattle.clr_order.specs.declared.action.Action.TheVariants as actions

-- what is said on the way back of a clearance, after all this was said
abbrev pub said_back : List Saying → Id → List Saying
said_back said c = map (λ q. says q.caller q.kind) (way_back (register_after said) c)

-- a step that is given out comes back: DALE repeats it, and reports it
abbrev pub comes_back : Id → ℕ → List ℕ → List Saying
comes_back c n text = says DALE (Repeat c n text) ∷ says DALE (Report c n false) ∷ []

abbrev pub dale_runs : Id → ℕ → List ℕ → List Saying
dale_runs c n text =
    says OPS (Instruct c n) ∷ says DALE (Repeat c n text) ∷ says DALE (Report c n true) ∷ []

-- what is held at S2 and S3 is undone, and both are left open
abbrev pub leaving_l2 : List Task
leaving_l2 =
    does actions.Untag S2 ∷ does actions.Unblock S2 ∷ does actions.Leave S2 ∷ does actions.Untag S3
    ∷ does actions.Unblock S3 ∷ does actions.Leave S3 ∷ []

-- L2 is restored, with S2 and S3 left open
abbrev pub l2_is_left : List Saying
l2_is_left =
    says OPS (Restore jones_1 leaving_l2)
    ∷ dale_runs jones_1 1 (codes "UNTAG S2") ++ dale_runs jones_1 2 (codes "UNBLOCK S2")
    ++ dale_runs jones_1 3 (codes "LEAVE S2") ++ dale_runs jones_1 4 (codes "UNTAG S3")
    ++ dale_runs jones_1 5 (codes "UNBLOCK S3")
    ++ dale_runs jones_1 6 (codes "LEAVE S3")

-- A STEP THAT IS GIVEN OUT comes back before the order is cancelled; then what the first step put
-- is undone
abbrev pub step_is_given_out : List Saying
step_is_given_out = s2_opened ++ says OPS (Instruct jones_1 2) ∷ []

abbrev pub step_comes_back : List Saying
step_comes_back = comes_back jones_1 2 (codes "OPEN S3") ++ says JONES (Cancel jones_1)
    ∷ says OPS (Restore jones_1 (does actions.Leave S2 ∷ []))
    ∷ dale_runs jones_1 1 (codes "LEAVE S2")

-- AT THE LAST MOMENT that there is, the same is said at that moment
abbrev pub at_the_last_moment : List Saying → List Command
at_the_last_moment said = map (said_at 4102444799) said

-- records that were not granted
pub not_granted :
    -- A REQUEST is cancelled
    (said_back l2_asked jones_1 ≡ says JONES (Cancel jones_1) ∷ [])
    × (said_back step_is_given_out jones_1 ≡ step_comes_back)
    × (way_back (after_all worked_opening (at_the_last_moment step_is_given_out)) jones_1
    ≡ at_the_last_moment step_comes_back)
unfolding the_rules
not_granted = (refl, refl, refl)

-- a clearance with a crew on, one that is released, and one that is Closed
pub granted :
    -- WORK IS GIVEN UP: the crew, then the ground, then the clearance; and all its points are left
    -- open
    (said_back c1_is_on jones_1
    ≡ says JONES (SignOff jones_1 C1) ∷ says JONES (Unground jones_1 L2)
    ∷ says JONES (Release jones_1 true true) ∷ l2_is_left)
    -- A RELEASED CLEARANCE has a restoring order yet to come
    × (said_back l2_released jones_1 ≡ l2_is_left)
    -- A CLOSED RECORD has nothing to come
    × (said_back (l2_asked ++ says JONES (Cancel jones_1) ∷ []) jones_1 ≡ [])
unfolding the_rules
granted = (refl, refl, refl)

-- A CLOSE THAT IS LEFT TO DO becomes a Leave
abbrev pub l3_is_left : List Saying
l3_is_left = says OPS (Amend kim_1 3) ∷ dale_runs kim_1 3 (codes "LEAVE S3")
    ++ dale_runs kim_1 4 (codes "UNTAG S4") ++ dale_runs kim_1 5 (codes "UNCONTROL S4")
    ++ dale_runs kim_1 6 (codes "UNBLOCK S4") ++ says OPS (Amend kim_1 7)
    ∷ dale_runs kim_1 7 (codes "LEAVE S4") ++ dale_runs kim_1 8 (codes "UNTAG T1")
    ++ dale_runs kim_1 9 (codes "LEAVE T1")

-- a clearance in the midst of its restoring order, alone and beside one that holds a point of it
pub restoring :
    (said_back s3_unblocked kim_1 ≡ l3_is_left)
    -- also where JONES/1 holds S3 open too, and KIM/1 may not close it
    × (said_back (s3_opened ++ s3_unblocked) kim_1 ≡ l3_is_left)
unfolding the_rules
restoring = (refl, refl)

-- ANOTHER'S STEP AT A POINT comes back, when a step there is next: KIM/1 has S3 in hand, which
-- JONES/1 holds open
pub beside_another :
    said_back (s3_opened ++ kim_is_ordered ++ says OPS (Instruct kim_1 1) ∷ []) jones_1
    ≡ says JONES (Cancel jones_1)
    ∷ says OPS (Restore jones_1 (does actions.Leave S2 ∷ does actions.Leave S3 ∷ []))
    ∷ dale_runs jones_1 1 (codes "LEAVE S2")
    ++ comes_back kim_1 1 (codes "OPEN S3") ++ dale_runs jones_1 2 (codes "LEAVE S3")
unfolding the_rules
beside_another = refl

-- TWO OF A STAFF ARE ENOUGH: OPS, who is the only operator, gives back a switch order, and DALE is
-- in the field
abbrev pub two_employees : List StaffRow
two_employees = record { name = DALE; role = Field; supervisor = None }
    ∷ record { name = OPS; role = Operator; supervisor = None } ∷ []

abbrev pub s4_is_switched : List Saying
s4_is_switched =
    says OPS (Switch (does actions.Open S4 ∷ does actions.Close S4 ∷ []))
    ∷ dale_runs ops_1 1 (codes "OPEN S4") ++ says OPS (Instruct ops_1 2) ∷ []

-- a switch order of a staff of two
pub staff_of_two :
    map (λ q. says q.caller q.kind)
    (way_back (after_all (opening worked_net two_employees) (from_moment 100 s4_is_switched)) ops_1)
    ≡ comes_back ops_1 2 (codes "CLOSE S4") ++ says OPS (Cancel ops_1) ∷ []
unfolding the_rules
staff_of_two = refl
