-- THE WORKED NETWORK of the examples: two sources, three sections of line between them, four
-- switching points in a row and an open tie; and the staff that works on it.
use Rattle.std.specs.Prelude.{ℕ, ◌+◌, Bool, true, false, List, [], ◌∷◌, ◌++◌, length, codes, Some}
use Rattle.std.specs.Prelude.{None}
use Rattle.clr_rules.specs.Prelude.{Grid, StaffRow, Task, Action, Id, PointRow, Position}
use Rattle.clr_net.specs.declared.point.Position.TheVariants.{Opened, Closed}
use Rattle.clr_staff.specs.declared.employee.Role.TheVariants.{Operator, Field, Charge}
use Rattle.clr_order.specs.declared.action.Action.TheVariants.{Open, Block, Control, Tag, Untag}
use Rattle.clr_order.specs.declared.action.Action.TheVariants.{Uncontrol, Unblock, Close, Leave}
use Rattle.clr_net.specs.Additions.{with_named}
use Rattle.clr_net.specs.Fence.{in_fence, reaches}
use Rattle.clr_shelf.specs.Rows.{row_of, with_row, without_row}
use Rattle.clr_rules.specs.Changes.{new_steps}
use Rattle.clr_rules.specs.Edits.{after_edits}
use Rattle.clr_rules.specs.Fences.{crossed_record, touching_names}
use Rattle.clr_rules.specs.Holds.{has_any_hold, has_some_hold, held_among, hindering_hold, holds_of}
use Rattle.clr_rules.specs.Holds.{first_of_each, places_of}
use Rattle.clr_rules.specs.Live.{open_points, is_live}
use Rattle.clr_rules.specs.Records.{greatest_number}
use Rattle.clr_rules.specs.Run.{replies, after_all}
use Rattle.clr_rules.specs.Shown.{covers, own_answers, items_shown}
use Rattle.clr_rules.specs.Steps.{steps_in, steps_of}
use Rattle.clr_rules.specs.WayBack.{undoing_steps, turns}
use Rattle.clr_rules.specs.Answer.{Answer, answer}
use Rattle.clr_rules.specs.Register.{Register, opening}
use Rattle.clr_rules.specs.declared.command.Kind.TheVariants.{Request, Order, Instruct, Repeat}
use Rattle.clr_rules.specs.declared.command.Kind.TheVariants.{Report, Grant, Test, Ground, SignOn}
use Rattle.clr_rules.specs.declared.command.Kind.TheVariants.{SignOff, Unground, Release, Restore}
use Rattle.clr_rules.specs.declared.command.Kind.TheVariants.{Amend, Show}
use Rattle.clr_rules.specs.declared.change.Edit.{Edit}
use Rattle.clr_rules.specs.declared.command.Command.{Command}
use Rattle.clr_rules.specs.declared.command.Kind.{Kind}
use Rattle.clr_rules.specs.declared.refusal.Refusal.{Refusal}
use Rattle.clr_rules.specs.declared.reply.Card.{Card}
use Rattle.clr_rules.specs.declared.reply.Reply.TheVariants.{Accepted, Refused}

-- THE NAMES

abbrev pub G : List ℕ
G = codes "G"

abbrev pub H : List ℕ
H = codes "H"

abbrev pub L1 : List ℕ
L1 = codes "L1"

abbrev pub L2 : List ℕ
L2 = codes "L2"

abbrev pub L3 : List ℕ
L3 = codes "L3"

abbrev pub S1 : List ℕ
S1 = codes "S1"

abbrev pub S2 : List ℕ
S2 = codes "S2"

abbrev pub S3 : List ℕ
S3 = codes "S3"

abbrev pub S4 : List ℕ
S4 = codes "S4"

abbrev pub T1 : List ℕ
T1 = codes "T1"

abbrev pub OPS : List ℕ
OPS = codes "OPS"

abbrev pub REED : List ℕ
REED = codes "REED"

abbrev pub DALE : List ℕ
DALE = codes "DALE"

abbrev pub JONES : List ℕ
JONES = codes "JONES"

abbrev pub KIM : List ℕ
KIM = codes "KIM"

abbrev pub BOSS : List ℕ
BOSS = codes "BOSS"

-- a crew
abbrev pub C1 : List ℕ
C1 = codes "C1"

-- nobody of the staff has this name, and nothing in the network
abbrev pub ZZ : List ℕ
ZZ = codes "ZZ"

-- THE NETWORK: G -S1- L1 -S2- L2 -S3- L3 -S4- H, and T1 between L1 and L3. G and H are sources; S4
-- is controlled from afar; the tie T1 is open, and can be neither locked nor controlled

-- a point that is no jumper: its name, its ends, whether it can be locked, and controlled from
-- afar, and its position
abbrev pub point_row : List ℕ → List ℕ → List ℕ → Bool → Bool → Position → PointRow
point_row name from_end to_end lockable remote position =
    record {
      name = name;
      from_end = from_end;
      to_end = to_end;
      lockable = lockable;
      remote = remote;
      position = position;
      jumper = false;
    }

abbrev pub s1_row : Position → PointRow
s1_row = point_row S1 G L1 true false

abbrev pub s2_row : Position → PointRow
s2_row = point_row S2 L1 L2 true false

abbrev pub s3_row : Position → PointRow
s3_row = point_row S3 L2 L3 true false

abbrev pub s4_row : Position → PointRow
s4_row = point_row S4 L3 H true true

abbrev pub t1_row : Position → PointRow
t1_row = point_row T1 L1 L3 false false

abbrev pub worked_net : Grid
worked_net = record {
  sections =
      record { name = G; source = true }
      ∷ record { name = H; source = true }
      ∷ record { name = L1; source = false }
      ∷ record { name = L2; source = false }
      ∷ record { name = L3; source = false }
      ∷ [];
  points = s1_row Closed ∷ s2_row Closed ∷ s3_row Closed ∷ s4_row Closed ∷ t1_row Opened ∷ [];
}

-- THE STAFF: an operator, two in the field, and three who may be in charge, of whom BOSS is the
-- supervisor of JONES

abbrev pub worked_staff : List StaffRow
worked_staff =
    record { name = BOSS; role = Charge; supervisor = None }
    ∷ record { name = DALE; role = Field; supervisor = None }
    ∷ record { name = JONES; role = Charge; supervisor = Some BOSS }
    ∷ record { name = KIM; role = Charge; supervisor = None }
    ∷ record { name = OPS; role = Operator; supervisor = None }
    ∷ record { name = REED; role = Field; supervisor = None }
    ∷ []

abbrev pub worked_opening : Register
worked_opening = opening worked_net worked_staff

-- THE CLEARANCES

abbrev pub jones_1 : Id
jones_1 = record { requester = JONES; number = 1 }

abbrev pub kim_1 : Id
kim_1 = record { requester = KIM; number = 1 }

abbrev pub ops_1 : Id
ops_1 = record { requester = OPS; number = 1 }

-- WHAT IS SAID: who says it, and what it asks for

pub record Saying : Type 0 where
  pub caller : List ℕ
  pub kind : Kind

abbrev pub says : List ℕ → Kind → Saying
says caller kind = record { caller = caller; kind = kind }

abbrev pub said_at : ℕ → Saying → Command
said_at moment saying = record { caller = saying.caller; moment = moment; kind = saying.kind }

-- what is said, from this moment on, each a second after the one before
abbrev pub from_moment : ℕ → List Saying → List Command
from_moment moment [] = []
from_moment moment (saying ∷ rest) = said_at moment saying ∷ from_moment (moment + 1) rest

-- the register after all this was said, from moment 100 on
abbrev pub register_after : List Saying → Register
register_after said = after_all worked_opening (from_moment 100 said)

-- the answer to what is said next, a second later
abbrev pub answer_after : List Saying → Saying → Answer
answer_after said next = answer (register_after said) (said_at (100 + length said) next)

-- the answer to a command that is refused: it has no edits
abbrev pub refused : Refusal → Answer
refused refusal = record { reply = Refused refusal; edits = [] }

abbrev pub accepted : Card → List Edit → Answer
accepted card edits = record { reply = Accepted card; edits = edits }

-- what the rules define by recursion, for examples to compute
unfoldable pub the_rules : ℕ
unfolding with_named in_fence reaches row_of with_row without_row new_steps after_edits crossed_record touching_names has_any_hold has_some_hold held_among hindering_hold holds_of first_of_each places_of open_points is_live greatest_number after_all replies covers own_answers items_shown steps_in steps_of undoing_steps turns
the_rules = 0

-- a step runs: OPS instructs it, REED repeats its text, and reports it done
abbrev pub step_runs : Id → ℕ → List ℕ → List Saying
step_runs c n text =
    says OPS (Instruct c n) ∷ says REED (Repeat c n text) ∷ says REED (Report c n true) ∷ []

-- and the same up to its report
abbrev pub step_is_repeated : Id → ℕ → List ℕ → List Saying
step_is_repeated c n text = says OPS (Instruct c n) ∷ says REED (Repeat c n text) ∷ []

abbrev pub does : Action → List ℕ → Task
does action point = record { action = action; point = point }

-- THE LIFE OF JONES/1: JONES asks for L2, and OPS orders it at S2 and S3

abbrev pub isolating_l2 : List Task
isolating_l2 =
    does Open S2 ∷ does Open S3 ∷ does Block S2 ∷ does Block S3 ∷ does Tag S2 ∷ does Tag S3 ∷ []

abbrev pub l2_asked : List Saying
l2_asked = says JONES (Request L2) ∷ []

abbrev pub l2_ordered : List Saying
l2_ordered = l2_asked ++ says OPS (Order jones_1 (S2 ∷ S3 ∷ []) isolating_l2) ∷ []

-- its first step is done
abbrev pub s2_opened : List Saying
s2_opened = l2_ordered ++ step_runs jones_1 1 (codes "OPEN S2")

-- two are
abbrev pub s3_opened : List Saying
s3_opened = s2_opened ++ step_runs jones_1 2 (codes "OPEN S3")

-- four are
abbrev pub l2_blocked : List Saying
l2_blocked =
    s3_opened ++ step_runs jones_1 3 (codes "BLOCK S2") ++ step_runs jones_1 4 (codes "BLOCK S3")

-- five are
abbrev pub s2_tagged : List Saying
s2_tagged = l2_blocked ++ step_runs jones_1 5 (codes "TAG S2")

-- all six are
abbrev pub l2_isolated : List Saying
l2_isolated = s2_tagged ++ step_runs jones_1 6 (codes "TAG S3")

abbrev pub l2_granted : List Saying
l2_granted = l2_isolated ++ says OPS (Grant jones_1) ∷ []

abbrev pub l2_tested : List Saying
l2_tested = l2_granted ++ says JONES (Test jones_1 L2 true) ∷ []

abbrev pub l2_grounded : List Saying
l2_grounded = l2_tested ++ says JONES (Ground jones_1 L2) ∷ []

-- the crew C1 is signed on
abbrev pub c1_is_on : List Saying
c1_is_on = l2_grounded ++ says JONES (SignOn jones_1 C1) ∷ []

abbrev pub c1_is_off : List Saying
c1_is_off = c1_is_on ++ says JONES (SignOff jones_1 C1) ∷ []

abbrev pub l2_ungrounded : List Saying
l2_ungrounded = c1_is_off ++ says JONES (Unground jones_1 L2) ∷ []

abbrev pub l2_released : List Saying
l2_released = l2_ungrounded ++ says JONES (Release jones_1 true true) ∷ []

abbrev pub restoring_l2 : List Task
restoring_l2 =
    does Untag S2 ∷ does Unblock S2 ∷ does Close S2 ∷ does Untag S3 ∷ does Unblock S3
    ∷ does Close S3 ∷ []

abbrev pub l2_restoring : List Saying
l2_restoring = l2_released ++ says OPS (Restore jones_1 restoring_l2) ∷ []

-- all that JONES does from the grant to the release: a test that finds L2 live, and a ground too
-- early; then work in its order
abbrev pub jones_works_and_releases : List Saying
jones_works_and_releases =
    says JONES (Test jones_1 L2 false) ∷ says JONES (Ground jones_1 L2)
    ∷ says JONES (Test jones_1 L2 true) ∷ says JONES (Ground jones_1 L2)
    ∷ says JONES (SignOn jones_1 C1) ∷ says JONES (Show jones_1) ∷ says JONES (SignOff jones_1 C1)
    ∷ says JONES (Unground jones_1 L2)
    ∷ says JONES (Release jones_1 true true) ∷ []

-- OPS orders the restoring of L2, and its six steps run
abbrev pub l2_is_restored : List Saying
l2_is_restored =
    says OPS (Restore jones_1 restoring_l2)
    ∷ step_runs jones_1 1 (codes "UNTAG S2") ++ step_runs jones_1 2 (codes "UNBLOCK S2")
    ++ step_runs jones_1 3 (codes "CLOSE S2") ++ step_runs jones_1 4 (codes "UNTAG S3")
    ++ step_runs jones_1 5 (codes "UNBLOCK S3")
    ++ step_runs jones_1 6 (codes "CLOSE S3")

-- THE LIFE OF KIM/1, which may begin at any time: KIM asks for L3, and OPS orders it at S3, S4 and
-- T1

abbrev pub kim_asks : List Saying
kim_asks = says KIM (Request L3) ∷ []

abbrev pub isolating_l3 : List Task
isolating_l3 =
    does Open S3 ∷ does Block S3 ∷ does Tag S3 ∷ does Open S4 ∷ does Block S4 ∷ does Control S4
    ∷ does Tag S4
    ∷ does Open T1 ∷ does Tag T1 ∷ []

abbrev pub kim_is_ordered : List Saying
kim_is_ordered = kim_asks ++ says OPS (Order kim_1 (S3 ∷ S4 ∷ T1 ∷ []) isolating_l3) ∷ []

-- five of its nine steps are done
abbrev pub s4_blocked : List Saying
s4_blocked =
    kim_is_ordered ++ step_runs kim_1 1 (codes "OPEN S3") ++ step_runs kim_1 2 (codes "BLOCK S3")
    ++ step_runs kim_1 3 (codes "TAG S3")
    ++ step_runs kim_1 4 (codes "OPEN S4") ++ step_runs kim_1 5 (codes "BLOCK S4")

abbrev pub kim_is_granted : List Saying
kim_is_granted =
    s4_blocked ++ step_runs kim_1 6 (codes "CONTROL S4") ++ step_runs kim_1 7 (codes "TAG S4")
    ++ step_runs kim_1 8 (codes "OPEN T1") ++ step_runs kim_1 9 (codes "TAG T1")
    ++ says OPS (Grant kim_1) ∷ []

abbrev pub kim_releases : List Saying
kim_releases = kim_is_granted ++ says KIM (Release kim_1 true true) ∷ []

abbrev pub restoring_l3 : List Task
restoring_l3 =
    does Untag S3 ∷ does Unblock S3 ∷ does Close S3 ∷ does Untag S4 ∷ does Uncontrol S4
    ∷ does Unblock S4 ∷ does Close S4
    ∷ does Untag T1 ∷ does Leave T1 ∷ []

abbrev pub kim_is_restoring : List Saying
kim_is_restoring = kim_releases ++ says OPS (Restore kim_1 restoring_l3) ∷ []

-- two of its nine restoring steps are done: S3 bears KIM/1's HeldOpen alone
abbrev pub s3_unblocked : List Saying
s3_unblocked =
    kim_is_restoring ++ step_runs kim_1 1 (codes "UNTAG S3")
    ++ step_runs kim_1 2 (codes "UNBLOCK S3")

-- S3 stays open, since the third step is amended
abbrev pub s3_left : List Saying
s3_left = s3_unblocked ++ says OPS (Amend kim_1 3) ∷ step_runs kim_1 3 (codes "LEAVE S3")

-- an order at S2, S4 and T1, which makes a fence of L2 and L3
abbrev pub isolating_l2_and_l3 : List Task
isolating_l2_and_l3 =
    does Open S2 ∷ does Block S2 ∷ does Tag S2 ∷ does Open S4 ∷ does Block S4 ∷ does Control S4
    ∷ does Tag S4 ∷ does Open T1 ∷ does Tag T1 ∷ []

-- KIM asks for L3, and has it with L2 by that order
abbrev pub kim_has_both : List Saying
kim_has_both =
    kim_asks ++ says OPS (Order kim_1 (S2 ∷ S4 ∷ T1 ∷ []) isolating_l2_and_l3)
    ∷ step_runs kim_1 1 (codes "OPEN S2")
    ++ step_runs kim_1 2 (codes "BLOCK S2") ++ step_runs kim_1 3 (codes "TAG S2")
    ++ step_runs kim_1 4 (codes "OPEN S4")
    ++ step_runs kim_1 5 (codes "BLOCK S4") ++ step_runs kim_1 6 (codes "CONTROL S4")
    ++ step_runs kim_1 7 (codes "TAG S4")
    ++ step_runs kim_1 8 (codes "OPEN T1") ++ step_runs kim_1 9 (codes "TAG T1")
    ++ says OPS (Grant kim_1) ∷ []
