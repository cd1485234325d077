-- EXAMPLES OF UPDATES: a line is built and the staff changes while a crew is at work; jumpers stay
-- and are taken out; and each obstacle but that of a network that is too large.
use Rattle.std.specs.Prelude.{◌≡◌, ℕ, Bool, true, false, ◌||◌, not, if◌then◌else◌, List, [], ◌∷◌}
use Rattle.std.specs.Prelude.{◌++◌, codes, filter, map, None, Some, refl}
use Rattle.clr_net.specs.declared.point.PointRow.{PointRow}
use Rattle.clr_net.specs.declared.point.Position.TheVariants.{Opened, Closed as Shut}
use Rattle.clr_net.specs.declared.section.SectionRow.{SectionRow}
use Rattle.clr_staff.specs.declared.employee.Role.{Role}
use Rattle.clr_staff.specs.declared.employee.Role.TheVariants.{Operator, Charge, Field}
use Rattle.clr_staff.specs.declared.employee.StaffRow.{StaffRow}
use Rattle.clr_rules.specs.Answer.{Answer, answer}
use Rattle.clr_rules.specs.Fences.{clearance_fence}
use Rattle.clr_rules.specs.Prelude.{Grid, Register, position_of, same_name}
use Rattle.clr_rules.specs.declared.command.Kind.TheVariants.{Instruct, Request, Switch, Transfer}
use Rattle.clr_rules.specs.declared.phase.Phase.TheVariants.{Requested}
use Rattle.clr_rules.specs.declared.reply.Reply.TheVariants.{Accepted}
use Rattle.clr_update.specs.Changes.{are_none, changes}
use Rattle.clr_update.specs.Entries.{Entry}
use Rattle.clr_update.specs.Update.{Update, after_update, in_the_way, filed, first_needed}
use Rattle.clr_update.specs.Update.{obstacles}
use Rattle.clr_update.specs.declared.obstacle.Obstacle.{Obstacle}
use Rattle.clr_examples.specs.Jumpers.{J1, J2, X1, j2_laid, laid}
use Rattle.clr_examples.specs.Worked.{BOSS, DALE, G, H, JONES, KIM, L1, L2, L3, OPS, REED, S1, S2}
use Rattle.clr_examples.specs.Worked.{S3, Saying, c1_is_on, does, jones_1, l2_asked, l2_ordered}
use Rattle.clr_examples.specs.Worked.{ops_1, point_row, register_after, s1_row, s2_opened, s2_row}
use Rattle.clr_examples.specs.Worked.{s3_row, s4_row, said_at, says, step_is_repeated, t1_row}
use Rattle.clr_examples.specs.Worked.{worked_net, worked_staff, the_rules}
use Rattle.clr_rules.specs.Edits.{fit}
use Rattle.clr_order.specs.declared.action.Action.TheVariants as actions
use Rattle.clr_update.specs.declared.obstacle.Obstacle.TheVariants as in_way

abbrev pub ANN : List ℕ
ANN = codes "ANN"

abbrev pub S9 : List ℕ
S9 = codes "S9"

abbrev pub X9 : List ℕ
X9 = codes "X9"

abbrev pub section_row : List ℕ → Bool → SectionRow
section_row name source = record { name = name; source = source }

-- the files as they were
abbrev pub as_it_is : Update
as_it_is = record { net = worked_net; staff = worked_staff; without = [] }

-- what the rules and updates define by recursion
unfoldable pub update_rules : ℕ
unfolding the_rules fit filed first_needed obstacles
update_rules = 0

-- ---- a crew is at work on L2

-- a line X9 is built beside it, behind S9; ANN comes, and KIM is JONES's supervisor from now on
abbrev pub jones_under : List ℕ → StaffRow
jones_under name = record { name = JONES; role = Charge; supervisor = Some name }

abbrev pub ann : StaffRow
ann = record { name = ANN; role = Charge; supervisor = None }

abbrev pub s9_row : PointRow
s9_row = point_row S9 L3 X9 true false Shut

abbrev pub is_built : Update
is_built = record {
  net = record {
    sections =
        section_row G true ∷ section_row H true ∷ section_row L1 false ∷ section_row L2 false
        ∷ section_row L3 false ∷ section_row X9 false ∷ [];
    points =
        s1_row Shut ∷ s2_row Shut ∷ s3_row Shut ∷ s4_row Shut ∷ s9_row ∷ t1_row Opened ∷ [];
  };
  staff =
      ann
      ∷ record { name = BOSS; role = Charge; supervisor = None }
      ∷ record { name = DALE; role = Field; supervisor = None }
      ∷ jones_under KIM
      ∷ record { name = KIM; role = Charge; supervisor = None }
      ∷ record { name = OPS; role = Operator; supervisor = None }
      ∷ record { name = REED; role = Field; supervisor = None }
      ∷ [];
  without = [];
}

abbrev pub at_work : Register
at_work = register_after c1_is_on

-- a line is built beside a crew at work, and the supervisor of its holder is another
pub beside_a_crew :
    (in_the_way at_work is_built ≡ None)
    × (changes at_work (after_update at_work is_built) ≡ record {
      sections_go = [];
      sections_come = section_row X9 false ∷ [];
      points_go = [];
      points_come = s9_row ∷ [];
      staff_goes = jones_under BOSS ∷ [];
      staff_comes = ann ∷ jones_under KIM ∷ [];
    })
    -- the fence stays, and S2 stays open, whatever the files say; S9 is closed, as they say
    × (clearance_fence (after_update at_work is_built) jones_1 ≡ L2 ∷ [])
    × (position_of (Register.states (after_update at_work is_built)) S2 ≡ Some Opened)
    × (position_of (Register.states (after_update at_work is_built)) S9 ≡ Some Shut)
    -- ANN has a clearance on the new line the same minute
    × (Answer.reply (answer (after_update at_work is_built) (said_at 200 (says ANN (Request X9))))
    ≡ Accepted (record {
      clearance = record { requester = ANN; number = 1 };
      phase = Requested;
      holder = ANN;
      round = 0;
      done = 0;
      steps = 0;
    }))
unfolding update_rules
beside_a_crew = (refl, refl, refl, refl, refl, refl)

-- the line alone, which is built while L2 is ordered; and in the same register it is not. Both show
-- JONES/1 the same: its first step is given out
abbrev pub line_alone : Update
line_alone = record is_built { staff = worked_staff }

abbrev pub l2_in_order : Register
l2_in_order = register_after l2_ordered

abbrev pub first_step : Entry
first_step = Entry.command (said_at 102 (says OPS (Instruct jones_1 1)))

-- ---- jumpers: J1 is inside the fence of JONES/1, and J2 leads to X1, which no file has

abbrev pub with_jumpers : Register
with_jumpers = register_after j2_laid

abbrev pub without : List ℕ → Update
without name = record as_it_is { without = name ∷ [] }

-- the files with J2, between L1 and a section
abbrev pub with_j2 : List ℕ → Update
with_j2 to = record as_it_is {
  net = record {
    sections =
        section_row G true ∷ section_row H true ∷ section_row L1 false ∷ section_row L2 false
        ∷ section_row L3 false ∷ section_row X1 false ∷ [];
    points =
        point_row J2 L1 to true false Shut ∷ s1_row Shut ∷ s2_row Shut ∷ s3_row Shut
        ∷ s4_row Shut ∷ t1_row Opened ∷ [];
  };
}

-- jumpers that stay, that are taken out, and that become points of the files
pub jumpers :
    (are_none (changes with_jumpers (after_update with_jumpers as_it_is)) ≡ true)
    × (changes with_jumpers (after_update with_jumpers (without J2)) ≡ record {
      sections_go = section_row X1 false ∷ [];
      sections_come = [];
      points_go = laid J2 L1 X1 ∷ [];
      points_come = [];
      staff_goes = [];
      staff_comes = [];
    })
    -- J2 becomes a point of the files, and stays open
    × (in_the_way with_jumpers (with_j2 X1) ≡ None)
    × (position_of (Register.states (after_update with_jumpers (with_j2 X1))) J2
    ≡ Some Opened)
unfolding update_rules
jumpers = (refl, refl, refl, refl)

abbrev pub is_in_way : List Saying → Update → Obstacle → Type 0
is_in_way said u obstacle = in_the_way (register_after said) u ≡ Some obstacle

-- the staff without those of these names, and with another role of one
abbrev pub leaves : (List ℕ → Bool) → Update
leaves gone = record as_it_is { staff = filter (λ row. not (gone row.name)) worked_staff }

abbrev pub in_role : List ℕ → Role → StaffRow → StaffRow
in_role name role row = if same_name name row.name then record row { role = role } else row

abbrev pub becomes : List ℕ → Role → Update
becomes name role = record as_it_is { staff = map (in_role name role) worked_staff }

-- a network whose L2 is a source; one in which S2 cannot be locked; one without S1; and one
-- without L2
abbrev pub fed : SectionRow → SectionRow
fed row = if same_name L2 row.name then record row { source = true } else row

abbrev pub l2_is_fed : Update
l2_is_fed = record as_it_is {
  net = record worked_net { sections = map fed (Grid.sections worked_net) };
}

abbrev pub unlocked : PointRow → PointRow
unlocked p = if same_name S2 p.name then record p { lockable = false } else p

abbrev pub s2_is_unlocked : Update
s2_is_unlocked = record as_it_is {
  net = record worked_net { points = map unlocked (Grid.points worked_net) };
}

abbrev pub s1_is_gone : Update
s1_is_gone = record as_it_is {
  net = record worked_net {
    points = filter (λ p. not (same_name S1 p.name)) (Grid.points worked_net);
  };
}

abbrev pub l2_is_gone : Update
l2_is_gone = record as_it_is {
  net = record {
    sections = filter (λ row. not (same_name L2 row.name)) (Grid.sections worked_net);
    points =
        filter (λ p. not (same_name S2 p.name || same_name S3 p.name)) (Grid.points worked_net);
  };
}

-- each obstacle
pub each_obstacle :
    is_in_way j2_laid (without S1) (in_way.NoJumper S1)
    × is_in_way j2_laid (with_j2 L3) (in_way.JumperName J2)
    × is_in_way l2_ordered l2_is_fed (in_way.Section L2 jones_1)
    × is_in_way l2_ordered s2_is_unlocked (in_way.Point S2 jones_1)
    × is_in_way j2_laid (without J1) (in_way.Point J1 jones_1)
    × is_in_way (says OPS (Switch (does actions.Open S1 ∷ [])) ∷ []) s1_is_gone
    (in_way.Step S1 ops_1)
    × is_in_way l2_asked l2_is_gone (in_way.Work L2 jones_1)
    × is_in_way l2_asked (leaves (same_name JONES)) (in_way.Holder JONES jones_1)
    × is_in_way (l2_ordered ++ step_is_repeated jones_1 1 (codes "OPEN S2"))
    (becomes REED Charge)
    (in_way.Reader REED jones_1)
    -- KIM holds it, and JONES asked for it
    × is_in_way (l2_asked ++ says JONES (Transfer jones_1 KIM false) ∷ [])
    (becomes JONES Operator)
    (in_way.Requester JONES jones_1)
    × is_in_way l2_ordered (leaves (same_name OPS)) in_way.NoOperator
    × is_in_way s2_opened (leaves (λ name. same_name REED name || same_name DALE name))
    in_way.NoField
unfolding update_rules
each_obstacle = (refl, refl, refl, refl, refl, refl, refl, refl, refl, refl, refl, refl)
