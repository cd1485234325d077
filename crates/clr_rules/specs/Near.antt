-- THE NEAR PART: what a command looks at. It is a small register, made of rows of the whole one.
use Rattle.std.specs.Prelude.{ℕ, Bool, false, ◌||◌, ◌==◌, if◌then◌else◌, List, [], filter, Option}
use Rattle.std.specs.Prelude.{None, Some}
use Rattle.clr_rules.specs.Prelude.{Grid, same_name, has_name, task_points, Command, Kind, Record}
use Rattle.clr_rules.specs.Prelude.{Id, Register, record_of, points_of, steps_of, Request, Switch}
use Rattle.clr_rules.specs.Commands.{Known}
use Rattle.clr_rules.specs.Answer.{known_of}
use Rattle.clr_rules.specs.Command.{is_jumper, named_clearance}
use Rattle.clr_rules.specs.Fences.{touching_names}
use Rattle.clr_rules.specs.Holds.{is_near_hold, is_own}
use Rattle.clr_rules.specs.Records.{is_switch_order}

-- what a part takes of a register: the sections whose rows it has, those whose holds it has, the
-- points, and a clearance, if one is meant
pub record Extent : Type 0 where
  pub sections : List ℕ → Bool
  pub holds_at : List ℕ → Bool
  pub points : List ℕ → Bool
  pub clearance : Option Id

-- THE PART OF A REGISTER: the staff; the rows of the sections; the rows, positions and hands of the
-- points; the holds at these points, and at the sections whose holds it has; of the clearance its
-- record, its steps and its crews
abbrev pub part : Register → Extent → Register
part R of = record {
  net = record {
    sections = filter (λ row. of.sections row.name) R.net.sections;
    points = filter (λ p. of.points p.name) R.net.points;
  };
  staff = R.staff;
  states = filter (λ state. of.points state.point) R.states;
  records = filter (λ r. is_own of.clearance r.id) R.records;
  steps = filter (λ row. is_own of.clearance row.id) R.steps;
  holds = filter (is_near_hold of.holds_at of.points of.clearance) R.holds;
}

-- the points of a record that is a switch order
abbrev pub switched_by : Register → Id → Option Record → List (List ℕ)
switched_by R c None = []
switched_by R c (Some r) = if is_switch_order r then points_of (steps_of R.steps c) else []

abbrev pub switched_in : Register → Option Id → List (List ℕ)
switched_in R None = []
switched_in R (Some c) = switched_by R c (record_of R.records c)

-- the points of the switch order that a command makes or names
abbrev pub switched_points : Register → Kind → List (List ℕ)
switched_points R (Switch tasks) = task_points tasks
switched_points R kind = switched_in R (named_clearance kind)

-- whether a request asks for a section
abbrev pub is_asked : Kind → List ℕ → Bool
is_asked (Request section) s = same_name section s
is_asked kind s = false

-- whether a point touches these sections
abbrev pub touches_fence : Grid → (List ℕ → Bool) → List ℕ → Bool
touches_fence g inside p = has_name (touching_names g inside) p

-- the points near a command: those that touch the fence, and those of the switch order
abbrev pub is_beside : Register → Known → Kind → List ℕ → Bool
is_beside R k kind p =
    touches_fence R.net (has_name k.fence) p || has_name (switched_points R kind) p

-- what is near a command: the sections of the fence, with their holds; the section that a request
-- asks for; the points that touch the fence, and those of the switch order; and the clearance that
-- is named
abbrev pub extent_of : Register → Known → Kind → Extent
extent_of R k kind = record {
  sections = λ s. has_name k.fence s || is_asked kind s;
  holds_at = has_name k.fence;
  points = is_beside R k kind;
  clearance = named_clearance kind;
}

-- what is near a command but a jumper
abbrev pub part_beside : Register → Command → Register
part_beside R q = part R (extent_of R (known_of R q) q.kind)

-- what a jumper looks at: the network, the staff, all records, and the steps of all first rounds
abbrev pub network_part : Register → Register
network_part R = record {
  net = R.net;
  staff = R.staff;
  states = [];
  records = R.records;
  steps = filter (λ row. row.round == 1) R.steps;
  holds = [];
}

-- the near part, read as a register
abbrev pub near_part : Register → Command → Register
near_part R q = if is_jumper q.kind then network_part R else part_beside R q

-- THE NEAR PART OF A REGISTER FOR A COMMAND: what is known beside the rows, and the rows
pub record Near : Type 0 where
  pub known : Known
  pub rows : Register

abbrev pub near_of : Register → Command → Near
near_of R q = record { known = known_of R q; rows = near_part R q }
