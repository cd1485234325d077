-- WHAT A COMMAND LOOKS AT THAT NEEDS NO FENCE: the record of the clearance that it names, its steps,
-- and of the holds and hands only what is at few places. How many sections the clearance's fence has
-- does not matter to it.
use Rattle.std.specs.Prelude.{ℕ, Bool, true, false, ◌||◌, ◌==◌, nat_lt, List, [], ◌∷◌, filter, length}
use Rattle.std.specs.Prelude.{Option, None, Some, if◌then◌else◌}
use Rattle.clr_net.specs.Names.{has_name}
use Rattle.clr_rules.specs.Answer.{Answer, answer_with}
use Rattle.clr_rules.specs.GoodByPhase.{of_round}
use Rattle.clr_rules.specs.Holds.{has_hold, is_near_hold}
use Rattle.clr_rules.specs.Id.{Id, same_id}
use Rattle.clr_rules.specs.Near.{Near, near_of}
use Rattle.clr_rules.specs.Records.{is_granted, record_of}
use Rattle.clr_rules.specs.Register.{Register}
use Rattle.clr_rules.specs.Steps.{points_of, steps_of}
use Rattle.clr_rules.specs.declared.command.Command.{Command}
use Rattle.clr_rules.specs.declared.command.Kind.{Kind}
use Rattle.clr_rules.specs.declared.hold_kind.HoldKind.TheVariants.{Ground as Grounded, Tested}
use Rattle.clr_rules.specs.declared.command.Kind.TheVariants.{Instruct, Repeat, Report, Grant}
use Rattle.clr_rules.specs.declared.command.Kind.TheVariants.{SignOn, SignOff, Transfer, Restore}
use Rattle.clr_rules.specs.declared.command.Kind.TheVariants.{Amend, Ground, Release, Test}
use Rattle.clr_rules.specs.declared.command.Kind.TheVariants.{Unground}
use Rattle.clr_rules.specs.declared.hold.Hold.{Hold}
use Rattle.clr_rules.specs.declared.record.Record.{Record}
use Rattle.clr_rules.specs.declared.step_row.StepRow.{StepRow}

abbrev pub own_where : Bool → Id → Option Id
own_where true c = Some c
own_where false c = None

-- the clearance of a command that never needs a fence
abbrev pub always_own : Kind → Option Id
always_own (Instruct c n) = Some c
always_own (Repeat c n text) = Some c
always_own (Report c n done) = Some c
always_own (Grant c) = Some c
always_own (SignOn c crew) = Some c
always_own (SignOff c crew) = Some c
always_own (Transfer c to emergency) = Some c
always_own (Restore c tasks) = Some c
always_own (Amend c n) = Some c
always_own kind = None

abbrev pub work_in : Option (List ℕ) → List (List ℕ)
work_in None = []
work_in (Some work) = work ∷ []

abbrev pub work_of : Option Record → List (List ℕ)
work_of None = []
work_of (Some r) = work_in r.work

-- the work section of a granted clearance, which is in its fence
abbrev pub granted_work : Option Record → List (List ℕ)
granted_work None = []
granted_work (Some r) = if is_granted r.phase then work_in r.work else []

-- whether a section is known to be in the fence: it is the work section, or the clearance has tested it
abbrev pub is_known_inside : Register → Id → List ℕ → Bool
is_known_inside R c section =
    has_name (granted_work (record_of R.records c)) section || has_hold R.holds c Tested section

-- so few holds that to look at each costs less than to search a fence
abbrev pub are_few : List Hold → Bool
are_few holds = nat_lt (length holds) 1000

-- the clearance of a command that needs no fence. A section that the clearance has tested or grounded
-- is in its fence
abbrev pub own_of : Register → Kind → Option Id
own_of R (Test c section dead) = own_where (is_known_inside R c section) c
own_of R (Ground c section) = own_where (has_hold R.holds c Tested section) c
own_of R (Unground c section) = own_where (has_hold R.holds c Grounded section) c
own_of R (Release c notified clear) = own_where (are_few R.holds) c
own_of R kind = always_own kind

-- the points at which it looks, by the steps of the clearance: those of the steps that have the number
-- of the step that it gives out, and those of the first round where it restores
abbrev pub points_among : List StepRow → Kind → List (List ℕ)
points_among steps (Instruct c n) = points_of (filter (λ row. row.ordinal == n) steps)
points_among steps (Restore c tasks) = points_of (of_round steps 1)
points_among steps kind = []

-- the sections at which it looks, by the record: the one that it grounds, and the work section of a
-- clearance to which a crew signs on
abbrev pub sections_among : Option Record → Kind → List (List ℕ)
sections_among found (SignOn c crew) = work_of found
sections_among found (Ground c section) = section ∷ []
sections_among found (Unground c section) = section ∷ []
sections_among found kind = []

abbrev pub points_at : Register → Id → Kind → List (List ℕ)
points_at R c kind = points_among (steps_of R.steps c) kind

abbrev pub sections_at : Register → Id → Kind → List (List ℕ)
sections_at R c kind = sections_among (record_of R.records c) kind

-- the clearance whose crews it looks at
abbrev pub crews_at : Kind → Option Id
crews_at (SignOn c crew) = Some c
crews_at (SignOff c crew) = Some c
crews_at (Unground c section) = Some c
crews_at kind = None

-- the sections of the fence that it has to know of
abbrev pub fence_at : Kind → List (List ℕ)
fence_at (Test c section dead) = section ∷ []
fence_at (Ground c section) = section ∷ []
fence_at (Unground c section) = section ∷ []
fence_at kind = []

-- the holds at which it looks, by the sections and the points: those there, and the crews. A release
-- looks at all holds of the clearance
abbrev pub looks_by : (List ℕ → Bool) → (List ℕ → Bool) → Id → Kind → Hold → Bool
looks_by inside beside c (Release d notified clear) h = same_id c h.id
looks_by inside beside c kind h = is_near_hold inside beside (crews_at kind) h

abbrev pub looks_at : Register → Id → Kind → Hold → Bool
looks_at R c kind =
    looks_by (has_name (sections_at R c kind)) (has_name (points_at R c kind)) c kind

-- WHAT IT LOOKS AT, read as a register
abbrev pub own_rows : Register → Id → Kind → Register
own_rows R c kind = record {
  net = record { sections = []; points = [] };
  staff = R.staff;
  states = filter (λ state. has_name (points_at R c kind) state.point) R.states;
  records = filter (λ r. same_id c r.id) R.records;
  steps = filter (λ row. same_id c row.id) R.steps;
  holds = filter (looks_at R c kind) R.holds;
}

abbrev pub own_near : Register → Id → Kind → Near
own_near R c kind = record {
  known = record { greatest = 0; fence = fence_at kind; crossed = None };
  rows = own_rows R c kind;
}

abbrev pub near_by : Option Id → Register → Command → Near
near_by (Some c) R q = own_near R c q.kind
near_by None R q = near_of R q

-- what any command looks at: its own rows where they are enough, and otherwise what is near it
abbrev pub asked_near : Register → Command → Near
asked_near R q = near_by (own_of R q.kind) R q

-- the answer from that
abbrev pub asked_answer : Register → Command → Answer
asked_answer R q = answer_with (Near.known (asked_near R q)) (Near.rows (asked_near R q)) q
