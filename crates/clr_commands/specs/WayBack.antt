-- What `wayback` prints of a register: the commands that give a clearance back, each on a line that
-- `run` takes.
use Rattle.std.specs.Prelude.{◌≡◌, ◌⊎◌, ℕ, List, Option, None, Some, Result, Ok, Err, String}
use Rattle.std.specs.declared.alloc.Global.{Global}
use Rattle.sqlite.specs.Held.{Held}
use Rattle.sqlite_trees.specs.declared.store.Store.{Ghosts}
use Rattle.clr_rules.specs.Id.{Id}
use Rattle.clr_rules.specs.IdText.{read_id}
use Rattle.clr_rules.specs.Register.{Register}
use Rattle.clr_wayback.specs.Answer.{GivesBack, way_back_answer}
use Rattle.clr_wayback.specs.Text.{way_back_text}
use Rattle.clr_wayback.specs.declared.answer.WayBack.{WayBack}
use Rattle.clr_wayback.specs.declared.answer.WayBack.TheVariants as way
use Rattle.clr_args.specs.declared.asked.WayBackArgs.{WayBackArgs}
use Rattle.clr_edge.specs.Visit.{Closed}
use Rattle.clr_edge.specs.declared.fault.Fault.{Fault}
use Rattle.clr_edge.specs.declared.fault.Fault.TheVariants.{Memory, NoSuch, NoWay}
use Rattle.clr_commands.specs.Stored.{AnswersOf, WhileOpen}

-- an answer, as it is printed
abbrev pub way_back_told : WayBack → Result (List ℕ) Fault
way_back_told (way.Commands commands) = Ok (way_back_text commands)
way_back_told way.NoSuch = Err NoSuch
way_back_told way.NoWay = Err NoWay

-- the way back of the clearance that a word names, if it names one
abbrev pub way_back_to : Register → Option Id → Result (List ℕ) Fault
way_back_to R None = Err NoSuch
way_back_to R (Some c) = way_back_told (way_back_answer R c)

-- the same of what `wayback` was asked for
abbrev pub way_back_asked_for : Register → WayBackArgs → Result (List ℕ) Fault
way_back_asked_for R args = way_back_to R (read_id args.clearance.now)

-- why there is no way back: memory ran out, there is no such clearance, or a command of it would be
-- refused
abbrev pub IsOfWayBack : Fault → Type 0
IsOfWayBack fault = (fault ≡ Memory) ⊎ ((fault ≡ NoSuch) ⊎ (fault ≡ NoWay))

-- THE CLEARANCE IS GIVEN BACK by what is answered: the commands close its record alone. There is no
-- way only where a step of it is given out, and the staff has no field employee
abbrev pub GivesBackTo : Register → Option Id → Type 0
GivesBackTo R None = Unit {0}
GivesBackTo R (Some c) = GivesBack R c (way_back_answer R c)

-- what is answered of a register that was opened
abbrev pub IsWayBackOf : WayBackArgs → Register → Result (List ℕ) Fault → Type 0
IsWayBackOf args R known = (way_back_asked_for R args ≡ known)
    × GivesBackTo R (read_id args.clearance.now)

-- what `wayback` does over a database that is opened for it
abbrev pub PrintsWayBack : {M S : Type 0} → Ghosts S → WayBackArgs → Result (String Global) Fault
    → M → Held S → Held S → Closed → M → Type 0
PrintsWayBack g args = WhileOpen (AnswersOf g IsOfWayBack (IsWayBackOf args))
