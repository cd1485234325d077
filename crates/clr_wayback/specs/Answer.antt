-- THE WAY BACK AS IT IS ANSWERED: its commands, where each of them is accepted in its turn.
use Rattle.std.specs.Prelude.{◌≡◌, ℕ, Bool, true, false, ◌&&◌, if◌then◌else◌, List, [], ◌∷◌}
use Rattle.std.specs.Prelude.{Option, None, Some, Vec, option_map, slice_get}
use Rattle.std.specs.declared.alloc.Global.{Global}
use Rattle.std.specs.List.{list_any}
use Rattle.clr_rules.specs.Answer.{Answer, answer}
use Rattle.clr_rules.specs.Checks.{is_field}
use Rattle.clr_rules.specs.Holds.{places_of}
use Rattle.clr_rules.specs.Id.{Id}
use Rattle.clr_rules.specs.Records.{record_of}
use Rattle.clr_rules.specs.Register.{Register}
use Rattle.clr_rules.specs.Run.{after}
use Rattle.clr_rules.specs.Staffed.{has_some_role}
use Rattle.clr_rules.specs.Steps.{some_active, steps_of}
use Rattle.clr_rules.specs.WayBack.{way_back}
use Rattle.clr_rules.specs.declared.command.Command.{Command}
use Rattle.clr_rules.specs.declared.hold.Hold.{Hold}
use Rattle.clr_rules.specs.declared.hold_kind.HoldKind.{HoldKind}
use Rattle.clr_rules.specs.declared.record.Record.{Record}
use Rattle.clr_rules.specs.laws.WayBack.{ClosesAlone, is_accepted}
use Rattle.clr_wayback.specs.declared.answer.WayBack.{WayBack}
use Rattle.clr_wayback.specs.declared.answer.WayBack.TheVariants.{Commands, NoSuch, NoWay}

-- an employee who is not found has the empty name
abbrev pub is_nobody : List ℕ → Bool
is_nobody [] = true
is_nobody (b ∷ name) = false

abbrev pub or_nobody : Option (List ℕ) → List ℕ
or_nobody None = []
or_nobody (Some name) = name

abbrev pub is_by_nobody : Command → Bool
is_by_nobody q = is_nobody q.caller

-- the first place where a clearance has a hold of a kind
abbrev pub first_place : List Hold → Id → HoldKind → Option (List ℕ)
first_place holds c kind = slice_get (places_of holds c kind) 0

-- commands that can be given: each is somebody's
abbrev pub given : List Command → Option (List Command)
given commands = if list_any is_by_nobody commands then None else Some commands

abbrev pub items_of : Option (Vec Command Global) → Option (List Command)
items_of commands = option_map (λ vec. vec.items) commands

-- EACH IS ACCEPTED IN ITS TURN, by the register that the earlier ones left
unfoldable pub are_accepted : Register → List Command → Bool
are_accepted R [] = true
are_accepted R (q ∷ commands) =
    is_accepted (Answer.reply (answer R q)) && are_accepted (after R q) commands

-- commands that were tried: none, where one of them is refused
abbrev pub tried : Register → List Command → Option (List Command)
tried R commands = if are_accepted R commands then Some commands else None

abbrev pub commands_or_no_way : Option (List Command) → WayBack
commands_or_no_way None = NoWay
commands_or_no_way (Some commands) = Commands commands

abbrev pub of_record : Register → Id → Option Record → WayBack
of_record R c None = NoSuch
of_record R c (Some r) = commands_or_no_way (tried R (way_back R c))

-- THE ANSWER
abbrev pub way_back_answer : Register → Id → WayBack
way_back_answer R c = of_record R c (record_of R.records c)

-- WHAT AN ANSWER SAYS of any good register: there is no such record; or one of the commands would
-- be refused; or these are the commands, and each is accepted in its turn
abbrev pub IsTried : Register → Id → WayBack → Type 0
IsTried R c NoSuch = record_of R.records c ≡ None
IsTried R c NoWay = are_accepted R (way_back R c) ≡ false
IsTried R c (Commands commands) = (commands ≡ way_back R c) × (are_accepted R commands ≡ true)

-- WHAT IT COMES TO in a register that is staffed too: there is no such record; or a step of it is
-- given out, and the staff has no field employee; or the commands close it alone
abbrev pub GivesBack : Register → Id → WayBack → Type 0
GivesBack R c NoSuch = record_of R.records c ≡ None
GivesBack R c NoWay = (some_active (steps_of R.steps c) ≡ true)
    × (has_some_role R.staff is_field ≡ false)
GivesBack R c (Commands commands) = ClosesAlone R c commands
