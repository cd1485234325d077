-- HOW A COMMAND IS WRITTEN: as one JSON object without blanks, its keys in the order of their
-- bytes. It is a function of the command alone.
use Rattle.std.specs.Prelude.{ℕ, nat_le, Bool, true, ◌&&◌, ◌||◌, ◌==◌, if◌then◌else◌, List, [], ◌∷◌}
use Rattle.std.specs.Prelude.{◌++◌}
use Rattle.std.specs.List.{list_all}
use Rattle.std.specs.Str.{is_utf8}
use Rattle.serde_json.specs.Data.{Data, Members, boolean, no_members, object, put, string}
use Rattle.serde_json.specs.Written.{compact_text}
use Rattle.clr_net.specs.Name.{is_name}
use Rattle.clr_order.specs.Texts.{step_text}
use Rattle.clr_rules.specs.Id.{is_id}
use Rattle.clr_rules.specs.Moment.{is_moment}
use Rattle.clr_rules.specs.Prelude.{Step as StepRow, Task}
use Rattle.clr_text.specs.Json.{id_data, list_data, name_data, whole_data}
use Rattle.clr_text.specs.Keys.{Sort, ValueAt, ValueOf, clearance, flag, key_text, moment, name}
use Rattle.clr_text.specs.Keys.{names, number, sort_of, tasks, text}
use Rattle.clr_text.specs.Kinds.{Values, own_keys, said_by, states_moment, word_of, word_text}
use Rattle.clr_text.specs.declared.key.Key.{Key}
use Rattle.clr_text.specs.declared.key.Key.TheVariants.{At, By, Do}
use Rattle.clr_text.specs.declared.kinds.Word.{Word}
use Rattle.clr_rules.specs.declared.command.Command.{Command}
use Rattle.clr_rules.specs.declared.command.Kind.{Kind}
use Rattle.clr_rules.specs.declared.command.Kind.TheVariants as kind

abbrev pub task_data : Task → Data
task_data t = string (step_text t)

-- HOW EACH SORT of value is written
abbrev pub written : (sort : Sort) → ValueOf sort → Data
written moment = whole_data
written name = name_data
written clearance = id_data
written number = whole_data
written flag = boolean
written text = string
written names = list_data name_data
written tasks = list_data task_data

-- what is said at a key
abbrev pub Said : Type 0
Said = (key : Key) × ValueAt key

abbrev pub said_data : Said → Data
said_data said = written (sort_of said.0) said.1

-- what is said at these keys
abbrev pub said_at_each : (keys : List Key) → Values keys → List Said
said_at_each [] values = []
said_at_each (key ∷ keys) values = (key, values.0) ∷ said_at_each keys values.1

-- what a command says at its own keys
abbrev pub said_of : Kind → List Said
said_of k = said_at_each (own_keys (word_of k)) (said_by k).1

-- the same, taken kind by kind
abbrev pub own_said : Kind → List Said
own_said (kind.Request section) = said_of (kind.Request section)
own_said k = said_of k

-- when it is given, where the command states it
abbrev pub moment_said : Word → ℕ → List Said
moment_said w seconds = if states_moment w then (At, seconds) ∷ [] else []

-- all that a command says
abbrev pub all_said : Command → List Said
all_said q =
    let w = word_of q.kind in
    moment_said w q.moment ++ ((By, q.caller) ∷ (Do, word_text w) ∷ own_said q.kind)

-- with these members beside others, each at its place in the order of the keys' bytes
abbrev pub with_said : List Said → Members → Members
with_said [] others = others
with_said (said ∷ rest) others = with_said rest (put (key_text said.0) (said_data said) others)

abbrev pub command_data : Command → Data
command_data q = object (with_said (all_said q) no_members)

abbrev pub command_text : Command → List ℕ
command_text q = compact_text (command_data q)

-- ---- which commands a text can state

-- the point of a step has a name
abbrev pub has_named_point : StepRow → Bool
has_named_point s = is_name s.point

-- WHICH VALUES of each sort a key takes
abbrev pub fits_sort : (sort : Sort) → ValueOf sort → Bool
fits_sort moment = is_moment
fits_sort name = is_name
fits_sort clearance = is_id
fits_sort number = λ n. nat_le n 65535
fits_sort flag = λ b. true
fits_sort text = is_utf8
fits_sort names = λ list. list_all is_name list
fits_sort tasks = λ list. list_all (λ t. is_name t.point) list

-- it is one that its key takes
abbrev pub is_taken : Said → Bool
is_taken said = fits_sort (sort_of said.0) said.1

-- each of these is one that its key takes
abbrev pub all_taken : List Said → Bool
all_taken list = list_all is_taken list

-- a command that states no moment has 0
abbrev pub has_its_moment : Command → Bool
has_its_moment q = states_moment (word_of q.kind) || (q.moment == 0)

-- A COMMAND CAN BE SENT: each key takes what is said at it, and one that states no moment has 0
abbrev pub can_be_sent : Command → Bool
can_be_sent q = all_taken (all_said q) && has_its_moment q
