-- What the values of a command's keys have to be, and what they are read as.
use Rattle.std.specs.Prelude.{ℕ, nat_le, List, [], ◌∷◌, map, Result, Option, Some, None}
use Rattle.std.specs.Prelude.{option_map, option_and_then, if◌then◌else◌, ok_or}
use Rattle.std.specs.Result.{result_ok}
use Rattle.serde_json.specs.Data.{Data, Items, no_items, item}
use Rattle.serde_json.specs.Find.{get, as_array, as_bool, as_number, as_str, as_u64}
use Rattle.clr_net.specs.NameText.{read_name}
use Rattle.clr_rules.specs.Prelude.{Id, Step, Task, task}
use Rattle.clr_order.specs.Texts.{read_step_text}
use Rattle.clr_rules.specs.IdText.{read_id}
use Rattle.clr_rules.specs.Moment.{new_moment}
use Rattle.clr_text.specs.Keys.{Sort, ValueAt, ValueOf, clearance, flag, key_text, moment, name}
use Rattle.clr_text.specs.Keys.{names, number, sort_of, tasks, text}
use Rattle.clr_text.specs.declared.fault.TextFault.{TextFault}
use Rattle.clr_text.specs.declared.fault.TextFault.TheVariants.{BadValue}
use Rattle.clr_text.specs.declared.key.Key.{Key}

-- the value at a key of an object
abbrev pub value_at : Key → Data → Option Data
value_at key d = get (key_text key) d

-- what the value at a key is read as; where it does not fit, the key's value is bad
abbrev pub at_key : {A : Type 0} → (Data → Option A) → Key → Data → Result A TextFault
at_key reading key d = ok_or (option_and_then reading (value_at key d)) (BadValue key)

-- a whole number: one that is written without a point and an exponent, and fits 64 bits
abbrev pub whole : Data → Option ℕ
whole d = option_and_then as_u64 (as_number d)

-- a whole number of seconds, up to the end of 2099
abbrev pub moment_in : Data → Option ℕ
moment_in d = option_and_then new_moment (whole d)

-- the text of a name
abbrev pub name_in : Data → Option (List ℕ)
name_in d = option_and_then (λ s. result_ok (read_name s)) (as_str d)

-- the text of a clearance, as `JONES/1`
abbrev pub clearance_in : Data → Option Id
clearance_in d = option_and_then read_id (as_str d)

abbrev pub if_step_number : ℕ → Option ℕ
if_step_number n = if nat_le n 65535 then Some n else None

-- a whole number up to 65535
abbrev pub number_in : Data → Option ℕ
number_in d = option_and_then if_step_number (whole d)

-- what each item of a list is read as, where all of them fit
abbrev pub all_read : {A : Type 0} → (Data → Option A) → Items → Option (List A)
all_read reading no_items = Some []
all_read reading (item d ds) =
    option_and_then (λ x. option_map (λ xs. x ∷ xs) (all_read reading ds)) (reading d)

-- a list of the texts of names
abbrev pub names_in : Data → Option (List (List ℕ))
names_in d = option_and_then (all_read name_in) (as_array d)

-- the text of a step, as `OPEN S2`
abbrev pub step_in : Data → Option Step
step_in d = option_and_then (λ s. result_ok (read_step_text s)) (as_str d)

-- a list of the texts of steps
abbrev pub tasks_in : Data → Option (List Task)
tasks_in d = option_map (map task) (option_and_then (all_read step_in) (as_array d))

-- WHAT EACH SORT of value is read as
abbrev pub read_as : (sort : Sort) → Data → Option (ValueOf sort)
read_as moment = moment_in
read_as name = name_in
read_as clearance = clearance_in
read_as number = number_in
read_as flag = as_bool
read_as text = as_str
read_as names = names_in
read_as tasks = tasks_in

-- the value at a key, by its sort
abbrev pub said_at : (key : Key) → Data → Result (ValueAt key) TextFault
said_at key = at_key (read_as (sort_of key)) key
