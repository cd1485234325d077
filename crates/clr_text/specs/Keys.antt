-- The keys of commands: how each is written, and the sort of its value.
use Rattle.std.specs.Prelude.{ℕ, Bool, List, [], ◌∷◌, codes}
use Rattle.clr_rules.specs.Prelude.{Id, Task}
use Rattle.clr_text.specs.declared.key.Key.{Key}
use Rattle.clr_text.specs.declared.key.Key.TheVariants.{At, By, Clear, Clearance, Crew, Dead, Do}
use Rattle.clr_text.specs.declared.key.Key.TheVariants.{Done, Emergency, From, Lockable, Notified}
use Rattle.clr_text.specs.declared.key.Key.TheVariants.{Point, Points, Remote, Section, Step, Steps}
use Rattle.clr_text.specs.declared.key.Key.TheVariants.{Text, To}

abbrev pub key_text : Key → List ℕ
key_text At = codes "at"
key_text By = codes "by"
key_text Clear = codes "clear"
key_text Clearance = codes "clearance"
key_text Crew = codes "crew"
key_text Dead = codes "dead"
key_text Do = codes "do"
key_text Done = codes "done"
key_text Emergency = codes "emergency"
key_text From = codes "from"
key_text Lockable = codes "lockable"
key_text Notified = codes "notified"
key_text Point = codes "point"
key_text Points = codes "points"
key_text Remote = codes "remote"
key_text Section = codes "section"
key_text Step = codes "step"
key_text Steps = codes "steps"
key_text Text = codes "text"
key_text To = codes "to"

-- all keys, in the order of their bytes
unfoldable pub every_key : List Key
every_key =
    At ∷ By ∷ Clear ∷ Clearance ∷ Crew ∷ Dead ∷ Do ∷ Done ∷ Emergency ∷ From ∷ Lockable ∷ Notified
    ∷ Point ∷ Points ∷ Remote ∷ Section ∷ Step ∷ Steps ∷ Text ∷ To ∷ []

-- THE SORTS of values
pub data Sort : Type 0 where
  moment : Sort
  name : Sort
  clearance : Sort
  number : Sort
  flag : Sort
  text : Sort
  names : Sort
  tasks : Sort

-- what a value of a sort is
abbrev pub ValueOf : Sort → Type 0
ValueOf moment = ℕ
ValueOf name = List ℕ
ValueOf clearance = Id
ValueOf number = ℕ
ValueOf flag = Bool
ValueOf text = List ℕ
ValueOf names = List (List ℕ)
ValueOf tasks = List Task

-- the sort of the value at a key, whichever command it is
abbrev pub sort_of : Key → Sort
sort_of At = moment
sort_of By = name
sort_of Clear = flag
sort_of Clearance = clearance
sort_of Crew = name
sort_of Dead = flag
sort_of Do = text
sort_of Done = flag
sort_of Emergency = flag
sort_of From = name
sort_of Lockable = flag
sort_of Notified = flag
sort_of Point = name
sort_of Points = names
sort_of Remote = flag
sort_of Section = name
sort_of Step = number
sort_of Steps = tasks
sort_of Text = text
sort_of To = name

-- a value at a key
abbrev pub ValueAt : Key → Type 0
ValueAt key = ValueOf (sort_of key)
