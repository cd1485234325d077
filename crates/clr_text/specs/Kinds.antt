-- THE COMMANDS: the word and the keys of each, and what it says at them.
use Rattle.std.specs.Prelude.{ℕ, Bool, true, false, List, [], ◌∷◌, codes, filter, find, Option}
use Rattle.std.specs.Prelude.{Result, Ok, bytes_eq}
use Rattle.clr_rules.specs.Prelude.{list_any}
use Rattle.serde_json.specs.Data.{Data}
use Rattle.clr_net.specs.Results.{◌>>=◌}
use Rattle.clr_text.specs.Keys.{ValueAt, every_key, key_text}
use Rattle.clr_text.specs.Values.{said_at}
use Rattle.clr_text.specs.declared.fault.TextFault.{TextFault}
use Rattle.clr_text.specs.declared.key.Key.{Key}
use Rattle.clr_text.specs.declared.key.Key.TheVariants.{At, By, Clear, Clearance, Crew, Dead, Do}
use Rattle.clr_text.specs.declared.key.Key.TheVariants.{Done, Emergency, From, Lockable, Notified}
use Rattle.clr_text.specs.declared.key.Key.TheVariants.{Point, Points, Remote, Section, Step, Steps}
use Rattle.clr_text.specs.declared.key.Key.TheVariants.{Text, To}
use Rattle.clr_text.specs.declared.kinds.Word.{Word}
use Rattle.clr_rules.specs.declared.command.Kind.TheVariants as kind
use Rattle.clr_text.specs.declared.kinds.Word.TheVariants as word
use Rattle.clr_rules.specs.declared.command.Kind.{Kind}

abbrev pub all_words : List Word
all_words =
    word.Request ∷ word.Order ∷ word.Instruct ∷ word.Repeat ∷ word.Report ∷ word.Grant ∷ word.Test
    ∷ word.Ground ∷ word.Unground
    ∷ word.SignOn ∷ word.SignOff ∷ word.Transfer ∷ word.Release ∷ word.Cancel ∷ word.Restore
    ∷ word.Amend ∷ word.Switch ∷ word.Show ∷ word.Jumper ∷ []

-- THE SCHEMA: each word as it is written, and the command's own keys in the order of their bytes
abbrev pub form : Word → List ℕ × List Key
form word.Request = (codes "request", Section ∷ [])
form word.Order = (codes "order", Clearance ∷ Points ∷ Steps ∷ [])
form word.Instruct = (codes "instruct", Clearance ∷ Step ∷ [])
form word.Repeat = (codes "repeat", Clearance ∷ Step ∷ Text ∷ [])
form word.Report = (codes "report", Clearance ∷ Done ∷ Step ∷ [])
form word.Grant = (codes "grant", Clearance ∷ [])
form word.Test = (codes "test", Clearance ∷ Dead ∷ Section ∷ [])
form word.Ground = (codes "ground", Clearance ∷ Section ∷ [])
form word.Unground = (codes "unground", Clearance ∷ Section ∷ [])
form word.SignOn = (codes "sign_on", Clearance ∷ Crew ∷ [])
form word.SignOff = (codes "sign_off", Clearance ∷ Crew ∷ [])
form word.Transfer = (codes "transfer", Clearance ∷ Emergency ∷ To ∷ [])
form word.Release = (codes "release", Clear ∷ Clearance ∷ Notified ∷ [])
form word.Cancel = (codes "cancel", Clearance ∷ [])
form word.Restore = (codes "restore", Clearance ∷ Steps ∷ [])
form word.Amend = (codes "amend", Clearance ∷ Step ∷ [])
form word.Switch = (codes "switch", Steps ∷ [])
form word.Show = (codes "show", Clearance ∷ [])
form word.Jumper = (codes "jumper", From ∷ Lockable ∷ Point ∷ Remote ∷ To ∷ [])

abbrev pub word_text : Word → List ℕ
word_text w = (form w).0

abbrev pub own_keys : Word → List Key
own_keys w = (form w).1

-- values at these keys
abbrev pub Values : List Key → Type 0
Values [] = Unit {0}
Values (key ∷ keys) = ValueAt key × Values keys

-- WHAT EACH COMMAND SAYS: its word, and the values at its own keys
abbrev pub said_by : Kind → (w : Word) × Values (own_keys w)
said_by (kind.Request section) = (word.Request, (section, tt))
said_by (kind.Order c points steps) = (word.Order, (c, (points, (steps, tt))))
said_by (kind.Instruct c step) = (word.Instruct, (c, (step, tt)))
said_by (kind.Repeat c step text) = (word.Repeat, (c, (step, (text, tt))))
said_by (kind.Report c step done) = (word.Report, (c, (done, (step, tt))))
said_by (kind.Grant c) = (word.Grant, (c, tt))
said_by (kind.Test c section dead) = (word.Test, (c, (dead, (section, tt))))
said_by (kind.Ground c section) = (word.Ground, (c, (section, tt)))
said_by (kind.Unground c section) = (word.Unground, (c, (section, tt)))
said_by (kind.SignOn c crew) = (word.SignOn, (c, (crew, tt)))
said_by (kind.SignOff c crew) = (word.SignOff, (c, (crew, tt)))
said_by (kind.Transfer c to emergency) = (word.Transfer, (c, (emergency, (to, tt))))
said_by (kind.Release c notified clear) = (word.Release, (clear, (c, (notified, tt))))
said_by (kind.Cancel c) = (word.Cancel, (c, tt))
said_by (kind.Restore c steps) = (word.Restore, (c, (steps, tt)))
said_by (kind.Amend c step) = (word.Amend, (c, (step, tt)))
said_by (kind.Switch steps) = (word.Switch, (steps, tt))
said_by (kind.Show c) = (word.Show, (c, tt))
said_by (kind.Jumper point from to lockable remote) =
    (word.Jumper, (from, (lockable, (point, (remote, (to, tt))))))

-- THE COMMAND that says these values
abbrev pub kind_of : (w : Word) → Values (own_keys w) → Kind
kind_of word.Request (section, _) = kind.Request section
kind_of word.Order (c, (points, (steps, _))) = kind.Order c points steps
kind_of word.Instruct (c, (step, _)) = kind.Instruct c step
kind_of word.Repeat (c, (step, (text, _))) = kind.Repeat c step text
kind_of word.Report (c, (done, (step, _))) = kind.Report c step done
kind_of word.Grant (c, _) = kind.Grant c
kind_of word.Test (c, (dead, (section, _))) = kind.Test c section dead
kind_of word.Ground (c, (section, _)) = kind.Ground c section
kind_of word.Unground (c, (section, _)) = kind.Unground c section
kind_of word.SignOn (c, (crew, _)) = kind.SignOn c crew
kind_of word.SignOff (c, (crew, _)) = kind.SignOff c crew
kind_of word.Transfer (c, (emergency, (to, _))) = kind.Transfer c to emergency
kind_of word.Release (clear, (c, (notified, _))) = kind.Release c notified clear
kind_of word.Cancel (c, _) = kind.Cancel c
kind_of word.Restore (c, (steps, _)) = kind.Restore c steps
kind_of word.Amend (c, (step, _)) = kind.Amend c step
kind_of word.Switch (steps, _) = kind.Switch steps
kind_of word.Show (c, _) = kind.Show c
kind_of word.Jumper (from, (lockable, (point, (remote, (to, _))))) =
    kind.Jumper point from to lockable remote

abbrev pub word_of : Kind → Word
word_of k = (said_by k).0

-- a command states its moment
abbrev pub states_moment : Word → Bool
states_moment word.Show = false
states_moment word.Jumper = false
states_moment _ = true

-- a command has a key: `by` and `do` each has, `at` where it states its moment, and its own
abbrev pub has_key : Word → Key → Bool
has_key w At = states_moment w
has_key w By = true
has_key w Do = true
has_key w key = list_any (λ own. bytes_eq (key_text own) (key_text key)) (own_keys w)

-- the keys of a command, in the order of their bytes: no other may come, and none may be missing
unfoldable pub keys_of : Word → List Key
keys_of w = filter (has_key w) every_key

-- the word that a text is
abbrev pub word_named : List ℕ → Option Word
word_named text = find (λ w. bytes_eq (word_text w) text) all_words

-- what is made of the values at these keys, read in this order
abbrev pub read_then : {A : Type 0} → (keys : List Key) → (Values keys → Result A TextFault) → Data
    → Result A TextFault
read_then [] next d = next tt
read_then (key ∷ keys) next d =
    said_at key d >>= λ value. read_then keys (λ values. next (value, values)) d

-- WHAT A COMMAND ASKS FOR, read from the values at its own keys
abbrev pub read_kind : Word → Data → Result Kind TextFault
read_kind w d = read_then (own_keys w) (λ values. Ok (kind_of w values)) d

-- the same, taken word by word
unfoldable pub kind_in : Word → Data → Result Kind TextFault
kind_in word.Request d = read_kind word.Request d
kind_in w d = read_kind w d
