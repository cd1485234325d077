-- Which key a fault names: the first that is missing, or the first whose value does not fit.
use Rattle.std.proofs.Common.{◌≡◌, ℕ, Bool, true, false, not, List, [], ◌∷◌, Option, None, Some, Result, Ok, Err, is_ok, is_some, ok_or, refl, ◌∙◌, ap, cond, drop, filter, find, if◌then◌else◌}
use Rattle.serde_json.specs.Data.{Data, Members}
use Rattle.serde_json.specs.Find.{as_object}
use Rattle.clr_net.specs.Results.{◌>>=◌}
use Rattle.clr_text.specs.KeyLaws.{LeastBadValueIsNamed, LeastMissingIsNamed, fits, lacks}
use Rattle.clr_text.specs.Kinds.{has_key, keys_of, kind_in, states_moment, word_named}
use Rattle.clr_text.specs.Keys.{every_key}
use Rattle.clr_text.specs.Reading.{all_keys, command_in, is_key_of, none_missing, no_others, read_command, text_at_do, value_of, values_in, word_in}
use Rattle.clr_text.specs.Values.{said_at, value_at}
use Rattle.clr_text.specs.declared.fault.TextFault.{TextFault}
use Rattle.clr_text.specs.declared.fault.TextFault.TheVariants.{BadValue, MissingKey, NotObject, UnknownCommand, UnknownKey}
use Rattle.clr_text.specs.declared.key.Key.{Key}
use Rattle.clr_text.specs.declared.key.Key.TheVariants.{At, By, Do, Section}
use Rattle.clr_text.specs.declared.kinds.Word.{Word}
use Rattle.clr_text.proofs.KeysInOrder.{keys_stand_in_order, least_is_first}
use Rattle.clr_text.specs.declared.kinds.Word.TheVariants as word
use Rattle.clr_rules.specs.declared.command.Command.{Command}
use Rattle.clr_rules.specs.declared.command.Kind.{Kind}

-- a fault names the first of the keys that passes a test
record Names (test : Key → Bool) (keys : List Key) (fault : Key → TextFault) (e : TextFault) : Type 0 where
  key : Key
  is : e ≡ fault key
  first : find test keys ≡ Some key

-- one that does not pass goes before them
skip : (test : Key → Bool) (keys : List Key) (fault : Key → TextFault) (e : TextFault) (key : Key) → test key ≡ false
    → Names test keys fault e → Names test (key ∷ keys) fault e
skip test keys fault e key passes_not named = record { key = named.key; is = named.is; first = rw passes_not named.first }

missing_step : (keys : List Key) (d : Data) (e : TextFault) (key : Key) (there : Bool) → is_some (value_at key d) ≡ there
    → none_missing (key ∷ keys) d ≡ Err e → (none_missing keys d ≡ Err e → Names (lacks d) keys MissingKey e) → Names (lacks d) (key ∷ keys) MissingKey e
unfolding none_missing
missing_step keys d e key true is told later = skip (lacks d) keys MissingKey e key (rw is refl) (later (rw is at told))
missing_step keys d e key false is told later =
    let here = rw is at told in
    record { key = key; is = cc; first = rw is refl }

-- the first of the keys that an object lacks
first_missing : (keys : List Key) (d : Data) (e : TextFault) → none_missing keys d ≡ Err e → Names (lacks d) keys MissingKey e
unfolding none_missing
first_missing [] d e told = cc
first_missing (key ∷ keys) d e told = missing_step keys d e key (is_some (value_at key d)) refl told (first_missing keys d e)

of_kind : {A B : Type 0} (r : Result A TextFault) (g : A → B) (e : TextFault) → (r >>= λ x. Ok (g x)) ≡ Err e → r ≡ Err e
of_kind (Ok x) g e told = cc
of_kind (Err fault) g e told = cc

-- the keys of a command after `by`
abbrev behind_by : Word → List Key
behind_by w = filter (has_key w) (drop 2 every_key)

abbrev command : List ℕ → ℕ → Kind → Command
command by at kind = record { caller = by; moment = at; kind = kind }

module _ (d : Data) (e : TextFault) (did : fits d Do ≡ true) where
  -- a fault names the first of the keys whose value does not fit
  abbrev NamesBad : List Key → Type 0
  NamesBad keys = Names (λ k. not (fits d k)) keys BadValue e

  -- the next key is the one whose value does not fit, or what follows names it
  next_value : {A B : Type 0} {keys : List Key} (key : Key) (read : Option A) (f : A → Result B TextFault)
      → fits d key ≡ is_ok (ok_or read (BadValue key))
      → ((x : A) → f x ≡ Err e → NamesBad keys) → (ok_or read (BadValue key) >>= f) ≡ Err e → NamesBad (key ∷ keys)
  next_value key None f is later told = record { key = key; is = cc; first = rw is refl }
  next_value {keys = keys} key (Some x) f is later told =
      skip (λ k. not (fits d k)) keys BadValue e key (rw is refl) (later x told)

  -- the text at `do` is one, so that key goes before the others
  next_do : {B : Type 0} {keys : List Key} {r : Result B TextFault} → (r ≡ Err e → NamesBad keys) → r ≡ Err e → NamesBad (Do ∷ keys)
  next_do {keys = keys} later told = skip (λ k. not (fits d k)) keys BadValue e Do (rw did refl) (later told)

  end : {B : Type 0} {x : B} → Ok x ≡ Err e → NamesBad []
  end told = cc

  -- of the keys after `by` the first whose value does not fit. A command reads its values in the
  -- order of its keys, so at each key one of the lemmas above fits: the last clause is checked at
  -- every word but the first's
  kind_first : (w : Word) → kind_in w d ≡ Err e → NamesBad (behind_by w)
  unfolding kind_in every_key
  kind_first word.Request = next_do (next_value Section _ _ refl (λ _. end))
  kind_first _ = search (next_value, next_do, end) depth 20

  by_first : (w : Word) (at : ℕ) → (said_at By d >>= λ by. kind_in w d >>= λ kind. Ok (command by at kind)) ≡ Err e
      → NamesBad (By ∷ behind_by w)
  by_first w at = next_value By _ _ refl (λ by told. kind_first w (of_kind (kind_in w d) _ e told))

  moment_first : (w : Word) (states : Bool)
      → ((if states then said_at At d else Ok 0) >>= λ at. said_at By d >>= λ by. kind_in w d >>= λ kind. Ok (command by at kind)) ≡ Err e
      → NamesBad (cond states (At ∷ By ∷ behind_by w) (By ∷ behind_by w))
  moment_first w true = next_value At _ _ refl (λ at. by_first w at)
  moment_first w false = by_first w 0

  values_first : (w : Word) → values_in w d ≡ Err e → NamesBad (keys_of w)
  unfolding values_in keys_of every_key
  values_first w = moment_first w (states_moment w)

-- the fault of an object that names a command
data IsFault (d : Data) (w : Word) (e : TextFault) : Type 0 where
  no_object : e ≡ NotObject → IsFault d w e
  unknown : e ≡ UnknownKey → IsFault d w e
  missing : Names (lacks d) (keys_of w) MissingKey e → IsFault d w e
  bad : Names (λ k. not (fits d k)) (keys_of w) BadValue e → IsFault d w e

text_is_one : (d : Data) (text : Result (List ℕ) TextFault) (w : Word) → text_at_do d ≡ text → (text >>= λ t. ok_or (word_named t) UnknownCommand) ≡ Ok w
    → fits d Do ≡ true
text_is_one d (Ok text) w is named = rw is refl
text_is_one d (Err fault) w is named = cc

values_fault : (d : Data) (w : Word) (e : TextFault) (found : Result Bool TextFault) → fits d Do ≡ true → none_missing (keys_of w) d ≡ found
    → (found >>= λ all. values_in w d) ≡ Err e → IsFault d w e
values_fault d w e (Ok all) did is told = bad (values_first d e did w told)
values_fault d w e (Err fault) did is told = missing (first_missing (keys_of w) d e (is ∙ cc))

keys_fault : (d : Data) (w : Word) (e : TextFault) (known : Bool) → fits d Do ≡ true
    → ((if known then Ok true else Err UnknownKey) >>= λ known. none_missing (keys_of w) d >>= λ all. values_in w d) ≡ Err e → IsFault d w e
keys_fault d w e true did told = values_fault d w e (none_missing (keys_of w) d) did refl told
keys_fault d w e false did told = unknown cc

object_fault : (d : Data) (w : Word) (e : TextFault) (members : Option Members) → fits d Do ≡ true
    → (ok_or members NotObject >>= λ members. no_others w members >>= λ known. none_missing (keys_of w) d >>= λ all. values_in w d) ≡ Err e → IsFault d w e
object_fault d w e None did told = no_object cc
object_fault d w e (Some members) did told = keys_fault d w e (all_keys (is_key_of w) members) did told

fault_of : (bytes : List ℕ) (d : Data) (w : Word) (e : TextFault) → value_of bytes ≡ Some d → word_in d ≡ Ok w → read_command bytes ≡ Err e → IsFault d w e
unfolding read_command command_in
fault_of bytes d w e read named told =
    let did = text_is_one d (text_at_do d) w refl named in
    object_fault d w e (as_object d) did (rw named at (rw read at told))

pub least_missing_is_named : LeastMissingIsNamed
least_missing_is_named bytes d w key read named told =
    elim (fault_of bytes d w (MissingKey key) read named told) [
      | no_object is ↦ cc is
      | unknown is ↦ cc is
      | missing names ↦ least_is_first (lacks d) (keys_of w) key (keys_stand_in_order w) (names.first ∙ ap Some (let same : names.key ≡ key = cc names.is in same))
      | bad names ↦ cc names.is
    ]

pub least_bad_value_is_named : LeastBadValueIsNamed
least_bad_value_is_named bytes d w key read named told =
    elim (fault_of bytes d w (BadValue key) read named told) [
      | no_object is ↦ cc is
      | unknown is ↦ cc is
      | missing names ↦ cc names.is
      | bad names ↦ least_is_first (λ k. not (fits d k)) (keys_of w) key (keys_stand_in_order w) (names.first ∙ ap Some (let same : names.key ≡ key = cc names.is in same))
    ]
