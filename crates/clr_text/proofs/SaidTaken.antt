-- What a value of a key is read as is what the key takes.
use Rattle.std.proofs.Common.{◌≡◌, ◌==◌, ℕ, Bool, true, false, cond, List, [], ◌∷◌, Option, None, Some, Result, Ok, Err, length, map, nat_le, nat_lt, refl, ap, subst, option_map, option_and_then, ok_or, arith, ltb-false}
use Rattle.std.proofs.lemmas.Bool.{and_from, eqb-false}
use Rattle.std.proofs.lemmas.Str.{is_utf8-from_IsUtf8}
use Rattle.std.specs.List.{list_all}
use Rattle.std.specs.Result.{result_ok}
use Rattle.std.specs.Str.{is_utf8}
use Rattle.serde_json.specs.Data.{Data, Items, item, no_items}
use Rattle.serde_json.specs.Find.{as_array, as_str}
use Rattle.clr_net.proofs.Names.{is_name_from}
use Rattle.clr_net.specs.Name.{is_name}
use Rattle.clr_net.specs.NameText.{bad_byte, read_name}
use Rattle.clr_order.proofs.StepTexts.{only_step_texts_are_read}
use Rattle.clr_order.specs.Texts.{read_step_text}
use Rattle.clr_rules.proofs.IdTexts.{reads_written}
use Rattle.clr_rules.specs.Id.{is_id}
use Rattle.clr_rules.specs.IdText.{read_id}
use Rattle.clr_rules.specs.Moment.{is_moment, new_moment}
use Rattle.clr_rules.specs.Prelude.{Id, Step, Task, task}
use Rattle.clr_text.proofs.TextsRead.{DataIsText, text_is_text, value_at_key}
use Rattle.clr_text.specs.CommandText.{fits_sort}
use Rattle.clr_text.specs.Keys.{Sort, ValueAt, ValueOf, clearance, flag, key_text, moment, name, names, number, sort_of, tasks, text}
use Rattle.clr_text.specs.Values.{all_read, at_key, if_step_number, name_in, read_as, said_at, step_in, value_at, whole}
use Rattle.clr_text.specs.declared.fault.TextFault.{TextFault}
use Rattle.clr_text.specs.declared.fault.TextFault.TheVariants.{BadValue}
use Rattle.clr_text.specs.declared.key.Key.{Key}

-- ---- what is read is read from a value

some : {A B : Type 0} (f : A → Option B) (o : Option A) (y : B) → option_and_then f o ≡ Some y → (x : A) × (o ≡ Some x) × (f x ≡ Some y)
some f None y e = cc
some f (Some x) y e = (x, refl, e)

some_of : {A B : Type 0} (f : A → B) (o : Option A) (y : B) → option_map f o ≡ Some y → (x : A) × (o ≡ Some x) × (f x ≡ y)
some_of f None y e = cc
some_of f (Some x) y e = (x, refl, cc)

sure : {A : Type 0} (o : Option A) (e : TextFault) (x : A) → ok_or o e ≡ Ok x → o ≡ Some x
sure None e x h = cc
sure (Some y) e x h = ap Some (let same : y ≡ x = cc in same)

fine : {A E : Type 0} (r : Result A E) (x : A) → result_ok r ≡ Some x → r ≡ Ok x
fine (Ok y) x h = ap Ok (let same : y ≡ x = cc in same)
fine (Err e) x h = cc

from_value : {A : Type 0} (reading : Data → Option A) (key : Key) (d : Data) (x : A) → at_key reading key d ≡ Ok x → (v : Data) × (value_at key d ≡ Some v) × (reading v ≡ Some x)
from_value reading key d x h = some reading (value_at key d) x (sure (option_and_then reading (value_at key d)) (BadValue key) x h)

tested : {A : Type 0} (b : Bool) (x y : A) → cond b (Some x) None ≡ Some y → (b ≡ true) × (x ≡ y)
tested true x y h = (refl, cc)
tested false x y h = cc

-- what reads as a name is one
named : (bytes s : List ℕ) → read_name bytes ≡ Ok s → is_name s ≡ true
named bytes s h = at (length bytes == 0) refl (nat_lt 24 (length bytes)) refl (bad_byte bytes) refl
  where
    at : (b : Bool) → (length bytes == 0) ≡ b → (c : Bool) → nat_lt 24 (length bytes) ≡ c → (o : Option ℕ) → bad_byte bytes ≡ o → is_name s ≡ true
    at true e c f o g = let k = rw e at h in cc
    at false e true f o g = let k = rw (e, f) at h in cc
    at false e false f (Some place) g = let k = rw (e, f, g) at h in cc
    at false e false f None g =
        let k = rw (e, f, g) at h in
        let same : bytes ≡ s = cc in
        let one = eqb-false (length bytes) 0 e in
        let few = ltb-false 24 (length bytes) f in
        subst (λ (t : List ℕ). is_name t ≡ true) same (is_name_from bytes (omega (arith, one)) (omega arith) g)

name_of : (v : Data) (s : List ℕ) → name_in v ≡ Some s → is_name s ≡ true
name_of v s h = let found = some (λ t. result_ok (read_name t)) (as_str v) s h in named found.0 s (fine (read_name found.0) s found.2)

all_names : (ds : Items) (list : List (List ℕ)) → all_read name_in ds ≡ Some list → list_all is_name list ≡ true
all_names no_items list h = subst (λ (l : List (List ℕ)). list_all is_name l ≡ true) (let same : [] ≡ list = cc in same) refl
all_names (item d ds) list h =
    let first = some (λ s. option_map (λ l. s ∷ l) (all_read name_in ds)) (name_in d) list h in
    let rest = some_of (λ l. first.0 ∷ l) (all_read name_in ds) list first.2 in
    subst (λ (l : List (List ℕ)). list_all is_name l ≡ true) rest.2 (and_from _ _ (name_of d first.0 first.1) (all_names ds rest.0 rest.1))

step_of : (v : Data) (s : Step) → step_in v ≡ Some s → is_name (task s).point ≡ true
step_of v s h =
    let found = some (λ t. result_ok (read_step_text t)) (as_str v) s h in
    (only_step_texts_are_read found.0 s (fine (read_step_text found.0) s found.2)).2

all_tasks : (ds : Items) (list : List Step) → all_read step_in ds ≡ Some list → list_all (λ t. is_name t.point) (map task list) ≡ true
all_tasks no_items list h = subst (λ (l : List Step). list_all (λ t. is_name t.point) (map task l) ≡ true) (let same : [] ≡ list = cc in same) refl
all_tasks (item d ds) list h =
    let first = some (λ s. option_map (λ l. s ∷ l) (all_read step_in ds)) (step_in d) list h in
    let rest = some_of (λ l. first.0 ∷ l) (all_read step_in ds) list first.2 in
    subst (λ (l : List Step). list_all (λ t. is_name t.point) (map task l) ≡ true) rest.2 (and_from _ _ (step_of d first.0 first.1) (all_tasks ds rest.0 rest.1))

-- of each sort, what a value is read as is one that a key takes
taken : (sort : Sort) (d : Data) (x : ValueOf sort) → DataIsText d → read_as sort d ≡ Some x → fits_sort sort x ≡ true
taken moment d seconds whole_text h =
    let number = some new_moment (whole d) seconds h in
    let both = tested (is_moment number.0) number.0 seconds number.2 in
    subst (λ (n : ℕ). is_moment n ≡ true) both.1 both.0
taken name d s whole_text h = name_of d s h
taken clearance d id whole_text h = let found = some read_id (as_str d) id h in (reads_written found.0 id found.2).0
taken number d n whole_text h =
    let number = some if_step_number (whole d) n h in
    let both = tested (nat_le number.0 65535) number.0 n number.2 in
    subst (λ (m : ℕ). nat_le m 65535 ≡ true) both.1 both.0
taken flag d b whole_text h = refl
taken text d s whole_text h = is_utf8-from_IsUtf8 s (text_is_text d s whole_text h)
taken names d list whole_text h = let items = some (all_read name_in) (as_array d) list h in all_names items.0 list items.2
taken tasks d list whole_text h =
    let steps = some_of (map task) (option_and_then (all_read step_in) (as_array d)) list h in
    let items = some (all_read step_in) (as_array d) steps.0 steps.1 in
    subst (λ (l : List Task). list_all (λ t. is_name t.point) l ≡ true) steps.2 (all_tasks items.0 steps.0 items.2)

pub said_taken : (d : Data) (key : Key) (x : ValueAt key) → DataIsText d → said_at key d ≡ Ok x → fits_sort (sort_of key) x ≡ true
said_taken d key x whole_text h =
    let found = from_value (read_as (sort_of key)) key d x h in
    taken (sort_of key) found.0 x (value_at_key d (key_text key) found.0 whole_text found.1) found.2
