-- What is said at a key reads as what it was, and its value is plain.
use Rattle.std.proofs.Common.{◌≡◌, ◌∙◌, ◌≤◌, ◌^◌, ℕ, Bool, true, List, [], ◌∷◌, Option, Some, Ok, IsUtf8, length, nat_le, decimal, refl, ap, arith, map, option_map, option_and_then, ok_or, le-ltb, lt-ltb, leb-true, ne_eqb}
use Rattle.std.proofs.lemmas.Bool.{and_from, and_parts}
use Rattle.std.proofs.lemmas.Str.{IsUtf8-append, is_utf8-from_IsUtf8}
use Rattle.std.specs.List.{list_all}
use Rattle.std.specs.Str.{is_utf8}
use Rattle.json.proofs.Printed.Utf8.{IsUtf8-are_ascii}
use Rattle.serde_json.specs.Data.{Data, boolean, depth, string}
use Rattle.serde_json.specs.View.{items_of}
use Rattle.clr_net.specs.Name.{is_name}
use Rattle.clr_net.specs.NameText.{read_name}
use Rattle.clr_net.proofs.Names.{name_has_none, name_is_text, name_parts}
use Rattle.clr_order.proofs.StepTexts.{step_texts_are_read}
use Rattle.clr_order.specs.Action.{action_word}
use Rattle.clr_order.specs.Texts.{step_text, waiting_step}
use Rattle.clr_order.specs.declared.action.Action.{Action}
use Rattle.clr_order.specs.declared.action.Action.TheVariants.{Open}
use Rattle.clr_rules.proofs.IdTexts.{written_reads}
use Rattle.clr_rules.specs.Id.{id_text, is_clearance_number, is_id}
use Rattle.clr_rules.specs.Moment.{is_moment}
use Rattle.clr_rules.specs.Prelude.{Id, Task, task}
use Rattle.clr_text.proofs.PlainTexts.{decimal_is_text}
use Rattle.clr_text.proofs.RepliesFlat.{list_is_flat}
use Rattle.clr_text.specs.CommandLaws.{is_plain, items_are_plain}
use Rattle.clr_text.specs.CommandText.{fits_sort, task_data, written}
use Rattle.clr_text.specs.Json.{name_data}
use Rattle.clr_text.specs.Keys.{Sort, ValueAt, ValueOf, clearance, flag, moment, name, names, number, sort_of, tasks, text}
use Rattle.clr_text.specs.Values.{all_read, at_key, name_in, read_as, said_at, step_in, value_at}
use Rattle.clr_text.specs.declared.fault.TextFault.TheVariants.{BadValue}
use Rattle.clr_text.specs.declared.key.Key.{Key}

reads : {A : Type 0} (reading : Data → Option A) (key : Key) (d v : Data) (x : A) → value_at key d ≡ Some v → reading v ≡ Some x
    → at_key reading key d ≡ Ok x
reads reading key d v x there is =
    ap (λ o. ok_or (option_and_then reading o) (BadValue key)) there ∙ ap (λ o. ok_or o (BadValue key)) is

name_reads : (s : List ℕ) → is_name s ≡ true → read_name s ≡ Ok s
name_reads s h =
    let parts = name_parts s h in
    let some = ne_eqb (length s) 0 (λ e. omega arith) in
    let few = le-ltb 24 (length s) parts.1 in
    rw (some, few, name_has_none s h) refl

pub name_reads_back : (s : List ℕ) → is_name s ≡ true → name_in (name_data s) ≡ Some s
name_reads_back s h = rw (name_reads s h) refl

pub all_back : {A : Type 0} (seen : A → Data) (reading : Data → Option A) (said : A → Bool) → ((x : A) → said x ≡ true → reading (seen x) ≡ Some x)
    → (list : List A) → list_all said list ≡ true → all_read reading (items_of (map seen list)) ≡ Some list
all_back seen reading said back [] h = refl
all_back seen reading said back (x ∷ list) h =
    let parts = and_parts (said x) (list_all said list) h in
    rw (back x parts.0, all_back seen reading said back list parts.1) refl

task_reads_back : (t : Task) → is_name t.point ≡ true → step_in (task_data t) ≡ Some (waiting_step t)
task_reads_back t h = rw (step_texts_are_read t h) refl

tasks_read_back : (list : List Task) → list_all (λ t. is_name t.point) list ≡ true
    → all_read step_in (items_of (map task_data list)) ≡ Some (map waiting_step list)
tasks_read_back [] h = refl
tasks_read_back (t ∷ list) h =
    let parts = and_parts (is_name t.point) (list_all (λ u. is_name u.point) list) h in
    rw (task_reads_back t parts.0, tasks_read_back list parts.1) refl

tasks_again : (list : List Task) → map task (map waiting_step list) ≡ list
tasks_again [] = refl
tasks_again (t ∷ list) = ap (λ rest. t ∷ rest) (tasks_again list)

-- of each sort, what is written reads as what it was
said_reads : (sort : Sort) (x : ValueOf sort) → fits_sort sort x ≡ true → read_as sort (written sort x) ≡ Some x
said_reads moment seconds h = rw h refl
said_reads name s h = name_reads_back s h
said_reads clearance id h = written_reads id h
said_reads number n h = rw h refl
said_reads flag b h = refl
said_reads text s h = refl
said_reads names list h = all_back name_data name_in is_name name_reads_back list h
said_reads tasks list h = ap (option_map (map task)) (tasks_read_back list h) ∙ ap Some (tasks_again list)

-- and so does a key at which it is
pub said_is : (d : Data) (key : Key) (x : ValueAt key) → value_at key d ≡ Some (written (sort_of key) x) → fits_sort (sort_of key) x ≡ true
    → said_at key d ≡ Ok x
said_is d key x there h = reads (read_as (sort_of key)) key d (written (sort_of key) x) x there (said_reads (sort_of key) x h)

-- ---- the value of what is said is plain

name_is_utf8 : (s : List ℕ) → is_name s ≡ true → is_utf8 s ≡ true
name_is_utf8 s h = is_utf8-from_IsUtf8 s (name_is_text s h)

id_is_utf8 : (id : Id) → is_id id ≡ true → is_utf8 (id_text id) ≡ true
id_is_utf8 id h =
    let parts = and_parts (is_name id.requester) (is_clearance_number id.number) h in
    let number = IsUtf8-append (47 ∷ []) (decimal id.number) (IsUtf8-are_ascii (47 ∷ []) refl) (decimal_is_text id.number) in
    is_utf8-from_IsUtf8 (id_text id) (IsUtf8-append id.requester _ (name_is_text id.requester parts.0) number)

word_is_text : (a : Action) → IsUtf8 (action_word a)
word_is_text Open = IsUtf8-are_ascii (action_word Open) refl
word_is_text a = IsUtf8-are_ascii (action_word a) refl

task_is_utf8 : (t : Task) → is_name t.point ≡ true → is_utf8 (step_text t) ≡ true
task_is_utf8 t h =
    let point = IsUtf8-append (32 ∷ []) t.point (IsUtf8-are_ascii (32 ∷ []) refl) (name_is_text t.point h) in
    is_utf8-from_IsUtf8 (step_text t) (IsUtf8-append (action_word t.action) _ (word_is_text t.action) point)

pub all_plain : {A : Type 0} (seen : A → Data) (test : A → Bool) → ((x : A) → test x ≡ true → is_plain (seen x) ≡ true)
    → (list : List A) → list_all test list ≡ true → items_are_plain (items_of (map seen list)) ≡ true
all_plain seen test each [] h = refl
all_plain seen test each (x ∷ list) h =
    let parts = and_parts (test x) (list_all test list) h in
    and_from _ _ (each x parts.0) (all_plain seen test each list parts.1)

pub said_is_plain : (sort : Sort) (x : ValueOf sort) → fits_sort sort x ≡ true → is_plain (written sort x) ≡ true
said_is_plain moment seconds h = let small = leb-true seconds 4102444799 h in lt-ltb seconds (2 ^ 64) (omega arith)
said_is_plain name s h = name_is_utf8 s h
said_is_plain clearance id h = id_is_utf8 id h
said_is_plain number n h = let small = leb-true n 65535 h in lt-ltb n (2 ^ 64) (omega arith)
said_is_plain flag b h = refl
said_is_plain text s h = h
said_is_plain names list h = all_plain name_data is_name name_is_utf8 list h
said_is_plain tasks list h = all_plain task_data (λ t. is_name t.point) task_is_utf8 list h

pub said_is_flat : (sort : Sort) (x : ValueOf sort) → depth (written sort x) ≤ 1
said_is_flat names list = let flat = list_is_flat name_data 0 (λ name. omega arith) list in omega (arith, flat)
said_is_flat tasks list = let flat = list_is_flat task_data 0 (λ task. omega arith) list in omega (arith, flat)
said_is_flat _ x = omega arith
