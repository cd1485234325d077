-- A command that was read can be sent.
use Rattle.std.proofs.Common.{◌≡◌, ◌∙◌, ◌++◌, ◌==◌, ℕ, Bool, true, false, ◌||◌, cond, List, [], ◌∷◌, Option, None, Some, Result, Ok, Err, refl, sym, subst, ok_or, eq-eqb}
use Rattle.std.proofs.lemmas.Bool.{and_from, and_parts}
use Rattle.std.proofs.lemmas.List.Folds.{list_all-append}
use Rattle.std.proofs.lemmas.Str.{is_utf8-from_IsUtf8}
use Rattle.std.specs.List.{list_all}
use Rattle.std.specs.Str.{is_utf8}
use Rattle.json.proofs.Printed.Utf8.{IsUtf8-are_ascii, are_ascii}
use Rattle.serde_json.specs.Data.{Data}
use Rattle.serde_json.specs.Find.{as_object}
use Rattle.clr_net.specs.Name.{is_name}
use Rattle.clr_net.specs.Results.{◌>>=◌}
use Rattle.clr_rules.specs.Moment.{is_moment}
use Rattle.clr_rules.specs.declared.command.Command.{Command}
use Rattle.clr_rules.specs.declared.command.Kind.{Kind}
use Rattle.clr_text.proofs.CommandsRead.{kind_read}
use Rattle.clr_text.proofs.SaidTaken.{said_taken}
use Rattle.clr_text.proofs.TextsRead.{DataIsText, value_at_key, value_is_text}
use Rattle.clr_text.specs.CommandLaws.{CommandsAtKeysCanBeSent, ReadCommandsCanBeSent}
use Rattle.clr_text.specs.CommandText.{Said, all_taken, can_be_sent, has_its_moment, is_taken, moment_said, own_said, said_at_each}
use Rattle.clr_text.specs.Kinds.{Values, keys_of, kind_in, kind_of, own_keys, read_then, states_moment, word_of, word_text}
use Rattle.clr_text.specs.Reading.{command_in, moment_of, no_others, none_missing, read_command, value_of, values_in, word_in}
use Rattle.clr_text.specs.Values.{said_at}
use Rattle.clr_text.specs.declared.fault.TextFault.{TextFault}
use Rattle.clr_text.specs.declared.fault.TextFault.TheVariants.{NotObject}
use Rattle.clr_text.specs.declared.key.Key.{Key}
use Rattle.clr_text.specs.declared.key.Key.TheVariants.{At, By}
use Rattle.clr_text.specs.declared.kinds.Word.{Word}
use Rattle.clr_text.specs.declared.kinds.Word.TheVariants as word

bound : {A B C : Type 0} (r : Result A TextFault) (f : A → Result B TextFault) (y : B) → (r >>= f) ≡ Ok y → ((x : A) → r ≡ Ok x → f x ≡ Ok y → C) → C
bound (Ok x) f y e next = next x refl e
bound (Err fault) f y e next = cc

abbrev read : {A : Type 0} → A → Result A TextFault
read x = Ok x

same_in_ok : {A : Type 0} (x y : A) → read x ≡ read y → x ≡ y
same_in_ok x y e = cc

-- ---- each kind

-- the values that were read are what their keys take
each_taken : {A : Type 0} (d : Data) (keys : List Key) (next : Values keys → Result A TextFault) (y : A) → DataIsText d → read_then keys next d ≡ Ok y
    → (values : Values keys) × (next values ≡ Ok y) × (all_taken (said_at_each keys values) ≡ true)
each_taken d [] next y whole e = (tt, e, refl)
each_taken d (key ∷ keys) next y whole e =
    bound (said_at key d) _ y e (λ x is e.
    let (rest, made, taken) = each_taken d keys (λ values. next (x, values)) y whole e in
    ((x, rest), made, and_from _ _ (said_taken d key x whole is) taken))

-- what a kind says is what its keys take
record KindSent (w : Word) (k : Kind) : Type 0 where
  word : word_of k ≡ w
  taken : all_taken (own_said k) ≡ true

made_sent : (w : Word) (values : Values (own_keys w)) → all_taken (said_at_each (own_keys w) values) ≡ true → KindSent w (kind_of w values)
made_sent word.Request values h = record { word = refl; taken = h }
made_sent _ values h = record { word = refl; taken = h }

kind_sent : (d : Data) → DataIsText d → (w : Word) (k : Kind) → kind_in w d ≡ Ok k → KindSent w k
kind_sent d whole w k e =
    let (values, made, taken) = each_taken d (own_keys w) (λ values. Ok (kind_of w values)) k whole (sym (kind_read w d) ∙ e) in
    subst (KindSent w) (same_in_ok (kind_of w values) k made) (made_sent w values taken)

-- ---- the whole command

abbrev MomentSent : Word → ℕ → Type 0
MomentSent w at = (all_taken (moment_said w at) ≡ true) × ((states_moment w || (at == 0)) ≡ true)

moment_by : (d : Data) (w : Word) (at : ℕ) (states : Bool) → DataIsText d → states_moment w ≡ states → cond states (said_at At d) (Ok 0) ≡ Ok at → MomentSent w at
moment_by d w at true whole is e = rw is (and_from _ _ (said_taken d At at whole e) refl, refl)
moment_by d w at false whole is e = rw is (refl, let same : 0 ≡ at = same_in_ok 0 at e in eq-eqb at 0 (sym same))

word_is_ascii : (w : Word) → are_ascii (word_text w) ≡ true
word_is_ascii word.Request = refl
word_is_ascii _ = refl

word_is_utf8 : (w : Word) → is_utf8 (word_text w) ≡ true
word_is_utf8 w = is_utf8-from_IsUtf8 (word_text w) (IsUtf8-are_ascii (word_text w) (word_is_ascii w))

both_taken : (front rest : List Said) → all_taken front ≡ true → all_taken rest ≡ true → all_taken (front ++ rest) ≡ true
both_taken front rest h k = list_all-append is_taken front rest ∙ and_from _ _ h k

whole_sent : (q : Command) → MomentSent (word_of q.kind) q.moment → is_name q.caller ≡ true → all_taken (own_said q.kind) ≡ true → can_be_sent q ≡ true
whole_sent q stated named own =
    let w = word_of q.kind in
    and_from _ _ (both_taken (moment_said w q.moment) _ stated.0 (and_from _ _ named (and_from _ _ (word_is_utf8 w) own))) stated.1

values_sent : (d : Data) (q : Command) → DataIsText d → (w : Word) → values_in w d ≡ Ok q → can_be_sent q ≡ true
unfolding values_in
values_sent d q whole w e =
    bound (moment_of w d) _ q e (λ at stated e. bound (said_at By d) _ q e (λ by caller e. bound (kind_in w d) _ q e (λ k inner e.
    let made : Command = record { caller = by; moment = at; kind = k } in
    let own = kind_sent d whole w k inner in
    let when : MomentSent (word_of k) at = subst (λ (v : Word). MomentSent v at) (sym own.word) (moment_by d w at (states_moment w) whole refl stated) in
    subst (λ (c : Command). can_be_sent c ≡ true) (same_in_ok made q e) (whole_sent made when (said_taken d By by whole caller) own.taken))))

-- a command in a value of texts can be sent, whatever text the value is a part of
pub value_can_be_sent : (d : Data) (q : Command) → DataIsText d → command_in d ≡ Ok q → can_be_sent q ≡ true
unfolding command_in
value_can_be_sent d q whole e =
    bound (ok_or (as_object d) NotObject) _ q e (λ members is e. bound (word_in d) _ q e (λ w named e.
    bound (no_others w members) _ q e (λ known no_other e. bound (none_missing (keys_of w) d) _ q e (λ all none e. values_sent d q whole w e))))

found_value : (bytes : List ℕ) (o : Option Data) (q : Command) (fault : TextFault) → value_of bytes ≡ o → (ok_or o fault >>= command_in) ≡ Ok q → can_be_sent q ≡ true
found_value bytes None q fault is e = cc
found_value bytes (Some d) q fault is e = value_can_be_sent d q (value_is_text bytes d is) e

pub read_commands_can_be_sent : ReadCommandsCanBeSent
unfolding read_command
read_commands_can_be_sent bytes q e = found_value bytes (value_of bytes) q _ refl e

pub commands_at_keys_can_be_sent : CommandsAtKeysCanBeSent
commands_at_keys_can_be_sent bytes key whole d q reads there e = value_can_be_sent d q (value_at_key whole key d (value_is_text bytes whole reads) there) e

-- ---- a command each of whose values is taken

moment_all : (states : Bool) (at : ℕ) → is_moment at ≡ true → all_taken (cond states ((At, at) ∷ []) []) ≡ true
moment_all true at h = and_from _ _ h refl
moment_all false at h = refl

pub taken_can_be_sent : (q : Command) → is_moment q.moment ≡ true → is_name q.caller ≡ true → all_taken (own_said q.kind) ≡ true → has_its_moment q ≡ true
    → can_be_sent q ≡ true
taken_can_be_sent q timed named own stated = whole_sent q (moment_all (states_moment (word_of q.kind)) q.moment timed, stated) named own
