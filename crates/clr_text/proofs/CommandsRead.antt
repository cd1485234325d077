-- A command that can be sent is read from its value, and from its text.
use Rattle.std.proofs.Common.{rules, ◌≡◌, ◌∙◌, ◌≤◌, ◌++◌, ◌==◌, ℕ, true, ◌&&◌, ◌||◌, List, [], ◌∷◌, Some, Result, Ok, Ordering, Less, Equal, Greater, refl, ap, sym, subst, arith, is_lt, nat_cmp, eqb-true, map, ok_or}
use Rattle.std.proofs.lemmas.Bool.{and_from, and_parts}
use Rattle.std.proofs.lemmas.Cmp.{nat_list_cmp_total}
use Rattle.std.proofs.lemmas.List.Folds.{list_all-append}
use Rattle.std.proofs.lemmas.Str.{is_utf8-from_IsUtf8}
use Rattle.std.specs.Cmp.Lexicographic.{slice_cmp}
use Rattle.std.specs.List.{list_all}
use Rattle.std.specs.Ordering.{match_ordering, ordering_reverse}
use Rattle.std.specs.Str.{is_utf8}
use Rattle.json.proofs.Printed.Utf8.{IsUtf8-are_ascii, are_ascii}
use Rattle.serde_json.specs.Data.{Data, Members, depth, member, members_depth, no_members, put}
use Rattle.clr_net.specs.Results.{◌>>=◌}
use Rattle.clr_rules.specs.declared.command.Command.{Command}
use Rattle.clr_rules.specs.declared.command.Kind.{Kind}
use Rattle.clr_rules.specs.declared.command.Kind.TheVariants as kind
use Rattle.clr_text.proofs.PlainTexts.{plain_values_read_back}
use Rattle.clr_text.proofs.SaidReads.{said_is, said_is_flat, said_is_plain}
use Rattle.clr_text.specs.CommandLaws.{CommandsReadBack, CommandValuesArePlain, CommandValuesReadBack, is_before, is_plain, members_are_plain}
use Rattle.clr_text.specs.CommandText.{Said, all_said, all_taken, can_be_sent, command_data, command_text, fits_sort, has_its_moment, is_taken, moment_said, own_said, said_at_each, said_data, said_of, with_said}
use Rattle.clr_text.specs.Keys.{every_key, key_text, sort_of}
use Rattle.clr_text.specs.Kinds.{Values, keys_of, kind_in, kind_of, own_keys, read_kind, read_then, said_by, states_moment, word_of, word_text}
use Rattle.clr_text.specs.Reading.{command_in, moment_of, no_others, none_missing, read_command, value_of, values_in, word_in}
use Rattle.clr_text.specs.Values.{said_at, value_at}
use Rattle.clr_text.specs.declared.fault.TextFault.{TextFault}
use Rattle.clr_text.specs.declared.fault.TextFault.TheVariants.{NotJson}
use Rattle.clr_text.specs.declared.key.Key.{Key}
use Rattle.clr_text.specs.declared.key.Key.TheVariants.{At, By, Do}
use Rattle.clr_text.specs.declared.kinds.Word.{Word}
use Rattle.clr_text.specs.declared.kinds.Word.TheVariants as word

-- ---- what is said at each key is read

then : {A B : Type 0} {x : A} {y : B} (r : Result A TextFault) (f : A → Result B TextFault) → r ≡ Ok x → f x ≡ Ok y → (r >>= f) ≡ Ok y
then r f is next = ap (λ s. s >>= f) is ∙ next

-- the value has at each of these keys what is said at it
abbrev AreIn : Data → List Said → Type 0
AreIn d [] = Unit {0}
AreIn d (said ∷ rest) = (value_at said.0 d ≡ Some (said_data said)) × AreIn d rest

each_reads : {A : Type 0} (d : Data) (keys : List Key) (values : Values keys) (next : Values keys → Result A TextFault)
    → AreIn d (said_at_each keys values) → all_taken (said_at_each keys values) ≡ true → read_then keys next d ≡ next values
each_reads d [] values next there h = refl
each_reads d (key ∷ keys) values next there h =
    let parts = and_parts (fits_sort (sort_of key) values.0) (all_taken (said_at_each keys values.1)) h in
    ap (λ r. r >>= λ x. read_then keys (λ rest. next (x, rest)) d) (said_is d key values.0 there.0 parts.0)
    ∙ each_reads d keys values.1 (λ rest. next (values.0, rest)) there.1 parts.1

-- ---- each kind

-- a kind is what its word and its values make
kind_again : (k : Kind) → kind_of (word_of k) (said_by k).1 ≡ k
kind_again (kind.Request section) = refl
kind_again _ = refl

own_are : (k : Kind) → own_said k ≡ said_of k
own_are (kind.Request section) = refl
own_are _ = refl

pub kind_read : (w : Word) (d : Data) → kind_in w d ≡ read_kind w d
unfolding kind_in
kind_read word.Request d = refl
kind_read _ d = refl

module _ (by : List ℕ) (at : ℕ) where
  abbrev command : Kind → Command
  command k = record { caller = by; moment = at; kind = k }

  abbrev value : Kind → Data
  value k = command_data (command k)

  own_are_in : (k : Kind) → AreIn (value k) (own_said k)
  own_are_in (kind.Request section) = search rules
  own_are_in _ = search rules

  kind_is : (k : Kind) → all_taken (own_said k) ≡ true → kind_in (word_of k) (value k) ≡ Ok k
  kind_is k h =
      kind_read (word_of k) (value k)
      ∙ each_reads (value k) (own_keys (word_of k)) (said_by k).1 (λ values. Ok (kind_of (word_of k) values))
      (subst (AreIn (value k)) (own_are k) (own_are_in k)) (subst (λ (list : List Said). all_taken list ≡ true) (own_are k) h)
      ∙ ap Ok (kind_again k)

  moment_reads : (k : Kind) → all_taken (moment_said (word_of k) at) ≡ true → (states_moment (word_of k) || (at == 0)) ≡ true
      → moment_of (word_of k) (value k) ≡ Ok at
  moment_reads (kind.Show c) h stated = ap Ok (sym (eqb-true at 0 stated))
  moment_reads (kind.Jumper point from to lockable remote) h stated = ap Ok (sym (eqb-true at 0 stated))
  moment_reads k h stated = said_is (value k) At at refl (and_parts _ _ h).0

  caller_reads : (k : Kind) → is_taken (By, by) ≡ true → said_at By (value k) ≡ Ok by
  caller_reads (kind.Request section) h = said_is (value (kind.Request section)) By by refl h
  caller_reads k h = said_is (value k) By by refl h

  word_reads : (k : Kind) → word_in (value k) ≡ Ok (word_of k)
  word_reads (kind.Request section) = refl
  word_reads _ = refl

  no_other_reads : (k : Kind) → no_others (word_of k) (with_said (all_said (command k)) no_members) ≡ Ok true
  unfolding every_key
  no_other_reads (kind.Request section) = refl
  no_other_reads _ = refl

  none_is_missing : (k : Kind) → none_missing (keys_of (word_of k)) (value k) ≡ Ok true
  unfolding none_missing keys_of every_key
  none_is_missing (kind.Request section) = refl
  none_is_missing _ = refl

  command_reads : (k : Kind) → can_be_sent (command k) ≡ true → command_in (value k) ≡ Ok (command k)
  unfolding command_in values_in
  command_reads k h =
      let w = word_of k in
      let rest : List Said = (By, by) ∷ (Do, word_text w) ∷ own_said k in
      let parts = and_parts (all_taken (all_said (command k))) (states_moment w || (at == 0)) h in
      let halves = and_parts (all_taken (moment_said w at)) (all_taken rest) (sym (list_all-append is_taken (moment_said w at) rest) ∙ parts.0) in
      let caller = and_parts (is_taken (By, by)) (all_taken ((Do, word_text w) ∷ own_said k)) halves.1 in
      let own = and_parts (is_taken (Do, word_text w)) (all_taken (own_said k)) caller.1 in
      then _ _ (word_reads k) (then _ _ (no_other_reads k) (then _ _ (none_is_missing k)
      (then _ _ (moment_reads k halves.0 parts.1) (then _ _ (caller_reads k caller.0) (then _ _ (kind_is k own.1) refl)))))

pub command_values_read_back : CommandValuesReadBack
command_values_read_back q h = command_reads q.caller q.moment q.kind h

-- ---- the value of a command is plain

from_greater : (k l : List ℕ) → slice_cmp nat_cmp k l ≡ Greater → is_lt (slice_cmp nat_cmp l k) ≡ true
from_greater k l h = ap is_lt (nat_list_cmp_total.antisymm l k ∙ ap ordering_reverse h)

before_put_at : (o : Ordering) (l k m : List ℕ) (d f : Data) (ms : Members) → is_lt (slice_cmp nat_cmp l k) ≡ true
    → is_before l (member m f ms) ≡ true
    → is_before l (match_ordering o (member k d (member m f ms)) (member m d ms) (member m f (put k d ms))) ≡ true
before_put_at Less l k m d f ms lower first = lower
before_put_at Equal l k m d f ms lower first = first
before_put_at Greater l k m d f ms lower first = first

before_put : (l k : List ℕ) (d : Data) (ms : Members) → is_lt (slice_cmp nat_cmp l k) ≡ true → is_before l ms ≡ true → is_before l (put k d ms) ≡ true
before_put l k d no_members lower first = lower
before_put l k d (member m f ms) lower first = before_put_at (slice_cmp nat_cmp k m) l k m d f ms lower first

abbrev PlainMember : List ℕ → Data → Members → Type 0
PlainMember k d ms = (is_utf8 k ≡ true) × (is_before k ms ≡ true) × (is_plain d ≡ true) × (members_are_plain ms ≡ true)

member_parts : (k : List ℕ) (d : Data) (ms : Members) → members_are_plain (member k d ms) ≡ true → PlainMember k d ms
member_parts k d ms h =
    let p = and_parts (is_utf8 k) (is_before k ms && (is_plain d && members_are_plain ms)) h in
    let q = and_parts (is_before k ms) (is_plain d && members_are_plain ms) p.1 in
    let r = and_parts (is_plain d) (members_are_plain ms) q.1 in
    (p.0, q.0, r.0, r.1)

member_from : (k : List ℕ) (d : Data) (ms : Members) → PlainMember k d ms → members_are_plain (member k d ms) ≡ true
member_from k d ms h = and_from _ _ h.0 (and_from _ _ h.1 (and_from _ _ h.2 h.3))

put_plain_at : (o : Ordering) (k l : List ℕ) (d e : Data) (ms : Members) → slice_cmp nat_cmp k l ≡ o → is_utf8 k ≡ true → is_plain d ≡ true
    → members_are_plain (member l e ms) ≡ true → members_are_plain (put k d ms) ≡ true
    → members_are_plain (match_ordering o (member k d (member l e ms)) (member l d ms) (member l e (put k d ms))) ≡ true
put_plain_at Less k l d e ms is utf8 plain all more = member_from k d (member l e ms) (utf8, ap is_lt is, plain, all)
put_plain_at Equal k l d e ms is utf8 plain all more =
    let parts = member_parts l e ms all in member_from l d ms (parts.0, parts.1, plain, parts.3)
put_plain_at Greater k l d e ms is utf8 plain all more =
    let parts = member_parts l e ms all in
    member_from l e (put k d ms) (parts.0, before_put l k d ms (from_greater k l is) parts.1, parts.2, more)

put_plain : (k : List ℕ) (d : Data) (ms : Members) → is_utf8 k ≡ true → is_plain d ≡ true → members_are_plain ms ≡ true → members_are_plain (put k d ms) ≡ true
put_plain k d no_members utf8 plain all = member_from k d no_members (utf8, refl, plain, refl)
put_plain k d (member l e ms) utf8 plain all =
    let parts = member_parts l e ms all in
    put_plain_at (slice_cmp nat_cmp k l) k l d e ms refl utf8 plain all (put_plain k d ms utf8 plain parts.3)

put_flat_at : (o : Ordering) (k l : List ℕ) (d e : Data) (ms : Members) → depth d ≤ 1 → members_depth (member l e ms) ≤ 1 → members_depth (put k d ms) ≤ 1
    → members_depth (match_ordering o (member k d (member l e ms)) (member l d ms) (member l e (put k d ms))) ≤ 1
put_flat_at Less k l d e ms flat all more = omega (arith, flat, all)
put_flat_at Equal k l d e ms flat all more = omega (arith, flat, all)
put_flat_at Greater k l d e ms flat all more = omega (arith, all, more)

put_flat : (k : List ℕ) (d : Data) (ms : Members) → depth d ≤ 1 → members_depth ms ≤ 1 → members_depth (put k d ms) ≤ 1
put_flat k d no_members flat all = omega (arith, flat)
put_flat k d (member l e ms) flat all =
    put_flat_at (slice_cmp nat_cmp k l) k l d e ms flat all (put_flat k d ms flat (omega (arith, all)))

key_is_ascii : (key : Key) → are_ascii (key_text key) ≡ true
key_is_ascii By = refl
key_is_ascii _ = refl

key_is_utf8 : (key : Key) → is_utf8 (key_text key) ≡ true
key_is_utf8 key = is_utf8-from_IsUtf8 (key_text key) (IsUtf8-are_ascii (key_text key) (key_is_ascii key))

with_plain : (list : List Said) (ms : Members) → all_taken list ≡ true → members_are_plain ms ≡ true → members_are_plain (with_said list ms) ≡ true
with_plain [] ms h all = all
with_plain (said ∷ rest) ms h all =
    let parts = and_parts (is_taken said) (all_taken rest) h in
    with_plain rest (put (key_text said.0) (said_data said) ms) parts.1
    (put_plain (key_text said.0) (said_data said) ms (key_is_utf8 said.0) (said_is_plain (sort_of said.0) said.1 parts.0) all)

with_flat : (list : List Said) (ms : Members) → members_depth ms ≤ 1 → members_depth (with_said list ms) ≤ 1
with_flat [] ms all = all
with_flat (said ∷ rest) ms all =
    with_flat rest (put (key_text said.0) (said_data said) ms) (put_flat (key_text said.0) (said_data said) ms (said_is_flat (sort_of said.0) said.1) all)

pub command_values_are_plain : CommandValuesArePlain
command_values_are_plain q h =
    let parts = and_parts (all_taken (all_said q)) (has_its_moment q) h in
    let plain : is_plain (command_data q) ≡ true = with_plain (all_said q) no_members parts.0 refl in
    let flat = with_flat (all_said q) no_members (omega arith) in
    (plain, omega (arith, flat))

pub commands_read_back : CommandsReadBack
unfolding read_command
commands_read_back q h =
    let sure = command_values_are_plain q h in
    let value : value_of (command_text q) ≡ _ = plain_values_read_back (command_data q) sure.0 (omega (arith, sure.1)) in
    ap (λ found. ok_or found NotJson >>= command_in) value ∙ command_values_read_back q h
