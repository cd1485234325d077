-- The reply of a line that was read nests no deeper than the line's text may.
use Rattle.std.proofs.Common.{◌≡◌, ◌≤◌, ℕ, Bool, true, false, codes, List, Option, None, Some, Ordering, Less, Equal, Greater, IfSome, is_some, refl, arith, option_map, option_and_then, if◌then◌else◌}
use Rattle.std.specs.Ordering.{match_ordering}
use Rattle.std.specs.Str.{is_utf8}
use Rattle.serde_json.specs.Data.{Data, Members, depth, member, members_depth, no_members, object}
use Rattle.serde_json.specs.Find.{as_bool, get, get_member}
use Rattle.serde_json.specs.Read.{read}
use Rattle.serde_json.proofs.Nesting.{depth-read}
use Rattle.clr_text.specs.Reading.{value_of}
use Rattle.clr_text.specs.Values.{moment_in}
use Rattle.clr_changes.specs.Deeds.{archive, command, update}
use Rattle.clr_journal.specs.Delta.{changes_in}
use Rattle.clr_journal.specs.Laws.{IsShallow}
use Rattle.clr_journal.specs.Line.{Entry, archived_in, at_key, bare_receipt_in, carried, carried_in, command_at, done, if_withdrawn, line_in, read_line, receipt_in, updated_in, withdrawn, withdrawn_in}

one_of : (o : Ordering) (found : Data) (more : Option Data) (n : ℕ) → depth found ≤ n → IfSome more (λ d. depth d ≤ n) → IfSome (match_ordering o more (Some found) more) (λ d. depth d ≤ n)
one_of Less found more n here rest = rest
one_of Equal found more n here rest = here
one_of Greater found more n here rest = rest

member_is_shallow : (k : List ℕ) (ms : Members) (n : ℕ) → members_depth ms ≤ n → IfSome (get_member k ms) (λ d. depth d ≤ n)
member_is_shallow k no_members n within = tt
member_is_shallow k (member l d ms) n within = one_of _ d (get_member k ms) n (omega arith) (member_is_shallow k ms n (omega arith))

-- a value at a key
at_key_is_shallow : (k : List ℕ) (d : Data) (n : ℕ) → depth d ≤ n → IfSome (get k d) (λ found. depth found ≤ n)
at_key_is_shallow k (object ms) n within = member_is_shallow k ms n (omega arith)
at_key_is_shallow k _ n within = tt

each_then : {A B : Type 0} (P : B → Type 0) (next : A → Option B) → ((a : A) → IfSome (next a) P) → (o : Option A) → IfSome (option_and_then next o) P
each_then P next each None = tt
each_then P next each (Some a) = each a

each_map : {A B : Type 0} (P : A → Type 0) (Q : B → Type 0) (next : A → B) → ((a : A) → P a → Q (next a)) → (o : Option A) → IfSome o P → IfSome (option_map next o) Q
each_map P Q next each None is = tt
each_map P Q next each (Some a) is = each a is

carried_is_shallow : (d : Data) → depth d ≤ 127 → IfSome (carried_in d) IsShallow
carried_is_shallow d within =
    each_then IsShallow _ (λ receipt. each_then IsShallow _ (λ q. each_map (λ (reply : Data). depth reply ≤ 127) IsShallow (carried receipt (command q)) (λ reply is. is) (get (codes "reply") d)
    (at_key_is_shallow (codes "reply") d 127 within)) (command_at d)) (receipt_in d)

withdrawn_is_shallow : (d : Data) → IfSome (withdrawn_in d) IsShallow
withdrawn_is_shallow d = each_then IsShallow (λ is. if_withdrawn is d) by (at_key as_bool (codes "withdrawn") d)
  where
    by : (is : Bool) → IfSome (if_withdrawn is d) IsShallow
    by true = numbered (at_key _ (codes "number") d)
      where
        numbered : (o : Option ℕ) → IfSome (option_map withdrawn o) IsShallow
        numbered None = tt
        numbered (Some n) = tt
    by false = tt

each_made : {A : Type 0} (next : A → Entry) → ((a : A) → IsShallow (next a)) → (o : Option A) → IfSome (option_map next o) IsShallow
each_made next each None = tt
each_made next each (Some a) = each a

updated_is_shallow : (d : Data) → IfSome (updated_in d) IsShallow
updated_is_shallow d = each_then IsShallow _ (λ receipt. each_made (λ of. carried receipt (update of) done) (λ of. omega arith) (at_key changes_in (codes "updated") d)) (bare_receipt_in d)

archived_is_shallow : (d : Data) → IfSome (archived_in d) IsShallow
archived_is_shallow d = each_then IsShallow _ (λ receipt. each_made (λ before. carried receipt (archive before) done) (λ before. omega arith) (at_key (at_key moment_in (codes "before")) (codes "archived") d))
    (bare_receipt_in d)

line_is_shallow : (d : Data) → depth d ≤ 127 → IfSome (line_in d) IsShallow
line_is_shallow d within = by (is_some (get (codes "withdrawn") d)) (is_some (get (codes "updated") d)) (is_some (get (codes "archived") d))
  where
    by : (a b c : Bool) → IfSome (if a then withdrawn_in d else if b then updated_in d else if c then archived_in d else carried_in d) IsShallow
    by true b c = withdrawn_is_shallow d
    by false true c = updated_is_shallow d
    by false false true = archived_is_shallow d
    by false false false = carried_is_shallow d within

value_is_shallow : (text : List ℕ) (d : Data) → value_of text ≡ Some d → depth d ≤ 127
unfolding value_of
value_is_shallow text d is = by (is_utf8 text) is
  where
    by : (b : Bool) → (if b then read text else None) ≡ Some d → depth d ≤ 127
    by true e = depth-read text d e
    by false e = cc e

-- the reply of a line that was read nests no deeper than the line's text may
pub text_is_shallow : (text : List ℕ) → IfSome (read_line text) IsShallow
unfolding read_line
text_is_shallow text = by (value_of text) refl
  where
    by : (o : Option Data) → value_of text ≡ o → IfSome (option_and_then line_in o) IsShallow
    by None e = tt
    by (Some d) e = line_is_shallow d (value_is_shallow text d e)
