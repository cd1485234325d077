-- A line that can be written is read from its text, and from no other.
use Rattle.std.proofs.Common.{◌≡◌, ◌∙◌, ◌≤◌, ℕ, Bool, true, false, ◌&&◌, not, cond, List, Option, None, Some, refl, ap, arith, option_and_then}
use Rattle.std.proofs.lemmas.Bool.{and_from, and_parts}
use Rattle.std.proofs.lemmas.Slice.Eq.{bytes_eq-Decides}
use Rattle.std.specs.Prelude.{bytes_eq}
use Rattle.std.specs.Str.{is_utf8}
use Rattle.serde_json.specs.Data.{Data, Items, Members, Num, array, boolean, depth, float, item, member, negative, no_items, no_members, null, number, object, string, unsigned}
use Rattle.serde_json.specs.Written.{has_float, items_have_float, members_have_float}
use Rattle.clr_changes.specs.Deeds.{archive, command, update}
use Rattle.clr_journal.proofs.Written.{IsWritten, is_written}
use Rattle.clr_text.proofs.PlainTexts.{members_of, object_plain, one_line, plain_parts, plain_values_read_back}
use Rattle.clr_text.specs.CommandLaws.{is_before, is_plain, is_whole, items_are_plain, members_are_plain}
use Rattle.clr_journal.specs.Line.{Entry, carried, entry_data, line_in, read_line, withdrawn}
use Rattle.clr_chain.specs.First.{first_data, first_text, first_text_by}
use Rattle.clr_chain.specs.Laws.{FirstsAreOneLine, LinksAreOneLine, LinksAreOwn, LinksReadBack}
use Rattle.clr_chain.specs.Link.{has_fraction, if_own, is_own, link_data, link_text, read_link}

-- ---- one line

pub links_line : LinksAreOneLine
unfolding link_text
links_line entry sum = one_line (link_data entry sum)

pub firsts_line : FirstsAreOneLine
unfolding first_text first_text_by
firsts_line place = one_line (first_data place)

-- ---- its own form

if_true : (b : Bool) (one entry : Entry) → cond b (Some one) None ≡ Some entry → (b ≡ true) × (one ≡ entry)
if_true true one entry h = let same : one ≡ entry = cc in (refl, same)
if_true false one entry h = cc h

own_text : (found : Option Entry) (sum text : List ℕ) (entry : Entry) → option_and_then (if_own sum text) found ≡ Some entry → text ≡ link_text entry sum
own_text None sum text entry h = cc h
own_text (Some one) sum text entry h =
    let is = if_true (is_own one sum text) one entry h in
    let both = and_parts (not (has_fraction one)) (bytes_eq text (link_text one sum)) is.0 in
    (bytes_eq-Decides text (link_text one sum)).0 both.1 ∙ ap (λ e. link_text e sum) is.1

pub links_own : LinksAreOwn
unfolding read_link
links_own entry sum text h = own_text (read_line text) sum text entry h

-- ---- a plain value has whole numbers alone

whole_is_no_float : (n : Num) → is_whole n ≡ true → has_float (number n) ≡ false
whole_is_no_float (unsigned n) h = refl
whole_is_no_float (negative z) h = cc
whole_is_no_float (float x) h = cc

mutual
  plain_has_none : (d : Data) → is_plain d ≡ true → has_float d ≡ false
  plain_has_none null h = refl
  plain_has_none (boolean b) h = refl
  plain_has_none (number n) h = whole_is_no_float n h
  plain_has_none (string s) h = refl
  plain_has_none (array ds) h = plain_items ds h
  plain_has_none (object ms) h = plain_members ms h

  plain_items : (ds : Items) → items_are_plain ds ≡ true → items_have_float ds ≡ false
  plain_items no_items h = refl
  plain_items (item d ds) h =
      let p = and_parts (is_plain d) (items_are_plain ds) h in
      rw (plain_has_none d p.0, plain_items ds p.1) refl

  plain_members : (ms : Members) → members_are_plain ms ≡ true → members_have_float ms ≡ false
  plain_members no_members h = refl
  plain_members (member k d ms) h =
      let p = and_parts (is_utf8 k) (is_before k ms && (is_plain d && members_are_plain ms)) h in
      let q = and_parts (is_before k ms) (is_plain d && members_are_plain ms) p.1 in
      let r = and_parts (is_plain d) (members_are_plain ms) q.1 in
      rw (plain_has_none d r.0, plain_members ms r.1) refl

-- ---- a line with its sum is that line

same_line : (entry : Entry) (sum : List ℕ) → line_in (link_data entry sum) ≡ line_in (entry_data entry)
same_line (carried receipt (command q) reply) sum = refl
same_line (carried receipt (update of) reply) sum = refl
same_line (carried receipt (archive before) reply) sum = refl
same_line (withdrawn n) sum = refl

link_plain : (entry : Entry) (sum : List ℕ) → is_plain (entry_data entry) ≡ true → is_utf8 sum ≡ true → is_plain (link_data entry sum) ≡ true
link_plain (carried receipt (command q) reply) sum h text =
    let line : Entry = carried receipt (command q) reply in
    let p = plain_parts (members_of (entry_data line)) h in
    object_plain (members_of (link_data line sum)) refl (p.0, (p.1.0, (p.1.1.0, (p.1.1.1.0, (p.1.1.1.1.0, (text, tt))))))
link_plain (carried receipt (update of) reply) sum h text =
    let line : Entry = carried receipt (update of) reply in
    let p = plain_parts (members_of (entry_data line)) h in
    object_plain (members_of (link_data line sum)) refl (p.0, (p.1.0, (text, (p.1.1.0, tt))))
link_plain (carried receipt (archive before) reply) sum h text =
    let line : Entry = carried receipt (archive before) reply in
    let p = plain_parts (members_of (entry_data line)) h in
    object_plain (members_of (link_data line sum)) refl (p.0, (p.1.0, (p.1.1.0, (text, tt))))
link_plain (withdrawn n) sum h text =
    let p = plain_parts (members_of (entry_data (withdrawn n))) h in
    object_plain (members_of (link_data (withdrawn n) sum)) refl (p.0, (text, (p.1.0, tt)))

link_shallow : (entry : Entry) (sum : List ℕ) → depth (entry_data entry) ≤ 127 → depth (link_data entry sum) ≤ 127
link_shallow (carried receipt (command q) reply) sum h = omega (arith, h)
link_shallow (carried receipt (update of) reply) sum h = omega (arith, h)
link_shallow (carried receipt (archive before) reply) sum h = omega (arith, h)
link_shallow (withdrawn n) sum h = omega (arith, h)

no_fraction : (entry : Entry) → IsWritten entry → has_fraction entry ≡ false
no_fraction (carried receipt deed reply) it = plain_has_none reply it.reply
no_fraction (withdrawn n) it = refl

is_own_text : (entry : Entry) (sum : List ℕ) → has_fraction entry ≡ false → is_own entry sum (link_text entry sum) ≡ true
is_own_text entry sum none =
    and_from _ _ (ap (λ (b : Bool). not b) none) ((bytes_eq-Decides (link_text entry sum) (link_text entry sum)).1 refl)

line_back : (entry : Entry) (sum : List ℕ) → IsWritten entry → is_utf8 sum ≡ true → read_line (link_text entry sum) ≡ Some entry
unfolding read_line link_text
line_back entry sum it text =
    ap (option_and_then line_in) (plain_values_read_back (link_data entry sum) (link_plain entry sum it.plain text) (link_shallow entry sum it.shallow))
    ∙ same_line entry sum ∙ it.back

pub links_back : LinksReadBack
unfolding read_link
links_back entry sum h text =
    let it = is_written entry h in
    ap (option_and_then (if_own sum (link_text entry sum))) (line_back entry sum it text)
    ∙ ap (λ (b : Bool). cond b (Some entry) None) (is_own_text entry sum (no_fraction entry it))
