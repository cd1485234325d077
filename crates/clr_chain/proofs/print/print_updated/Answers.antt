use Rattle.std.proofs.Common.{◌≡◌, ◌∙◌, ◌^◌, true, false, nat_lt, ap, ap₂, refl, string_bytes, subst}
use Rattle.std.proofs.lemmas.Bool.{and_from}
use Rattle.std.proofs.lemmas.Str.{is_utf8-from_IsUtf8}
use Rattle.std.specs.Str.{IsUtf8, is_utf8}
use Rattle.serde_json.specs.View.{view}
use Rattle.serde_json.specs.Written.{compact_text, has_float}
use Rattle.clr_changes.specs.Deeds.{update}
use Rattle.clr_journal.specs.Delta.{can_be_said}
use Rattle.clr_journal.specs.Laws.{can_be_written, is_done}
use Rattle.clr_journal.specs.Line.{Entry, bare, carried, done}
use Rattle.clr_update.specs.Shown.{as_changes}
use Rattle.clr_chain.specs.Link.{link_data, link_text, read_link, with_sum}
use Rattle.clr_chain.proofs.LinksBack.{links_back}
use Rattle.clr_chain.proofs.NoFloats.{link_has_none}
use Rattle.clr_chain.proofs.print.print_updated.Goals as goal

pub returns-clause-text : goal.returns-clause-text
unfolding link_text
returns-clause-text c =
    let sum = c.in_ok-sum.sum in
    let entry : Entry = carried c.args.receipt.now (update (as_changes c.args.changes.now)) done in
    let e : view c.in_ok-value.value ≡ link_data entry sum = c.in_ok-value.ensures ∙ ap₂ with_sum c.as_str-2.ensures c.in_ok-plain.ensures in
    let none : has_float (view c.in_ok-value.value) ≡ false = ap has_float e ∙ link_has_none entry sum refl in
    c.in_ok-text.ensures.text none ∙ ap compact_text e

-- its numbers are `u64`, and its sum is a text
pub returns-clause-reads : goal.returns-clause-reads
unfolding link_text
returns-clause-reads c open_all =
    let sum = c.in_ok-sum.sum in
    let receipt = c.args.receipt.now in
    let entry : Entry = carried (bare receipt) (update (as_changes c.args.changes.now)) done in
    let e : view c.in_ok-value.value ≡ link_data entry sum = c.in_ok-value.ensures ∙ ap₂ with_sum c.as_str-2.ensures c.in_ok-plain.ensures in
    let none : has_float (view c.in_ok-value.value) ≡ false = ap has_float e ∙ link_has_none entry sum refl in
    let text : string_bytes c.in_ok-text.text ≡ link_text entry sum = c.in_ok-text.ensures.text none ∙ ap compact_text e in
    let numbered : nat_lt receipt.number (2 ^ 64) ≡ true = c.is_number.ensures in
    let received : nat_lt receipt.received (2 ^ 64) ≡ true = c.is_number-2.ensures in
    let utf8 : is_utf8 sum ≡ true = is_utf8-from_IsUtf8 sum (subst IsUtf8 c.as_str-2.ensures c.as_str-2.utf8) in
    let said = and_from (can_be_said (as_changes c.args.changes.now)) (is_done done) (c.can_be_said.ensures open_all) refl in
    let written : can_be_written entry ≡ true = and_from (nat_lt receipt.number (2 ^ 64)) _ numbered (and_from (nat_lt receipt.received (2 ^ 64)) _ received said) in
    ap (read_link sum) text ∙ links_back entry sum written utf8
