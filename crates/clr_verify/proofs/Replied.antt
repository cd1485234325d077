-- Replies against those of lines.
use Rattle.std.proofs.Common.{◌≡◌, ◌∙◌, ◌≤◌, ℕ, Bool, true, false, List, Some, ap, sym}
use Rattle.std.proofs.lemmas.Bool.{true≢false}
use Rattle.std.proofs.lemmas.Cmp.{nat_list_eq_equiv}
use Rattle.std.specs.Prelude.{unwrap_or}
use Rattle.serde_json.specs.Data.{Data, depth}
use Rattle.serde_json.specs.Read.{read}
use Rattle.serde_json.specs.Written.{compact_text, has_float}
use Rattle.clr_net.specs.Name.{same_name}
use Rattle.clr_verify.specs.Replies.{DecidesReply}
use Rattle.clr_verify.proofs.Exact.{one_name}

-- the texts decide
pub by_texts : (d r : Data) (a b : List ℕ) (same : Bool) → has_float r ≡ false → same ≡ same_name a b → (has_float d ≡ false → a ≡ compact_text d)
    → (depth d ≤ 127 → read a ≡ Some d) → b ≡ compact_text r → read b ≡ Some r → DecidesReply d r same
by_texts d r a b true whole is written reads own own_reads = λ flat.
    let one = one_name a b (sym is) in
    let both = sym (reads flat) ∙ ap read one ∙ own_reads in
    ap (λ found. unwrap_or found d) both
by_texts d r a b false whole is written reads own own_reads = λ e.
    let none : has_float d ≡ false = ap has_float e ∙ whole in
    let one : a ≡ b = written none ∙ ap compact_text e ∙ sym own in
    true≢false (sym (nat_list_eq_equiv.refl b) ∙ ap (λ text. same_name text b) (sym one) ∙ sym is)
