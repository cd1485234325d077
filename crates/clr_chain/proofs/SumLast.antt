-- The sum is the last key of a carried line, so its text with the sum is the text without it, with
-- the sum put in before the closing brace.
use Rattle.std.proofs.Common.{◌≡◌, ◌∙◌, ◌<◌, ◌-◌, ℕ, Bool, false, true, List, [], ◌∷◌, ◌++◌, ap, arith, codes, length, refl, sym, take}
use Rattle.std.proofs.lemmas.List.{append_assoc, length-append}
use Rattle.std.proofs.Math.Seq.{get_or-append_seam, take-append_seam}
use Rattle.std.specs.Prelude.{slice_index}
use Rattle.json.specs.Print.{escape_byte, quoted}
use Rattle.serde_json.specs.Data.{Data, Members, member, no_members, string}
use Rattle.serde_json.specs.Written.{comma_if, compact_text, members_text}
use Rattle.clr_changes.specs.Deeds.{command}
use Rattle.clr_rules.specs.declared.command.Command.{Command}
use Rattle.clr_text.specs.CommandText.{command_data}
use Rattle.clr_text.specs.Json.{optional_data, whole_data}
use Rattle.clr_journal.specs.Line.{carried, line_text}
use Rattle.clr_journal.specs.declared.line.Receipt.{Receipt}
use Rattle.clr_chain.specs.Link.{link_text}

-- the text of these members, and then `end`
abbrev members_then : List ℕ → Bool → Members → List ℕ
members_then end later no_members = end
members_then end later (member k d ms) = comma_if later ++ (quoted k ++ 58 ∷ (compact_text d ++ members_then end true ms))

end_last : (end : List ℕ) (later : Bool) (ms : Members) → members_then end later ms ≡ members_then [] later ms ++ end
end_last end later no_members = refl
end_last end later (member k d ms) =
    let more = members_then [] true ms in
    ap (λ t. comma_if later ++ (quoted k ++ 58 ∷ (compact_text d ++ t))) (end_last end true ms)
    ∙ sym (append_assoc (comma_if later) (quoted k ++ 58 ∷ (compact_text d ++ more)) end
    ∙ ap (λ t. comma_if later ++ t) (append_assoc (quoted k) (58 ∷ (compact_text d ++ more)) end
    ∙ ap (λ t. quoted k ++ 58 ∷ t) (append_assoc (compact_text d) more end)))

abbrev carried_members : Receipt → Command → Data → Members
carried_members receipt q reply =
    member (codes "command") (command_data q)
    (member (codes "login") (optional_data string receipt.login)
    (member (codes "number") (whole_data receipt.number)
    (member (codes "received") (whole_data receipt.received)
    (member (codes "reply") reply no_members))))

-- the text of a carried line without its sum, up to the closing brace
pub open_line : Receipt → Command → Data → List ℕ
open_line receipt q reply = 123 ∷ members_then [] false (carried_members receipt q reply)

pub line_is_closed : (receipt : Receipt) (q : Command) (reply : Data) → line_text (carried receipt (command q) reply) ≡ open_line receipt q reply ++ 125 ∷ []
unfolding open_line
line_is_closed receipt q reply = ap (λ t. 123 ∷ t) (end_last (125 ∷ []) false (carried_members receipt q reply))

abbrev sum_member : List ℕ → List ℕ
sum_member sum = members_text true (member (codes "sum") (string sum) no_members)

sum_text : (sum : List ℕ) → sum_member sum ≡ codes ",\"sum\":" ++ (quoted sum ++ 125 ∷ [])
unfolding escape_byte
sum_text sum = refl

link_is_closed : (receipt : Receipt) (q : Command) (reply : Data) (sum : List ℕ) → link_text (carried receipt (command q) reply) sum ≡ open_line receipt q reply ++ sum_member sum
unfolding link_text open_line
link_is_closed receipt q reply sum = ap (λ t. 123 ∷ t) (end_last (sum_member sum) false (carried_members receipt q reply))

-- these bytes after it are the text with the sum
pub sum_is_last : (receipt : Receipt) (q : Command) (reply : Data) (sum : List ℕ)
    → open_line receipt q reply ++ codes ",\"sum\":" ++ quoted sum ++ codes "}" ≡ link_text (carried receipt (command q) reply) sum
sum_is_last receipt q reply sum =
    let front = open_line receipt q reply in
    append_assoc (front ++ codes ",\"sum\":") (quoted sum) (codes "}") ∙ append_assoc front (codes ",\"sum\":") (quoted sum ++ codes "}")
    ∙ ap (λ t. front ++ t) (sym (sum_text sum)) ∙ sym (link_is_closed receipt q reply sum)

-- the last byte of a text that a brace closes, and the bytes before it
pub without_brace : (text front : List ℕ) (n : ℕ) → text ≡ front ++ 125 ∷ [] → length text ≡ n
    → (0 < n) × (slice_index text (n - 1) < 128) × (take (n - 1) text ≡ front)
without_brace text front n is long =
    let long = sym long ∙ ap length is ∙ length-append front (125 ∷ []) in
    let cut : n - 1 ≡ length front = omega (arith, long) in
    let last : slice_index text (n - 1) ≡ 125 = rw (is, cut) (get_or-append_seam front 125 [] 0) in
    (omega (arith, long), omega (arith, last), rw (is, cut) (take-append_seam front (125 ∷ [])))
