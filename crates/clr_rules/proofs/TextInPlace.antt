-- A text that is written in place, without memory.
use Rattle.std.proofs.Common.{◌≡◌, ◌∙◌, ℕ, List, [], ◌∷◌, ◌++◌, ap, append_assoc, append-nil, subst, sym}
use Rattle.std.specs.List.{FoldsTo, concat}
use Rattle.std.specs.Fmt.{WritesInCalls}
use Rattle.std.specs.Fmt.InlineText.{AppendsIfIntact, IsIntact, inline_text}
use Rattle.std.specs.declared.fmt.InlineText.{InlineText}

text_after : {n : ℕ} (s : InlineText n) (parts : List (List ℕ)) (t : InlineText n) → FoldsTo AppendsIfIntact s parts t → AppendsIfIntact s (concat parts) t
text_after s [] t same intact = (subst IsIntact same intact, ap inline_text (sym same) ∙ sym (append-nil (inline_text s)))
text_after s (part ∷ parts) t calls intact =
    let first = calls.1 intact in
    let rest = text_after calls.0 parts t calls.2 first.0 in
    (rest.0, rest.1 ∙ ap (λ l. l ++ concat parts) first.1 ∙ append_assoc (inline_text s) part (concat parts))

-- a text that took some bytes is what it was, and then those bytes
pub text_after_calls : {n : ℕ} (s : InlineText n) (bs : List ℕ) (t : InlineText n) → WritesInCalls AppendsIfIntact s bs t → IsIntact s → inline_text t ≡ inline_text s ++ bs
text_after_calls s bs t wrote intact = (subst (λ l. AppendsIfIntact s l t) wrote.whole (text_after s wrote.parts t wrote.calls) intact).1
