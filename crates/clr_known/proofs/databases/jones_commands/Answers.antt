use Rattle.std.proofs.Common.{◌∙◌, [], ◌∷◌, ◌++◌, ap, sym, List}
use Rattle.clr_rules.specs.declared.command.Command.{Command}
use Rattle.clr_known.proofs.JonesRegister.{five_commands}
use Rattle.clr_known.proofs.databases.jones_commands.Goals as goal

pub returns : goal.returns
returns c =
    let (q₁, read₁, more₁) = c.in_ok-say.ensures in
    let (q₂, read₂, more₂) = c.in_ok-say-2.ensures in
    let (q₃, read₃, more₃) = c.in_ok-say-3.ensures in
    let (q₄, read₄, more₄) = c.in_ok-say-4.ensures in
    let (q₅, read₅, more₅) = c.in_ok-say-5.ensures in
    more₅ ∙ ap (λ (l : List Command). l ++ q₅ ∷ []) (more₄ ∙ ap (λ (l : List Command). l ++ q₄ ∷ [])
    (more₃ ∙ ap (λ (l : List Command). l ++ q₃ ∷ []) (more₂ ∙ ap (λ (l : List Command). l ++ q₂ ∷ [])
    (more₁ ∙ ap (λ (l : List Command). l ++ q₁ ∷ []) c.new-commands.ensures.items))))
    ∙ sym (five_commands _ _ _ _ _ q₁ q₂ q₃ q₄ q₅ read₁ read₂ read₃ read₄ read₅)
