-- The register that the commands of JONES/1 leave.
use Rattle.std.proofs.Common.{arith, ◌≡◌, ◌∙◌, [], ◌∷◌, ap, length, List, map, ℕ, Option, None, Ok, refl, subst, true}
use Rattle.std.specs.Prelude.{IfNone}
use Rattle.std.specs.Char.{encode_utf8}
use Rattle.std.specs.Fmt.{digits}
use Rattle.std.specs.List.{list_all}
use Rattle.std.specs.Str.{chars, is_utf8}
use Rattle.std.proofs.lemmas.List.{take_all}
use Rattle.json.specs.Print.{escape_byte}
use Rattle.clr_rules.proofs.Common.{and_parts}
use Rattle.clr_rules.specs.Register.{Register}
use Rattle.clr_rules.specs.Run.{after_all}
use Rattle.clr_rules.specs.RunHeadline.{IsRun, with_reply}
use Rattle.clr_examples.specs.Worked.{from_moment, s2_opened, worked_opening}
use Rattle.clr_rules.specs.declared.command.Command.{Command}
use Rattle.clr_rules.specs.declared.reply.Reply.{Reply}
use Rattle.clr_text.specs.CommandText.{can_be_sent, command_text}
use Rattle.clr_text.specs.Lines.{commands_in, with_command}
use Rattle.clr_text.specs.Reading.{read_command}
use Rattle.clr_text.proofs.CommandsRead.{commands_read_back}
use Rattle.clr_known.specs.Known.{jones_lines, jones_register}

pub when_none : {X : Type 0} (found : Option X) (P : Type 0) → found ≡ None → IfNone found P → P
when_none {X} found P none is = subst (λ (o : Option X). IfNone o P) none is

-- five lines that read as commands
pub five_commands : (l₁ l₂ l₃ l₄ l₅ : List ℕ) (q₁ q₂ q₃ q₄ q₅ : Command)
    → read_command l₁ ≡ Ok q₁ → read_command l₂ ≡ Ok q₂ → read_command l₃ ≡ Ok q₃ → read_command l₄ ≡ Ok q₄ → read_command l₅ ≡ Ok q₅
    → commands_in (l₁ ∷ l₂ ∷ l₃ ∷ l₄ ∷ l₅ ∷ []) ≡ q₁ ∷ q₂ ∷ q₃ ∷ q₄ ∷ q₅ ∷ []
unfolding commands_in
five_commands l₁ l₂ l₃ l₄ l₅ q₁ q₂ q₃ q₄ q₅ e₁ e₂ e₃ e₄ e₅ = rw (e₁, e₂, e₃, e₄, e₅) refl

-- each command has a reply, so all of them were carried out
pub left_by_run : (R S : Register) (commands : List Command) (told : List Reply) → R ≡ worked_opening → commands ≡ commands_in jones_lines
    → length told ≡ length commands → IsRun R (with_reply commands told) told S → S ≡ jones_register
unfolding jones_register
left_by_run R S commands told opened said all run =
    let whole : with_reply commands told ≡ commands = take_all (length told) commands (omega (arith, all)) in
    run.register ∙ ap (after_all R) (whole ∙ said) ∙ ap (λ (r : Register). after_all r (commands_in jones_lines)) opened

-- ---- what the lines ask
abbrev pub jones_commands : List Command
jones_commands = from_moment 100 s2_opened

can_each_be_sent : list_all can_be_sent jones_commands ≡ true
unfolding is_utf8 chars encode_utf8
can_each_be_sent = refl

texts_known : map command_text jones_commands ≡ jones_lines
unfolding digits escape_byte
texts_known = refl

texts_read : (commands : List Command) → list_all can_be_sent commands ≡ true → commands_in (map command_text commands) ≡ commands
unfolding commands_in
texts_read [] all = refl
texts_read (q ∷ commands) all =
    let (here, later) = and_parts (can_be_sent q) (list_all can_be_sent commands) all in
    ap (λ read. with_command read (commands_in (map command_text commands))) (commands_read_back q here) ∙ ap (λ l. q ∷ l) (texts_read commands later)

pub lines_ask : commands_in jones_lines ≡ jones_commands
lines_ask = subst (λ lines. commands_in lines ≡ jones_commands) texts_known (texts_read jones_commands can_each_be_sent)
