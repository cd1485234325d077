-- A command line that is written down: each subcommand is added to it.
use Rattle.std.proofs.Common.{◌≡◌, ◌∙◌, ap, ap₂, subst, true}
use Rattle.std.specs.Prelude.{IfOk, Result, Ok, Err}
use Rattle.clap.specs.Words.{AddsSubcommand, App, Shape, app_of, shape_of, with_subcommand}
use Rattle.clap.specs.declared.builder.command.Command.{Command}
use Rattle.clap.proofs.SimpleLemmas.{plain_fields}
use Rattle.clr_args.specs.Syntax.{IsWritten}

-- what was written down
pub of_ok : {E : Type 0} (command : Command) (written : Result Command E) (app : App) → written ≡ Ok command → IsWritten app written → app_of command ≡ app
of_ok {E} command written app is was =
    let P : Result Command E → Type 0 = λ r. IsWritten app r in subst P is was

-- a subcommand that is a plain one has no global argument
pub with_plain : {E : Type 0} (old added : Command) (app sub : App) (result : Result Command E) → IfOk result (AddsSubcommand old added)
    → sub.top.is_plain ≡ true → app_of old ≡ app → app_of added ≡ sub → IsWritten (with_subcommand app sub.top) result
with_plain old added app sub (Ok new) adds plain was is =
    let shape_is : shape_of added ≡ sub.top = ap (λ (a : App). a.top) is in
    let fields = plain_fields added (ap (λ (s : Shape). s.is_plain) shape_is ∙ plain) in
    adds.shape fields.globals ∙ ap₂ with_subcommand was shape_is
with_plain old added app sub (Err e) adds plain was is = tt
