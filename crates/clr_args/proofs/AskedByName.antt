-- What the words of a subcommand come to, by its name.
use Rattle.std.proofs.Common.{◌≡◌, subst, sym, List}
use Rattle.std.specs.Prelude.{IfOk, Result}
use Rattle.clap.specs.Words.{Row, Text}
use Rattle.clr_args.specs.Parsed.{IsParsedAs}
use Rattle.clr_args.specs.declared.parsing.Parsed.{Parsed}

-- what is shown of the words of a subcommand holds for each name that is its own
pub of_name : {E : Type 0} (name word : Text) (rows : List Row) (result : Result Parsed E) → name ≡ word → IfOk result (IsParsedAs word rows)
    → IfOk result (IsParsedAs name rows)
of_name {E} name word rows result is asks =
    let P : Text → Type 0 = λ n. IfOk result (IsParsedAs n rows) in subst P (sym is) asks
