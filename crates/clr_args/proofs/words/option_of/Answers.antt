use Rattle.std.proofs.Common.{rules, ◌≡◌, ◌∙◌}
use Rattle.std.specs.Prelude.{option_map}
use Rattle.clap.specs.Words.{first_value, found_of}
use Rattle.clr_args.proofs.ArgumentRows.{first_value-rows}
use Rattle.clr_args.proofs.words.option_of.Goals as goal

-- the first value, as the rows have it
pub returns : goal.returns
returns c =
    let found = found_of c.args.matches.now in
    let first : option_map (λ word. word.now) c.get_str.result ≡ first_value found c.args.id.now = search rules in
    first ∙ first_value-rows found c.args.id.now
