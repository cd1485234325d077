use Rattle.std.proofs.Common.{rules, ◌≡◌, ◌∙◌, ap, []}
use Rattle.std.specs.Prelude.{unwrap_or}
use Rattle.clap.specs.Words.{first_value, found_of}
use Rattle.clr_args.proofs.ArgumentRows.{first_value-rows}
use Rattle.clr_args.proofs.words.word_of.Goals as goal

-- the first value, as the rows have it
pub returns : goal.returns
returns c =
    let found = found_of c.args.matches.now in
    let first : c.unwrap_or.result.now ≡ unwrap_or (first_value found c.args.id.now) [] = search rules in
    first ∙ ap (λ value. unwrap_or value []) (first_value-rows found c.args.id.now)
