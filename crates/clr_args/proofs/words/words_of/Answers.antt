use Rattle.std.proofs.Common.{rules, ◌≡◌, ◌∙◌, ap, [], map}
use Rattle.std.specs.Prelude.{option_map, unwrap_or}
use Rattle.clap.specs.Words.{found_of, matched_of, raw_values, rows_of}
use Rattle.clr_args.specs.ArgumentWords.{words_in}
use Rattle.clr_args.proofs.ArgumentRows.{raw_values-rows}
use Rattle.clr_args.proofs.words.words_of.Goals as goal

-- the values, as the rows have them
pub returns : goal.returns
returns c =
    let found = found_of c.args.matches.now in
    let given : map (λ word. word.now) c.unwrap_or-given.result.now ≡ unwrap_or (option_map raw_values (matched_of found c.args.id.now)) [] = search rules in
    let all : map (λ word. word.now) c.unwrap_or-given.result.now ≡ words_in (rows_of found) c.args.id.now =
    given ∙ ap (λ values. unwrap_or values []) (raw_values-rows found c.args.id.now) in
    search (rules, all)
