use Rattle.std.proofs.Common.{◌∙◌, ap}
use Rattle.std.specs.List.{list_any}
use Rattle.std.specs.Str.{bytes_eq}
use Rattle.clr_text.specs.Keys.{key_text}
use Rattle.clr_text.proofs.KeyLists.{any_of_keys}
use Rattle.clr_text.proofs.reading.is_known.Goals as goal

pub returns : goal.returns
returns c =
    let text = c.args.text.now in
    c.is_among.ensures ∙ ap (list_any (λ key. bytes_eq text (key_text key))) c.keys.ensures ∙ any_of_keys c.args.word text
