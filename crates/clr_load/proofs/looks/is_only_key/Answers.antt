use Rattle.std.proofs.Common.{◌≡◌, ◌∙◌, [], ◌∷◌, ap, refl, rules, sym}
use Rattle.clr_load.proofs.Alike.{only_one}
use Rattle.clr_load.proofs.looks.is_only_key.Goals as goal

pub returns : goal.returns
returns c =
    let one = only_one c.as_slice.result.now c.only-item.result c.in-len1.len_at_least c.in-len1.len_below c.only-item.is in
    let same : c.only-item.result ≡ c.args.key.now = search rules in
    (λ _. sym c.as_slice.ensures ∙ one ∙ ap (λ k. k ∷ []) same, λ _. refl)
