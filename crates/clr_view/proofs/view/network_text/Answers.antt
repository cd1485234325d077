use Rattle.std.proofs.Common.{◌∙◌, ◌++◌, ap}
use Rattle.json.specs.Print.{print}
use Rattle.serde_json.proofs.Texts.{print-outline}
use Rattle.clr_view.specs.Tokens.{Adds, data_tokens}
use Rattle.clr_view.specs.View.{network_data}
use Rattle.clr_view.proofs.view.network_text.Goals as goal

pub returns : goal.returns
returns g c =
    let R = c.args.book.now.register in
    let all : Adds (data_tokens (network_data R)) c.new-out.result c.push_network.new.out = c.in_ok-push_network.ensures in
    c.text_of.ensures
    ∙ ap print (all.tokens ∙ ap (λ l. l ++ data_tokens (network_data R)) c.new-out.ensures.tokens)
    ∙ print-outline (network_data R)
