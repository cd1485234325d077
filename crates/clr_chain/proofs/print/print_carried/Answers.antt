use Rattle.std.proofs.Common.{◌≡◌, ◌∙◌, ◌++◌, false, ap, ap₂, codes, length, string_bytes, sym}
use Rattle.std.specs.String.{string_len}
use Rattle.json.specs.Print.{quoted}
use Rattle.serde_json.specs.Data.{string}
use Rattle.serde_json.specs.View.{view}
use Rattle.serde_json.specs.Written.{compact_text, has_float}
use Rattle.clr_text.specs.Replies.{reply_data}
use Rattle.clr_chain.proofs.SumLast.{line_is_closed, open_line, sum_is_last, without_brace}
use Rattle.clr_chain.proofs.print.print_carried.Goals as goal

pub returns-clause-text : goal.returns-clause-text
returns-clause-text c =
    let receipt = c.args.receipt.now in
    let q = c.args.command.now in
    let reply = reply_data c.args.reply.now in
    let sum = c.in_ok-sum.sum in
    let front = open_line receipt q reply in
    let line = c.in_ok-text.ensures.text ∙ line_is_closed receipt q reply in
    let long = ap length (sym c.as_bytes-2.ensures.value) ∙ c.as_bytes-2.ensures.len in
    let ends = without_brace (string_bytes c.in_ok-text.text) front (string_len c.in_ok-text.text) line long in
    let cut : string_bytes c.pop.new.self ≡ front = c.pop.ensures.ascii_bytes ends.0 ends.1 ∙ ends.2 in
    let value : view c.in_ok-value.value ≡ string sum = c.in_ok-value.ensures ∙ ap string c.as_str-2.ensures in
    let none : has_float (view c.in_ok-value.value) ≡ false = ap has_float value in
    let text : string_bytes c.in_ok-quoted.quoted ≡ quoted sum = c.in_ok-quoted.ensures.text none ∙ ap compact_text value in
    let key : string_bytes c.push_str.new.self ≡ front ++ codes ",\"sum\":" =
    c.in_ok-push_str.ensures.bytes ∙ ap (λ bytes. bytes ++ codes ",\"sum\":") cut in
    let member : string_bytes c.push_str-2.new.self ≡ front ++ codes ",\"sum\":" ++ quoted sum =
    c.in_ok-push_str-2.ensures.bytes ∙ ap₂ (λ bytes more. bytes ++ more) key (c.as_str-3.ensures.value ∙ text) in
    c.in_ok-push_str-3.ensures.bytes ∙ ap (λ bytes. bytes ++ codes "}") member ∙ sum_is_last receipt q reply sum
