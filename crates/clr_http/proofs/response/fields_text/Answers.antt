use Rattle.std.proofs.Common.{rules, append_assoc}
use Rattle.clr_http.proofs.response.fields_text.Goals as goal

pub returns : goal.returns
returns c = search (append_assoc, rules)
