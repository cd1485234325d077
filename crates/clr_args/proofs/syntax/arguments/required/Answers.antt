use Rattle.std.proofs.Common.{◌≡◌, ◌∙◌, ap, rules, true}
use Rattle.clap.specs.Words.{Rule, new_rule, rule_of}
use Rattle.clr_args.proofs.syntax.arguments.required.Goals as goal

-- the help is no part of the rule
pub returns-clause-rule : goal.returns-clause-rule
returns-clause-rule c =
    let begun : rule_of c.new.result ≡ new_rule c.args.id.now = search rules in
    ap rule_of c.help.ensures ∙ ap rule_of c.required.ensures
    ∙ ap (λ (rule : Rule). record rule { required = true }) begun
