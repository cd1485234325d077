use Rattle.std.proofs.Common.{◌∙◌, ap, sym, ok_or}
use Rattle.clr_rules.specs.declared.clearance_id.IdFault.TheVariants.{BadId}
use Rattle.clr_rules.proofs.IdTexts.{read_if_bad, read_if_ok}
use Rattle.clr_rules.proofs.clearance_id.ClearanceId.read.Goals as goal

pub returns-clause-text : goal.returns-clause-text
returns-clause-text c = read_if_ok c.args.text.now c.read_id.result c.ok_or.result (sym c.read_id.ensures) c.ok_or.ensures.value

pub returns-clause-bad : goal.returns-clause-bad
returns-clause-bad c = read_if_bad c.args.text.now c.ok_or.result (c.ok_or.ensures.value ∙ ap (λ o. ok_or o BadId) c.read_id.ensures)
