use Rattle.clr_rules.proofs.edits.Refusing.{accepted_passes_checks, added_passes_checks, shown_changes_nothing}
use Rattle.clr_rules.proofs.laws.edits.accepted_commands_pass_all_checks.Goals as goal

pub returns-clause-shown : goal.returns-clause-shown
returns-clause-shown c = shown_changes_nothing

pub returns-clause-accepted : goal.returns-clause-accepted
returns-clause-accepted c = accepted_passes_checks

pub returns-clause-added : goal.returns-clause-added
returns-clause-added c = added_passes_checks
