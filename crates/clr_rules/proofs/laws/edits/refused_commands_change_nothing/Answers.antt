use Rattle.clr_rules.proofs.edits.Refusing.{refused_by_first_check, refused_changes_nothing}
use Rattle.clr_rules.proofs.laws.edits.refused_commands_change_nothing.Goals as goal

pub returns-clause-check : goal.returns-clause-check
returns-clause-check c = refused_by_first_check

pub returns-clause-nothing : goal.returns-clause-nothing
returns-clause-nothing c = refused_changes_nothing
