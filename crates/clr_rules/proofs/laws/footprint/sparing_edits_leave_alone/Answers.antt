use Rattle.clr_rules.proofs.isolation.Sparing.{sparing_edits_keep_outlook, sparing_edits_leave_alone}
use Rattle.clr_rules.proofs.laws.footprint.sparing_edits_leave_alone.Goals as goal

pub returns-clause-frame : goal.returns-clause-frame
returns-clause-frame c = sparing_edits_leave_alone

pub returns-clause-outlook : goal.returns-clause-outlook
returns-clause-outlook c = sparing_edits_keep_outlook
