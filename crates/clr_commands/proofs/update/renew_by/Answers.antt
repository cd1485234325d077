use Rattle.std.proofs.Common.{◌≡◌, sym, subst}
use Rattle.clr_level.specs.Journaling.{FailsToo}
use Rattle.clr_update.specs.Shown.{as_changes}
use Rattle.clr_edge.specs.declared.fault.Fault.TheVariants.{Memory}
use Rattle.clr_commands.specs.Update.{IsRenewed, Texts}
use Rattle.clr_commands.proofs.Updating.{are_said, levels_alike, memory_told, renewed_with, unrenewed}
use Rattle.clr_commands.proofs.update.renew_by.Goals as goal

-- the line was noted, and the changes were made
pub returns-in-Ok-clause-renewed : goal.returns-in-Ok-clause-renewed
returns-in-Ok-clause-renewed g c u staffed accepted same =
    subst (λ (it : Texts). IsRenewed g.K.Commit.kept g.K.CommitAt.has_place g.K.Commit.fails g.C.Clock.shows g.J.Journal c.args.desk c.renew-came.result.1 u it) (sym c.reported.ensures)
    (renewed_with g.K.Commit.kept g.K.CommitAt.has_place g.K.Commit.fails g.C.Clock.shows g.J.Journal
    u (as_changes c.args.changes) c.in-Ok.lines c.args.desk c.renew-came.result.1 c.renew-came.result.0 c.updates_keep_good.ensures.good c.changes_say_all.ensures
    staffed accepted same (are_said c.args.desk.book.register u (as_changes c.args.changes) accepted same c.can_be_said.ensures) c.in-Ok.ensures c.renew-came.ensures.renewed)

pub returns-in-Ok-clause-level : goal.returns-in-Ok-clause-level
returns-in-Ok-clause-level g c = c.renew-came.ensures.level

pub returns-in-Ok-clause-sound : goal.returns-in-Ok-clause-sound
returns-in-Ok-clause-sound g c = c.renew-came.ensures.renewed.journals.sound

pub returns-in-Ok-clause-safe : goal.returns-in-Ok-clause-safe
returns-in-Ok-clause-safe g c = c.renew-came.ensures.safe

-- memory ran out before it
pub returns-in-Err-clause-renewed : goal.returns-in-Err-clause-renewed
returns-in-Err-clause-renewed g c u staffed accepted same =
    unrenewed g.K.Commit.kept g.K.CommitAt.has_place g.K.Commit.fails g.C.Clock.shows g.J.Journal c.args.desk u Memory (memory_told (FailsToo g.K.Commit.fails) c.args.desk.book.register u)

pub returns-in-Err-clause-level : goal.returns-in-Err-clause-level
returns-in-Err-clause-level g c = levels_alike g.K.Commit.kept g.K.CommitAt.has_place g.J.Journal.text c.args.desk

pub returns-in-Err-clause-sound : goal.returns-in-Err-clause-sound
returns-in-Err-clause-sound g c sound = sound

pub returns-in-Err-clause-safe : goal.returns-in-Err-clause-safe
returns-in-Err-clause-safe g c first start good level safe = safe
