use Rattle.clr_level.proofs.Restarts.{restarts_level}
use Rattle.clr_level.proofs.Safes.{due_is_safe, safe_is_kept}
use Rattle.clr_level.proofs.laws.restarts_keep_level.Goals as goal

pub returns-clause-safe : goal.returns-clause-safe
returns-clause-safe g c =
    safe_is_kept g.K.Commit.takes g.K.Commit.kept g.K.CommitAt.has_place g.C.Clock.shows g.J.Journal.text g.J.Journal.found g.J.Journal.may_leave g.J.Journal.is_usable

pub returns-clause-due : goal.returns-clause-due
returns-clause-due g c = due_is_safe g.K.Commit.kept g.K.CommitAt.has_place g.J.Journal.text g.J.Journal.may_leave

pub returns-clause-opened : goal.returns-clause-opened
returns-clause-opened g c = restarts_level
