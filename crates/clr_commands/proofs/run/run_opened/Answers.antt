use Rattle.clr_commands.proofs.LevelStays.{level_stays}
use Rattle.clr_commands.proofs.run.run_opened.Goals as goal

-- with a journal, each command went by the keeper that keeps them level
pub returns-in-Logged-clause-level : goal.returns-in-Logged-clause-level
returns-in-Logged-clause-level g c =
    rw c.in-Logged.is (level_stays g.K.Commit.takes g.K.Commit.kept g.K.CommitAt.has_place g.C.Clock.shows g.J.Journal c.level_is_kept.ensures.kept
    c.level_is_kept.ensures.sound c.restarts_keep_level.ensures.safe _ _ _ c.run_taken_up-in-Logged.ensures.ran.led)
