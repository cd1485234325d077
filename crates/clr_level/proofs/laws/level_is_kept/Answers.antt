use Rattle.clr_level.proofs.Levels.{level_is_kept, settled_says}
use Rattle.clr_level.proofs.Sounds.{sound_is_kept}
use Rattle.clr_level.proofs.laws.level_is_kept.Goals as goal

pub returns-clause-kept : goal.returns-clause-kept
returns-clause-kept g c =
    level_is_kept g.K.Commit.takes g.K.Commit.kept g.K.CommitAt.has_place g.C.Clock.shows g.J.Journal.text g.J.Journal.found g.J.Journal.may_leave g.J.Journal.is_usable

pub returns-clause-sound : goal.returns-clause-sound
returns-clause-sound g c =
    sound_is_kept g.K.Commit.takes g.K.Commit.kept g.K.CommitAt.has_place g.C.Clock.shows g.J.Journal.text g.J.Journal.found g.J.Journal.may_leave g.J.Journal.is_usable

pub returns-clause-settled : goal.returns-clause-settled
returns-clause-settled g c = settled_says g.K.Commit.kept g.K.CommitAt.has_place g.J.Journal.text
