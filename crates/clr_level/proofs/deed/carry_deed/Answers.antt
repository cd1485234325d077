use Rattle.std.proofs.Common.{subst, sym}
use Rattle.clr_changes.specs.Deeds.{deed_of}
use Rattle.clr_changes.specs.declared.deed.Deed.{Deed as SeenDeed}
use Rattle.clr_level.specs.Carrying.{CarriesDeed}
use Rattle.clr_level.proofs.Deeds.{archive_done}
use Rattle.clr_level.proofs.deed.carry_deed.Goals as goal

pub returns-in-Archive-clause-carried : goal.returns-in-Archive-clause-carried
returns-in-Archive-clause-carried g c =
    let new = c.archive_at-came.result.1 in
    let came = c.archive_at-came.result.0 in
    subst
    (λ (d : SeenDeed). CarriesDeed g.K.Commit.kept g.K.Commit.takes g.K.CommitAt.has_place g.K.Commit.fails c.args.desk new (deed_of d)
    c.args.place came)
    (sym c.in-Archive.is)
    (archive_done g.K.Commit.kept g.K.Commit.takes g.K.CommitAt.has_place g.K.Commit.fails c.args.desk new c.in-Archive.before
    c.args.place came c.archive_at-came.ensures.archived)
