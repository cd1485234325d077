use Rattle.std.proofs.Common.{◌≡◌, ◌∙◌, inl, refl}
use Rattle.clr_keeping.specs.TakenUp.{logs}
use Rattle.clr_commands.proofs.PartsAfter.{lacks_plain, over_found}
use Rattle.clr_commands.proofs.part_after.begin_over.Goals as goal

-- the place was read
pub returns-in-Ok-clause-begun : goal.returns-in-Ok-clause-begun
returns-in-Ok-clause-begun g c =
    let same : c.end-in-Ok.result ≡ c.in-Ok.desk.store = c.end-in-Ok.ensures.connection ∙ c.end.ensures in
    over_found g.S.Store (logs g.R.Journals g.R.Log.Journal g.R.Time.Clock.shows) c.args.journal.now c.args.after.now c.begin_found-begun.result
    c.args.rt.now c.begin_found-begun.new.rt c.args.desk.store c.args.desk.book.register c.in-Ok.desk.store c.end-in-Ok.result c.in-Ok.found same
    c.in-Ok.ensures.read c.in-Ok.ensures.placed c.begin_found-begun.ensures.begun

-- or not
pub returns-in-Err-clause-begun : goal.returns-in-Err-clause-begun
returns-in-Err-clause-begun g c = (c.in-Err.ensures.read_too, inl (c.in-Err.ensures.lacks, refl))

pub returns-in-Err-clause-faults : goal.returns-in-Err-clause-faults
returns-in-Err-clause-faults g c = lacks_plain g.S.Store c.args.desk.store c.in-Err.fault c.in-Err.connection c.in-Err.ensures.lacks
