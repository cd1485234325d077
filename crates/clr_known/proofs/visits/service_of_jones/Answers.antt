use Rattle.clr_keeping.specs.TakenUp.{logs}
use Rattle.clr_edge.specs.Paths.{at_paths}
use Rattle.clr_known.proofs.KnownVisits.{given_all, service_given}
use Rattle.clr_known.proofs.visits.service_of_jones.Goals as goal

pub returns : goal.returns
returns g c = given_all _ c.serve.result (λ none still.
    service_given g.R.Tables.Store g.met.R.JonesMachine.clean g.R.Databases.opens g.R.Databases.shuts g.R.Databases.ends g.met.R.JonesMachine.knows
    (logs g.R.Journals g.R.Log.Journal g.R.Time.Clock.shows) g.R.Loopback _ g.R.JonesMachine.response g.met.R.JonesMachine.asked
    (at_paths g.O.File.Read.remaining g.O.File.CountedRead.failure_count (g.O.Opens.bytes_at c.args.paths.now)) c.args.args.now
    c.requires _ _ _ _ none still c.serve.result c.args.machine.now c.serve.new.rt c.serve.ensures.visit)
