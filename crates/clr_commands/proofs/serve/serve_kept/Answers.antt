use Rattle.std.proofs.Common.{◌≡◌, refl}
use Rattle.clr_keeping.specs.TakenUp.{logs}
use Rattle.clr_edge.specs.Visit.{first_fault}
use Rattle.clr_keeping.proofs.Keeping.{not_worked, worked}
use Rattle.clr_commands.specs.Connections.{seen}
use Rattle.clr_commands.specs.Serve.{ServesDesk}
use Rattle.clr_commands.proofs.serve.serve_kept.Goals as goal

-- the register was taken up and served
pub returns : goal.returns
returns g c =
    let output = g.W.CountedWrite.stream c.args.output.now in
    let errors = g.E.CountedWrite.stream c.args.errors.now in
    let output' = g.W.CountedWrite.stream c.serve_opened-served.new.output in
    let errors' = g.E.CountedWrite.stream c.serve_opened-served.new.errors in
    record {
      visit =
          worked g.R.Tables.Store g.R.Databases.opens g.R.Databases.shuts
          (λ old path fault new. g.R.Databases.shuts old path fault new × (output' ≡ output) × (errors' ≡ errors))
          g.R.Databases.ends c.args.args.now.database.now ((output' ≡ output) × (errors' ≡ errors)) first_fault (logs g.R.Journals g.R.Log.Journal g.R.Time.Clock.shows)
          (λ K keeper. ServesDesk g.R.Loopback (seen g.R.Reader.Read.remaining g.R.Reader.CountedRead.failure_count g.R.Writer.CountedWrite.stream)
          c.args.args.now c.args.logins output output' errors errors' keeper)
          c.args.args.now.journal c.serve_opened-served.result _ c.args.rt.now c.take_up.new.rt c.serve_opened-served.new.net c.let_go-closed.new.rt
          c.in_ok-opened.opened c.serve_opened-served.new.opened c.let_go-closed.result c.in_ok-opened.ensures.up c.serve_opened-served.ensures.served
          c.serve_opened-served.ensures.level c.let_go-closed.ensures c.first_fault.ensures;
    }

-- the register was not taken up
pub returns-in_err-opened : goal.returns-in_err-opened
returns-in_err-opened g c =
    let output = g.W.CountedWrite.stream c.args.output.now in
    let errors = g.E.CountedWrite.stream c.args.errors.now in
    record {
      visit =
          not_worked g.R.Tables.Store g.R.Databases.opens g.R.Databases.shuts
          (λ old path fault new. g.R.Databases.shuts old path fault new × (output ≡ output) × (errors ≡ errors))
          g.R.Databases.ends c.args.args.now.database.now ((output ≡ output) × (errors ≡ errors)) first_fault (logs g.R.Journals g.R.Log.Journal g.R.Time.Clock.shows)
          (λ K keeper. ServesDesk g.R.Loopback (seen g.R.Reader.Read.remaining g.R.Reader.CountedRead.failure_count g.R.Writer.CountedWrite.stream)
          c.args.args.now c.args.logins output output errors errors keeper)
          c.args.args.now.journal _ c.args.rt.now c.take_up.new.rt _ c.from_residual.ensures.1 (λ closed. refl) (refl, refl)
          (λ cause shut. (shut, refl, refl)) c.in_err-opened.ensures.none;
    }
