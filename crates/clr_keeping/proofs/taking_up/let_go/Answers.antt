use Rattle.clr_keeping.specs.TakenUp.{logs}
use Rattle.clr_keeping.proofs.LetGo.{gone_alone, gone_beside}
use Rattle.clr_keeping.proofs.taking_up.let_go.Goals as goal

-- its journal was let go first
pub returns-in-Some : goal.returns-in-Some
returns-in-Some g c =
    gone_beside _ (logs g.R.Journals g.R.Log.Journal g.R.Time.Clock.shows) _ _ _ _ _ _ _ _ c.in-Some.is c.ended-connection.ensures c.let_journal_go.ensures c.close.ensures

-- or it has none
pub returns-in-None : goal.returns-in-None
returns-in-None g c =
    gone_alone _ (logs g.R.Journals g.R.Log.Journal g.R.Time.Clock.shows) _ _ _ _ _ _ c.in-None.is c.ended-connection.ensures c.close-in-None.ensures
