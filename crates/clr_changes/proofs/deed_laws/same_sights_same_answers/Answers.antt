use Rattle.clr_changes.proofs.Alike.{same_sights_same_answers}
use Rattle.clr_changes.proofs.CommandsAlike.{commands_show_alike}
use Rattle.clr_changes.proofs.SightFacts.{unseen_deeds_agree}
use Rattle.clr_changes.proofs.deed_laws.same_sights_same_answers.Goals as goal

pub returns-clause-headline : goal.returns-clause-headline
returns-clause-headline c = same_sights_same_answers

pub returns-clause-commands : goal.returns-clause-commands
returns-clause-commands c = commands_show_alike

pub returns-clause-unseen : goal.returns-clause-unseen
returns-clause-unseen c = unseen_deeds_agree
