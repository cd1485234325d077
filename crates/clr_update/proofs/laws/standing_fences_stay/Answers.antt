use Rattle.clr_update.proofs.Agreeing.{same_staff_agrees, standing_fences_stay, unseen_updates_agree}
use Rattle.clr_update.proofs.laws.standing_fences_stay.Goals as goal

pub returns-clause-network : goal.returns-clause-network
returns-clause-network c = standing_fences_stay

pub returns-clause-unseen : goal.returns-clause-unseen
returns-clause-unseen c = unseen_updates_agree

pub returns-clause-same_staff : goal.returns-clause-same_staff
returns-clause-same_staff c = same_staff_agrees
