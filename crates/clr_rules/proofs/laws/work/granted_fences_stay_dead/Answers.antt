use Rattle.clr_rules.proofs.good.DeadWork.{granted_fences_stay_dead, granted_work_is_dead}
use Rattle.clr_rules.proofs.laws.work.granted_fences_stay_dead.Goals as goal

pub returns-clause-fence : goal.returns-clause-fence
returns-clause-fence c = granted_fences_stay_dead

pub returns-clause-work : goal.returns-clause-work
returns-clause-work c = granted_work_is_dead
