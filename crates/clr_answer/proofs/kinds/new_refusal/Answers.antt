use Rattle.clr_answer.proofs.kinds.new_refusal.Goals as goal

-- whether the point can be locked or moved from afar refuses nothing
pub returns-in-Jumper : goal.returns-in-Jumper
returns-in-Jumper c = rw c.in-Jumper.is (c.refusal_of-in-Jumper.ensures c.in-Jumper.lockable c.in-Jumper.remote)
