use Rattle.gridclear.proofs.program.Goals as goal

-- the status alone is taken from what is said of the answer
pub returns : goal.returns
returns c = rw c.exit_code.ensures c.answer_line-status.ensures.status
