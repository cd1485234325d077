use Rattle.clr_order.proofs.StepTexts.{only_step_texts_are_read, step_texts_are_read}
use Rattle.clr_order.proofs.laws.step_texts_are_read.Goals as goal

pub returns-clause-read : goal.returns-clause-read
returns-clause-read c = step_texts_are_read

pub returns-clause-alone : goal.returns-clause-alone
returns-clause-alone c = only_step_texts_are_read
