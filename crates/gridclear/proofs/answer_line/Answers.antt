use Rattle.gridclear.proofs.answer_line.Goals as goal

pub returns-clause-answer : goal.returns-clause-answer
returns-clause-answer g c = c.answer.ensures.answer

pub returns-clause-no_words : goal.returns-clause-no_words
returns-clause-no_words g c = c.answer.ensures.no_words

pub returns-clause-reported : goal.returns-clause-reported
returns-clause-reported g c = c.answer.ensures.reported
