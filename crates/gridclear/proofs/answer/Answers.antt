use Rattle.gridclear.proofs.answer.Goals as goal

pub returns-clause-answer : goal.returns-clause-answer
returns-clause-answer g c = c.answer_on.ensures.answer

pub returns-clause-no_words : goal.returns-clause-no_words
returns-clause-no_words g c = c.answer_on.ensures.no_words
