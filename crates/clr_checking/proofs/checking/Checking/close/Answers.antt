use Rattle.std.proofs.Common.{◌≡◌, ◌∙◌, IfSome, Option, Some, rules, subst, sym}
use Rattle.clr_journal.specs.declared.line.Carried.{Carried}
use Rattle.clr_verify.specs.Replay.{IsAccepted}
use Rattle.clr_checking.proofs.Refused.{answers_settle, carried_else, closed_else, compares_settle}
use Rattle.clr_checking.proofs.Results.{if_err, on_both}
use Rattle.clr_checking.proofs.Steps.{closed_on}
use Rattle.clr_checking.proofs.checking.Checking.close.Goals as goal

pub returns-in-Ok-clause-went : goal.returns-in-Ok-clause-went
returns-in-Ok-clause-went c = on_both c.compare_at.result (λ now unmet began first place R entries begun over.
    closed_on began R first place c.args.self.now c.carry_out.new.self c.compare_at.new.self c.take.new.self c.in-Some.one entries (search rules)
    (sym c.take.ensures.value ∙ c.in-Some.is) c.requires.settled c.requires.ready.accepted c.in-Ok.ensures.reply c.in-Ok.ensures.register
    c.in-Ok.ensures.count c.carry_out.ensures.others begun now unmet c.compare_at.ensures.stays c.compare_at.ensures.others over)
    c.compare_at.ensures.met c.compare_at.ensures.unmet

-- the tables differ
pub returns-in-Ok-clause-refused : goal.returns-in-Ok-clause-refused
returns-in-Ok-clause-refused c =
    let some : c.args.self.now.last ≡ Some c.in-Some.one = sym c.take.ensures.value ∙ c.in-Some.is in
    if_err c.compare_at.result (λ fault else began first place R entries begun over.
    closed_else began R first place c.args.self.now c.carry_out.new.self c.take.new.self c.in-Some.one entries fault some c.requires.settled
    (subst (λ (o : Option Carried). IfSome o IsAccepted) some c.requires.ready.accepted) c.in-Ok.ensures.reply c.in-Ok.ensures.register c.carry_out.ensures.others else over)
    c.compare_at.ensures.fault

-- the reply does
pub returns-in-Err-clause-refused : goal.returns-in-Err-clause-refused
returns-in-Err-clause-refused c = λ began first place R entries begun over.
    let some : c.args.self.now.last ≡ Some c.in-Some.one = sym c.take.ensures.value ∙ c.in-Some.is in
    carried_else began R first place c.args.self.now c.in-Some.one entries c.in-Err.fault some
    (subst (λ (o : Option Carried). IfSome o IsAccepted) some c.requires.ready.accepted) c.in-Err.ensures.fault over

-- neither is of a sum
pub returns-in-Ok-clause-shut : goal.returns-in-Ok-clause-shut
returns-in-Ok-clause-shut c = if_err c.compare_at.result (compares_settle c.carry_out.new.self _) c.compare_at.ensures.fault

pub returns-in-Err-clause-shut : goal.returns-in-Err-clause-shut
returns-in-Err-clause-shut c = answers_settle c.args.self.now.desk.book.register c.in-Some.one c.in-Err.fault c.in-Err.ensures.fault
