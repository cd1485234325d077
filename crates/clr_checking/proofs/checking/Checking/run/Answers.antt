use Rattle.std.proofs.Common.{[], ◌∷◌, ◌++◌, ap, inl, inr, refl, subst, sym}
use Rattle.clr_chain.specs.declared.walk.Walk.{Walk}
use Rattle.clr_journal.specs.Journals.{turn_after, withdraws}
use Rattle.clr_journal.specs.Line.{Entry, entry_of, withdrawn}
use Rattle.clr_checking.specs.CheckingOn.{IsAfter, RunsOn}
use Rattle.clr_checking.specs.declared.fault.CheckFault.TheVariants.{Differs}
use Rattle.clr_checking.proofs.Refused.{RefusesRunning, refuses_more, run_later, shut_settles}
use Rattle.clr_checking.proofs.Results.{if_err, if_err_on, on_any, on_both, on_ok}
use Rattle.clr_checking.proofs.Steps.{carried_runs, line_of, never_first}
use Rattle.clr_checking.proofs.checking.Checking.run.Goals as goal

-- a withdrawal
pub returns-in-Withdrawn-clause-went : goal.returns-in-Withdrawn-clause-went
returns-in-Withdrawn-clause-went c =
    on_ok c.withdraw.result (λ went began first place R entries is runs.
    subst (λ (e : Entry). RunsOn began first place R c.withdraw.new.self (entries ++ e ∷ [])) (sym (ap entry_of c.in-Withdrawn.is))
    (went began first place R entries
    (subst (λ (e : Entry). IsAfter first place c.args.self.now.walk.end.sum e entries) (ap entry_of c.in-Withdrawn.is) is) runs)) c.withdraw.ensures.went

pub returns-in-Withdrawn-clause-kept : goal.returns-in-Withdrawn-clause-kept
returns-in-Withdrawn-clause-kept c =
    on_ok c.withdraw.result (λ was began first place R runs. absurd (never_first began R first place c.args.self.now was runs.over)) c.withdraw.ensures.was_open

pub returns-in-Withdrawn-clause-settled : goal.returns-in-Withdrawn-clause-settled
returns-in-Withdrawn-clause-settled c = on_any c.withdraw.result (inr (ap (λ (e : Entry). withdraws (e ∷ [])) (ap entry_of c.in-Withdrawn.is)))

pub returns-in-Withdrawn-clause-refused : goal.returns-in-Withdrawn-clause-refused
returns-in-Withdrawn-clause-refused c =
    if_err c.withdraw.result (λ fault refuses began first place R entries is runs.
    subst (λ (e : Entry). RefusesRunning began first place R entries e fault) (sym (ap entry_of c.in-Withdrawn.is)) (
      refuses began first place R entries
          (subst (λ (e : Entry). IsAfter first place c.args.self.now.walk.end.sum e entries) (ap entry_of c.in-Withdrawn.is) is) runs,
      shut_settles (turn_after (withdrawn c.in-Withdrawn.number)) fault refl,
    )) c.withdraw.ensures.refused

-- a deed
pub returns-in-Ok-clause-went : goal.returns-in-Ok-clause-went
returns-in-Ok-clause-went c =
    on_both c.take_deed.result (λ took shut began first place R entries is runs.
    subst (λ (e : Entry). RunsOn began first place R c.take_deed.new.self (entries ++ e ∷ [])) (sym (ap entry_of c.in-Carried.is))
    (carried_runs began R first place c.args.self.now c.take_deed.new.self c.in-Carried.one entries c.in-None.is shut
    (λ was. c.take_deed.ensures.stays (c.close.ensures.stays was))
    (took began first place R entries
    (subst (λ (walk : Walk). IsAfter first place walk.end.sum (line_of c.in-Carried.one) entries) (sym c.close.ensures.walk)
    (subst (λ (e : Entry). IsAfter first place c.args.self.now.walk.end.sum e entries) (ap entry_of c.in-Carried.is) is))
    (c.in-Ok.ensures.went began first place R entries c.requires.begun runs.over)) runs)) c.take_deed.ensures.went c.take_deed.ensures.shut

pub returns-in-Ok-clause-settled : goal.returns-in-Ok-clause-settled
returns-in-Ok-clause-settled c = on_any c.take_deed.result (inl c.in-None.is)

pub returns-in-Ok-clause-refused : goal.returns-in-Ok-clause-refused
returns-in-Ok-clause-refused c =
    if_err_on c.take_deed.result (λ fault refuses not began first place R entries is runs.
    subst (λ (e : Entry). RefusesRunning began first place R entries e fault) (sym (ap entry_of c.in-Carried.is)) (
      refuses began first place R entries
          (subst (λ (walk : Walk). IsAfter first place walk.end.sum (line_of c.in-Carried.one) entries) (sym c.close.ensures.walk)
          (subst (λ (e : Entry). IsAfter first place c.args.self.now.walk.end.sum e entries) (ap entry_of c.in-Carried.is) is))
          (c.in-Ok.ensures.went began first place R entries c.requires.begun runs.over),
      shut_settles (turn_after (line_of c.in-Carried.one)) fault not,
    )) c.take_deed.ensures.refused c.take_deed.ensures.unopened

-- the open deed
pub returns-in-Err-clause-refused : goal.returns-in-Err-clause-refused
returns-in-Err-clause-refused c = λ began first place R entries is runs.
    subst (λ (e : Entry). RefusesRunning began first place R entries e c.in-Err.fault) (sym (ap entry_of c.in-Carried.is)) (
      refuses_more began R first place entries (line_of c.in-Carried.one) refl c.in-Err.fault
          (c.in-Err.ensures.refused began first place R entries c.requires.begun runs.over),
      c.in-Err.ensures.shut (turn_after (line_of c.in-Carried.one)),
    )

-- the sum at the line before it was another
pub returns-in-Some-clause-refused : goal.returns-in-Some-clause-refused
returns-in-Some-clause-refused c = λ began first place R entries is runs.
    subst (λ (e : Entry). RefusesRunning began first place R entries e (Differs c.in-Some.number)) (sym (ap entry_of c.in-Carried.is))
    (run_later began R first place c.args.self.now c.in-Carried.one c.in-Some.number entries c.in-Some.is
    (subst (λ (e : Entry). IsAfter first place c.args.self.now.walk.end.sum e entries) (ap entry_of c.in-Carried.is) is) runs)
