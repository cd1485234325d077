use Rattle.std.proofs.Common.{◌≡◌, ◌∙◌, [], ◌∷◌, ◌++◌, ap, inl, inr, refl, subst, sym}
use Rattle.clr_journal.specs.Journals.{turn_after, withdraws}
use Rattle.clr_journal.specs.Line.{Entry, entry_of, withdrawn}
use Rattle.clr_journal.specs.declared.reading.Turn.{Turn}
use Rattle.clr_checking.specs.Checking.{NoneHas}
use Rattle.clr_checking.specs.CheckingOn.{IsAfter, Settles}
use Rattle.clr_checking.specs.declared.fault.CheckFault.TheVariants.{Differs}
use Rattle.clr_checking.proofs.Results.{if_err, if_err_both, on_any, on_ok}
use Rattle.clr_checking.proofs.Coming.{line_at, waits_off, waits_settled}
use Rattle.clr_checking.proofs.Refused.{RefusesWaiting, copy_later, shut_settles}
use Rattle.clr_checking.proofs.Steps.{line_of}
use Rattle.clr_checking.proofs.checking.Checking.wait.Goals as goal

-- a deed
pub returns-clause-waited : goal.returns-clause-waited
returns-clause-waited c =
    let entry : Entry = entry_of c.args.line in
    let one = c.in-Carried.one in
    on_ok c.begin_at-in-None.result (λ waited copied at first place R before is w.
    waited copied at first place R (before ++ entry ∷ [])
    (line_at first place entry (line_of one) one.receipt.number c.args.self.now.walk.end.sum before (ap entry_of c.in-Carried.is) refl is)
    (waits_settled copied R at first place c.args.self.now before (before ++ entry ∷ []) c.in-None.is w)) c.begin_at-in-None.ensures.waited

pub returns-clause-passed : goal.returns-clause-passed
returns-clause-passed c =
    on_ok c.begin_at-in-None.result (λ passed at some settled.
    subst (λ (e : Entry). NoneHas at.number (e ∷ [])) (sym (ap entry_of c.in-Carried.is)) (passed at some settled, tt)) c.begin_at-in-None.ensures.passed

pub returns-clause-settled : goal.returns-clause-settled
returns-clause-settled c = on_any c.begin_at-in-None.result (inl c.in-None.is)

pub returns-clause-refused : goal.returns-clause-refused
returns-clause-refused c =
    let entry : Entry = entry_of c.args.line in
    let one = c.in-Carried.one in
    let turn : record { last = one.receipt.number; is_open = c.is_accepted.result } ≡ turn_after entry =
    (λ i. record { last = one.receipt.number; is_open = c.is_accepted.ensures i }) ∙ ap turn_after (sym (ap entry_of c.in-Carried.is)) in
    if_err_both c.begin_at-in-None.result (λ fault refuses shut copied at first place R before is w. (
      refuses copied at first place R (before ++ entry ∷ [])
          (line_at first place entry (line_of one) one.receipt.number c.args.self.now.walk.end.sum before (ap entry_of c.in-Carried.is) refl is)
          (waits_settled copied R at first place c.args.self.now before (before ++ entry ∷ []) c.in-None.is w),
      subst (λ (t : Turn). Settles t fault) turn shut,
    )) c.begin_at-in-None.ensures.refused_from c.begin_at-in-None.ensures.shut

-- the sum at the line before it was another
pub returns-in-Some-clause-refused : goal.returns-in-Some-clause-refused
returns-in-Some-clause-refused c = λ copied at first place R before is w.
    subst (λ (e : Entry). RefusesWaiting copied at first place R before e (Differs c.in-Some.number)) (sym (ap entry_of c.in-Carried.is))
    (copy_later copied R at first place c.args.self.now c.in-Carried.one c.in-Some.number before c.in-Some.is
    (subst (λ (e : Entry). IsAfter first place c.args.self.now.walk.end.sum e before) (ap entry_of c.in-Carried.is) is) w)

-- a withdrawal
pub returns-in-Withdrawn-clause-waited : goal.returns-in-Withdrawn-clause-waited
returns-in-Withdrawn-clause-waited c =
    let entry : Entry = entry_of c.args.line in
    let n = c.in-Withdrawn.number in
    on_ok c.begin_at.result (λ waited copied at first place R before is w.
    waited copied at first place R (before ++ entry ∷ [])
    (line_at first place entry (withdrawn n) n c.args.self.now.walk.end.sum before (ap entry_of c.in-Withdrawn.is) refl is)
    (waits_off copied R at first place c.args.self.now before (before ++ entry ∷ []) w)) c.begin_at.ensures.waited

pub returns-in-Withdrawn-clause-passed : goal.returns-in-Withdrawn-clause-passed
returns-in-Withdrawn-clause-passed c =
    on_ok c.begin_at.result (λ passed at some settled.
    subst (λ (e : Entry). NoneHas at.number (e ∷ [])) (sym (ap entry_of c.in-Withdrawn.is)) (passed at some settled, tt)) c.begin_at.ensures.passed

pub returns-in-Withdrawn-clause-settled : goal.returns-in-Withdrawn-clause-settled
returns-in-Withdrawn-clause-settled c = on_any c.begin_at.result (inr (ap (λ (e : Entry). withdraws (e ∷ [])) (ap entry_of c.in-Withdrawn.is)))

pub returns-in-Withdrawn-clause-refused : goal.returns-in-Withdrawn-clause-refused
returns-in-Withdrawn-clause-refused c =
    let entry : Entry = entry_of c.args.line in
    let n = c.in-Withdrawn.number in
    if_err c.begin_at.result (λ fault refuses copied at first place R before is w. (
      refuses copied at first place R (before ++ entry ∷ [])
          (line_at first place entry (withdrawn n) n c.args.self.now.walk.end.sum before (ap entry_of c.in-Withdrawn.is) refl is)
          (waits_off copied R at first place c.args.self.now before (before ++ entry ∷ []) w),
      shut_settles (turn_after entry) fault (ap (λ (e : Entry). (turn_after e).is_open) (ap entry_of c.in-Withdrawn.is)),
    )) c.begin_at.ensures.refused_from
