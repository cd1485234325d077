use Rattle.std.proofs.Common.{◌≡◌, ◌∙◌, ap, inr, subst, sym}
use Rattle.sqlite.specs.Held.{Held, state}
use Rattle.sqlite.specs.State.{Survives}
use Rattle.clr_book.specs.Book.{Shelved}
use Rattle.clr_rules.specs.Fit.{IsFit}
use Rattle.clr_desk.specs.Kept.{Keeps}
use Rattle.clr_desk.specs.Taking.{PassesOver}
use Rattle.clr_desk.specs.declared.desk.Desk.{Desk}
use Rattle.clr_level.specs.Crash.{AreRolled}
use Rattle.clr_level.specs.Forward.{CanBeOpened, StopsAt}
use Rattle.clr_level.specs.Journaling.{HasText}
use Rattle.clr_level.proofs.Rolling.{rolls_keep}
use Rattle.clr_level.proofs.Staffing.{rolls_fit}
use Rattle.clr_keeping.specs.TakenUp.{entries_of, store_place}
use Rattle.clr_keeping.proofs.taking_up.taken_up.Goals as goal

-- what was accepted after the place was carried out
pub returns-in-Ok-clause-kept : goal.returns-in-Ok-clause-kept
returns-in-Ok-clause-kept g c =
    let led = c.in-Ok.ensures.led in
    let old = state g.S.Store c.args.desk.store in
    let R = c.args.desk.book.register in
    let keeps = rolls_keep (λ h. state g.S.Store h) PassesOver store_place c.args.desk led.before led.led in
    subst (λ (b : Shelved). Keeps old R (state g.S.Store c.in-Ok.desk.store.keeper) b.register) (sym led.book)
    (subst (λ h. Keeps old R (state g.S.Store h) led.before.book.register) (sym led.keeper) keeps)

-- it stays fit
pub returns-in-Ok-clause-fit : goal.returns-in-Ok-clause-fit
returns-in-Ok-clause-fit g c fit =
    let led = c.in-Ok.ensures.led in
    subst (λ (b : Shelved). IsFit b.register) (sym led.book)
    (rolls_fit (λ h. state g.S.Store h) PassesOver store_place c.args.desk led.before led.led fit)

-- and the place is after it
pub returns-in-Ok-clause-rolled : goal.returns-in-Ok-clause-rolled
returns-in-Ok-clause-rolled g c = λ good begins shallow at.
    (c.in-Ok.ensures.rolled good begins shallow at, c.in-Ok.ensures.placed good begins shallow at)

pub returns-in-Ok-clause-level : goal.returns-in-Ok-clause-level
returns-in-Ok-clause-level g c first start good can =
    c.in-Ok.ensures.level first start good
    (subst
    (λ (j : _). CanBeOpened store_place first start c.args.place c.args.desk.book.register (state g.S.Store c.args.desk.store) (g.J.Journal.text j)
    (entries_of c.args.opened.ahead))
    c.in-Ok.ensures.journal can)

pub returns-in-Ok-clause-sound : goal.returns-in-Ok-clause-sound
returns-in-Ok-clause-sound g c has =
    c.in-Ok.ensures.sound (subst (λ (j : _). HasText g.J.Journal.text g.J.Journal.found j) c.in-Ok.ensures.journal has)

-- a crash leaves a front of the lines
pub returns-in-Ok-clause-left : goal.returns-in-Ok-clause-left
returns-in-Ok-clause-left g c = c.in-Ok.ensures.left

-- or a line stopped it
pub returns-clause-stops : goal.returns-clause-stops
returns-clause-stops g c good =
    let same : c.end-in-Err.result ≡ c.in-Err.desk.store = c.end-in-Err.ensures.connection ∙ c.end.ensures in
    let old = state g.S.Store c.args.desk.store in
    let R = c.args.desk.book.register in
    let S = c.in-Err.desk.book.register in
    record {
      cause = c.in-Err.fault;
      fault_is = c.of_opening.ensures;
      of = c.in-Err.ensures.fault;
      register = S;
      kept = subst (λ h. Keeps old R (state g.S.Store h) S) (sym same)
          (rolls_keep (λ h. state g.S.Store h) PassesOver store_place c.args.desk c.in-Err.desk c.in-Err.ensures.back);
      stops = λ begins shallow at.
          subst (λ h. StopsAt store_place R c.args.place (entries_of c.args.opened.ahead) c.in-Err.fault S (state g.S.Store h)) (sym same)
          (c.in-Err.ensures.stops good begins shallow at);
      left =
          subst (λ h. Survives old (state g.S.Store h) (AreRolled store_place old R c.args.place (entries_of c.args.opened.ahead))) (sym same)
          c.in-Err.ensures.left_too;
      unchanged = λ n is.
          let back = c.in-Err.ensures.unchanged n is in (
            ap (λ (d : Desk (Held g.row.S.Denot)). d.book.register) back,
            same ∙ ap (λ (d : Desk (Held g.row.S.Denot)). d.store) back,
          );
    }

-- its fault is that of the opening
pub returns-clause-fault : goal.returns-clause-fault
returns-clause-fault g c = inr (inr (inr (c.in-Err.fault, c.of_opening.ensures)))
