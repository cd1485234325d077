use Rattle.std.proofs.Common.{◌≡◌, ◌∙◌, ap, inl, inr, refl, subst, sym}
use Rattle.std.specs.Prelude.{None, Some}
use Rattle.sqlite.specs.Held.{state}
use Rattle.clr_book.specs.Book.{Shelved}
use Rattle.clr_chain.specs.declared.fault.ChainFault.TheVariants as chain
use Rattle.clr_keeping.specs.TakenUp.{HasPlace, StaysRead}
use Rattle.clr_keeping.proofs.Keeping.{of_place}
use Rattle.clr_commands.proofs.verify.register_of.Goals as goal

-- its place was read
pub returns-in-Some-clause-read : goal.returns-in-Some-clause-read
returns-in-Some-clause-read g c =
    let same : c.end.result ≡ c.in-Ok.desk.store = c.end.ensures.connection ∙ c.parted-book.ensures.kept in (
      ap (λ (b : Shelved). b.register) (c.parted-book.ensures.book ∙ c.in-Ok.ensures.book),
      subst (λ h. HasPlace g.S.Store c.args.desk.store h (Some c.in-Some.place)) (sym same)
          (subst (λ p. HasPlace g.S.Store c.args.desk.store c.in-Ok.desk.store p) c.in-Some.is c.in-Ok.ensures.placed),
      subst (λ h. StaysRead (state g.S.Store c.args.desk.store) (state g.S.Store h)) (sym same) c.in-Ok.ensures.read,
    )

-- it has none
pub returns-in-None-clause-read : goal.returns-in-None-clause-read
returns-in-None-clause-read g c =
    let same : c.end-in-None-2.result ≡ c.in-Ok.desk.store = c.end-in-None-2.ensures.connection ∙ c.end-in-None.ensures in (
      subst (λ h. StaysRead (state g.S.Store c.args.desk.store) (state g.S.Store h)) (sym same) c.in-Ok.ensures.read,
      inr (
        refl,
        subst (λ h. HasPlace g.S.Store c.args.desk.store h None) (sym same)
            (subst (λ p. HasPlace g.S.Store c.args.desk.store c.in-Ok.desk.store p) c.in-None.is c.in-Ok.ensures.placed),
      ),
    )

pub returns-in-None-clause-faults : goal.returns-in-None-clause-faults
returns-in-None-clause-faults g c = inr (inr (inl (chain.OtherRegister, refl)))

-- or the place was not read
pub returns-in-Err-clause-read : goal.returns-in-Err-clause-read
returns-in-Err-clause-read g c = (c.in-Err.ensures.read_too, inl c.in-Err.ensures.lacks)

pub returns-in-Err-clause-faults : goal.returns-in-Err-clause-faults
returns-in-Err-clause-faults g c = of_place g.S.Store c.args.desk.store c.in-Err.fault c.in-Err.connection c.in-Err.ensures.lacks
