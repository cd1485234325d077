use Rattle.std.proofs.Common.{◌≡◌, ◌∙◌, inl, inr, refl, subst, sym}
use Rattle.std.specs.Prelude.{Some}
use Rattle.sqlite.specs.Held.{Held, state}
use Rattle.clr_keeping.specs.TakenUp.{HasPlace, StaysRead}
use Rattle.clr_keeping.proofs.taking_up.unlogged.Goals as goal

-- it has no journal
pub returns-in-None-clause-placed : goal.returns-in-None-clause-placed
returns-in-None-clause-placed g c =
    subst (λ p. HasPlace g.S.Store c.args.desk.store c.in-Ok.desk.store p) c.in-None.is c.in-Ok.ensures.placed

-- or it has one, or its place was not read
pub returns-in-Some-clause-missing : goal.returns-in-Some-clause-missing
returns-in-Some-clause-missing g c =
    let same : c.end-in-Some.result ≡ c.in-Ok.desk.store = c.end-in-Some.ensures.connection ∙ c.end.ensures in
    inr (
      refl,
      c.in-Some._place,
      subst (λ h. HasPlace g.S.Store c.args.desk.store h (Some c.in-Some._place)) (sym same)
          (subst (λ p. HasPlace g.S.Store c.args.desk.store c.in-Ok.desk.store p) c.in-Some.is c.in-Ok.ensures.placed),
    )

pub returns-in-Some-clause-read_too : goal.returns-in-Some-clause-read_too
returns-in-Some-clause-read_too g c =
    let same : c.end-in-Some.result ≡ c.in-Ok.desk.store = c.end-in-Some.ensures.connection ∙ c.end.ensures in
    subst (λ h. StaysRead (state g.S.Store c.args.desk.store) (state g.S.Store h)) (sym same) c.in-Ok.ensures.read

pub returns-in-Err-clause-missing : goal.returns-in-Err-clause-missing
returns-in-Err-clause-missing g c = inl c.in-Err.ensures.lacks
