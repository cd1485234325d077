use Rattle.std.proofs.Common.{◌≡◌, ℕ, List, refl, subst}
use Rattle.clr_chain.specs.Finding.{found_in}
use Rattle.clr_chain.specs.Reading.{IsFound}
use Rattle.clr_chain.specs.declared.finding.Found.{Found}
use Rattle.clr_chain.specs.declared.finding.Found.TheVariants.{Ahead}
use Rattle.clr_chain.proofs.Opened.{all_found, is_opened}
use Rattle.clr_chain.proofs.opening.ahead_on.Goals as goal

pub returns-in-Ahead-clause-opened : goal.returns-in-Ahead-clause-opened
returns-in-Ahead-clause-opened g c clean =
    let seen : List ℕ = g.D.Disk.seen c.args.disk.now in
    let is : c.in_ok-found.field-0.found ≡ Ahead c.in-Ahead.ahead = cc in
    is_opened c.args.place.now seen c.in-Ahead.ahead c.in_ok-found.field-0.len _ (c.in_ok-found.ensures.len clean) refl
    (subst (λ (found : Found). IsFound seen found (found_in c.args.place.now seen)) is (c.in_ok-found.ensures.found clean))

pub returns-in-Ahead-clause-all : goal.returns-in-Ahead-clause-all
returns-in-Ahead-clause-all g c clean =
    let seen : List ℕ = g.D.Disk.seen c.args.disk.now in
    let is : c.in_ok-found.field-0.found ≡ Ahead c.in-Ahead.ahead = cc in
    all_found c.args.place.now seen c.in-Ahead.ahead c.in_ok-found.field-0.len (c.in_ok-found.ensures.len clean)
    (subst (λ (found : Found). IsFound seen found (found_in c.args.place.now seen)) is (c.in_ok-found.ensures.found clean))
