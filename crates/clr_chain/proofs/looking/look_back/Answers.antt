use Rattle.std.proofs.Common.{◌∙◌, ℕ, List, ap, length, subst, sym}
use Rattle.std.proofs.lemmas.Result.{IfOk-weaker}
use Rattle.clr_chain.specs.Finding.{found_in}
use Rattle.clr_chain.specs.Reading.{IsFound}
use Rattle.clr_chain.proofs.looking.look_back.Goals as goal

pub returns-clause-found : goal.returns-clause-found
returns-clause-found g c =
    let same = c.loop-size.invariant.read.same in
    IfOk-weaker c.look_at_all.result _ _
    (λ found h clean all at is. subst (λ (bytes : List ℕ). IsFound bytes found (found_in c.args.place.now bytes)) same (h clean (all ∙ sym (ap length same))))
    c.look_at_all.ensures.found
