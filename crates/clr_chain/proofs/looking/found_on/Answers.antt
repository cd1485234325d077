use Rattle.std.proofs.Common.{◌≡◌, ◌∙◌, ℕ, List, Some, ap, ap₂, bytes_eq, length, subst, sym, true}
use Rattle.std.proofs.lemmas.Result.{IfOk-weaker}
use Rattle.clr_chain.proofs.Cutting.{found_no_first}
use Rattle.clr_chain.proofs.Ending.{unread_within}
use Rattle.clr_chain.specs.Finding.{first_of, found_in}
use Rattle.clr_chain.specs.Reading.{IsFound}
use Rattle.clr_chain.proofs.looking.found_on.Goals as goal

pub returns-then-is_same-clause-found : goal.returns-then-is_same-clause-found
returns-then-is_same-clause-found g c =
    let first = c.in-Some.first in
    let same = c.in_ok-first.ensures.read.same in
    let ids : bytes_eq first.id c.args.place.now.id ≡ true =
    sym (c.is_same.ensures ∙ ap₂ bytes_eq (c.as_bytes.ensures.value ∙ c.as_str.ensures) (c.as_bytes-2.ensures.value ∙ c.as_str-2.ensures)) ∙ c.if-is_same.true in
    IfOk-weaker c.look_back.result _ _
    (λ found h clean all.
    let there : first_of (g.D.Disk.seen c.args.disk.now) ≡ Some first =
    sym (c.in_ok-first.ensures.first (c.look_back.ensures.read.clean clean) all) ∙ c.in-Some.is in
    subst (λ (bytes : List ℕ). IsFound bytes found (found_in c.args.place.now bytes)) same
    (h clean (all ∙ sym (ap length same)) (ap first_of same ∙ there) ids))
    c.look_back.ensures.found

pub returns-in_default-clause-found : goal.returns-in_default-clause-found
returns-in_default-clause-found g c clean all =
    found_no_first c.args.place.now (g.D.Disk.seen c.args.disk.now) c.found_unread.result c.in_ok-first.other (sym (c.in_ok-first.ensures.first clean all) ∙ c.in_default.is)
    (c.in_ok-first.ensures.other clean all) c.found_unread.ensures

pub returns-in_default-clause-within : goal.returns-in_default-clause-within
returns-in_default-clause-within g c = unread_within c.found_unread.result c.in_ok-first.other c.args.len c.found_unread.ensures
