use Rattle.std.proofs.Common.{◌≡◌, ◌∙◌, ℕ, List, Option, subst, sym}
use Rattle.clr_journal.specs.Lines.{unfinished}
use Rattle.clr_chain.specs.Reading.{EndsAlike, seen_sought}
use Rattle.clr_chain.proofs.Seeking.{seeks_on}
use Rattle.clr_chain.proofs.sought.seek.Goals as goal

pub loop-text-preserved : goal.loop-text-preserved
loop-text-preserved c =
    let l = c.loop-text in
    let rest : unfinished c.in-Some.after.now ≡ unfinished c.args.bytes.now = sym c.in-Some.ensures.rest ∙ l.invariant.rest in
    record {
      found = seeks_on c.args.place.now l.rest.now c.in-Some.text.now c.in-Some.after.now (seen_sought l.last) _ _ _ c.in-Some.ensures.some c.in_ok-sought_at.ensures.found
          c.or_later-last.ensures.found l.invariant.found;
      rest = rest;
      alike = c.or_later-last.ensures.rest (unfinished c.args.bytes.now)
          (subst (λ (r : Option (List ℕ)). EndsAlike r c.in_ok-sought_at.field-0) rest c.in_ok-sought_at.ensures.rest) l.invariant.alike;
    }
