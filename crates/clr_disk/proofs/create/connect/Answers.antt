use Rattle.std.proofs.Common.{arith, sym, ap, subst, ◌∙◌, inr}
use Rattle.std.proofs.lemmas.Result.{err_from_is_err_and}
use Rattle.sqlite.proofs.FileLemmas.{from_connection}
use Rattle.sqlite.proofs.ListingLemmas.{empty_is_sound}
use Rattle.sqlite.specs.Files.{IsEmpty}
use Rattle.sqlite_store.specs.FileStore.{view as shown}
use Rattle.sqlite_store.specs.Laws.{settled_at}
use Rattle.sqlite_trees.proofs.Doubt.{clean_of as sure, no_doubt}
use Rattle.clr_disk.proofs.Making.{is_made}
use Rattle.clr_disk.proofs.create.connect.Goals as goal

pub over-requires : goal.over-requires
over-requires g c none = (c.in_ok-store.ensures.ok (sure _ none)).fresh

-- what a connection that was just opened shows
pub returns-in-Ok-clause-over : goal.returns-in-Ok-clause-over
returns-in-Ok-clause-over g c = record {
  new = c.in-Ok.ensures.fresh;
  opened = λ now. c.in-Ok.ensures.opens now;
  found = λ now.
      let made = c.in_ok-store.ensures.ok (sure (shown c.in_ok-store.store).is_clean (omega (arith, c.in-Ok.ensures.clean))) in
      let trees = sym (ap (λ d. d.trees) (c.in-Ok.ensures.opens now).0.clean) ∙ c.in-Ok.ensures.trees now in
      let unmade = c.requires.unmade made.honest in
      record { holds = λ db held. absurd (is_made _ db held unmade); reads = inr (unmade, subst IsEmpty (sym trees) made.empty) };
  guarded = λ now. c.in-Ok.ensures.shield (c.in_ok-store.ensures.guarded (sure (shown c.in_ok-store.store).is_clean (omega (arith, c.in-Ok.ensures.clean))));
}

pub returns-in-Err-clause-cause : goal.returns-in-Err-clause-cause
returns-in-Err-clause-cause g c late =
    let now = no_doubt _ late in
    let made = c.in_ok-store.ensures.ok (sure (shown c.in_ok-store.store).is_clean (omega (arith, c.in-Err.ensures.unharmed.clean))) in
    rw c.unnamed.ensures.value (from_connection _ _ _ _ _ c.in-Err.error made.counts c.in-Err.ensures.unharmed.counts
    (λ _. (_, empty_is_sound _ made.empty.1)) (c.in-Err.ensures.err now))

-- it leaves an empty one
pub returns-in-Err-clause-unharmed : goal.returns-in-Err-clause-unharmed
returns-in-Err-clause-unharmed g c late =
    let now = no_doubt _ late in
    let made = c.in_ok-store.ensures.ok (sure (shown c.in_ok-store.store).is_clean (omega (arith, c.in-Err.ensures.unharmed.clean))) in
    inr (
      c.requires.unmade made.honest,
      λ found may.
          let is = settled_at c.in_ok-store.store g.met.D.Disk.seen_may_stay found made.is_open (c.in-Err.ensures.unharmed.outcomes found may) ∙ sym made.fresh.clean in
          subst IsEmpty (sym is) made.empty,
    )

pub returns-in_err-store-clause-unharmed : goal.returns-in_err-store-clause-unharmed
returns-in_err-store-clause-unharmed g c =
    let p = err_from_is_err_and c.from_residual.result c.from_residual.ensures.1 in
    rw (p.1, p.2) (c.in_err-store.ensures.unharmed)

pub returns-in_err-store-clause-cause : goal.returns-in_err-store-clause-cause
returns-in_err-store-clause-cause g c =
    let p = err_from_is_err_and c.from_residual.result c.from_residual.ensures.1 in
    rw (p.1, p.2) (c.in_err-store.ensures.cause)
