use Rattle.std.proofs.Common.{IfOk, inl, refl, subst, sym}
use Rattle.std.proofs.Common.{le_refl}
use Rattle.std.proofs.lemmas.Bool.{iff_false}
use Rattle.sqlite.proofs.FileLemmas.{fails_wider, once_named, same_image}
use Rattle.sqlite.specs.Files.{IsTooLong}
use Rattle.clr_disk.specs.Opened.{IsOpenedOver, IsUnmade}
use Rattle.clr_disk.proofs.Making.{made_over, opened_over}
use Rattle.clr_disk.proofs.create.over_files.Goals as goal

-- the files were read, and have none
pub make-requires-clause-unmade : goal.make-requires-clause-unmade
make-requires-clause-unmade g c clean =
    let read = c.is_unmade.ensures in
    subst IsUnmade (sym (same_image read.log read.db)) ((c.in-Ok-true.ensures.ok clean).0 c.in-Ok-true.field-0-test)

pub returns-in-Ok-true-clause-unharmed : goal.returns-in-Ok-true-clause-unharmed
returns-in-Ok-true-clause-unharmed g c =
    let read = c.is_unmade.ensures in
    made_over c.args.files c.is_unmade.new.files read.log read.db c.make.result c.make.ensures.unharmed c.make.ensures.cause

pub returns-in-Ok-true-clause-over : goal.returns-in-Ok-true-clause-over
returns-in-Ok-true-clause-over g c =
    let read = c.is_unmade.ensures in
    subst (λ i. IfOk c.make.result (λ it. IsOpenedOver i it)) (same_image read.log read.db) c.make.ensures.over

-- or they have one, or something else
pub returns-in-Ok-false-clause-over : goal.returns-in-Ok-false-clause-over
returns-in-Ok-false-clause-over g c =
    let read = c.is_unmade.ensures in
    subst (λ i. IfOk c.open_held.result (λ it. IsOpenedOver i it)) (same_image read.log read.db) c.open_held.ensures.over

pub returns-in-Ok-false-clause-unharmed : goal.returns-in-Ok-false-clause-unharmed
returns-in-Ok-false-clause-unharmed g c =
    let read = c.is_unmade.ensures in
    opened_over c.args.files c.is_unmade.new.files read.log read.db c.open_held.result
    (λ clean unmade. iff_false (c.in-Ok-false.ensures.ok clean) c.in-Ok-false.field-0-test (subst IsUnmade (same_image read.log read.db) unmade))
    c.open_held.ensures.unharmed c.open_held.ensures.cause

pub returns-in-Err-clause-unharmed : goal.returns-in-Err-clause-unharmed
returns-in-Err-clause-unharmed g c =
    let read = c.is_unmade.ensures in
    record {
      read = c.args.files;
      log = record { seen = refl; clean = λ h. h; usable = c.requires.log; key = refl; rot = refl; crash = λ _ h. h };
      db = record { seen = refl; clean = λ h. h; usable = c.requires.db; key = refl; rot = refl; crash = λ _ h. h };
      unharmed = λ _. inl (λ image may. (read.log.crash _ may.0, read.db.crash _ may.1));
      cause = λ clean. rw (c.by_name.ensures.value, c.name_fault-kind.ensures.value, c.tally-before.ensures, c.tally.ensures)
          (once_named _ _ _ _ _ c.in-Err.error (fails_wider _ _ _ _ _ _ _ _ (le_refl _) (subst IsTooLong (sym (same_image read.log read.db))) (λ _. tt) (c.in-Err.ensures.cause clean)));
    }
