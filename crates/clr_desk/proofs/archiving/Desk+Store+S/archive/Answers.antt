use Rattle.std.proofs.Common.{None, map, subst}
use Rattle.sqlite.specs.Held.{state}
use Rattle.clr_book.specs.Book.{Shelved}
use Rattle.clr_changes.specs.Archive.{steps_that_go}
use Rattle.clr_rules.specs.StepKey.{step_key}
use Rattle.clr_store.specs.StepsTaken.{without_steps}
use Rattle.clr_store.specs.Transaction.{PlacesAs, Transacts}
use Rattle.clr_desk.specs.Faults.{IsOfCommand}
use Rattle.clr_desk.proofs.archiving.Desk+Store+S.archive.Goals as goal

pub returns : goal.returns
returns g c =
    let new = state g.S.Store c.archive_tables-done.new.store in
    subst (λ h. Transacts (PlacesAs None) (λ _ _. IsOfCommand) (state g.S.Store h) new (without_steps (map step_key (steps_that_go c.args.before c.args.self.book.register))) c.archive_tables-done.result)
    c.parted-book.ensures.kept
    (subst (λ (b : Shelved). Transacts (PlacesAs None) (λ _ _. IsOfCommand) (state g.S.Store c.parted-book.result.1) new
    (without_steps (map step_key (steps_that_go c.args.before b.register))) c.archive_tables-done.result) c.parted-book.ensures.book
    c.archive_tables-done.ensures)
