use Rattle.std.proofs.Common.{◌≡◌, ◌∙◌, subst}
use Rattle.std.specs.Prelude.{⊤}
use Rattle.clr_changes.specs.Archive.{archived}
use Rattle.clr_desk.specs.Renewing.{ComesTo}
use Rattle.clr_desk.specs.declared.desk.Desk.{Desk}
use Rattle.clr_desk.proofs.Renewed.{one_desk}
use Rattle.clr_desk.proofs.desk.Desk.archive_at.Goals as goal

pub returns-in-Ok-clause-archived : goal.returns-in-Ok-clause-archived
returns-in-Ok-clause-archived g c =
    let same : c.of.result ≡ c.args.self =
    one_desk c.of.result c.args.self (c.of.ensures.book ∙ c.parted-book.ensures.book) (c.of.ensures.store ∙ c.parted-book.ensures.kept) (c.of.ensures.faults ∙ c.faults-faults.ensures) in
    subst (λ (d : Desk _). ComesTo g.K.Commit.kept g.K.CommitAt.has_place g.K.Commit.fails ⊤ d c.leave_at.result.1 (archived c.args.before d.book.register) c.args.place.now c.leave_at.result.0)
    same c.leave_at.ensures.archived
