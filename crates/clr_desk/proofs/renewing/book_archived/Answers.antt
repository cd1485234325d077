use Rattle.std.proofs.Common.{subst, sym}
use Rattle.clr_load.specs.TypedRows.{IsTyped}
use Rattle.clr_desk.proofs.Archived.{typed_archived}
use Rattle.clr_desk.proofs.renewing.book_archived.Goals as goal

pub returns-clause-typed : goal.returns-clause-typed
returns-clause-typed c =
    subst IsTyped (sym c.in_ok-left.ensures.register) (typed_archived c.args.before c.in_ok-copy.copy.register c.in_ok-copy.ensures.typed)
