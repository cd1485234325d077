use Rattle.std.proofs.Common.{subst, sym}
use Rattle.clr_load.specs.TypedRows.{IsTyped}
use Rattle.clr_desk.proofs.TypedRegisters.{opening_typed}
use Rattle.clr_desk.proofs.book.opening_book.Goals as goal

pub returns-clause-typed : goal.returns-clause-typed
returns-clause-typed c =
    subst IsTyped (sym c.in_ok-book.ensures.register)
    (opening_typed c.args.network c.args.staff c.typed.ensures c.typed-2.ensures)
