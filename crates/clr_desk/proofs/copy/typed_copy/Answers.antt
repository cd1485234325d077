use Rattle.std.proofs.Common.{◌∙◌}
use Rattle.std.proofs.lemmas.Result.{IfOk-weaker}
use Rattle.clr_load.specs.RowsRead.{rows_of}
use Rattle.clr_desk.proofs.Filled.{opens_again, register_of}
use Rattle.clr_desk.proofs.copy.typed_copy.Goals as goal

pub returns-in-Ok-clause-register : goal.returns-in-Ok-clause-register
returns-in-Ok-clause-register c good =
    let R = c.args.book.now.register in
    let lists = c.in_ok-lists.ensures in
    let shelves = c.in_ok-shelves.ensures in
    IfOk-weaker c.refilled.result _ _
    (λ copy is. (opens_again R good).register copy.register
    (register_of (rows_of R) _ _ _ _ _ _ _ c.in-Ok.bare.register copy.register
    lists.sections lists.points (c.deref.ensures.value ∙ lists.states) lists.staff shelves.put_records shelves.put_steps shelves.put_holds
    c.in-Ok.ensures.register is))
    c.refilled.ensures.register

pub returns-in-Ok-clause-typed : goal.returns-in-Ok-clause-typed
returns-in-Ok-clause-typed c = c.refilled.ensures.typed c.in-Ok.ensures.typed
