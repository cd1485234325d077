use Rattle.std.proofs.Common.{◌∙◌, ap, map, subst, sym}
use Rattle.clr_rules.specs.Edits.{after_edits}
use Rattle.clr_load.specs.TypedRows.{IsTyped}
use Rattle.clr_desk.specs.Filling.{hand_edit}
use Rattle.clr_desk.proofs.TypedRegisters.{handed_typed}
use Rattle.clr_desk.proofs.opening.handed_book.Goals as goal

pub returns-clause-register : goal.returns-clause-register
returns-clause-register c =
    c.in_ok-put_in_hands.ensures.register ∙ ap (after_edits (map hand_edit c.args.states.now)) c.in_ok-book.ensures.register

pub returns-clause-network : goal.returns-clause-network
returns-clause-network c = c.in_ok-put_in_hands.ensures.network ∙ c.in_ok-book.ensures.network

pub returns-clause-typed : goal.returns-clause-typed
returns-clause-typed c =
    subst IsTyped (sym c.in_ok-put_in_hands.ensures.register)
    (handed_typed c.args.states.now c.in_ok-book.book.register c.all_typed.ensures c.in_ok-book.ensures.typed)
