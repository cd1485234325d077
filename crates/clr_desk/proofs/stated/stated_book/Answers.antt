use Rattle.std.proofs.Common.{◌∙◌, ap, map, subst, sym}
use Rattle.clr_rules.specs.Edits.{after_edits}
use Rattle.clr_rules.specs.Register.{Register}
use Rattle.clr_load.specs.TypedRows.{IsTyped}
use Rattle.clr_desk.specs.Filling.{hand_edit, position_edit}
use Rattle.clr_desk.proofs.InStates.{stated, stated_typed}
use Rattle.clr_desk.proofs.stated.stated_book.Goals as goal

pub returns-clause-register : goal.returns-clause-register
returns-clause-register c =
    let states = c.args.states.now in
    c.in_ok-put_in_states.ensures.register
    ∙ ap (λ (R : Register). after_edits (map hand_edit states) (after_edits (map position_edit states) R)) c.in_ok-book.ensures.register
    ∙ stated c.args.network c.args.staff states c.is_network.ensures c.requires

pub returns-clause-network : goal.returns-clause-network
returns-clause-network c = c.in_ok-put_in_states.ensures.network ∙ c.in_ok-book.ensures.network

pub returns-clause-typed : goal.returns-clause-typed
returns-clause-typed c =
    let typed = subst IsTyped c.in_ok-book.ensures.register c.in_ok-book.ensures.typed in
    subst IsTyped (sym (returns-clause-register c)) (stated_typed c.args.network c.args.staff c.args.states.now typed c.all_typed.ensures)
