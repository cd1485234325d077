use Rattle.std.proofs.Common.{◌∙◌, ap}
use Rattle.clr_book.specs.Growth.{network_after_all}
use Rattle.clr_rules.specs.Edits.{after_edits, fit}
use Rattle.clr_desk.proofs.Filling.{positions_keep, positions_taken}
use Rattle.clr_desk.proofs.stated.put_in_positions.Goals as goal

pub make-requires : goal.make-requires
make-requires c =
    let net = c.args.book.now.register.net in
    ap (fit net) c.in_ok-positions.ensures ∙ positions_taken net c.args.states.now

pub returns-clause-register : goal.returns-clause-register
returns-clause-register c = c.in_ok-make.ensures.register ∙ ap (λ edits. after_edits edits c.args.book.now.register) c.in_ok-positions.ensures

pub returns-clause-network : goal.returns-clause-network
returns-clause-network c =
    let before = c.args.book.now.network in
    c.in_ok-make.ensures.network ∙ ap (λ edits. network_after_all edits before) c.in_ok-positions.ensures ∙ positions_keep before c.args.states.now
