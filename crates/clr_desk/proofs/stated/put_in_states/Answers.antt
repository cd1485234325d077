use Rattle.std.proofs.Common.{◌∙◌, ap, map}
use Rattle.clr_rules.specs.Edits.{after_edits}
use Rattle.clr_desk.specs.Filling.{hand_edit}
use Rattle.clr_desk.proofs.stated.put_in_states.Goals as goal

pub returns-clause-register : goal.returns-clause-register
returns-clause-register c =
    c.in_ok-put_in_hands.ensures.register ∙ ap (after_edits (map hand_edit c.args.states.now)) c.in_ok-put_in_positions.ensures.register

pub returns-clause-network : goal.returns-clause-network
returns-clause-network c = c.in_ok-put_in_hands.ensures.network ∙ c.in_ok-put_in_positions.ensures.network
