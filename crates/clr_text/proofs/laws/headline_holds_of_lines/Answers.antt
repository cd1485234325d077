use Rattle.clr_text.proofs.LineReplies.{others_lines_take_nothing, own_lines_alone, same_bytes}
use Rattle.clr_text.proofs.laws.headline_holds_of_lines.Goals as goal

pub returns-clause-same : goal.returns-clause-same
returns-clause-same c = same_bytes c.same_shown_same_answers.ensures

pub returns-clause-nothing : goal.returns-clause-nothing
returns-clause-nothing c = others_lines_take_nothing c.nothing_is_taken_away.ensures

pub returns-clause-alone : goal.returns-clause-alone
returns-clause-alone c = own_lines_alone c.own_commands_stand_alone.ensures
