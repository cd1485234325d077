use Rattle.std.proofs.Common.{◌∙◌, ◌+◌, ◌∷◌, ap, sym, take}
use Rattle.clr_journal.specs.Lines.{ended_lines, unfinished}
use Rattle.clr_journal.proofs.Pieces.{found, not_found, rest_of_slice}
use Rattle.clr_journal.proofs.lines.first_line.Goals as goal

pub returns-in-Some-clause-some : goal.returns-in-Some-clause-some
returns-in-Some-clause-some c =
    let is = found c.args.text.now c.in-Some.end (sym c.feed_at.ensures ∙ c.in-Some.is) in
    is.lines ∙ ap (λ rest. take c.in-Some.end c.args.text.now ∷ ended_lines rest) (sym (rest_of_slice (c.in-Some.end + 1) c.args.text.now))

pub returns-in-Some-clause-rest : goal.returns-in-Some-clause-rest
returns-in-Some-clause-rest c =
    let is = found c.args.text.now c.in-Some.end (sym c.feed_at.ensures ∙ c.in-Some.is) in
    is.rest ∙ ap unfinished (sym (rest_of_slice (c.in-Some.end + 1) c.args.text.now))

pub returns-in-None-clause-none : goal.returns-in-None-clause-none
returns-in-None-clause-none c = (not_found c.args.text.now (sym c.feed_at.ensures ∙ c.in-None.is)).0

pub returns-in-None-clause-whole : goal.returns-in-None-clause-whole
returns-in-None-clause-whole c = (not_found c.args.text.now (sym c.feed_at.ensures ∙ c.in-None.is)).1
