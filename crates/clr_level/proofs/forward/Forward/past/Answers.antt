use Rattle.std.proofs.Common.{◌≡◌, ◌∙◌, Bool, ap, rules, true}
use Rattle.clr_journal.specs.Line.{entry_of}
use Rattle.clr_chain.specs.Level.{stepped}
use Rattle.clr_chain.specs.Link.{has_fraction}
use Rattle.clr_level.proofs.Forwarding.{has_one, line_passed_as, stopped_at_fraction}
use Rattle.clr_level.proofs.forward.Forward.past.Goals as goal

pub returns-in-Ok-true-clause-went : goal.returns-in-Ok-true-clause-went
returns-in-Ok-true-clause-went g c = λ R place lines rest closed come.
    let self = c.args.self in
    let whole : c.in-Ok-true.field-0 ≡ true = search rules in
    line_passed_as g.K.CommitAt.has_place R place lines self.desk.book.register (g.K.Commit.kept self.desk.store) self.at _ self.pending _ c.args.line rest
    (c.in-Ok-true.ensures.stepped ∙ ap (λ (b : Bool). stepped b self.at (entry_of c.args.line)) whole) c.opened_by.ensures closed come

-- its reply has a number that is no whole number
pub returns-in-Ok-false-clause-went : goal.returns-in-Ok-false-clause-went
returns-in-Ok-false-clause-went g c = λ R place lines rest closed come.
    let self = c.args.self in
    let fraction : has_fraction (entry_of c.args.line) ≡ true = search rules in
    stopped_at_fraction g.K.CommitAt.has_place R place lines self.desk.book.register (g.K.Commit.kept self.desk.store) self.at self.pending
    (entry_of c.args.line) rest _ come fraction (search rules)

pub returns-in-Ok-false-clause-fault : goal.returns-in-Ok-false-clause-fault
returns-in-Ok-false-clause-fault g c = has_one (entry_of c.args.line) (search rules)
