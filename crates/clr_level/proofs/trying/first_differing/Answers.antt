use Rattle.std.proofs.Common.{map, refl, rules}
use Rattle.clr_changes.specs.Deeds.{after_deed, deed_of}
use Rattle.clr_journal.specs.Line.{entry_of}
use Rattle.clr_level.proofs.Tried.{differs_at, tried_all, tried_none, tried_one}
use Rattle.clr_level.proofs.trying.first_differing.Goals as goal

pub returns-in-None : goal.returns-in-None
returns-in-None c = λ good shallow.
    let R = c.args.book.now.register in
    let lines = map entry_of c.args.lines.now in
    tried_all R R lines lines (tried_none R lines) c.in-None.ensures.none

pub returns-then-branch : goal.returns-then-branch
returns-then-branch c = λ good shallow.
    let R = c.args.book.now.register in
    let lines = map entry_of c.args.lines.now in
    let rest = map entry_of c.in-Some.rest.now in
    let one = c.in-Some.one.now in
    tried_all R (after_deed R (deed_of one.deed)) lines rest
    (tried_one R R (after_deed R (deed_of one.deed)) lines lines rest one c.in_ok-is_answer-in-None-next_due.field-0 (search rules) shallow (tried_none R lines)
    c.in-Some.ensures.next (c.in_ok-is_answer-in-None-next_due.ensures good) refl)
    c.in-None-next_due.ensures.none

pub returns-else-branch : goal.returns-else-branch
returns-else-branch c = λ good shallow.
    let R = c.args.book.now.register in
    let lines = map entry_of c.args.lines.now in
    differs_at R R lines lines (map entry_of c.in-Some.rest.now) c.in-Some.one.now c.in_ok-is_answer-in-None-next_due.field-0 (search rules) (tried_none R lines)
    c.in-Some.ensures.next (c.in_ok-is_answer-in-None-next_due.ensures good)
