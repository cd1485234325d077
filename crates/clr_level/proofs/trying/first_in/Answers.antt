use Rattle.std.proofs.Common.{map, rules}
use Rattle.clr_journal.specs.Line.{entry_of}
use Rattle.clr_level.proofs.Tried.{differs_at, tried_all, tried_good, tried_none, tried_one}
use Rattle.clr_level.proofs.trying.first_in.Goals as goal

pub loop-one-init : goal.loop-one-init
loop-one-init c = λ good shallow. tried_none c.args.copy.register (map entry_of c.args.lines.now)

pub returns-then-not-branch : goal.returns-then-not-branch
returns-then-not-branch c = λ good shallow.
    let l = c.loop-one in
    let R = c.args.copy.register in
    let lines = map entry_of c.args.lines.now in
    let left = map entry_of l.left.now in
    let tried = l.invariant good shallow in
    differs_at R l.copy.register lines left (map entry_of c.in-Some.rest.now) c.in-Some.one.now c.in_ok-carry_in.field-0 (search rules) tried
    c.in-Some.ensures.next (c.in_ok-carry_in.ensures.same (tried_good R l.copy.register lines left good tried))

pub loop-one-preserved : goal.loop-one-preserved
loop-one-preserved c = λ good shallow.
    let l = c.loop-one in
    let R = c.args.copy.register in
    let lines = map entry_of c.args.lines.now in
    let left = map entry_of l.left.now in
    let tried = l.invariant good shallow in
    let fine = tried_good R l.copy.register lines left good tried in
    tried_one R l.copy.register c.carry_in.new.copy.register lines left (map entry_of c.in-Some.rest.now) c.in-Some.one.now c.in_ok-carry_in.field-0
    (search rules) shallow tried c.in-Some.ensures.next (c.in_ok-carry_in.ensures.same fine) (c.in_ok-carry_in.ensures.register fine (search rules))

pub returns : goal.returns
returns c = λ good shallow.
    tried_all c.args.copy.register c.loop-one.copy.register (map entry_of c.args.lines.now) (map entry_of c.loop-one.left.now)
    (c.loop-one.invariant good shallow) c.in_default.ensures.none
