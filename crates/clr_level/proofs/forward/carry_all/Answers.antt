use Rattle.std.proofs.Common.{[], ◌++◌, ◌∷◌, map, reverse, rules}
use Rattle.clr_journal.specs.Line.{entry_of}
use Rattle.clr_level.proofs.Forwarding.{at_its_end, at_last, at_line, goes_on, in_lines, none_yet, of_more, on_ok, one_before, one_of_all, stops_on}
use Rattle.clr_level.specs.Crash.{KeepsTables}
use Rattle.clr_level.proofs.Fronts.{keeps_tables, left_on}
use Rattle.clr_level.proofs.Deeds.{goes_further, goes_keep}
use Rattle.clr_level.proofs.Rolling.{rolls_by, rolls_on}
use Rattle.clr_level.proofs.forward.carry_all.Goals as goal

pub loop-line-init : goal.loop-line-init
loop-line-init g c =
    none_yet g.K.Commit.kept g.K.Commit.takes g.K.CommitAt.has_place c.args.desk c.args.place c.args.lines.items _ (search rules)

pub returns-in-Err-clause-went : goal.returns-in-Err-clause-went
returns-in-Err-clause-went g c = λ good answered begins shallow at.
    let l = c.loop-line in
    let next = c.line-came.result.1 in
    let rest = map entry_of (reverse c.pop.new.self.items) in
    stops_on g.K.Commit.kept g.K.CommitAt.has_place c.args.desk.book.register c.args.place (map entry_of c.args.lines.items) c.line-came.result.0
    c.in-Err.fault next.desk next.at next.pending rest c.in-Err.is
    (c.line-came.ensures.went c.args.desk.book.register c.args.place (map entry_of c.args.lines.items) rest good answered
    (at_line g.K.Commit.kept g.K.Commit.takes g.K.CommitAt.has_place c.args.desk c.args.place c.args.lines.items l.forward.desk l.forward.at
    l.forward.pending l.left.items c.pop.new.self.items c.in-Some.line (search rules) l.invariant good answered begins shallow at))

pub returns-in-Err-clause-left : goal.returns-in-Err-clause-left
returns-in-Err-clause-left g c =
    let l = c.loop-line in
    let rest = map entry_of (reverse c.pop.new.self.items) in
    left_on g.K.Commit.kept g.K.CommitAt.has_place c.args.desk c.args.place (map entry_of c.args.lines.items) l.forward.desk c.line-came.result.1.desk
    l.forward.at l.forward.pending (entry_of c.in-Some.line ∷ rest) l.invariant.crash l.invariant.tables
    (at_line g.K.Commit.kept g.K.Commit.takes g.K.CommitAt.has_place c.args.desk c.args.place c.args.lines.items l.forward.desk
    l.forward.at l.forward.pending l.left.items c.pop.new.self.items c.in-Some.line (search rules) l.invariant)
    (c.line-came.ensures.left rest)

pub returns-in-Err-clause-led : goal.returns-in-Err-clause-led
returns-in-Err-clause-led g c =
    let next = c.line-came.result.1.desk in
    rolls_on g.K.Commit.kept g.K.Commit.takes g.K.CommitAt.has_place c.args.desk c.loop-line.forward.desk next c.loop-line.invariant.led
    (rolls_by g.K.Commit.kept g.K.Commit.takes g.K.CommitAt.has_place c.loop-line.forward.desk next c.line-came.ensures.led)

pub loop-line-preserved : goal.loop-line-preserved
loop-line-preserved g c =
    let l = c.loop-line in
    let next = c.line-came.result.1 in
    let rest = map entry_of (reverse c.pop.new.self.items) in
    record {
      come = λ good answered begins shallow at.
          goes_on g.K.Commit.kept g.K.CommitAt.has_place c.args.desk.book.register c.args.place (map entry_of c.args.lines.items) c.line-came.result.0
          c.in_default-came.field-0 next.desk next.at next.pending rest c.in_default-came.is
          (c.line-came.ensures.went c.args.desk.book.register c.args.place (map entry_of c.args.lines.items) rest good answered
          (at_line g.K.Commit.kept g.K.Commit.takes g.K.CommitAt.has_place c.args.desk c.args.place c.args.lines.items l.forward.desk
          l.forward.at l.forward.pending l.left.items c.pop.new.self.items c.in-Some.line (search rules) l.invariant good answered begins shallow at));
      tables =
          keeps_tables g.K.Commit.kept c.args.desk l.forward.desk next.desk l.invariant.tables
          (on_ok c.line-came.result.0 c.in_default-came.field-0 (KeepsTables g.K.Commit.kept l.forward.desk next.desk) c.in_default-came.is c.line-came.ensures.tables)
          (goes_keep g.K.Commit.kept g.K.Commit.takes g.K.CommitAt.has_place c.args.desk l.forward.desk l.invariant.led).good
          (goes_keep g.K.Commit.kept g.K.Commit.takes g.K.CommitAt.has_place l.forward.desk next.desk c.line-came.ensures.led).clean;
      crash =
          left_on g.K.Commit.kept g.K.CommitAt.has_place c.args.desk c.args.place (map entry_of c.args.lines.items) l.forward.desk next.desk l.forward.at
          l.forward.pending (entry_of c.in-Some.line ∷ rest) l.invariant.crash l.invariant.tables
          (at_line g.K.Commit.kept g.K.Commit.takes g.K.CommitAt.has_place c.args.desk c.args.place c.args.lines.items l.forward.desk
          l.forward.at l.forward.pending l.left.items c.pop.new.self.items c.in-Some.line (search rules) l.invariant)
          (c.line-came.ensures.left rest);
      led =
          goes_further g.K.Commit.kept g.K.Commit.takes g.K.CommitAt.has_place c.args.desk l.forward.desk next.desk l.invariant.led
          c.line-came.ensures.led;
      before = l.invariant.before ++ c.in-Some.line ∷ [];
      all =
          one_before g.K.Commit.kept g.K.Commit.takes g.K.CommitAt.has_place c.args.desk c.args.place c.args.lines.items l.forward.desk
          l.forward.at l.forward.pending l.left.items c.pop.new.self.items c.in-Some.line (search rules) l.invariant;
    }

pub returns-clause-went : goal.returns-clause-went
returns-clause-went g c = λ good answered begins shallow at.
    let l = c.loop-line in
    c.arrive.ensures.went c.args.desk.book.register c.args.place (map entry_of c.args.lines.items) good answered
    (at_last g.K.Commit.kept g.K.Commit.takes g.K.CommitAt.has_place c.args.desk c.args.place c.args.lines.items l.forward.desk l.forward.at
    l.forward.pending l.left.items (search rules) l.invariant good answered begins shallow at)

pub returns-clause-left : goal.returns-clause-left
returns-clause-left g c =
    let l = c.loop-line in
    left_on g.K.Commit.kept g.K.CommitAt.has_place c.args.desk c.args.place (map entry_of c.args.lines.items) l.forward.desk c.arrive.result.1
    l.forward.at l.forward.pending [] l.invariant.crash l.invariant.tables
    (at_last g.K.Commit.kept g.K.Commit.takes g.K.CommitAt.has_place c.args.desk c.args.place c.args.lines.items l.forward.desk l.forward.at
    l.forward.pending l.left.items (search rules) l.invariant)
    c.arrive.ensures.left

pub returns-clause-led : goal.returns-clause-led
returns-clause-led g c =
    rolls_on g.K.Commit.kept g.K.Commit.takes g.K.CommitAt.has_place c.args.desk c.loop-line.forward.desk c.arrive.result.1
    c.loop-line.invariant.led c.arrive.ensures.led

-- a fault is of one of the lines, or of none
pub returns-in-Err-clause-fault : goal.returns-in-Err-clause-fault
returns-in-Err-clause-fault g c =
    let l = c.loop-line in
    let one = c.in-Some.line in
    let lines = c.args.lines.items in
    of_more g.K.Commit.fails (entry_of one ∷ []) (map entry_of lines) c.line-came.result.0 c.in-Err.fault c.in-Err.is
    (in_lines l.invariant.before (reverse c.pop.new.self.items) one lines
    (one_of_all g.K.Commit.kept g.K.Commit.takes g.K.CommitAt.has_place c.args.desk c.args.place lines l.forward.desk l.forward.at
    l.forward.pending l.left.items c.pop.new.self.items one (search rules) l.invariant))
    c.line-came.ensures.fault

pub returns-clause-fault : goal.returns-clause-fault
returns-clause-fault g c = at_its_end g.K.Commit.fails (map entry_of c.args.lines.items) c.arrive.result.0 c.arrive.ensures.fault
