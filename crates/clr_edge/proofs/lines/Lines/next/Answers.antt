use Rattle.std.proofs.Common.{◌≡◌, ◌<◌, arith, length, length-drop}
use Rattle.clr_edge.specs.Lines.{held_of}
use Rattle.clr_edge.proofs.LineFeeds.{line-ends, next-line, too-long}
use Rattle.clr_edge.proofs.lines.Lines.next.Goals as goal

-- a line that is held
pub returns-in-Some-clause-line : goal.returns-in-Some-clause-line
returns-in-Some-clause-line g c =
    let some = rw c.in-Some.is at c.in_ok-line.ensures.some in
    let one = rw c.in-Some.is at c.in_ok-line.ensures.one in
    next-line c.in-Some.line (held_of c.loop-self.self) (held_of c.take_line.new.self) _ _ c.loop-self.invariant.kept some one

pub returns-in-Some-2-clause-line : goal.returns-in-Some-2-clause-line
returns-in-Some-2-clause-line g c =
    let some = rw c.in-Some-2.is at c.in_ok-line-2.ensures.some in
    let one = rw c.in-Some-2.is at c.in_ok-line-2.ensures.one in
    next-line c.in-Some-2.line (held_of c.loop-self.self) (held_of c.take_line-2.new.self) _ _ c.loop-self.invariant.kept some one

-- and how the file ends is left
pub returns-in-Some-clause-ends : goal.returns-in-Some-clause-ends
returns-in-Some-clause-ends g c =
    let some = rw c.in-Some.is at c.in_ok-line.ensures.some in
    line-ends c.in-Some.line.items (held_of c.loop-self.self) (held_of c.take_line.new.self) _ _ c.loop-self.invariant.kept some

pub returns-in-Some-2-clause-ends : goal.returns-in-Some-2-clause-ends
returns-in-Some-2-clause-ends g c =
    let some = rw c.in-Some-2.is at c.in_ok-line-2.ensures.some in
    line-ends c.in-Some-2.line.items (held_of c.loop-self.self) (held_of c.take_line-2.new.self) _ _ c.loop-self.invariant.kept some

-- more is held than a line may have, and no line feed
pub returns-in-None-clause-long : goal.returns-in-None-clause-long
returns-in-None-clause-long g c = λ long.
    let none = rw c.in-None.is at c.in_ok-line-2.ensures.none in
    let size = length-drop c.loop-self.self.given c.loop-self.self.held.items in
    too-long (held_of c.loop-self.self) _ _ c.loop-self.invariant.kept none.1 (omega (arith, size))
