use Rattle.std.proofs.Common.{◌≡◌, ◌∷◌, [], inl, inr, refl, subst, List, ℕ}
use Rattle.std.specs.Io.KnownBytes.{IsAtEnd}
use Rattle.std.specs.Prelude.{IfNone, IfSome, None, Option, Some, Vec}
use Rattle.std.specs.declared.alloc.Global.{Global}
use Rattle.clr_chain.specs.Walking.{step_of}
use Rattle.clr_edge.specs.declared.fault.Fault.TheVariants.{Journal}
use Rattle.clr_edge.specs.declared.fault.JournalFault.TheVariants.{TooLong}
use Rattle.clr_keeping.specs.Parts.{ReadsLine, left_in}
use Rattle.clr_keeping.specs.Printing.{FailsOn, FailsWithin, PrintsOn}
use Rattle.clr_keeping.proofs.PartLines.{long-later, passed_on}
use Rattle.clr_keeping.proofs.PrintedParts.{half_cut, half_kind, half_later, lines_cut, lines_ended, lines_failed, lines_more, lines_none}
use Rattle.clr_keeping.proofs.journal.print_part.Goals as goal

pub lines-init : goal.lines-init
lines-init g c =
    lines_none g.S.CountedRead.failure_count (left_in g.S.Read.remaining c.args.part) c.args.printing c.args.part.source (g.W.CountedWrite.stream c.args.output.now)

-- one more was printed
pub lines-preserved : goal.lines-preserved
lines-preserved g c =
    let left = left_in g.S.Read.remaining c.lines.part in
    let next = left_in g.S.Read.remaining c.line.new.self in
    let reads : IfSome left (ReadsLine (Some c.in-Some.line) next) =
    subst (λ (o : Option (Vec ℕ Global)). IfSome left (ReadsLine o next)) c.in-Some.is c.in_ok-line.ensures.line in
    let it = c.lines.printing in
    let new = c.line-in-lines.new.self in
    let same : c.deref.result.now ≡ c.in-Some.line.items = c.deref.ensures.value in
    lines_more g.S.CountedRead.failure_count (left_in g.S.Read.remaining c.args.part) c.args.printing c.args.part.source (g.W.CountedWrite.stream c.args.output.now)
    left next c.lines.printing c.lines.part.source c.line.new.self.source
    (g.W.CountedWrite.stream c.lines.output) c.lines.invariant c.in-Some.line reads c.line-in-lines.new.self (g.W.CountedWrite.stream c.line-in-lines.new.output)
    c.in_ok-line.ensures.kept
    (subst (λ (t : List ℕ). PrintsOn it (g.W.CountedWrite.stream c.lines.output) ((step_of it.walk.end t).0 ∷ []) new (g.W.CountedWrite.stream c.line-in-lines.new.output)) same
    c.in_ok-line-2.ensures.printed)
    (subst (λ (t : List ℕ). new.walk.end ≡ (step_of it.walk.end t).1) same c.in_ok-line-2.ensures.end) c.line-in-lines.ensures.id

-- none is left
pub returns-in_default-clause-printed : goal.returns-in_default-clause-printed
returns-in_default-clause-printed g c =
    let left = left_in g.S.Read.remaining c.lines.part in
    let next = left_in g.S.Read.remaining c.line.new.self in
    let reads : IfSome left (ReadsLine None next) = subst (λ (o : Option (Vec ℕ Global)). IfSome left (ReadsLine o next)) c.in_default.is c.in_ok-line.ensures.line in
    let end : IsAtEnd (g.S.Read.remaining c.line.new.self.source) =
    subst (λ (o : Option (Vec ℕ Global)). IfNone o (IsAtEnd (g.S.Read.remaining c.line.new.self.source))) c.in_default.is c.in_ok-line.ensures.none in
    lines_ended g.S.CountedRead.failure_count (left_in g.S.Read.remaining c.args.part) c.args.printing c.args.part.source (g.W.CountedWrite.stream c.args.output.now)
    left next c.lines.printing c.lines.part.source (g.W.CountedWrite.stream c.lines.output) (g.W.CountedWrite.stream c.ended.new.output) c.lines.invariant reads
    c.ends_whole.result (c.ends_whole.ensures end) c.ended.result c.ended.ensures.printed c.ended.ensures.walk

pub returns-in_default-clause-failed : goal.returns-in_default-clause-failed
returns-in_default-clause-failed g c =
    let left = left_in g.S.Read.remaining c.lines.part in
    let next = left_in g.S.Read.remaining c.line.new.self in
    let reads : IfSome left (ReadsLine None next) = subst (λ (o : Option (Vec ℕ Global)). IfSome left (ReadsLine o next)) c.in_default.is c.in_ok-line.ensures.line in
    let end : IsAtEnd (g.S.Read.remaining c.line.new.self.source) =
    subst (λ (o : Option (Vec ℕ Global)). IfNone o (IsAtEnd (g.S.Read.remaining c.line.new.self.source))) c.in_default.is c.in_ok-line.ensures.none in
    half_cut g.S.CountedRead.failure_count (left_in g.S.Read.remaining c.args.part) c.args.printing c.args.part.source (g.W.CountedWrite.stream c.args.output.now)
    left next c.lines.printing c.lines.part.source (g.W.CountedWrite.stream c.lines.output) (g.W.CountedWrite.stream c.ended.new.output) c.lines.invariant reads
    c.ends_whole.result (c.ends_whole.ensures end) c.ended.result c.ended.ensures.fault c.ended.ensures.failed

pub returns-in_default-clause-fault : goal.returns-in_default-clause-fault
returns-in_default-clause-fault g c = half_kind c.ended.result c.ended.ensures.fault

pub returns-in_default-clause-unread : goal.returns-in_default-clause-unread
returns-in_default-clause-unread g c = half_later g.S.CountedRead.failure_count c.args.part.source c.ended.result c.ended.ensures.fault

-- the next was not read
pub returns-in_err-line-clause-failed : goal.returns-in_err-line-clause-failed
returns-in_err-line-clause-failed g c =
    let all = left_in g.S.Read.remaining c.args.part in
    let old = g.W.CountedWrite.stream c.args.output.now in
    let new = g.W.CountedWrite.stream c.lines.output in
    passed_on c.from_residual.result _ (λ fault. FailsWithin all c.args.printing old fault new) c.from_residual.ensures.1
    (lines_failed g.S.CountedRead.failure_count all c.args.printing c.args.part.source old
    (left_in g.S.Read.remaining c.lines.part) c.lines.printing c.lines.part.source new _ c.lines.invariant c.in_err-line.ensures.reading)

-- or not printed
pub returns-in_err-line-2-clause-failed : goal.returns-in_err-line-2-clause-failed
returns-in_err-line-2-clause-failed g c =
    let all = left_in g.S.Read.remaining c.args.part in
    let left = left_in g.S.Read.remaining c.lines.part in
    let next = left_in g.S.Read.remaining c.line.new.self in
    let old = g.W.CountedWrite.stream c.args.output.now in
    let new = g.W.CountedWrite.stream c.line-in-lines.new.output in
    let reads : IfSome left (ReadsLine (Some c.in-Some.line) next) =
    subst (λ (o : Option (Vec ℕ Global)). IfSome left (ReadsLine o next)) c.in-Some.is c.in_ok-line.ensures.line in
    passed_on c.from_residual-in_err-line-2.result _ (λ fault. FailsWithin all c.args.printing old fault new) c.from_residual-in_err-line-2.ensures.1
    (lines_cut g.S.CountedRead.failure_count all c.args.printing c.args.part.source old left next c.lines.printing c.lines.part.source c.line.new.self.source
    (g.W.CountedWrite.stream c.lines.output) c.lines.invariant c.in-Some.line reads c.in_err-line-2.field-0.0 new
    c.in_err-line-2.ensures.fault
    (subst
    (λ (t : List ℕ). FailsOn c.lines.printing (g.W.CountedWrite.stream c.lines.output) ((step_of c.lines.printing.walk.end t).0 ∷ []) c.in_err-line-2.field-0.0 new)
    c.deref.ensures.value c.in_err-line-2.ensures.failed))

-- there are too many
pub returns-clause-failed : goal.returns-clause-failed
returns-clause-failed g c =
    lines_failed g.S.CountedRead.failure_count (left_in g.S.Read.remaining c.args.part) c.args.printing c.args.part.source (g.W.CountedWrite.stream c.args.output.now)
    (left_in g.S.Read.remaining c.lines.part) c.lines.printing c.lines.part.source (g.W.CountedWrite.stream c.lines.output) (Journal TooLong) c.lines.invariant
    (inr (inr refl))

pub returns-clause-unread : goal.returns-clause-unread
returns-clause-unread g c = long-later g.S.CountedRead.failure_count c.args.part.source (Journal TooLong) refl
