use Rattle.std.proofs.Common.{◌≡◌, ◌∙◌, inl, inr, refl, subst, sym, ℕ, Bool}
use Rattle.std.specs.Io.KnownBytes.{IsAtEnd}
use Rattle.std.specs.Prelude.{IfNone, IfSome, None, Option, Some, Vec}
use Rattle.std.specs.declared.alloc.Global.{Global}
use Rattle.clr_journal.specs.Journals.{next_place}
use Rattle.clr_checking.specs.declared.fault.CheckFault.TheVariants.{BadLine}
use Rattle.clr_edge.specs.Lines.{ends_whole}
use Rattle.clr_edge.specs.declared.fault.Fault.{Fault}
use Rattle.clr_edge.specs.declared.fault.Fault.TheVariants.{Journal}
use Rattle.clr_edge.specs.declared.fault.JournalFault.TheVariants.{TooLong}
use Rattle.clr_keeping.specs.Parts.{FailsLater, ReadsLine, left_in}
use Rattle.clr_commands.specs.Verify.{IsRefusedIn}
use Rattle.clr_keeping.proofs.PartLines.{later_from, long-later, passed_on}
use Rattle.clr_commands.proofs.RefusedParts.{check_read, half_refused, line_refused}
use Rattle.clr_commands.proofs.CheckedParts.{lines_all, lines_none, lines_seen, passed_check}
use Rattle.clr_commands.proofs.verify.check_part.Goals as goal

pub lines-init : goal.lines-init
lines-init g c = (lines_none (left_in g.S.Read.remaining c.args.part) c.args.checking c.requires, refl)

-- one more was checked
pub lines-preserved : goal.lines-preserved
lines-preserved g c =
    let left = left_in g.S.Read.remaining c.lines.part in
    let next = left_in g.S.Read.remaining c.line.new.self in
    let reads : IfSome left (ReadsLine (Some c.in-Some.line) next) =
    subst (λ (o : Option (Vec ℕ Global)). IfSome left (ReadsLine o next)) c.in-Some.is c.in_ok-line.ensures.line in
    let seen = c.in_default-line in (
      lines_seen (left_in g.S.Read.remaining c.args.part) left next c.args.checking c.lines.checking c.line-in-lines.new.self c.in-Some.line c.deref.result.now
          c.deref.ensures.value c.lines.invariant.0 reads seen.ensures.ready seen.ensures.went seen.ensures.went_from seen.ensures.end c.line-in-lines.ensures.id,
      c.in_ok-line.ensures.kept ∙ c.lines.invariant.1,
    )

-- none is left
pub returns-then-is_whole-clause-ready : goal.returns-then-is_whole-clause-ready
returns-then-is_whole-clause-ready g c = c.lines.invariant.0.ready

pub returns-then-is_whole-clause-id : goal.returns-then-is_whole-clause-id
returns-then-is_whole-clause-id g c = c.lines.invariant.0.id

pub returns-then-is_whole-clause-checked : goal.returns-then-is_whole-clause-checked
returns-then-is_whole-clause-checked g c =
    let left = left_in g.S.Read.remaining c.lines.part in
    let next = left_in g.S.Read.remaining c.line.new.self in
    let reads : IfSome left (ReadsLine None next) = subst (λ (o : Option (Vec ℕ Global)). IfSome left (ReadsLine o next)) c.in_default.is c.in_ok-line.ensures.line in
    let end : IsAtEnd (g.S.Read.remaining c.line.new.self.source) =
    subst (λ (o : Option (Vec ℕ Global)). IfNone o (IsAtEnd (g.S.Read.remaining c.line.new.self.source))) c.in_default.is c.in_ok-line.ensures.none in
    lines_all (left_in g.S.Read.remaining c.args.part) left next c.args.checking c.lines.checking c.lines.invariant.0 reads
    (subst (λ (b : Bool). IfSome next (λ bytes. b ≡ ends_whole bytes)) c.if-is_whole.true (c.ends_whole-is_whole.ensures end))

-- or half a line is
pub returns-in_default-clause-refused : goal.returns-in_default-clause-refused
returns-in_default-clause-refused g c =
    let left = left_in g.S.Read.remaining c.lines.part in
    let next = left_in g.S.Read.remaining c.line.new.self in
    let reads : IfSome left (ReadsLine None next) = subst (λ (o : Option (Vec ℕ Global)). IfSome left (ReadsLine o next)) c.in_default.is c.in_ok-line.ensures.line in
    let end : IsAtEnd (g.S.Read.remaining c.line.new.self.source) =
    subst (λ (o : Option (Vec ℕ Global)). IfNone o (IsAtEnd (g.S.Read.remaining c.line.new.self.source))) c.in_default.is c.in_ok-line.ensures.none in
    half_refused (left_in g.S.Read.remaining c.args.part) left next c.args.checking c.lines.checking c.ends_whole-is_whole.result _ c.half_line.result c.lines.invariant.0 reads
    (c.ends_whole-is_whole.ensures end) c.if-is_whole.false refl c.half_line.ensures

pub returns-in_default-clause-unread : goal.returns-in_default-clause-unread
returns-in_default-clause-unread g c =
    check_read g.S.CountedRead.failure_count c.args.part.source (BadLine (next_place c.lines.checking.walk.end.turn.last)) c.half_line.result c.half_line.ensures

pub returns-in_default-clause-fault : goal.returns-in_default-clause-fault
returns-in_default-clause-fault g c = inr (inr (BadLine (next_place c.lines.checking.walk.end.turn.last), c.half_line.ensures))

-- a line was not read, or did not hold
pub returns-in_err-line-clause-fault : goal.returns-in_err-line-clause-fault
returns-in_err-line-clause-fault g c = passed_check _ _ c.from_residual.ensures.1 (inl c.in_err-line.ensures.fault)

pub returns-in-Err-clause-fault : goal.returns-in-Err-clause-fault
returns-in-Err-clause-fault g c = inr (inr (c.in-Err.fault, c.of_check.ensures))

pub returns-in_err-line-clause-refused : goal.returns-in_err-line-clause-refused
returns-in_err-line-clause-refused g c =
    passed_on _ _ (IsRefusedIn c.args.checking (left_in g.S.Read.remaining c.args.part)) c.from_residual.ensures.1 (inl c.in_err-line.ensures.reading)

pub returns-in-Err-clause-refused : goal.returns-in-Err-clause-refused
returns-in-Err-clause-refused g c =
    let all = left_in g.S.Read.remaining c.args.part in
    let left = left_in g.S.Read.remaining c.lines.part in
    let next = left_in g.S.Read.remaining c.line.new.self in
    let reads : IfSome left (ReadsLine (Some c.in-Some.line) next) =
    subst (λ (o : Option (Vec ℕ Global)). IfSome left (ReadsLine o next)) c.in-Some.is c.in_ok-line.ensures.line in
    subst (λ (f : Fault). IsRefusedIn c.args.checking all f) (sym c.of_check.ensures)
    (line_refused all left next c.args.checking c.lines.checking c.in-Some.line c.deref.result.now c.deref.ensures.value c.lines.invariant.0 reads c.in-Err.fault
    c.in-Err.ensures.refused c.in-Err.ensures.refused_from c.in-Err.ensures.bad)

-- there are too many
pub returns-clause-refused : goal.returns-clause-refused
returns-clause-refused g c = inl (inr (inr refl))

pub returns-clause-fault : goal.returns-clause-fault
returns-clause-fault g c = inl (inr (inr (inr (inl refl))))

-- why it was not read
pub returns-in_err-line-clause-unread : goal.returns-in_err-line-clause-unread
returns-in_err-line-clause-unread g c =
    passed_on _ _ (FailsLater g.S.CountedRead.failure_count c.args.part.source) c.from_residual.ensures.1
    (later_from g.S.CountedRead.failure_count c.lines.part.source c.args.part.source _ c.lines.invariant.1 c.in_err-line.ensures.unread)

pub returns-in-Err-clause-unread : goal.returns-in-Err-clause-unread
returns-in-Err-clause-unread g c = check_read g.S.CountedRead.failure_count c.args.part.source c.in-Err.fault c.of_check.result c.of_check.ensures

pub returns-clause-unread : goal.returns-clause-unread
returns-clause-unread g c = long-later g.S.CountedRead.failure_count c.args.part.source (Journal TooLong) refl
