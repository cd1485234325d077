use Rattle.std.proofs.Common.{◌≡◌, ◌∷◌, [], Bool, false, subst, sym}
use Rattle.clr_stream.specs.Streams.{Stream}
use Rattle.clr_journal.specs.Journals.{next_place}
use Rattle.clr_chain.specs.Walking.{bad}
use Rattle.clr_edge.specs.declared.fault.Fault.{Fault}
use Rattle.clr_keeping.specs.declared.journal.Printing.{Printing}
use Rattle.clr_keeping.specs.Parts.{half_step}
use Rattle.clr_keeping.specs.Printing.{FailsOn, PrintsOn}
use Rattle.clr_keeping.proofs.PartLines.{passed_on}
use Rattle.clr_keeping.proofs.SentTexts.{PrintsOn-none}
use Rattle.clr_keeping.proofs.journal.Printing.ended.Goals as goal

-- a part that does not end whole has half a line
half_fails : (it : Printing) (o p : Stream) (is_whole : Bool) (fault : Fault) → is_whole ≡ false → FailsOn it o (bad (next_place it.walk.end.turn.last) ∷ []) fault p
    → FailsOn it o (half_step it.walk.end is_whole) fault p
half_fails it o p is_whole fault half fails = subst (λ (b : Bool). FailsOn it o (half_step it.walk.end b) fault p) (sym half) fails

-- the part ends whole
pub returns-then-is_whole-clause-printed : goal.returns-then-is_whole-clause-printed
returns-then-is_whole-clause-printed g c =
    let it = c.args.self in
    let old = g.W.CountedWrite.stream c.args.output.now in
    subst (λ (b : Bool). PrintsOn it old (half_step it.walk.end b) it old) (sym c.if-is_whole.true) (PrintsOn-none it old)

-- or half a line was printed
pub returns-clause-printed : goal.returns-clause-printed
returns-clause-printed g c =
    let it = c.args.self in
    let old = g.W.CountedWrite.stream c.args.output.now in
    let new = g.W.CountedWrite.stream c.half.new.output in
    subst (λ (b : Bool). PrintsOn it old (half_step it.walk.end b) c.half.new.self new) (sym c.if-is_whole.false) c.in_ok-half.ensures.printed

pub returns-in_err-half-clause-failed : goal.returns-in_err-half-clause-failed
returns-in_err-half-clause-failed g c =
    let it = c.args.self in
    let old = g.W.CountedWrite.stream c.args.output.now in
    let new = g.W.CountedWrite.stream c.half.new.output in
    passed_on c.from_residual.result _ (λ fault. FailsOn it old (half_step it.walk.end c.args.is_whole) fault new) c.from_residual.ensures.1
    (half_fails it old new c.args.is_whole _ c.if-is_whole.false c.in_err-half.ensures.failed)
