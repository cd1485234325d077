use Rattle.std.proofs.Common.{◌≡◌, [], refl}
use Rattle.std.specs.Prelude.{string_bytes}
use Rattle.clr_edge.specs.declared.fault.Fault.TheVariants.{Output}
use Rattle.clr_keeping.specs.Printing.{FailsOn}
use Rattle.clr_keeping.specs.declared.journal.Printing.{Printing}
use Rattle.clr_keeping.proofs.KindSteps.{held_cut, held_sent, text_cut, text_out}
use Rattle.clr_keeping.proofs.PartLines.{passed_on}
use Rattle.clr_keeping.proofs.journal.Printing.send.Goals as goal

-- all that was held went out
pub returns-clause-sent : goal.returns-clause-sent
returns-clause-sent g c =
    let it = c.args.self.now in
    let old = g.W.CountedWrite.stream c.args.output.now in
    let new = g.W.CountedWrite.stream c.write_out.new.writer in
    let left : Printing = record it { text = c.new.result } in
    held_sent it left old new (text_out old new c.as_str.result.now (string_bytes it.text) c.as_str.ensures.value c.in_ok-write_out.ensures.whole)
    c.in_ok-write_out.ensures.unfailed c.in_ok-write_out.ensures.unstalled c.new.ensures.bytes refl refl

-- a front of it did
pub returns-in_err-write_out-clause-failed : goal.returns-in_err-write_out-clause-failed
returns-in_err-write_out-clause-failed g c =
    let it = c.args.self.now in
    let old = g.W.CountedWrite.stream c.args.output.now in
    let new = g.W.CountedWrite.stream c.write_out.new.writer in
    passed_on c.from_residual.result _ (λ fault. FailsOn it old [] fault new) c.from_residual.ensures.1
    (held_cut it old new _ c.in_err-write_out.ensures.fault
    (text_cut old new c.as_str.result.now (string_bytes it.text) c.as_str.ensures.value c.in_err-write_out.ensures.cut))

pub returns-in_err-write_out-clause-fault : goal.returns-in_err-write_out-clause-fault
returns-in_err-write_out-clause-fault g c =
    passed_on c.from_residual.result _ (λ fault. fault ≡ Output) c.from_residual.ensures.1 c.in_err-write_out.ensures.fault
