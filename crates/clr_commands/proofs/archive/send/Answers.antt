use Rattle.std.proofs.Common.{◌≡◌, List, rules, subst, ℕ}
use Rattle.std.specs.Prelude.{IfErr}
use Rattle.clr_commands.specs.Archive.{IsUnsent}
use Rattle.clr_commands.specs.ArchiveText.{archive_text}
use Rattle.clr_commands.proofs.Taken.{memory_unsent, unsent_by}
use Rattle.clr_commands.proofs.archive.send.Goals as goal

-- the output failed
pub returns-clause-unsent : goal.returns-clause-unsent
returns-clause-unsent g c =
    let old = g.W.CountedWrite.stream c.args.output.now in
    let new = g.W.CountedWrite.stream c.write_out.new.writer in
    let same : c.as_str.result.now ≡ archive_text c.args.before c.args.book.now.register = search rules in
    subst (λ (t : List ℕ). IfErr c.write_out.result (IsUnsent old new t)) same (unsent_by old new c.as_str.result.now c.write_out.result c.write_out.ensures.cut c.write_out.ensures.fault)

-- memory ran out before anything was written
pub returns-in_err-text-clause-unsent : goal.returns-in_err-text-clause-unsent
returns-in_err-text-clause-unsent g c = search rules
