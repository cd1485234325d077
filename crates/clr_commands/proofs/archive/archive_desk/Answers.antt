use Rattle.std.proofs.Common.{◌≡◌, ap, inl, inr, subst}
use Rattle.clr_book.specs.Book.{Shelved}
use Rattle.clr_rules.specs.Register.{Register}
use Rattle.clr_stream.specs.Streams.{WentOut}
use Rattle.clr_commands.specs.Archive.{IsUnsent}
use Rattle.clr_commands.specs.ArchiveText.{archive_text}
use Rattle.clr_commands.proofs.archive.archive_desk.Goals as goal

-- all went out, and the steps were taken
pub returns-in-Ok : goal.returns-in-Ok
returns-in-Ok g c =
    let old = g.W.CountedWrite.stream c.args.output.now in
    let new = g.W.CountedWrite.stream c.send.new.output in
    let register : c.book.result.now.register ≡ c.args.desk.book.register = ap (λ (b : Shelved). b.register) c.book.ensures in
    inl (
      subst (λ (Q : Register). WentOut old new (archive_text c.args.before Q)) register c.in-Ok.ensures.sent,
      c.take_out.ensures.taken,
      c.take_out.ensures.fault,
    )

-- not all went out, and the store is as it was
pub returns-in-Err : goal.returns-in-Err
returns-in-Err g c =
    let old = g.W.CountedWrite.stream c.args.output.now in
    let new = g.W.CountedWrite.stream c.send.new.output in
    let register : c.book.result.now.register ≡ c.args.desk.book.register = ap (λ (b : Shelved). b.register) c.book.ensures in
    inr (c.end.ensures, subst (λ (Q : Register). IsUnsent old new (archive_text c.args.before Q) c.in-Err.fault) register c.in-Err.ensures.unsent)
