use Rattle.std.proofs.Common.{inl, inr, refl}
use Rattle.clr_edge.specs.Journals.{IsOfBeginning, IsUnbegunAt}
use Rattle.clr_edge.proofs.Chains.{beginning_unhad, begun_at, unbegun_over}
use Rattle.clr_edge.proofs.Databases.{IfErr-passed}
use Rattle.clr_edge.proofs.journals.MachineJournals.begin_journal.Goals as goal

-- the file at the path held nothing
pub returns-in-Ok-clause-begins_journal : goal.returns-in-Ok-clause-begins_journal
returns-in-Ok-clause-begins_journal g c =
    begun_at _ _ _ _ _ _ _ _ _ c.in_ok-disk.disk c.in-Ok.journal c.in_ok-disk.ensures.had c.in-Ok.ensures.new
    (record { can = c.in-Ok.ensures.can; text = c.in-Ok.ensures.text; durable = c.in-Ok.ensures.durable; whole = c.in-Ok.ensures.whole })

-- it has this first line
pub returns-in-Ok-clause-new : goal.returns-in-Ok-clause-new
returns-in-Ok-clause-new g c = record {
  can = c.in-Ok.ensures.can;
  text = c.in-Ok.ensures.text;
  durable = c.in-Ok.ensures.durable;
  whole = c.in-Ok.ensures.whole;
}

-- or no journal was begun
pub returns-in-Err-clause-spares_journal : goal.returns-in-Err-clause-spares_journal
returns-in-Err-clause-spares_journal g c =
    inr (unbegun_over _ _ _ _ _ _ _ _ c.in_ok-disk.disk c.in-Err.back c.in-Err.fault _ c.in_ok-disk.ensures.had c.let_journal_go.ensures c.of_new.ensures.value
    c.in-Err.ensures.had c.in-Err.ensures.long c.in-Err.ensures.spared c.in-Err.ensures.cause)

-- the file could not be opened
pub returns-in_err-disk-clause-spares_journal : goal.returns-in_err-disk-clause-spares_journal
returns-in_err-disk-clause-spares_journal g c =
    IfErr-passed _ _
    (λ fault. IsUnbegunAt g.Y.System.has_journal_files g.Y.System.lacks_journal_files g.Y.System.lets_journal_go g.Y.JournalMedium.Disk
    c.args.self.now.system c.args.path.now c.args.first.now fault c.journal_disk.new.self.system)
    c.from_residual.ensures.1 (inl c.in_err-disk.ensures.lacks)

pub returns-in_err-disk-clause-fault : goal.returns-in_err-disk-clause-fault
returns-in_err-disk-clause-fault g c = IfErr-passed _ _ (λ fault. IsOfBeginning fault) c.from_residual.ensures.1 (beginning_unhad _ c.in_err-disk.ensures.lacks.1)
