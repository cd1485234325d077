use Rattle.std.proofs.Common.{inl, inr, refl}
use Rattle.clr_edge.specs.Journals.{IsOfOpening, IsUnopenedAt}
use Rattle.clr_edge.proofs.Chains.{chain_at, opening_unhad, unopened_over}
use Rattle.clr_edge.proofs.Databases.{IfErr-passed}
use Rattle.clr_edge.proofs.machine.Machine.opened_chain.Goals as goal

-- the file at the path holds a journal
pub returns-in-Ok-clause-opened : goal.returns-in-Ok-clause-opened
returns-in-Ok-clause-opened g c =
    chain_at _ _ _ _ _ _ _ _ _ c.in_ok-disk.disk c.in-Ok.opened.journal c.in-Ok.opened.ahead c.in_ok-disk.ensures.had c.in-Ok.ensures.opened c.in-Ok.ensures.durable
    c.in-Ok.ensures.whole c.in-Ok.ensures.crash

-- or none that is opened at this place
pub returns-in-Err-clause-refused : goal.returns-in-Err-clause-refused
returns-in-Err-clause-refused g c =
    inr (unopened_over _ _ _ _ _ _ _ _ c.in_ok-disk.disk c.in-Err.disk c.in-Err.fault _ c.in_ok-disk.ensures.had c.let_journal_go.ensures c.of_chain.ensures.value
    c.in-Err.ensures.refused c.in-Err.ensures.left c.in-Err.ensures.spared c.in-Err.ensures.cause)

-- the file could not be opened
pub returns-in_err-disk-clause-refused : goal.returns-in_err-disk-clause-refused
returns-in_err-disk-clause-refused g c =
    IfErr-passed _ _
    (λ fault. IsUnopenedAt g.Y.System.has_journal_files g.Y.System.lacks_journal_files g.Y.System.lets_journal_go g.Y.JournalMedium.Disk
    c.args.self.now.system c.args.path.now c.args.place.now fault c.journal_disk.new.self.system)
    c.from_residual.ensures.1 (inl c.in_err-disk.ensures.lacks)

pub returns-in_err-disk-clause-fault : goal.returns-in_err-disk-clause-fault
returns-in_err-disk-clause-fault g c = IfErr-passed _ _ (λ fault. IsOfOpening fault) c.from_residual.ensures.1 (opening_unhad _ c.in_err-disk.ensures.lacks.1)
