use Rattle.std.proofs.Common.{inl, inr}
use Rattle.clr_keeping.specs.Beginning.{IsOfBegun}
use Rattle.clr_keeping.proofs.Begun.{begun-fault, passed}
use Rattle.clr_edge.proofs.Databases.{IfErr-passed}
use Rattle.clr_keeping.proofs.beginning.begin_register.Goals as goal

-- the journal was begun, and then the register was made, or not
pub returns-clause-begun : goal.returns-clause-begun
returns-clause-begun g c = inr (record {
  journal = c.in_ok-log.log;
  begun = c.begin_journal.new.self;
  middle = c.let_journal_go.new.self;
  begins = c.in_ok-log.ensures.begins_journal;
  gone = c.let_journal_go.ensures;
  line = c.in_ok-log.ensures.new;
  outcome = c.store_register_at-made.result;
  did = c.store_register_at-made.ensures;
  result_is = c.begun_or.ensures;
})

pub returns-clause-fault : goal.returns-clause-fault
returns-clause-fault g c = begun-fault c.store_register_at-made.result _ c.begun_or.ensures

-- no journal was begun
pub returns-in_err-log-clause-begun : goal.returns-in_err-log-clause-begun
returns-in_err-log-clause-begun g c =
    inl (_, passed _ _ c.from_residual.ensures.1, c.in_err-log.ensures.fault, c.in_err-log.ensures.spares_journal)

pub returns-in_err-log-clause-fault : goal.returns-in_err-log-clause-fault
returns-in_err-log-clause-fault g c = IfErr-passed _ _ (λ fault. IsOfBegun fault) c.from_residual.ensures.1 (inl c.in_err-log.ensures.fault)
