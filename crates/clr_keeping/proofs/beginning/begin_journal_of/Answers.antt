use Rattle.std.proofs.Common.{◌≡◌, inl, inr, refl}
use Rattle.clr_keeping.proofs.Begun.{begun-fault}
use Rattle.clr_keeping.proofs.beginning.begin_journal_of.Goals as goal

-- no journal was begun
pub returns-in-Err-clause-placed : goal.returns-in-Err-clause-placed
returns-in-Err-clause-placed g c =
    let same : c.end-in-Err.result ≡ c.args.desk.store = cc in
    inl (c.in-Err.fault, refl, c.in-Err.ensures.fault, same, c.in-Err.ensures.spares_journal)

pub returns-in-Err-clause-fault : goal.returns-in-Err-clause-fault
returns-in-Err-clause-fault g c = inl c.in-Err.ensures.fault

-- one was, and then the register was given its place, or not
pub returns-clause-placed : goal.returns-clause-placed
returns-clause-placed g c = inr (record {
  journal = c.in-Ok.log;
  begun = c.begin_journal.new.self;
  middle = c.let_journal_go.new.self;
  begins = c.in-Ok.ensures.begins_journal;
  gone = c.let_journal_go.ensures;
  line = c.in-Ok.ensures.new;
  outcome = c.place_in-placed.result.0;
  did = (refl, rw (← c.end-2.ensures) c.place_in-placed.ensures.placed);
  result_is = c.begun_or.ensures;
})

pub returns-clause-fault : goal.returns-clause-fault
returns-clause-fault g c = begun-fault c.place_in-placed.result.0 _ c.begun_or.ensures
