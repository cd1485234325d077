use Rattle.std.proofs.Common.{Err, Ok, inl, refl}
use Rattle.clr_rules.specs.Register.{opening}
use Rattle.clr_keeping.specs.Beginning.{IsOfBegun, MakesRegisterAt}
use Rattle.clr_keeping.specs.TakenUp.{logs}
use Rattle.clr_edge.specs.Visit.{Alone, Comes}
use Rattle.clr_commands.specs.Import.{contents_of, lists_of}
use Rattle.clr_commands.proofs.Faults.{begun_plain, passed}
use Rattle.clr_commands.proofs.MadeRegisters.{IsOpeningOf-built, PrintsStored-fault, RefusesRows-fault, RefusesRows-memory, StoresWith-begun}
use Rattle.clr_commands.proofs.init.register_with_journal.Goals as goal

-- the journal was begun, and the register made with its first place
pub returns-clause-visit : goal.returns-clause-visit
returns-clause-visit g c =
    StoresWith-begun (logs g.R.Journals g.R.Log.Journal g.R.Time.Clock.shows)
    (λ path register first. Comes g.R.Makes.makes g.R.Databases.shuts g.R.Databases.ends path (Alone (MakesRegisterAt g.R.Tables.Store register first)))
    (contents_of c.args.texts.now) (lists_of c.args.rows) c.args.database.now c.args.journal.now _ c.args.rt.now c.begin_register.new.rt c.time-time.result
    c.seconds-moment.result (opening c.in_ok-network.network c.in_ok-network.staff) c.in_ok-first.first _ c.time-time.ensures c.seconds-moment.ensures
    (IsOpeningOf-built _ _ _ _ c.in_ok-network.ensures.built) c.in_ok-first.ensures (refl, c.in_ok-network.ensures.built.line_is) c.in_ok-begin_register.ensures.begun

-- or it was not
pub returns-in_err-begin_register-clause-visit : goal.returns-in_err-begin_register-clause-visit
returns-in_err-begin_register-clause-visit g c =
    StoresWith-begun (logs g.R.Journals g.R.Log.Journal g.R.Time.Clock.shows)
    (λ path register first. Comes g.R.Makes.makes g.R.Databases.shuts g.R.Databases.ends path (Alone (MakesRegisterAt g.R.Tables.Store register first)))
    (contents_of c.args.texts.now) (lists_of c.args.rows) c.args.database.now c.args.journal.now _ c.args.rt.now c.begin_register.new.rt c.time-time.result
    c.seconds-moment.result (opening c.in_ok-network.network c.in_ok-network.staff) c.in_ok-first.first _ c.time-time.ensures c.seconds-moment.ensures
    (IsOpeningOf-built _ _ _ _ c.in_ok-network.ensures.built) c.in_ok-first.ensures
    (PrintsStored-fault IsOfBegun (lists_of c.args.rows) _ _ c.from_residual-in_err-begin_register.ensures.1 c.in_err-begin_register.ensures.fault)
    c.in_err-begin_register.ensures.begun

pub returns-in_err-begin_register-clause-faults : goal.returns-in_err-begin_register-clause-faults
returns-in_err-begin_register-clause-faults g c =
    passed _ _ c.from_residual-in_err-begin_register.ensures.1 (begun_plain _ c.in_err-begin_register.ensures.fault)

-- memory ran out before, or the rows are no network and no staff
pub returns-in_err-first-clause-visit : goal.returns-in_err-first-clause-visit
returns-in_err-first-clause-visit g c = inl (RefusesRows-memory (lists_of c.args.rows) _ c.from_residual.ensures.1, refl)

pub returns-in_err-network-clause-visit : goal.returns-in_err-network-clause-visit
returns-in_err-network-clause-visit g c =
    inl (RefusesRows-fault (lists_of c.args.rows) _ _ c.from_residual-in_err-network.ensures.1 c.in_err-network.ensures.refused, refl)

pub returns-in_err-network-clause-faults : goal.returns-in_err-network-clause-faults
returns-in_err-network-clause-faults g c = passed _ _ c.from_residual-in_err-network.ensures.1 c.in_err-network.ensures.faults
