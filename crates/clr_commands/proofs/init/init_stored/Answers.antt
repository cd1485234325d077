use Rattle.std.proofs.Common.{refl}
use Rattle.clr_keeping.specs.Beginning.{MakesRegisterAt}
use Rattle.clr_keeping.specs.TakenUp.{logs}
use Rattle.clr_edge.specs.Visit.{Alone, Comes, MakesRegister}
use Rattle.clr_commands.specs.Init.{InitsWith}
use Rattle.clr_commands.proofs.Faults.{any_file_plain, passed}
use Rattle.clr_commands.proofs.MadeRegisters.{AnswersFiles-fault, AnswersFiles-rows, InitsInto-logged, InitsInto-plain}
use Rattle.clr_commands.proofs.init.init_stored.Goals as goal

-- without a journal
pub returns-in_ok-rows-in-None-clause-visit : goal.returns-in_ok-rows-in-None-clause-visit
returns-in_ok-rows-in-None-clause-visit g c =
    InitsInto-plain _ (λ path register. Comes g.R.Makes.makes g.R.Databases.shuts g.R.Databases.ends path (Alone (MakesRegister g.R.Tables.Store register)))
    (InitsWith (logs g.R.Journals g.R.Log.Journal g.R.Time.Clock.shows)
    (λ path register first. Comes g.R.Makes.makes g.R.Databases.shuts g.R.Databases.ends path (Alone (MakesRegisterAt g.R.Tables.Store register first))))
    c.args.files.now c.args.stored.now.database.now _ c.register_of_rows.result c.args.rt.now c.register_of_rows.new.rt c.in-None.is
    (AnswersFiles-rows _ _ _ _ _ c.in_ok-rows-in-None.rows c.in_ok-rows-in-None.ensures.rows c.register_of_rows.ensures.visit)

pub returns-in_err-rows-in-None-clause-visit : goal.returns-in_err-rows-in-None-clause-visit
returns-in_err-rows-in-None-clause-visit g c =
    InitsInto-plain _ (λ path register. Comes g.R.Makes.makes g.R.Databases.shuts g.R.Databases.ends path (Alone (MakesRegister g.R.Tables.Store register)))
    (InitsWith (logs g.R.Journals g.R.Log.Journal g.R.Time.Clock.shows)
    (λ path register first. Comes g.R.Makes.makes g.R.Databases.shuts g.R.Databases.ends path (Alone (MakesRegisterAt g.R.Tables.Store register first))))
    c.args.files.now c.args.stored.now.database.now _ c.from_residual.result c.args.rt.now c.args.rt.now c.in-None.is
    (AnswersFiles-fault _ _ _ _ _ _ c.in_err-rows-in-None.ensures.rows c.from_residual.ensures.1 refl)

pub returns-in_err-rows-in-None-clause-faults : goal.returns-in_err-rows-in-None-clause-faults
returns-in_err-rows-in-None-clause-faults g c = passed _ _ c.from_residual.ensures.1 (any_file_plain _ c.in_err-rows-in-None.ensures.fault)

-- with one
pub returns-in-Some-clause-visit : goal.returns-in-Some-clause-visit
returns-in-Some-clause-visit g c =
    InitsInto-logged _ (λ path register. Comes g.R.Makes.makes g.R.Databases.shuts g.R.Databases.ends path (Alone (MakesRegister g.R.Tables.Store register)))
    (InitsWith (logs g.R.Journals g.R.Log.Journal g.R.Time.Clock.shows)
    (λ path register first. Comes g.R.Makes.makes g.R.Databases.shuts g.R.Databases.ends path (Alone (MakesRegisterAt g.R.Tables.Store register first))))
    c.args.files.now c.args.stored.now.database.now _ c.init_logged.result c.args.rt.now c.init_logged.new.rt c.in-Some.journal c.in-Some.is c.init_logged.ensures.visit
