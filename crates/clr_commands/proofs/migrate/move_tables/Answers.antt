use Rattle.std.proofs.Common.{inl, inr, refl}
use Rattle.clr_commands.proofs.Databases.{is_err}
use Rattle.clr_commands.proofs.Faults.{passed, store_plain}
use Rattle.clr_commands.proofs.Migrates.{PrintsMoved-fault}
use Rattle.clr_commands.proofs.migrate.move_tables.Goals as goal

-- memory ran out
pub returns-in_err-line-clause-visit : goal.returns-in_err-line-clause-visit
returns-in_err-line-clause-visit g c = inl (is_err _ _ c.from_residual.ensures.1, refl)

-- the tables were not moved
pub returns-in_err-move_register-clause-visit : goal.returns-in_err-move_register-clause-visit
returns-in_err-move_register-clause-visit g c =
    inr (_, PrintsMoved-fault _ _ c.from_residual-in_err-move_register.ensures.1, c.in_err-move_register.ensures.visit)

pub returns-in_err-move_register-clause-faults : goal.returns-in_err-move_register-clause-faults
returns-in_err-move_register-clause-faults g c =
    passed _ _ c.from_residual-in_err-move_register.ensures.1 (store_plain _ c.in_err-move_register.ensures.fault)

-- they were
pub returns-clause-visit : goal.returns-clause-visit
returns-clause-visit g c = inr (_, (refl, c.in_ok-line.ensures.ok), c.in_ok-move_register.ensures.visit)
