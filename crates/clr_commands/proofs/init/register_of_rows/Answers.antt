use Rattle.std.proofs.Common.{inl, inr, refl}
use Rattle.clr_rules.specs.Register.{opening}
use Rattle.clr_edge.specs.Database.{IsDatabaseFault}
use Rattle.clr_commands.specs.Import.{lists_of}
use Rattle.clr_commands.proofs.Faults.{database_plain, passed}
use Rattle.clr_commands.proofs.MadeRegisters.{IsOpeningOf-built, PrintsStored-fault, RefusesRows-fault}
use Rattle.clr_commands.proofs.init.register_of_rows.Goals as goal

-- the register that is stored is the opening one of the rows
pub returns-clause-visit : goal.returns-clause-visit
returns-clause-visit g c = inr (
  opening c.in_ok-network.network c.in_ok-network.staff,
  IsOpeningOf-built _ _ _ _ c.in_ok-network.ensures.built,
  _,
  (refl, c.in_ok-network.ensures.built.line_is),
  c.in_ok-store_register.ensures,
)

-- or it could not be
pub returns-in_err-store_register-clause-visit : goal.returns-in_err-store_register-clause-visit
returns-in_err-store_register-clause-visit g c = inr (
  opening c.in_ok-network.network c.in_ok-network.staff,
  IsOpeningOf-built _ _ _ _ c.in_ok-network.ensures.built,
  _,
  PrintsStored-fault IsDatabaseFault (lists_of c.args.rows) _ _ c.from_residual-in_err-store_register.ensures.1 (_, refl),
  c.in_err-store_register.ensures,
)

pub returns-in_err-store_register-clause-faults : goal.returns-in_err-store_register-clause-faults
returns-in_err-store_register-clause-faults g c = passed _ _ c.from_residual-in_err-store_register.ensures.1 (database_plain _)

-- the rows are no network and no staff
pub returns-in_err-network-clause-visit : goal.returns-in_err-network-clause-visit
returns-in_err-network-clause-visit g c =
    inl (RefusesRows-fault (lists_of c.args.rows) _ _ c.from_residual.ensures.1 c.in_err-network.ensures.refused, refl)

pub returns-in_err-network-clause-faults : goal.returns-in_err-network-clause-faults
returns-in_err-network-clause-faults g c = passed _ _ c.from_residual.ensures.1 c.in_err-network.ensures.faults
