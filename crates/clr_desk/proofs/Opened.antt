-- A desk that is not opened: what its fault says.
use Rattle.std.proofs.Common.{◌≡◌, ◌⊎◌, inl, inr}
use Rattle.clr_load.specs.Fault.{IsOfDatabase}
use Rattle.clr_load.specs.declared.fault.StoreFault.{StoreFault}
use Rattle.clr_desk.specs.Faults.{IsOfCommand, of_store}
use Rattle.clr_desk.specs.declared.desk_fault.DeskFault.{DeskFault}
use Rattle.clr_desk.proofs.OneCommand.{of_command}

-- a store that was shut is refused as a fault of the database
pub shut_or_open : (Open : Type 0) (fault : StoreFault) (told : DeskFault) → Open ⊎ IsOfDatabase fault
    → told ≡ of_store fault → Open ⊎ IsOfCommand told
shut_or_open Open fault told (inl open_then) is = inl open_then
shut_or_open Open fault told (inr refused) is = inr (of_command fault told refused is)
