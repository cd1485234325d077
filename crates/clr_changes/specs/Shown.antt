-- An update as the definitions have it.
use Rattle.clr_update.specs.Update.{Update}
use Rattle.clr_changes.specs.declared.update.Update.{Update as Files}

abbrev pub as_update : Files → Update
as_update u = record { net = u.network; staff = u.staff; without = u.without.items }
