-- A word that names no clearance.
use Rattle.std.proofs.Common.{◌≡◌, Option, None, Some, Err, ok_or, refl}
use Rattle.std.specs.Result.{result_ok}
use Rattle.clr_rules.specs.Id.{Id}
use Rattle.clr_edge.specs.declared.fault.Fault.TheVariants.{NoSuch}
use Rattle.clr_keeping.specs.Journal.{some_or_none}

pub names_none : {E : Type 0} (read : Option Id) (bad : E) → result_ok (ok_or read bad) ≡ None → Err NoSuch ≡ some_or_none read
names_none None bad none = refl
names_none (Some c) bad none = cc none
