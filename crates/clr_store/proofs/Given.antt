-- What parameters are, as values.
use Rattle.std.proofs.Common.{◌≡◌, Bool, true, false, ℕ, List, Option, Some, None, refl}
use Rattle.sqlite.specs.Values.{bound_value}
use Rattle.clr_net.specs.declared.point.Position.{Position}
use Rattle.clr_net.specs.declared.point.Position.TheVariants.{Opened, Closed}
use Rattle.sqlite.specs.Kind.TheVariants.{Integer}
use Rattle.clr_load.specs.Tables.{flag_value, name_or_null, position_value}
use Rattle.clr_load.specs.Stored.{is_of_kind}

pub bound_position : (position : Position) → bound_value (position_value position) ≡ position_value position
bound_position Opened = refl
bound_position Closed = refl

pub bound_flag : (flag : Bool) → bound_value (flag_value flag) ≡ flag_value flag
bound_flag true = refl
bound_flag false = refl

-- both are integers
pub position_fits : (position : Position) → is_of_kind Integer (position_value position) ≡ true
position_fits Opened = refl
position_fits Closed = refl

pub flag_fits : (flag : Bool) → is_of_kind Integer (flag_value flag) ≡ true
flag_fits true = refl
flag_fits false = refl

pub bound_name : (name : Option (List ℕ)) → bound_value (name_or_null name) ≡ name_or_null name
bound_name None = refl
bound_name (Some name) = refl
