-- The place of a register in its journal reads back.
use Rattle.std.proofs.Common.{◌≡◌, Ok, refl}
use Rattle.std.specs.Str.{is_utf8}
use Rattle.clr_load.specs.RowsRead.{read_place}
use Rattle.clr_load.specs.TableLaws.{PlacesAreRead}

pub places_read : PlacesAreRead
unfolding read_place
places_read p id sum = rw (id, sum) refl
