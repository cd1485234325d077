use Rattle.std.proofs.Common.{refl}
use Rattle.clr_store.proofs.values.place_values.Goals as goal

pub returns-clause-row : goal.returns-clause-row
returns-clause-row c =
    rw (c.text_value.ensures, c.text_value-2.ensures, c.number_value.ensures, c.as_str.ensures, c.as_str-2.ensures) refl

pub returns-clause-fits : goal.returns-clause-fits
returns-clause-fits c = rw (c.text_value.ensures, c.text_value-2.ensures, c.number_value.ensures) refl
