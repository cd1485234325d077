-- The first request of the 49 and its response, by computation.
use Rattle.std.proofs.Common.{refl}
use Rattle.std.specs.Fmt.{digits}
use Rattle.json.specs.Print.{escape_byte}
use Rattle.httparse.specs.Grammar.{print_request}
use Rattle.clr_examples.specs.Worked.{the_rules}
use Rattle.clr_worked.specs.OneClearance.{TheFirstAreKnown}

pub first : TheFirstAreKnown
unfolding digits escape_byte print_request the_rules
first = record { request = refl; one = refl; two = refl }
