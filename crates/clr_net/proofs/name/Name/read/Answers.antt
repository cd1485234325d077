use Rattle.std.proofs.Common.{◌<◌, arith, length}
use Rattle.std.proofs.lemmas.Bool.Decides.{nat_tests}
use Rattle.clr_net.proofs.Names.{is_name_from, name_has_none}
use Rattle.clr_net.proofs.name.Name.read.Goals as goal

pub store-requires : goal.store-requires
store-requires c =
    let some : 0 < length c.as_bytes-bytes.result.now = grind (arith, nat_tests) in
    is_name_from c.as_bytes-bytes.result.now some (omega arith) (let e = c.in-None.is in let f = c.bad_byte.ensures in cc)

pub returns-in-Some-clause-names : goal.returns-in-Some-clause-names
returns-in-Some-clause-names c = (λ e. absurd (grind arith), λ h. let n = name_has_none c.args.text.now h in let e = c.in-Some.is in let f = c.bad_byte.ensures in absurd (grind arith))
