use Rattle.std.proofs.Common.{◌≡◌, rules}
use Rattle.clr_csv.specs.Alike.{differ_by_one_letter}
use Rattle.clr_csv.proofs.Letters.{one_letter_apart}
use Rattle.clr_csv.proofs.alike.differ_by_one_letter.Goals as goal

pub returns-clause-means : goal.returns-clause-means
returns-clause-means c =
    let test : c.bytes_differ.result ≡ differ_by_one_letter c.args.name.now c.args.other.now = search rules in
    one_letter_apart c.bytes_differ.result c.args.name.now c.args.other.now test
