use Rattle.std.proofs.Common.{ap, arith, length}
use Rattle.clr_csv.proofs.Readers.{length-records, records_left-start}
use Rattle.clr_csv.proofs.table.Table.new.Goals as goal

pub returns-clause-records : goal.returns-clause-records
returns-clause-records c =
    let made = c.from_reader-reader.ensures in
    records_left-start c.from_reader-reader.result c.args.bytes.now made.state made.source

pub returns-clause-few : goal.returns-clause-few
returns-clause-few c =
    let made = c.from_reader-reader.ensures in
    let all = records_left-start c.from_reader-reader.result c.args.bytes.now made.state made.source in
    omega (arith, ap length all, length-records c.args.bytes.now)
