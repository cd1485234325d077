use Rattle.std.proofs.Common.{rules, is_lt}
use Rattle.std.proofs.lemmas.List.Sorted.{IsPartitionPoint-from_clause}
use Rattle.clr_net.specs.Prelude.{name_cmp}
use Rattle.clr_net.proofs.ByName.{inserted_by_name, parted_by_name}
use Rattle.clr_net.proofs.named.insert_by_name.Goals as goal

pub returns-clause-rows : goal.returns-clause-rows
returns-clause-rows g c =
    let name_of = g.R.Named.name_of in
    let rows = c.args.rows.now.items in
    let place = c.partition_point-place.result in
    let parted = parted_by_name name_of c.args.row rows c.requires.rising in
    let point = rw (c.name-name.ensures, c.deref.ensures.value) at
    (IsPartitionPoint-from_clause (λ other. is_lt (name_cmp (name_of other) c.name-name.result)) c.deref.result.now place c.partition_point-place.ensures.partitioned
    (rw (c.name-name.ensures, c.deref.ensures.value) parted) (λ a r q k. search rules)) in
    rw c.in-Ok.ensures.items
    (inserted_by_name name_of c.args.row rows place c.requires.new (rw c.deref.ensures.value at c.partition_point-place.ensures.bound) point.0 point.1)
