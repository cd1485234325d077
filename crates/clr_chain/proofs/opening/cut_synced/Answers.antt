use Rattle.std.proofs.Common.{◌≡◌, ◌+◌, length, take}
use Rattle.sqlite_disk.specs.Disk.{Cut, Follows, Only}
use Rattle.clr_chain.proofs.CutSynced.{if_map, only_cut}
use Rattle.clr_chain.proofs.opening.cut_synced.Goals as goal

-- what a crash leaves is the text, before the journal is made and after
pub returns-in-Ok-clause-durable : goal.returns-in-Ok-clause-durable
returns-in-Ok-clause-durable g c =
    let end = c.args.end in
    let bytes = g.D.Disk.seen c.args.disk in
    let synced = g.D.Disk.may_leave c.cut_off.new.disk in
    if_map c.cut_at.result (λ journal. Follows (Cut end) synced (g.D.Disk.may_leave journal.disk))
    (λ journal. end + c.args.rest ≡ length bytes → Only (take end bytes) (g.D.Disk.may_leave journal.disk))
    (λ journal follows all. only_cut end c.args.rest bytes synced (g.D.Disk.may_leave journal.disk) all (c.in-Ok.ensures.durable all) follows) c.cut_at.ensures.crash
