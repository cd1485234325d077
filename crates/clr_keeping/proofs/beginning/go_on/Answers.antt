use Rattle.std.proofs.Common.{◌≡◌, ◌∙◌, Ok, Err, ap, refl, sym}
use Rattle.clr_level.specs.declared.last.Last.TheVariants.{Settled}
use Rattle.clr_keeping.specs.Beginning.{gives_number}
use Rattle.clr_keeping.proofs.Begun.{begun-places, goes-on, number-of}
use Rattle.clr_keeping.proofs.beginning.go_on.Goals as goal

-- the next part was begun, and the register went there
pub returns-in-Ok-begun_or-clause-next : goal.returns-in-Ok-begun_or-clause-next
returns-in-Ok-begun_or-clause-next g c =
    let same : c.end-store.result.1 ≡ c.args.desk.store.journal = cc in
    let kept : c.end-store.result.0 ≡ c.args.desk.store.keeper = cc in
    let at : c.in-Ok.first ≡ c.args.desk.store.at = cc (c.in-Ok.ensures.0, c.end-keeper.ensures) in
    let settled : c.args.desk.store.last ≡ Settled = cc (c.in-Ok.ensures.1, c.end-keeper.ensures) in
    goes-on g.S.Store _ c.args.next.now _ c.args.rt.now c.let_journal_go.new.self _ c.args.desk.store c.end-store.result.1 c.end-store.result.0
    c.move_in-placed.result.1 c.in-Ok.first c.begun_or.result same kept at settled c.let_journal_go.ensures
    (number-of c.in-Ok.first c.begun_or.result _ c.in-Ok-begun_or.is)
    (begun-places g.S.Store _ c.args.next.now c.in-Ok.first c.begun_or.result c.let_journal_go.new.self c.begin_journal.new.self c.let_journal_go-2.new.self
    c.in-Ok-begin_journal.log c.end-store.result.0 c.move_in-placed.result.1 c.move_in-placed.result.0
    c.in-Ok-begin_journal.ensures.begins_journal c.let_journal_go-2.ensures c.in-Ok-begin_journal.ensures.new c.move_in-placed.ensures.placed c.begun_or.ensures)

-- or did not
pub returns-clause-next : goal.returns-clause-next
returns-clause-next g c =
    let same : c.end-store.result.1 ≡ c.args.desk.store.journal = cc in
    let kept : c.end-store.result.0 ≡ c.args.desk.store.keeper = cc in
    let at : c.in-Ok.first ≡ c.args.desk.store.at = cc (c.in-Ok.ensures.0, c.end-keeper.ensures) in
    let settled : c.args.desk.store.last ≡ Settled = cc (c.in-Ok.ensures.1, c.end-keeper.ensures) in
    goes-on g.S.Store _ c.args.next.now _ c.args.rt.now c.let_journal_go.new.self _ c.args.desk.store c.end-store.result.1 c.end-store.result.0
    c.move_in-placed.result.1 c.in-Ok.first c.begun_or.result same kept at settled c.let_journal_go.ensures
    c.in-Err-begun_or.is
    (begun-places g.S.Store _ c.args.next.now c.in-Ok.first c.begun_or.result c.let_journal_go.new.self c.begin_journal.new.self c.let_journal_go-2.new.self
    c.in-Ok-begin_journal.log c.end-store.result.0 c.move_in-placed.result.1 c.move_in-placed.result.0
    c.in-Ok-begin_journal.ensures.begins_journal c.let_journal_go-2.ensures c.in-Ok-begin_journal.ensures.new c.move_in-placed.ensures.placed c.begun_or.ensures)
