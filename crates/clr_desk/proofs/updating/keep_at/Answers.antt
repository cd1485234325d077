use Rattle.std.proofs.Common.{◌≡◌, ◌∙◌, Err, Ok, ap, subst, sym, None}
use Rattle.clr_store.specs.Renewed.{AreStatesOf, tables_renewed}
use Rattle.clr_rules.specs.declared.point_state.PointState.{PointState}
use Rattle.clr_net.specs.Grid.{Grid}
use Rattle.std.specs.Prelude.{List}
use Rattle.clr_load.specs.Tables.{tables_of}
use Rattle.clr_update.specs.Update.{in_the_way, updated}
use Rattle.clr_desk.proofs.Renewed.{came_to, not_come, turned_from}
use Rattle.clr_desk.proofs.updating.keep_at.Goals as goal

pub update_at-requires : goal.update_at-requires
update_at-requires g c =
    subst (λ (n : Grid). AreStatesOf n.points c.deref.result.now) (sym c.network_and_staff.ensures.network)
    (subst (λ (states : List PointState). AreStatesOf (Grid.points c.args.renewal.book.network) states) (sym c.deref.ensures.value) c.requires)

pub returns-in-Ok-clause-updated : goal.returns-in-Ok-clause-updated
returns-in-Ok-clause-updated g c u it =
    let R = c.args.desk.book.register in
    let turned = tables_renewed c.network_and_staff.result.0.now c.network_and_staff.result.1.now c.deref.result.now in
    let same : turned (tables_of R) ≡ tables_of (updated R u) =
    (λ i. tables_renewed (c.network_and_staff.ensures.network i) (c.network_and_staff.ensures.staff i) (c.deref.ensures.value i) (tables_of R)) ∙ ap tables_of it.renews in
    let turns = turned_from g.K.Commit.kept g.K.CommitAt.has_place c.parted-book.result.1 c.update_at.new.self c.args.desk.store c.of.result.store turned c.args.place.now (Ok tt)
    c.parted-book.ensures.kept (sym c.of.ensures.store) c.in-Ok.ensures.turns in (
      (it.free, it.lines),
      came_to g.K.Commit.kept g.K.CommitAt.has_place g.K.Commit.fails (in_the_way R u ≡ None) c.args.desk c.of.result (updated R u) c.args.place.now turned it.free same turns
          (λ good. ap (λ b. b.register) c.of.ensures.book ∙ it.register) (λ _. it.typed),
    )

pub returns-in-Err-clause-updated : goal.returns-in-Err-clause-updated
returns-in-Err-clause-updated g c u it =
    let R = c.args.desk.book.register in
    let turned = tables_renewed c.network_and_staff.result.0.now c.network_and_staff.result.1.now c.deref.result.now in
    let same : turned (tables_of R) ≡ tables_of (updated R u) =
    (λ i. tables_renewed (c.network_and_staff.ensures.network i) (c.network_and_staff.ensures.staff i) (c.deref.ensures.value i) (tables_of R)) ∙ ap tables_of it.renews in
    let turns = turned_from g.K.Commit.kept g.K.CommitAt.has_place c.parted-book.result.1 c.update_at.new.self c.args.desk.store c.of-in-Err.result.store turned c.args.place.now (Err c.in-Err.fault)
    c.parted-book.ensures.kept (sym c.of-in-Err.ensures.store) c.in-Err.ensures.turns in
    not_come g.K.Commit.kept g.K.CommitAt.has_place g.K.Commit.fails (in_the_way R u ≡ None) c.args.desk c.of-in-Err.result (updated R u) c.args.place.now turned it.free same c.in-Err.fault turns
    (c.of-in-Err.ensures.book ∙ c.parted-book.ensures.book) c.in-Err.ensures.fault
