use Rattle.std.proofs.Common.{◌≡◌, ◌∙◌, Err, Ok, List, ap, sym}
use Rattle.std.specs.Prelude.{⊤}
use Rattle.clr_changes.specs.Archive.{archived}
use Rattle.clr_book.specs.Book.{Shelved}
use Rattle.clr_rules.specs.Good.{IsGood}
use Rattle.clr_rules.specs.declared.step_row.StepKey.{StepKey}
use Rattle.clr_store.specs.StepsTaken.{without_steps}
use Rattle.clr_load.specs.Tables.{tables_of}
use Rattle.clr_desk.proofs.Archived.{tables_archived, typed_archived}
use Rattle.clr_desk.proofs.Renewed.{came_to, not_come, turned_from}
use Rattle.clr_desk.proofs.archiving.leave_at.Goals as goal

pub returns-in-Ok-clause-archived : goal.returns-in-Ok-clause-archived
returns-in-Ok-clause-archived g c =
    let R = c.args.desk.book.register in
    let before = c.args.before in
    let it = c.requires in
    let turned = without_steps c.deref.result.now in
    let same : turned (tables_of R) ≡ tables_of (archived before R) =
    ap (λ (keys : List StepKey). without_steps keys (tables_of R)) (c.deref.ensures.value ∙ it.keys) ∙ tables_archived before R in
    let turns = turned_from g.K.Commit.kept g.K.CommitAt.has_place c.parted-book.result.1 c.take_steps_at.new.self c.args.desk.store c.of.result.store turned c.args.place.now (Ok tt)
    c.parted-book.ensures.kept (sym c.of.ensures.store) c.in-Ok.ensures.turns in
    let register : IsGood R → c.of.result.book.register ≡ archived before R = λ good. ap (λ (b : Shelved). b.register) c.of.ensures.book ∙ it.register good in
    came_to g.K.Commit.kept g.K.CommitAt.has_place g.K.Commit.fails ⊤ c.args.desk c.of.result (archived before R) c.args.place.now turned tt same turns register (typed_archived before R)

pub returns-in-Err-clause-archived : goal.returns-in-Err-clause-archived
returns-in-Err-clause-archived g c =
    let R = c.args.desk.book.register in
    let before = c.args.before in
    let it = c.requires in
    let turned = without_steps c.deref.result.now in
    let same : turned (tables_of R) ≡ tables_of (archived before R) =
    ap (λ (keys : List StepKey). without_steps keys (tables_of R)) (c.deref.ensures.value ∙ it.keys) ∙ tables_archived before R in
    let turns = turned_from g.K.Commit.kept g.K.CommitAt.has_place c.parted-book.result.1 c.take_steps_at.new.self c.args.desk.store c.of-in-Err.result.store turned c.args.place.now (Err c.in-Err.fault)
    c.parted-book.ensures.kept (sym c.of-in-Err.ensures.store) c.in-Err.ensures.turns in
    not_come g.K.Commit.kept g.K.CommitAt.has_place g.K.Commit.fails ⊤ c.args.desk c.of-in-Err.result (archived before R) c.args.place.now turned tt same c.in-Err.fault turns
    (c.of-in-Err.ensures.book ∙ c.parted-book.ensures.book) c.in-Err.ensures.fault
