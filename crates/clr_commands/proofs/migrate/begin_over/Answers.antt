use Rattle.std.proofs.Common.{◌≡◌, ◌∙◌, Err, Ok, ap, inl, refl, subst}
use Rattle.std.specs.Prelude.{IfErr}
use Rattle.clr_book.specs.Book.{Shelved}
use Rattle.clr_rules.specs.Register.{Register}
use Rattle.clr_keeping.specs.Beginning.{IsOfBegun}
use Rattle.clr_keeping.specs.TakenUp.{logs}
use Rattle.clr_edge.specs.Visit.{Done}
use Rattle.clr_commands.specs.First.{board_files, first_place, made_at}
use Rattle.clr_commands.proofs.Faults.{begun_plain}
use Rattle.clr_commands.proofs.Migrates.{BeginsOver-placed}
use Rattle.clr_commands.proofs.migrate.begin_over.Goals as goal

-- the journal was begun, and the register has its place in it
pub returns-in-Ok-begun-clause-begun : goal.returns-in-Ok-begun-clause-begun
returns-in-Ok-begun-clause-begun g c =
    let R = c.args.desk.book.register in
    let made = made_at c.args.moment c.args.path.now c.args.journal.now in
    let same : c.book.result.now.register ≡ c.args.desk.book.register = ap (λ (b : Shelved). b.register) c.book.ensures in
    BeginsOver-placed g.S.Store (logs g.R.Journals g.R.Log.Journal g.R.Time.Clock.shows) (first_place (board_files R) made) c.in-Ok.first c.args.journal.now
    (Ok c.in-Ok.line) c.begin_journal_of-begun.result.0 c.args.rt.now c.begin_journal_of-begun.new.rt c.args.desk.store c.begin_journal_of-begun.result.1
    (c.in-Ok.ensures.place ∙ ap (λ (Q : Register). first_place (board_files Q) made) same) (c.in-Ok-begun.is, c.in-Ok.ensures.line)
    c.begin_journal_of-begun.ensures.placed

-- or it was not
pub returns-in-Ok-clause-begun : goal.returns-in-Ok-clause-begun
returns-in-Ok-clause-begun g c =
    let R = c.args.desk.book.register in
    let made = made_at c.args.moment c.args.path.now c.args.journal.now in
    let same : c.book.result.now.register ≡ c.args.desk.book.register = ap (λ (b : Shelved). b.register) c.book.ensures in
    BeginsOver-placed g.S.Store (logs g.R.Journals g.R.Log.Journal g.R.Time.Clock.shows) (first_place (board_files R) made) c.in-Ok.first c.args.journal.now
    (Err c.in-Err-begun.fault) c.begin_journal_of-begun.result.0 c.args.rt.now c.begin_journal_of-begun.new.rt c.args.desk.store c.begin_journal_of-begun.result.1
    (c.in-Ok.ensures.place ∙ ap (λ (Q : Register). first_place (board_files Q) made) same) c.in-Err-begun.is c.begin_journal_of-begun.ensures.placed

pub returns-in-Ok-clause-faults : goal.returns-in-Ok-clause-faults
returns-in-Ok-clause-faults g c =
    begun_plain c.in-Err-begun.fault (subst (λ (r : Done). IfErr r IsOfBegun) c.in-Err-begun.is c.begin_journal_of-begun.ensures.fault)

-- memory ran out before
pub returns-clause-begun : goal.returns-clause-begun
returns-clause-begun g c =
    let same : c.end-in-Err.result ≡ c.args.desk.store = c.end-in-Err.ensures.connection ∙ c.end.ensures in
    inl (refl, refl, same)
