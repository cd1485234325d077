use Rattle.std.proofs.Common.{◌≡◌, ap}
use Rattle.clr_book.specs.Book.{Shelved}
use Rattle.clr_changes.specs.Shown.{as_update}
use Rattle.clr_level.specs.Journaling.{FailsToo}
use Rattle.clr_update.specs.Shown.{as_changes}
use Rattle.clr_edge.specs.declared.fault.Fault.TheVariants.{Memory, Update}
use Rattle.clr_commands.proofs.Updating.{accepted_by, can_be_done, levels_alike, memory_told, obstacle_told, unrenewed}
use Rattle.clr_commands.proofs.update.renew_unless.Goals as goal

-- what is accepted can be made
pub renew_by-requires : goal.renew_by-requires
renew_by-requires g c =
    let R = c.args.desk.book.register in
    let u = as_update c.args.update in
    let register : c.book.result.now.register ≡ R = ap (λ (b : Shelved). b.register) c.book.ensures in
    let it = accepted_by R c.book.result.now.register u c.in-Ok.outcome c.in-Accepted.after register c.in-Accepted.is c.requires.0 c.is_read.ensures c.in-Ok.ensures in
    can_be_done R u (as_changes c.in-Accepted.after.changes) c.changes_say_all.ensures it.0 it.1

pub returns-in-Accepted-clause-renewed : goal.returns-in-Accepted-clause-renewed
returns-in-Accepted-clause-renewed g c =
    let R = c.args.desk.book.register in
    let u = as_update c.args.update in
    let register : c.book.result.now.register ≡ R = ap (λ (b : Shelved). b.register) c.book.ensures in
    let it = accepted_by R c.book.result.now.register u c.in-Ok.outcome c.in-Accepted.after register c.in-Accepted.is c.requires.0 c.is_read.ensures c.in-Ok.ensures in
    c.renew_by.ensures.renewed u c.requires.1 it.0 it.1

-- or something is in the way
pub returns-in-InTheWay-clause-renewed : goal.returns-in-InTheWay-clause-renewed
returns-in-InTheWay-clause-renewed g c =
    let R = c.args.desk.book.register in
    let u = as_update c.args.update in
    let register : c.book.result.now.register ≡ R = ap (λ (b : Shelved). b.register) c.book.ensures in
    unrenewed g.K.Commit.kept g.K.CommitAt.has_place g.K.Commit.fails g.C.Clock.shows g.J.Journal c.args.desk u (Update c.in-InTheWay.obstacle)
    (obstacle_told (FailsToo g.K.Commit.fails) R c.book.result.now.register u c.in-Ok.outcome c.in-InTheWay.obstacle register c.in-InTheWay.is c.in-Ok.ensures)

pub returns-in-InTheWay-clause-level : goal.returns-in-InTheWay-clause-level
returns-in-InTheWay-clause-level g c = levels_alike g.K.Commit.kept g.K.CommitAt.has_place g.J.Journal.text c.args.desk

pub returns-in-InTheWay-clause-sound : goal.returns-in-InTheWay-clause-sound
returns-in-InTheWay-clause-sound g c sound = sound

pub returns-in-InTheWay-clause-safe : goal.returns-in-InTheWay-clause-safe
returns-in-InTheWay-clause-safe g c first start good level safe = safe

-- or memory ran out
pub returns-in-Err-clause-renewed : goal.returns-in-Err-clause-renewed
returns-in-Err-clause-renewed g c =
    unrenewed g.K.Commit.kept g.K.CommitAt.has_place g.K.Commit.fails g.C.Clock.shows g.J.Journal c.args.desk (as_update c.args.update) Memory
    (memory_told (FailsToo g.K.Commit.fails) c.args.desk.book.register (as_update c.args.update))

pub returns-in-Err-clause-level : goal.returns-in-Err-clause-level
returns-in-Err-clause-level g c = levels_alike g.K.Commit.kept g.K.CommitAt.has_place g.J.Journal.text c.args.desk

pub returns-in-Err-clause-sound : goal.returns-in-Err-clause-sound
returns-in-Err-clause-sound g c sound = sound

pub returns-in-Err-clause-safe : goal.returns-in-Err-clause-safe
returns-in-Err-clause-safe g c first start good level safe = safe
