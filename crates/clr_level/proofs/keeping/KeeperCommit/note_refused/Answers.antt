use Rattle.std.proofs.Common.{◌∙◌, refl, subst, sym}
use Rattle.clr_desk.specs.Commit.{Stays}
use Rattle.clr_desk.proofs.Staying.{stays_itself}
use Rattle.clr_level.proofs.Taken.{refused_is}
use Rattle.clr_level.proofs.keeping.KeeperCommit.note_refused.Goals as goal

pub returns-in_err-note-clause-stays : goal.returns-in_err-note-clause-stays
returns-in_err-note-clause-stays g c =
    let old = g.K.Commit.kept c.args.self.now.keeper in
    subst (λ (k : g.row.K.Denot). Stays old (g.K.Commit.kept k)) (sym c.note.ensures.keeper) (stays_itself old)

pub returns-clause-taken : goal.returns-clause-taken
returns-clause-taken g c =
    let noted = c.in_ok-note.ensures in
    refused_is g.K.Commit.takes g.K.Commit.kept g.K.CommitAt.has_place g.C.Clock.shows g.J.Journal.text g.J.Journal.found g.J.Journal.may_leave g.J.Journal.is_usable
    c.args.self.now c.note.new.self _ c.args.login c.args.command.now c.args.reply.now c.note_refused-2.result c.requires.refused
    (sym c.is_show.ensures ∙ c.if-is_show.false) noted.noted noted.settled c.note.ensures.sound c.note.ensures.safe c.note.ensures.withdrawn c.note.ensures.keeper
    (record { journal = refl; clock = refl; at = refl; synced = refl }) refl c.note_refused-2.ensures.taken c.note_refused-2.ensures.stays
