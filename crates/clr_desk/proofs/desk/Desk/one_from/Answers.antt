use Rattle.std.proofs.Common.{◌∷◌, [], inl, inr, ⊎_elim}
use Rattle.clr_rules.specs.RunHeadline.{with_reply}
use Rattle.clr_rules.proofs.isolation.RunReplies.{others_take_nothing}
use Rattle.clr_desk.specs.Answering.{replies_of}
use Rattle.clr_desk.proofs.Givings.{one_leads}
use Rattle.clr_desk.proofs.Keeping.{one_keeps}
use Rattle.clr_desk.proofs.RunSteps.{no_reply_changed, one_ran, one_survives, standing_alone, working_safely}
use Rattle.clr_desk.proofs.desk.Desk.one_from.Goals as goal

pub returns-clause-led : goal.returns-clause-led
returns-clause-led g c =
    one_leads g.K.Commit.kept g.K.Commit.takes g.K.Commit.fails c.args.self.now c.answer.new.self c.args.login c.args.command c.answer.result
    c.answer.ensures.carried c.answer.ensures.taken

pub returns-clause-ran : goal.returns-clause-ran
returns-clause-ran g c good =
    let carried = c.answer.ensures.carried in
    one_ran c.args.self.now.book.register c.answer.new.self.book.register c.args.command c.answer.result
    (carried.reply good) (carried.register good) carried.unchanged

pub returns-clause-headline : goal.returns-clause-headline
returns-clause-headline g c =
    no_reply_changed c.args.self.now.book.register (with_reply (c.args.command ∷ []) (replies_of c.answer.result)) (replies_of c.answer.result)
    c.answer.new.self.book.register (returns-clause-ran g c)

pub returns-clause-untouched : goal.returns-clause-untouched
returns-clause-untouched g c = others_take_nothing c.args.self.now.book.register (with_reply (c.args.command ∷ []) (replies_of c.answer.result))

pub returns-clause-alone : goal.returns-clause-alone
returns-clause-alone g c =
    standing_alone c.args.self.now.book.register (with_reply (c.args.command ∷ []) (replies_of c.answer.result)) (replies_of c.answer.result)
    c.answer.new.self.book.register (returns-clause-ran g c)

pub returns-clause-safe : goal.returns-clause-safe
returns-clause-safe g c =
    working_safely c.args.self.now.book.register (with_reply (c.args.command ∷ []) (replies_of c.answer.result)) (replies_of c.answer.result)
    c.answer.new.self.book.register (returns-clause-ran g c)

pub returns-clause-keeps : goal.returns-clause-keeps
returns-clause-keeps g c = one_keeps g.K.Commit.kept g.K.Commit.fails c.args.self.now c.answer.new.self c.args.command c.answer.result c.answer.ensures.carried

pub returns-clause-crash : goal.returns-clause-crash
returns-clause-crash g c clean saved good has trees may =
    let carried = c.answer.ensures.carried in
    one_survives (g.K.Commit.kept c.args.self.now.store) (g.K.Commit.kept c.answer.new.self.store) c.args.self.now.book.register
    c.answer.new.self.book.register c.args.command c.answer.result trees saved has (carried.register good) (carried.saved clean saved)
    (carried.tables clean good has)
    (g.met.K.Commit.settled c.args.self.now.store trees) (g.met.K.Commit.settled c.answer.new.self.store trees)
    may (⊎_elim (λ before. inl before) (λ made. inr (made good has)) (carried.survives.crash clean trees may))
