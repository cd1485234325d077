use Rattle.std.proofs.Common.{◌∙◌, refl}
use Rattle.clr_checking.proofs.Results.{if_err, if_ok, on_ok}
use Rattle.clr_checking.proofs.Checked.{fresh}
use Rattle.clr_checking.proofs.checking.Checking.over.Goals as goal

pub returns-clause-same_id : goal.returns-clause-same_id
returns-clause-same_id c = on_ok c.met_at_first.result (λ own. own ∙ c.from.ensures.id) c.met_at_first.ensures.same_id

pub returns-clause-begun : goal.returns-clause-begun
returns-clause-begun c =
    if_ok c.met_at_first.result (λ it went.
    went c.args.desk.book.register c.args.first c.args.place c.args.book.now.register c.from.ensures.id c.from.ensures.end refl
    (fresh c.args.first _ refl refl refl refl)) c.met_at_first.ensures.went

pub returns-clause-refused : goal.returns-clause-refused
returns-clause-refused c =
    if_err c.met_at_first.result (λ fault why.
    why c.args.desk.book.register c.args.first c.args.place c.args.book.now.register c.from.ensures.id c.from.ensures.end refl
    (fresh c.args.first _ refl refl refl refl)) c.met_at_first.ensures.refused
