use Rattle.std.proofs.Common.{◌∙◌, Some, ap, subst, sym}
use Rattle.clr_book.specs.Book.{Shelved}
use Rattle.clr_changes.specs.Made.{IsMade}
use Rattle.clr_update.specs.Delta.{after_changes}
use Rattle.clr_desk.proofs.renewing.Desk+Unkept.renew.Goals as goal

pub returns-clause-register : goal.returns-clause-register
returns-clause-register c of made =
    let same = c.book.ensures in
    ap (λ d. d.book.register) c.go_on_with.ensures
    ∙ c.in_ok-book.ensures.register of (subst (λ (b : Shelved). IsMade b.register of (Some c.args.after)) (sym same) made)
    ∙ ap (λ (b : Shelved). after_changes b.register of) same
