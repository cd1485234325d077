use Rattle.std.proofs.Common.{◌≡◌, ◌∙◌, ◌+◌, ◌∷◌, sym, ap, subst, drop, List}
use Rattle.std.proofs.lemmas.List.{drop_all}
use Rattle.clr_rules.specs.Edits.{after_edits, fit}
use Rattle.clr_rules.specs.declared.change.Edit.{Edit}
use Rattle.clr_book.specs.Book.{Fits, needs}
use Rattle.clr_book.specs.Growth.{network_after_all}
use Rattle.clr_answer.proofs.RowLoops.{drop_step}
use Rattle.clr_book.proofs.BookEdits.{edit_step, first_taken, network_end, network_step}
use Rattle.clr_answer.proofs.DecisionFacts.{edits_end}
use Rattle.clr_book.proofs.book.Book.apply.Goals as goal

pub make-requires-clause-fits : goal.make-requires-clause-fits
make-requires-clause-fits g c =
    let edits = c.args.change.edits.items in
    let i = c.loop-edit.edit-index in
    let edit = c.edit-item.result in
    let step : drop i edits ≡ edit ∷ drop (i + 1) edits =
    drop_step c.deref-edit-items.result.now edits i edit c.deref-edit-items.ensures.value c.edit-item.is c.loop-edit-test.true in
    first_taken c.loop-edit.self.register.net edit (drop (i + 1) edits) (ap (fit c.loop-edit.self.register.net) (sym step) ∙ c.loop-edit.invariant.1)

pub loop-edit-preserved : goal.loop-edit-preserved
loop-edit-preserved g c =
    let edits = c.args.change.edits.items in
    let i = c.loop-edit.edit-index in
    let edit = c.edit-item.result in
    let step : drop i edits ≡ edit ∷ drop (i + 1) edits =
    drop_step c.deref-edit-items.result.now edits i edit c.deref-edit-items.ensures.value c.edit-item.is c.loop-edit-test.true in
    let made = edit_step edit (drop (i + 1) edits) c.loop-edit.self c.make.new.self
    (subst (λ (left : List Edit). Fits (needs left) c.loop-edit.self.room) step c.loop-edit.invariant.0) c.make.ensures.room
    (ap (fit c.loop-edit.self.register.net) (sym step) ∙ c.loop-edit.invariant.1) c.make.ensures.register in (
      made.0,
      made.1,
      made.2 ∙ ap (λ left. after_edits left c.loop-edit.self.register) (sym step) ∙ c.loop-edit.invariant.2,
      network_step edit (drop (i + 1) edits) c.loop-edit.self.network c.make.new.self.network c.make.ensures.network
          ∙ ap (λ left. network_after_all left c.loop-edit.self.network) (sym step) ∙ c.loop-edit.invariant.3,
    )

pub returns-clause-register : goal.returns-clause-register
returns-clause-register g c =
    let edits = c.args.change.edits.items in
    let none = drop_all c.loop-edit.edit-index c.deref-edit-items.result.now c.loop-edit-test.false in
    sym (edits_end c.loop-edit.self.register)
    ∙ ap (λ left. after_edits left c.loop-edit.self.register) (sym none ∙ ap (drop c.loop-edit.edit-index) c.deref-edit-items.ensures.value) ∙ c.loop-edit.invariant.2

pub returns-clause-network : goal.returns-clause-network
returns-clause-network g c =
    let none = drop_all c.loop-edit.edit-index c.deref-edit-items.result.now c.loop-edit-test.false in
    sym (network_end c.loop-edit.self.network)
    ∙ ap (λ left. network_after_all left c.loop-edit.self.network) (sym none ∙ ap (drop c.loop-edit.edit-index) c.deref-edit-items.ensures.value)
    ∙ c.loop-edit.invariant.3
