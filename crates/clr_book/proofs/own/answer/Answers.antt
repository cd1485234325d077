use Rattle.std.proofs.Common.{◌≡◌, ◌∙◌, Option, None, Some, false, ap, sym, refl}
use Rattle.clr_rules.specs.Answer.{Answer, answer_with}
use Rattle.clr_rules.specs.Command.{is_jumper}
use Rattle.clr_rules.specs.Edits.{fit}
use Rattle.clr_rules.specs.Id.{Id}
use Rattle.clr_rules.specs.Near.{Near}
use Rattle.clr_rules.specs.Register.{Register}
use Rattle.clr_rules.specs.declared.command.Kind.{Kind}
use Rattle.clr_rules.specs.declared.command.Kind.TheVariants.{Jumper}
use Rattle.clr_rules.proofs.edits.Growing.{plain_fit}
use Rattle.clr_rules.proofs.edits.PlainEdits.{answers_with_plain}
use Rattle.clr_book.specs.Own.{near_by, own_of}
use Rattle.clr_book.proofs.Enough.{own_rows_are_enough}
use Rattle.clr_book.proofs.own.answer.Goals as goal

no_jumper : (R : Register) (kind : Kind) (c : Id) → own_of R kind ≡ Some c → is_jumper kind ≡ false
no_jumper R (Jumper point from to lockable remote) c is = cc is
no_jumper R _ c is = refl

pub returns-in_default-clause-asked : goal.returns-in_default-clause-asked
returns-in_default-clause-asked g c =
    let R = c.args.book.now.register in
    let q = c.args.command.now in
    let none : own_of R q.kind ≡ None = sym c.own_of.ensures ∙ c.in_default.is in
    ap (λ (o : Option Id). answer_with (Near.known (near_by o R q)) (Near.rows (near_by o R q)) q) none ∙ c.in_ok-decision.ensures.lent

pub returns-clause-asked : goal.returns-clause-asked
returns-clause-asked g c =
    let R = c.args.book.now.register in
    let q = c.args.command.now in
    let some : own_of R q.kind ≡ Some c.in-Some.id = sym c.own_of.ensures ∙ c.in-Some.is in
    ap (λ (o : Option Id). answer_with (Near.known (near_by o R q)) (Near.rows (near_by o R q)) q) some
    ∙ ap (λ (near : Near). answer_with near.known near.rows q) (sym c.in_ok-near.ensures)
    ∙ c.in_ok-decision-2.ensures.lent

pub returns-clause-whole : goal.returns-clause-whole
returns-clause-whole g c good =
    own_rows_are_enough c.args.book.now.register c.args.command.now good ∙ returns-clause-asked g c

pub returns-clause-fits : goal.returns-clause-fits
returns-clause-fits g c =
    let R = c.args.book.now.register in
    let q = c.args.command.now in
    let near = c.in_ok-near.near in
    let some : own_of R q.kind ≡ Some c.in-Some.id = sym c.own_of.ensures ∙ c.in-Some.is in
    ap (λ (a : Answer). fit R.net a.edits) (sym c.in_ok-decision-2.ensures.lent)
    ∙ plain_fit (Answer.edits (answer_with near.known near.rows q)) R.net (answers_with_plain near.known near.rows q (no_jumper R q.kind c.in-Some.id some))
