use Rattle.std.proofs.Common.{◌≡◌, ◌∙◌, ◌+◌, ◌∷◌, true, false, [], sym, drop, refl, rules, subst}
use Rattle.std.proofs.lemmas.List.{drop_all}
use Rattle.clr_answer.proofs.RowLoops.{drop_step}
use Rattle.clr_wayback.proofs.Walking.{Left, all_are_left, first_is_refused, first_named, none_is_left, rest_is_left}
use Rattle.clr_wayback.proofs.walk.carry_out_all.Goals as goal

pub loop-command-init : goal.loop-command-init
loop-command-init g c gone R lacks names = all_are_left gone R c.args.book.now.register c.args.commands.now lacks names

-- the command is refused
pub returns-then-not-branch-clause-accepted : goal.returns-then-not-branch-clause-accepted
returns-then-not-branch-clause-accepted g c gone R lacks names =
    let commands = c.args.commands.now in
    let i = c.loop-command.command-index in
    let S = c.loop-command.book.register in
    let q = c.command-item.result in
    let rest = drop (i + 1) commands in
    let split : drop i commands ≡ q ∷ rest = drop_step commands commands i q refl c.command-item.is c.loop-command-test.true in
    let some = subst (Left gone R commands S) split (c.loop-command.invariant gone R lacks names) in
    let refused : c.in_ok-carry_out.field-0 ≡ false = search rules in
    sym (first_is_refused gone R commands S q rest some
    (sym (c.in_ok-carry_out.ensures.accepted gone some.now some.lacks (first_named gone R commands S q rest some)) ∙ refused))

pub loop-command-preserved : goal.loop-command-preserved
loop-command-preserved g c gone R lacks names =
    let commands = c.args.commands.now in
    let i = c.loop-command.command-index in
    let S = c.loop-command.book.register in
    let q = c.command-item.result in
    let rest = drop (i + 1) commands in
    let split : drop i commands ≡ q ∷ rest = drop_step commands commands i q refl c.command-item.is c.loop-command-test.true in
    let some = subst (Left gone R commands S) split (c.loop-command.invariant gone R lacks names) in
    let named = first_named gone R commands S q rest some in
    let accepted : c.in_ok-carry_out.field-0 ≡ true = search rules in
    rest_is_left gone R commands S q rest some c.carry_out.new.book.register
    (sym (c.in_ok-carry_out.ensures.accepted gone some.now some.lacks named) ∙ accepted)
    (c.in_ok-carry_out.ensures.lacks gone some.now some.lacks named)

pub returns-clause-accepted : goal.returns-clause-accepted
returns-clause-accepted g c gone R lacks names =
    let commands = c.args.commands.now in
    let i = c.loop-command.command-index in
    let S = c.loop-command.book.register in
    let none : drop i commands ≡ [] = drop_all i commands c.loop-command-test.false in
    sym (none_is_left gone R commands S (subst (Left gone R commands S) none (c.loop-command.invariant gone R lacks names))).0

pub returns-clause-lacks : goal.returns-clause-lacks
returns-clause-lacks g c gone R lacks names all =
    let commands = c.args.commands.now in
    let i = c.loop-command.command-index in
    let S = c.loop-command.book.register in
    let none : drop i commands ≡ [] = drop_all i commands c.loop-command-test.false in
    (none_is_left gone R commands S (subst (Left gone R commands S) none (c.loop-command.invariant gone R lacks names))).1
