use Rattle.std.proofs.Common.{◌≡◌, ◌∙◌, ◌+◌, ℕ, Bool, List, [], Some, None, ap, false, sym, subst, rules, arith, true}
use Rattle.clr_rules.specs.Id.{Id}
use Rattle.clr_rules.specs.Register.{Register}
use Rattle.clr_rules.specs.Run.{after_all}
use Rattle.clr_rules.specs.WayBack.{enough_turns, next_moves, turns}
use Rattle.clr_rules.specs.declared.command.Command.{Command}
use Rattle.clr_wayback.proofs.LackingMoves.{same_turns}
use Rattle.clr_wayback.proofs.Walking.{Walked, given_all, moves_are_named, walk_begins, walk_ends, walk_goes_on, walk_is_done, walk_is_nobodys, walk_is_refused}
use Rattle.clr_wayback.specs.Answer.{are_accepted, items_of, tried}
use Rattle.clr_wayback.specs.Open.{AllNameAnother, LacksOnly}
use Rattle.clr_wayback.proofs.walk.walk.Goals as goal

-- the turns that are enough by the book are those of the whole register
by_turns : (gone : Id → Bool) (R S : Register) → LacksOnly gone R S → (id : Id) → gone id ≡ false → (n : ℕ) → n ≡ enough_turns S id
    → tried R (turns n R id) ≡ tried R (turns (enough_turns R id) R id)
by_turns gone R S lacks id kept n is = ap (λ (m : ℕ). tried R (turns m R id)) (is ∙ same_turns gone R S lacks id kept)

pub loop-turn-init : goal.loop-turn-init
loop-turn-init g c gone R lacks kept =
    let S = c.args.book.now.register in
    let none : c.new-commands.result.items ≡ [] = search rules in
    subst (Walked gone R S c.args.id.now c.in_ok-turns.turns 0) (sym none) (walk_begins gone R S c.args.id.now c.in_ok-turns.turns lacks)

pub returns-in_default : goal.returns-in_default
returns-in_default g c gone R lacks kept nameless =
    let S = c.loop-turn.book.register in
    let id = c.args.id.now in
    let none : c.in_ok-moves.field-0 ≡ None = search rules in
    walk_is_nobodys gone R S id c.in_ok-turns.turns c.loop-turn._turn c.loop-turn.commands.items (c.loop-turn.invariant gone R lacks kept) kept
    nameless c.loop-turn-test.true (ap items_of (sym none) ∙ c.in_ok-moves.ensures)
    ∙ by_turns gone R c.args.book.now.register lacks id kept c.in_ok-turns.turns c.in_ok-turns.ensures

pub returns-then-is_empty : goal.returns-then-is_empty
returns-then-is_empty g c gone R lacks kept nameless =
    let S = c.loop-turn.book.register in
    let id = c.args.id.now in
    let some : c.in_ok-moves.field-0 ≡ Some c.in-Some.moves = search rules in
    let moves = given_all (next_moves S id) c.in-Some.moves.items (ap items_of (sym some) ∙ c.in_ok-moves.ensures) in
    let empty : c.in-Some.moves.items ≡ [] = search rules in
    walk_is_done gone R S id c.in_ok-turns.turns c.loop-turn._turn c.loop-turn.commands.items (c.loop-turn.invariant gone R lacks kept) kept (sym moves.0 ∙ empty)
    ∙ by_turns gone R c.args.book.now.register lacks id kept c.in_ok-turns.turns c.in_ok-turns.ensures

-- one of the moves is refused
pub returns-then-not-branch : goal.returns-then-not-branch
returns-then-not-branch g c gone R lacks kept nameless =
    let S = c.loop-turn.book.register in
    let T = after_all R c.loop-turn.commands.items in
    let id = c.args.id.now in
    let moves = c.in-Some.moves.items in
    let some : c.in_ok-moves.field-0 ≡ Some c.in-Some.moves = search rules in
    let is = ap items_of (sym some) ∙ c.in_ok-moves.ensures in
    let walked = c.loop-turn.invariant gone R lacks kept in
    let named = moves_are_named gone R S id c.in_ok-turns.turns c.loop-turn._turn c.loop-turn.commands.items walked kept moves is in
    let all : c.in_ok-carry_out_all.field-0 ≡ false = search rules in
    let refused : are_accepted T moves ≡ false =
    ap (are_accepted T) (sym c.deref.ensures.value)
    ∙ sym (c.in_ok-carry_out_all.ensures.accepted gone T walked.lacks (subst (AllNameAnother gone) (sym c.deref.ensures.value) named)) ∙ all in
    walk_is_refused gone R S id c.in_ok-turns.turns c.loop-turn._turn c.loop-turn.commands.items walked kept moves c.loop-turn-test.true is refused
    ∙ by_turns gone R c.args.book.now.register lacks id kept c.in_ok-turns.turns c.in_ok-turns.ensures

pub loop-turn-preserved : goal.loop-turn-preserved
loop-turn-preserved g c gone R lacks kept =
    let S = c.loop-turn.book.register in
    let T = after_all R c.loop-turn.commands.items in
    let id = c.args.id.now in
    let later = c.carry_out_all.new.book.register in
    let moves = c.in-Some.moves.items in
    let some : c.in_ok-moves.field-0 ≡ Some c.in-Some.moves = search rules in
    let is = ap items_of (sym some) ∙ c.in_ok-moves.ensures in
    let walked = c.loop-turn.invariant gone R lacks kept in
    let named = subst (AllNameAnother gone) (sym c.deref.ensures.value)
    (moves_are_named gone R S id c.in_ok-turns.turns c.loop-turn._turn c.loop-turn.commands.items walked kept moves is) in
    let all : c.in_ok-carry_out_all.field-0 ≡ true = search rules in
    let accepted : are_accepted T moves ≡ true =
    ap (are_accepted T) (sym c.deref.ensures.value) ∙ sym (c.in_ok-carry_out_all.ensures.accepted gone T walked.lacks named) ∙ all in
    let next : LacksOnly gone (after_all T moves) later =
    subst (λ (commands : List Command). LacksOnly gone (after_all T commands) later) c.deref.ensures.value
    (c.in_ok-carry_out_all.ensures.lacks gone T walked.lacks named all) in
    subst (Walked gone R later id c.in_ok-turns.turns (c.loop-turn._turn + 1)) (sym c.in_ok-append.ensures.items)
    (walk_goes_on gone R S id c.in_ok-turns.turns c.loop-turn._turn c.loop-turn.commands.items walked kept later moves c.loop-turn-test.true is accepted next)

pub returns : goal.returns
returns g c gone R lacks kept nameless =
    let S = c.loop-turn.book.register in
    let id = c.args.id.now in
    let last : c.loop-turn._turn ≡ c.in_ok-turns.turns = omega (arith, c.loop-turn-test.false, c.loop-turn.auto._turn-end) in
    walk_ends gone R S id c.in_ok-turns.turns c.loop-turn._turn c.loop-turn.commands.items (c.loop-turn.invariant gone R lacks kept) last
    ∙ by_turns gone R c.args.book.now.register lacks id kept c.in_ok-turns.turns c.in_ok-turns.ensures
