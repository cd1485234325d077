use Rattle.clr_args.proofs.syntax.subcommands.board.Goals as goal

-- the command with each argument added in turn
pub returns : goal.returns
returns c =
    let first = c.arg.ensures _ _ c.required.ensures.rule c.required.ensures.local c.new.ensures in
    let second = c.arg-2.ensures _ _ c.offset.ensures.rule c.offset.ensures.local first in
    c.end.ensures _ second
