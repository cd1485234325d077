use Rattle.clr_args.proofs.syntax.subcommands.archive.Goals as goal

-- the command with each argument added in turn
pub returns : goal.returns
returns c =
    let first = c.arg.ensures _ _ c.required.ensures.rule c.required.ensures.local c.new.ensures in
    let second = c.arg-2.ensures _ _ c.option.ensures.rule c.option.ensures.local first in
    let third = c.arg-3.ensures _ _ c.moment_before.ensures.rule c.moment_before.ensures.local second in
    c.end.ensures _ third
