use Rattle.clr_args.proofs.syntax.subcommands.update.Goals as goal

-- the command with each argument added in turn
pub returns : goal.returns
returns c =
    let first = c.arg.ensures _ _ c.required.ensures.rule c.required.ensures.local c.new.ensures in
    let second = c.arg-2.ensures _ _ c.required-2.ensures.rule c.required-2.ensures.local first in
    let third = c.arg-3.ensures _ _ c.required-3.ensures.rule c.required-3.ensures.local second in
    let fourth = c.arg-4.ensures _ _ c.required-4.ensures.rule c.required-4.ensures.local third in
    let fifth = c.arg-5.ensures _ _ c.option.ensures.rule c.option.ensures.local fourth in
    let sixth = c.arg-6.ensures _ _ c.flag.ensures.rule c.flag.ensures.local fifth in
    let seventh = c.arg-7.ensures _ _ c.repeated_option.ensures.rule c.repeated_option.ensures.local sixth in
    c.end.ensures _ seventh
