use Rattle.std.proofs.Common.{◌≡◌, ◌++◌, drop, flat_map, string_bytes}
use Rattle.clr_wayback.specs.Text.{command_line, way_back_text}
use Rattle.clr_wayback.proofs.print.lines_of.Given as goal

-- the lines so far, and those of the commands that are left, are all
abbrev pub invariant-loop-command : goal.invariant-loop-command
invariant-loop-command l = string_bytes l.text ++ flat_map command_line (drop l.command-index l.fn.commands) ≡ way_back_text l.fn.commands
