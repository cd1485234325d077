use Rattle.std.proofs.Common.{IsTrue, map, take}
use Rattle.std.specs.List.{list_all}
use Rattle.clr_wayback.specs.Text.{reads_back}
use Rattle.clr_log.proofs.commands.all_read_back.Given as goal

-- the commands before the place are read from their texts
abbrev pub invariant-loop-command : goal.invariant-loop-command
invariant-loop-command l = IsTrue (list_all reads_back (map (λ one. one.now) (take l.command-index l.commands)))
