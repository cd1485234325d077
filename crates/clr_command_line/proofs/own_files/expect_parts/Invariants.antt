use Rattle.std.proofs.Common.{All, take}
use Rattle.clr_command_line.proofs.own_files.expect_parts.Given as goal

-- the parts before the place are no files of the database
abbrev pub invariant-loop-path : goal.invariant-loop-path
invariant-loop-path g l = All (λ path. g.O.Opens.spares l.fn.paths l.fn.database path.now) (take l.path-index l.parts)
