use Rattle.std.proofs.Common.{◌≡◌, ◌++◌, drop, take}
use Rattle.std.specs.Prelude.{string_bytes}
use Rattle.clr_commands.specs.Replies.{answers, as_lines}
use Rattle.clr_commands.proofs.replies.add_answers.Given as goal

-- the answers so far are printed, and the others are those of the replies that are left
abbrev pub invariant-loop-reading : goal.invariant-loop-reading
invariant-loop-reading l = record {
  same : drop l.reading-index (answers l.readings l.replies) ≡ answers (drop l.reading-index l.readings) l.left;
  printed : string_bytes l.text ≡ string_bytes l.fn.text ++ as_lines (take l.reading-index (answers l.readings l.replies));
}
