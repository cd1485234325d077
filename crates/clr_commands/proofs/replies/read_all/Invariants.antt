use Rattle.std.proofs.Common.{◌≡◌, ◌++◌, drop, map}
use Rattle.std.specs.Prelude.{filter}
use Rattle.clr_text.specs.Lines.{commands_in}
use Rattle.clr_commands.specs.Replies.{is_asked, readings_of}
use Rattle.clr_commands.proofs.replies.read_all.Given as goal

-- the lines so far are read
abbrev pub invariant-loop-line : goal.invariant-loop-line
invariant-loop-line l = record {
  read : l.asked.readings.items ++ readings_of (filter is_asked (drop l.line-index (map (λ line. line.now) l.lines)))
      ≡ readings_of (filter is_asked (map (λ line. line.now) l.lines));
  commands : l.asked.commands.items ++ commands_in (filter is_asked (drop l.line-index (map (λ line. line.now) l.lines)))
      ≡ commands_in (filter is_asked (map (λ line. line.now) l.lines));
}
