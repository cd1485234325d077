use Rattle.std.proofs.Common.{◌≡◌, map, string_bytes, take}
use Rattle.clr_commands.specs.Lines.{lines_of}
use Rattle.clr_commands.proofs.fence.fence_text.Given as goal

-- the lines of the sections so far
abbrev pub invariant-loop-section : goal.invariant-loop-section
invariant-loop-section l = string_bytes l.text ≡ lines_of (map (λ s. s.now) (take l.section-index l.section-items))
