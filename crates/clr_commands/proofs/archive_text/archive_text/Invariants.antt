use Rattle.std.proofs.Common.{◌≡◌, ◌++◌, Bor, drop, flat_map, string_bytes}
use Rattle.clr_rules.specs.Steps.{steps_of}
use Rattle.clr_rules.specs.declared.record.Record.{Record}
use Rattle.clr_commands.specs.ArchiveText.{record_line}
use Rattle.clr_commands.proofs.archive_text.archive_text.Given as goal

-- the lines so far, and those of the records that are left, are all
abbrev pub invariant-loop-closed : goal.invariant-loop-closed
invariant-loop-closed g l =
    string_bytes l.text ++ flat_map (λ (row : Bor Record). record_line row.now (steps_of l.fn.book.register.steps row.now.id)) (drop l.closed-index l.closed-items)
    ≡ flat_map (λ (row : Bor Record). record_line row.now (steps_of l.fn.book.register.steps row.now.id)) l.closed-items
