use Rattle.std.proofs.Common.{◌≡◌, ◌++◌, length, map}
use Rattle.serde_json.specs.View.{view}
use Rattle.clr_changes.specs.Deeds.{deed_of}
use Rattle.clr_journal.specs.Journals.{carried_out}
use Rattle.clr_journal.specs.Line.{entry_of}
use Rattle.clr_journal.proofs.deeds.carried_out.Given as goal

-- what was found so far, and what the rest has, are all
abbrev pub invariant-loop-line : goal.invariant-loop-line
invariant-loop-line l =
    map (λ one. (deed_of one.now.deed, view one.now.reply)) l.found.items ++ carried_out (map entry_of l.rest) ≡ carried_out (map entry_of l.fn.lines)

abbrev pub decreases-loop-line : goal.decreases-loop-line
decreases-loop-line l = length l.rest
