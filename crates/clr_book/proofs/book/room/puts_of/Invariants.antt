use Rattle.std.proofs.Common.{◌≡◌, ◌+◌, ◌≤◌, drop}
use Rattle.clr_book.specs.Book.{needs}
use Rattle.clr_book.proofs.book.room.puts_of.Given as goal

-- the rows so far, and those of the edits that are left, are those of all
abbrev pub invariant-loop-edit : goal.invariant-loop-edit
invariant-loop-edit l =
    let left = needs (drop l.edit-index l.fn.edits) in
    let all = needs l.fn.edits in
    (l.puts.states + left.states ≡ all.states) × (l.puts.records + left.records ≡ all.records) × (l.puts.records + left.open_records ≡ all.open_records) × (l.puts.steps + left.steps ≡ all.steps) × (l.puts.holds + left.holds ≡ all.holds)
    × (l.puts.states ≤ l.edit-index) × (l.puts.records ≤ l.edit-index) × (l.puts.steps ≤ l.edit-index) × (l.puts.holds ≤ l.edit-index)
