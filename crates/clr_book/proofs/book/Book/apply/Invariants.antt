use Rattle.std.proofs.Common.{◌≡◌, true, drop}
use Rattle.clr_rules.specs.Edits.{after_edits, fit}
use Rattle.clr_book.specs.Book.{Fits, needs}
use Rattle.clr_book.specs.Growth.{network_after_all}
use Rattle.clr_book.proofs.book.Book.apply.Given as goal

-- the edits that are left fit the room and the network, and end where all edits would have
abbrev pub invariant-loop-edit : goal.invariant-loop-edit
invariant-loop-edit g l =
    Fits (needs (drop l.edit-index l.fn.change.edits.items)) l.self.room
    × (fit l.self.register.net (drop l.edit-index l.fn.change.edits.items) ≡ true) × (after_edits (drop l.edit-index l.fn.change.edits.items) l.self.register ≡ after_edits l.fn.change.edits.items l.fn.self.register)
    × (network_after_all (drop l.edit-index l.fn.change.edits.items) l.self.network ≡ network_after_all l.fn.change.edits.items l.fn.self.network)
