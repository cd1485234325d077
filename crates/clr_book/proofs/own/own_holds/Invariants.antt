use Rattle.std.proofs.Common.{◌≡◌, filter, map, take}
use Rattle.clr_rules.specs.Id.{same_id}
use Rattle.clr_book.proofs.own.own_holds.Given as goal

-- those of the clearance at the places so far
abbrev pub invariant-loop-place : goal.invariant-loop-place
invariant-loop-place g l = map (λ row. row.now) l.found.items ≡ filter (λ h. same_id l.fn.id h.id) (take l.place (g.H.Shelf.places l.fn.shelf))
