use Rattle.clr_book.proofs.book.Book.network_near.Goals as goal

pub invariant_of-result : goal.invariant_of-result
invariant_of-result g c =
    let kept = c.near.invariant in
    (kept.0, kept.1, kept.2, kept.3, kept.4, rw c.in_ok-records.ensures (g.met.C.Shelf.in_order c.self.inside.records), kept.6)
