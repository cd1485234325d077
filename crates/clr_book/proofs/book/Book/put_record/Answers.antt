use Rattle.std.proofs.Common.{◌∙◌, ap, sym}
use Rattle.clr_book.specs.Book.{open_in}
use Rattle.clr_book.proofs.book.Book.put_record.Goals as goal

pub invariant_of-self-inside : goal.invariant_of-self-inside
invariant_of-self-inside g c = (
  c.put_if_open.ensures.rows (g.C.Shelf.rows c.self.inside.records) (g.met.C.Shelf.in_order c.self.inside.records) c.self.inside.unclosed
      ∙ ap open_in (sym c.put.ensures.rows),
  tt,
)
