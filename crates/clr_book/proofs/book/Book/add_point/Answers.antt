use Rattle.std.proofs.Common.{◌≡◌, ◌∙◌, true, ap, subst, sym}
use Rattle.clr_rules.specs.Edits.{after_edit, fits_edit}
use Rattle.clr_rules.specs.Register.{unplaced_net}
use Rattle.clr_rules.specs.declared.change.Edit.TheVariants.{AddPoint}
use Rattle.clr_rules.proofs.edits.Growing.{fits_edit-unplaced, point_added}
use Rattle.clr_book.specs.Book.{Shelved}
use Rattle.clr_book.proofs.book.Book.add_point.Goals as goal

pub add_point-requires : goal.add_point-requires
add_point-requires g c =
    record {
      fits = sym (fits_edit-unplaced (AddPoint c.args.point) c.self.inside.network)
          ∙ subst (λ (v : Shelved). fits_edit v.register.net (AddPoint c.args.point) ≡ true) (sym c.self.view_is) c.requires.fits;
    }

pub returns-clause-register : goal.returns-clause-register
returns-clause-register g c =
    (λ i. record {
      net = (ap unplaced_net c.add_point.ensures ∙ point_added c.args.point c.self.inside.network) i;
      staff = c.self.inside.staff;
      states = c.put.ensures.rows i;
      records = g.C.Shelf.rows c.self.inside.records;
      steps = g.T.Shelf.rows c.self.inside.steps;
      holds = g.H.Shelf.rows c.self.inside.holds;
    })
    ∙ ap (λ (v : Shelved). after_edit (AddPoint c.args.point) v.register) c.self.view_is
