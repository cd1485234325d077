use Rattle.std.proofs.Common.{◌≡◌, true, subst, sym}
use Rattle.clr_rules.specs.Edits.{fits_edit}
use Rattle.clr_rules.specs.declared.change.Edit.TheVariants.{AddSection}
use Rattle.clr_book.specs.Book.{Shelved}
use Rattle.clr_book.proofs.book.Book.add_section.Goals as goal

pub add_section-requires : goal.add_section-requires
add_section-requires g c =
    record { fits = subst (λ (v : Shelved). fits_edit v.register.net (AddSection c.args.section) ≡ true) (sym c.self.view_is) c.requires }
