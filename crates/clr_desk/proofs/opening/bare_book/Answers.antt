use Rattle.std.proofs.Common.{inl, inr, refl, subst, sym, ⊎_elim}
use Rattle.clr_net.specs.Grid.{Grid}
use Rattle.clr_net.specs.Network.{IsGridOf}
use Rattle.clr_staff.specs.Staff.{first_fault as staff_fault}
use Rattle.clr_load.specs.declared.table_name.TableName.TheVariants as table
use Rattle.clr_desk.specs.Opening.{bad_network, bad_staff, table_of}
use Rattle.clr_desk.proofs.opening.bare_book.Goals as goal

pub returns-in-Ok-handed_book-clause-register : goal.returns-in-Ok-handed_book-clause-register
returns-in-Ok-handed_book-clause-register c =
    (c.in-Ok.network, c.in-Ok-built_staff.staff, c.in-Ok.ensures.built, c.in-Ok-built_staff.ensures.built, c.in-Ok-handed_book.ensures.register)

pub returns-in-Ok-handed_book-clause-network : goal.returns-in-Ok-handed_book-clause-network
returns-in-Ok-handed_book-clause-network c =
    subst (λ (g : Grid). IsGridOf c.args.sections.items c.args.points.items g) (sym c.in-Ok-handed_book.ensures.network) c.in-Ok.ensures.built

pub returns-in-Ok-handed_book-clause-none : goal.returns-in-Ok-handed_book-clause-none
returns-in-Ok-handed_book-clause-none c = λ i. bad_network c.args.sections.items (c.in-Ok.ensures.none i) (bad_staff (c.in-Ok-built_staff.ensures.none i))

pub returns-in-Err-handed_book-clause-fault : goal.returns-in-Err-handed_book-clause-fault
returns-in-Err-handed_book-clause-fault c = inl refl

pub returns-in-Err-built_staff-clause-fault : goal.returns-in-Err-built_staff-clause-fault
returns-in-Err-built_staff-clause-fault c =
    ⊎_elim inl
    (λ it. let (cause, is, says) = it in inr (table.Staff, (λ i. bad_network c.args.sections.items (c.in-Ok.ensures.none i) (bad_staff (is i))), says))
    c.in-Err-built_staff.ensures.fault

pub returns-in-Err-clause-fault : goal.returns-in-Err-clause-fault
returns-in-Err-clause-fault c =
    ⊎_elim inl
    (λ it. let (cause, is, says) = it in
    inr (table_of c.args.sections.items cause, (λ i. bad_network c.args.sections.items (is i) (bad_staff (staff_fault c.args.rows.items))), says))
    c.in-Err.ensures.fault
