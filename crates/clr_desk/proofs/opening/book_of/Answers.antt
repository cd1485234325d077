use Rattle.std.proofs.Common.{◌∙◌, List, inl, inr, refl, subst, sym, ⊎_elim}
use Rattle.clr_net.specs.Grid.{Grid}
use Rattle.clr_net.specs.Network.{IsGridOf, first_fault as network_fault}
use Rattle.clr_net.specs.declared.point.PointRow.{PointRow}
use Rattle.clr_net.specs.declared.section.SectionRow.{SectionRow}
use Rattle.clr_staff.specs.Staff.{first_fault as staff_fault}
use Rattle.clr_desk.specs.Opening.{bad_network, bad_staff}
use Rattle.clr_desk.proofs.Filled.{register_of}
use Rattle.clr_desk.proofs.opening.book_of.Goals as goal

pub returns-in-Ok-refilled-clause-register : goal.returns-in-Ok-refilled-clause-register
returns-in-Ok-refilled-clause-register c rows has =
    register_of rows _ _ _ _ _ _ _ c.in-Ok.bare.register c.in-Ok-refilled.book.register
    has.sections has.points (c.deref.ensures.value ∙ has.states) has.staff has.records_are has.steps_are has.holds_are
    c.in-Ok.ensures.register c.in-Ok-refilled.ensures.register

pub returns-in-Ok-refilled-clause-network : goal.returns-in-Ok-refilled-clause-network
returns-in-Ok-refilled-clause-network c rows has =
    let g = c.in-Ok.bare.network in
    subst (λ (it : Grid). IsGridOf rows.sections rows.points it) (sym c.in-Ok-refilled.ensures.network)
    (subst (λ (l : List PointRow). IsGridOf rows.sections l g) has.points
    (subst (λ (l : List SectionRow). IsGridOf l c.args.loaded.points.items g) has.sections c.in-Ok.ensures.network))

pub returns-in-Ok-refilled-clause-typed : goal.returns-in-Ok-refilled-clause-typed
returns-in-Ok-refilled-clause-typed c = c.in-Ok-refilled.ensures.typed c.in-Ok.ensures.typed

pub returns-in-Ok-refilled-clause-none : goal.returns-in-Ok-refilled-clause-none
returns-in-Ok-refilled-clause-none c rows has =
    (λ i. bad_network (sym has.sections i) (network_fault (sym has.sections i) (sym has.points i)) (bad_staff (staff_fault (sym has.staff i))))
    ∙ c.in-Ok.ensures.none

pub returns-in-Ok-clause-fault : goal.returns-in-Ok-clause-fault
returns-in-Ok-clause-fault c rows has = inl refl

pub returns-clause-fault : goal.returns-clause-fault
returns-clause-fault c rows has =
    ⊎_elim inl
    (λ it. let (bad, is, says) = it in inr (
      bad,
      (λ i. bad_network (sym has.sections i) (network_fault (sym has.sections i) (sym has.points i)) (bad_staff (staff_fault (sym has.staff i)))) ∙ is,
      says,
    ))
    c.in-Err.ensures.fault
