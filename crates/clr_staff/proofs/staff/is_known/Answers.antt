use Rattle.std.proofs.Common.{◌∙◌, refl, ap, is_some}
use Rattle.clr_net.specs.Prelude.{same_name}
use Rattle.clr_net.proofs.Places.{is_some-position}
use Rattle.clr_staff.specs.Staff.{staff_names}
use Rattle.clr_staff.proofs.staff.is_known.Goals as goal

pub returns-in-Some : goal.returns-in-Some
returns-in-Some c =
    c.is_some.ensures ∙ ap is_some c.place_of.ensures ∙ is_some-position (same_name c.in-Some.name) (staff_names c.args.by_name.now)
    ∙ rw c.in-Some.is refl
