use Rattle.std.proofs.Common.{◌≡◌, rules}
use Rattle.clr_wayback.proofs.OpenPart.{staff_is}
use Rattle.clr_wayback.proofs.open.same_staff.Goals as goal

pub returns-in-Ok : goal.returns-in-Ok
returns-in-Ok g c good =
    let R = c.args.book.now.register in
    let rows : c.in_ok-rows.rows.items ≡ R.staff = search rules in
    staff_is R good c.in_ok-rows.rows.items c.in-Ok.staff rows c.in-Ok.ensures.1
