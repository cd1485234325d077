use Rattle.std.proofs.Common.{length, replicate, drop, refl}
use Rattle.std.proofs.Math.Seq.{take-append_seam}
use Rattle.clr_staff.proofs.Texts.{padded_from_zeros}
use Rattle.clr_staff.proofs.login.Login.store.Goals as goal

pub invariant_of-result : goal.invariant_of-result
invariant_of-result c =
    rw (c.copy_from_slice.ensures.after, take-append_seam c.args.text.now (drop (length c.args.text.now) (replicate 64 0)))
    (padded_from_zeros c.args.text.now, c.requires, refl)
