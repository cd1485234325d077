-- A command that names a clearance is no jumper: what is near it, and what is replied of it.
use Rattle.std.proofs.Common.{◌≡◌, ℕ, false, List, Some, None, refl}
use Rattle.clr_rules.specs.Answer.{crossed_for, reply_after, reply_clearance, reply_of}
use Rattle.clr_rules.proofs.Common.{is_jumper, named_clearance, Known, near_part, part_beside, Command, Kind, Id, Register, record_of, Jumper}

pub no_jumper : (kind : Kind) (c : Id) → named_clearance kind ≡ Some c → is_jumper kind ≡ false
no_jumper (Jumper point from to lockable remote) c named = cc named
no_jumper _ c named = refl

pub none_crossed : (R : Register) (kind : Kind) → is_jumper kind ≡ false → crossed_for R kind ≡ None
none_crossed R (Jumper point from to lockable remote) is = cc is
none_crossed R _ is = refl

pub near_beside : (R : Register) (q : Command) → is_jumper q.kind ≡ false → near_part R q ≡ part_beside R q
near_beside R q is = rw is refl

pub near_named : (R : Register) (q : Command) (c : Id) → named_clearance q.kind ≡ Some c → near_part R q ≡ part_beside R q
near_named R q c named = near_beside R q (no_jumper q.kind c named)

pub reply_named : (k : Known) (R : Register) (by : List ℕ) (kind : Kind) → is_jumper kind ≡ false
    → reply_after k R by kind ≡ reply_of k R kind (record_of R.records (reply_clearance k.greatest by (named_clearance kind)))
reply_named k R by (Jumper point from to lockable remote) is = cc is
reply_named k R by _ is = refl
