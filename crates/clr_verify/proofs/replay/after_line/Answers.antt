use Rattle.std.proofs.Common.{◌≡◌, ◌∙◌, ◌∷◌, ◌++◌, IfSome, ap, sym, subst}
use Rattle.clr_journal.specs.Line.{entry_of}
use Rattle.clr_verify.specs.Replay.{IsAccepted, open_entries, answered_in, answered_of}
use Rattle.clr_verify.proofs.Taken.{accepted_open, follows, is_withdrawn}
use Rattle.clr_verify.proofs.replay.after_line.Goals as goal

pub returns-in-Carried-clause-answered : goal.returns-in-Carried-clause-answered
returns-in-Carried-clause-answered c rest =
    let last = c.args.last in
    subst (λ line. answered_in (open_entries last ++ entry_of line ∷ rest) ≡ answered_of last ++ answered_in (open_entries c.if_accepted.result ++ rest)) (sym c.in-Carried.is)
    (follows last c.requires c.in-Carried.next rest ∙ ap (λ held. answered_of last ++ answered_in (open_entries held ++ rest)) (sym c.if_accepted.ensures))

pub returns-in-Carried-clause-open : goal.returns-in-Carried-clause-open
returns-in-Carried-clause-open c = subst (λ held. IfSome held IsAccepted) (sym c.if_accepted.ensures) (accepted_open c.in-Carried.next)

pub returns-in-Withdrawn-clause-answered : goal.returns-in-Withdrawn-clause-answered
returns-in-Withdrawn-clause-answered c rest =
    let last = c.args.last in
    subst (λ line. answered_in (open_entries last ++ entry_of line ∷ rest) ≡ answered_in rest) (sym c.in-Withdrawn.is) (is_withdrawn last c.requires c.in-Withdrawn.field-0 rest)
