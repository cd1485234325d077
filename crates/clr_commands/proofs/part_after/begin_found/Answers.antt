use Rattle.std.proofs.Common.{Err, refl, subst, sym}
use Rattle.std.specs.Prelude.{Option}
use Rattle.clr_rules.specs.declared.place.Place.{Place}
use Rattle.clr_edge.specs.declared.fault.Fault.TheVariants.{Journal}
use Rattle.clr_edge.specs.declared.fault.JournalFault.TheVariants.{OtherRegister}
use Rattle.clr_keeping.specs.TakenUp.{logs}
use Rattle.clr_commands.specs.PartAfter.{PartsFound}
use Rattle.clr_commands.proofs.Faults.{journal_plain}
use Rattle.clr_commands.proofs.part_after.begin_found.Goals as goal

-- it has a place
pub returns-in-Some-clause-begun : goal.returns-in-Some-clause-begun
returns-in-Some-clause-begun g c =
    subst (λ (found : Option Place). PartsFound (logs g.R.Journals g.R.Log.Journal g.R.Time.Clock.shows) found c.args.journal.now c.args.after.now
    c.begin_part.result c.args.rt.now c.begin_part.new.rt) (sym c.in-Some.is) c.begin_part.ensures.begun

-- or none
pub returns-in-None-clause-begun : goal.returns-in-None-clause-begun
returns-in-None-clause-begun g c =
    subst (λ (found : Option Place). PartsFound (logs g.R.Journals g.R.Log.Journal g.R.Time.Clock.shows) found c.args.journal.now c.args.after.now
    (Err (Journal OtherRegister)) c.args.rt.now c.args.rt.now) (sym c.in-None.is) (refl, refl)

pub returns-in-None-clause-faults : goal.returns-in-None-clause-faults
returns-in-None-clause-faults g c = journal_plain _ OtherRegister refl
