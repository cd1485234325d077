use Rattle.std.proofs.Common.{◌∙◌, ap}
use Rattle.clr_update.specs.Update.{its_holder}
use Rattle.clr_changes.specs.Needs.{Renewal}
use Rattle.clr_changes.specs.Touched.{first_of}
use Rattle.clr_changes.proofs.needs.Renewal.holder.Goals as goal

pub returns : goal.returns
returns g c = c.its_holder.ensures ∙ ap (λ (V : Renewal). first_of (its_holder V.before V.after c.args.clearance.now)) c.self.view_is
