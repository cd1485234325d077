use Rattle.std.proofs.Common.{map}
use Rattle.clr_commands.proofs.OfNoReader.{HasCause-rows}
use Rattle.clr_commands.proofs.fence.fence_of_files.Goals as goal

-- a fault of the rows is no file's
pub returns-in_err-text-clause-sections_cause : goal.returns-in_err-text-clause-sections_cause
returns-in_err-text-clause-sections_cause g c = HasCause-rows _ c.in_ok-sections.sections.items c.in_ok-points.points.items c.args.work.now (map (λ word. word.now) c.args.cut.now) _ _ _ _
    c.in_err-text.ensures.answer c.from_residual-in_err-text.ensures.1

pub returns-in_err-text-clause-points_cause : goal.returns-in_err-text-clause-points_cause
returns-in_err-text-clause-points_cause g c = HasCause-rows _ c.in_ok-sections.sections.items c.in_ok-points.points.items c.args.work.now (map (λ word. word.now) c.args.cut.now) _ _ _ _
    c.in_err-text.ensures.answer c.from_residual-in_err-text.ensures.1
