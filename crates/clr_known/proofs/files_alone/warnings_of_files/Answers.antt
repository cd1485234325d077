use Rattle.clr_known.proofs.FilesAlone.{warnings_given}
use Rattle.clr_known.proofs.files_alone.warnings_of_files.Goals as goal

pub returns : goal.returns
returns g c =
    let checks = c.check.ensures.answer in
    let has = c.requires in
    warnings_given _ _ _ has.sections has.points has.staff checks.read checks.are_read.rows c.check.result checks.answer
