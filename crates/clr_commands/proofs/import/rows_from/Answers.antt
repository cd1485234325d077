use Rattle.clr_commands.proofs.ReadFiles.{WaitsFor-read}
use Rattle.clr_edge.specs.declared.fault.ImportFile.TheVariants.{Sections, Points, Staff}
use Rattle.clr_commands.proofs.import.rows_from.Goals as goal

-- all three files were read
pub returns-clause-points_wait : goal.returns-clause-points_wait
returns-clause-points_wait g c = WaitsFor-read Sections Points _ _ _ _ _ _ c.in_ok-sections.ensures.rows

pub returns-clause-staff_waits : goal.returns-clause-staff_waits
returns-clause-staff_waits g c = WaitsFor-read Sections Staff _ _ _ _ _ _ c.in_ok-sections.ensures.rows

pub returns-clause-staff_waits_too : goal.returns-clause-staff_waits_too
returns-clause-staff_waits_too g c = WaitsFor-read Points Staff _ _ _ _ _ _ c.in_ok-points.ensures.rows
