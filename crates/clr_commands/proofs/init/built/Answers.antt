use Rattle.std.proofs.Common.{◌∙◌}
use Rattle.clr_commands.specs.Import.{lists_of}
use Rattle.clr_commands.proofs.MadeRegisters.{counts_of-rows}
use Rattle.clr_commands.proofs.init.built.Goals as goal

pub returns-clause-built : goal.returns-clause-built
returns-clause-built c = record {
  is_network = c.in_ok-network.ensures.1;
  is_staff = c.in_ok-staff.ensures.1;
  line_is = counts_of-rows (lists_of c.args.rows) _ _ _ _ c.in_ok-network.ensures.0 c.in_ok-staff.ensures.0
      (c.len-section_count.ensures ∙ c.args.rows.sections.ok.0) (c.len-point_count.ensures ∙ c.args.rows.points.ok.0)
      (c.len-staff_count.ensures ∙ c.args.rows.staff.ok.0) c.in_ok-line.ensures;
}
