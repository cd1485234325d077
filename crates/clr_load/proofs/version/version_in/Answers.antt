use Rattle.std.proofs.Common.{◌∙◌, ap}
use Rattle.clr_load.specs.RowsRead.{read_version, version_if_there}
use Rattle.clr_load.proofs.version.version_in.Goals as goal

pub returns-in-Some : goal.returns-in-Some
unfolding read_version
returns-in-Some c = c.integer_in.ensures ∙ ap version_if_there c.in-Some.ensures

pub returns-in-None : goal.returns-in-None
unfolding read_version
returns-in-None c = ap version_if_there c.in-None.ensures
