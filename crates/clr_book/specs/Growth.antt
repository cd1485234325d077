-- HOW A BOOK'S NETWORK GROWS: what edits add to the network whose rows have positions.
use Rattle.std.specs.Prelude.{List, [], ◌∷◌}
use Rattle.clr_net.specs.Additions.{with_point, with_section}
use Rattle.clr_net.specs.Grid.{Grid}
use Rattle.clr_rules.specs.declared.change.Edit.{Edit}
use Rattle.clr_rules.specs.declared.change.Edit.TheVariants.{SetPosition, SetHand, PutHold}
use Rattle.clr_rules.specs.declared.change.Edit.TheVariants.{TakeHold, PutRecord, PutStep}
use Rattle.clr_rules.specs.declared.change.Edit.TheVariants.{AddSection, AddPoint}

-- the network after an edit: with the row that it adds, in the position that the row gives; where it
-- adds none, the same network
abbrev pub network_after : Edit → Grid → Grid
network_after (AddSection row) g = with_section row g
network_after (AddPoint p) g = with_point p g
network_after (SetPosition point position) g = g
network_after (SetHand point hand) g = g
network_after (PutHold h) g = g
network_after (TakeHold h) g = g
network_after (PutRecord r) g = g
network_after (PutStep row) g = g

-- and after edits, one after the other
unfoldable pub network_after_all : List Edit → Grid → Grid
network_after_all [] g = g
network_after_all (edit ∷ edits) g = network_after_all edits (network_after edit g)
