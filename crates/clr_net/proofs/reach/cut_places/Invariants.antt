use Rattle.std.proofs.Common.{take}
use Rattle.clr_net.specs.Grid.{point_names}
use Rattle.clr_net.specs.Search.{ListsCut}
use Rattle.clr_net.proofs.reach.cut_places.Given as goal

abbrev pub invariant-loop-name : goal.invariant-loop-name
invariant-loop-name l = ListsCut (point_names l.points) (take l.name-index l.cut) l.places.items
