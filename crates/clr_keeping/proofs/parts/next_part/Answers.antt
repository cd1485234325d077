use Rattle.clr_keeping.specs.Parts.{IsNoNext, IsUnreadOr, left_in}
use Rattle.clr_keeping.proofs.BrokenParts.{no_next, not_next, stops_there}
use Rattle.clr_keeping.proofs.PartLines.{passed_on}
use Rattle.clr_keeping.proofs.parts.next_part.Goals as goal

-- it is no part
pub returns-in_err-part-clause-refused : goal.returns-in_err-part-clause-refused
returns-in_err-part-clause-refused g c =
    let bytes = g.O.Opens.bytes_at c.args.paths.now c.args.path.now in
    let walk = c.args.walk.now in
    passed_on c.from_residual.result _ (IsUnreadOr (IsNoNext walk.id walk.end) bytes) c.from_residual.ensures.1
    (no_next walk.id walk.end bytes _ c.in_err-part.ensures.refused)

-- it does not go on
pub returns-else-goes-clause-refused : goal.returns-else-goes-clause-refused
returns-else-goes-clause-refused g c =
    let bytes = g.O.Opens.bytes_at c.args.paths.now c.args.path.now in
    let after = left_in g.O.File.Read.remaining c.in_ok-part.part in
    let walk = c.args.walk.now in
    not_next walk.id walk.end bytes after c.in_ok-part.line c.deref.result.now c.deref.ensures.value c.in_ok-part.ensures.line c.in_ok-part.ensures.rules
    (stops_there walk.id walk.end _ _ c.in_ok-goes.goes c.in_ok-goes.ensures.part c.if-goes.false)
