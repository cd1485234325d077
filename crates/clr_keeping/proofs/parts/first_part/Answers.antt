use Rattle.std.proofs.Common.{◌∙◌, sym}
use Rattle.clr_keeping.specs.Parts.{IsNoFirst, IsUnreadOr, left_in}
use Rattle.clr_keeping.proofs.BrokenParts.{no_first, not_first}
use Rattle.clr_keeping.proofs.PartLines.{passed_on}
use Rattle.clr_keeping.proofs.parts.first_part.Goals as goal

-- it is no part
pub returns-in_err-part-clause-refused : goal.returns-in_err-part-clause-refused
returns-in_err-part-clause-refused g c =
    let bytes = g.O.Opens.bytes_at c.args.paths.now c.args.path.now in
    passed_on c.from_residual.result _ (IsUnreadOr IsNoFirst bytes) c.from_residual.ensures.1 (no_first bytes _ c.in_err-part.ensures.refused)

-- its first line is none
pub returns-in-None-clause-refused : goal.returns-in-None-clause-refused
returns-in-None-clause-refused g c =
    let bytes = g.O.Opens.bytes_at c.args.paths.now c.args.path.now in
    let after = left_in g.O.File.Read.remaining c.in_ok-part.part in
    not_first bytes after c.in_ok-part.line c.deref.result.now c.deref.ensures.value c.in_ok-part.ensures.line c.in_ok-part.ensures.rules
    (sym c.in-None.is ∙ c.in_ok-first.ensures)
