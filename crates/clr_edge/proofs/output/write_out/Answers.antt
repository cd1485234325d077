use Rattle.std.proofs.Common.{sym, take, drop, take-append-drop, ◌∙◌}
use Rattle.clr_edge.proofs.output.write_out.Goals as goal

-- the bytes that went out are the front
pub returns-in-Err-clause-cut : goal.returns-in-Err-clause-cut
returns-in-Err-clause-cut g c =
    let n = c.in-Err.field-0 in
    let bytes = c.as_bytes.result.now in
    let part = c.in-Err.ensures.part in
    ((take n bytes, drop n bytes, sym c.as_bytes.ensures.value ∙ sym (take-append-drop n bytes), part.contents), part.cause)
